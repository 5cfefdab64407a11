use Rattle.std.proofs.Common.{rules, w32}
use Rattle.std.proofs.lemmas.Int.{to_z-of_z}
use Rattle.mill_gouge.proofs.Looking.{first_swept}
use Rattle.mill_gouge.proofs.gouge.first_gouge.Goals as goal

pub first_of-requires : goal.first_of-requires
first_of-requires c = rw (to_z-of_z w32 c.in-Some.reach.low (search rules)) c.in-Some.ensures.outside

pub returns-in-Some : goal.returns-in-Some
returns-in-Some c = first_swept _ c.args.solid c.args.step.now c.args.part.now c.in-Some.ensures.sweep c.first_of.result c.first_of.ensures

pub returns-in-None : goal.returns-in-None
returns-in-None c = rw c.part.ensures at c.in-None.ensures
