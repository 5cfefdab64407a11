use Rattle.std.proofs.Common.{refl, rules, w32}
use Rattle.std.proofs.lemmas.Int.{to_z-of_z}
use Rattle.mill_gouge.proofs.Looking.{clears_swept}
use Rattle.mill_gouge.proofs.clear.clears.Goals as goal

pub passes_each-requires : goal.passes_each-requires
passes_each-requires c = rw (to_z-of_z w32 c.in-Some.reach.low (search rules)) c.in-Some.ensures.outside

pub returns-in-Some : goal.returns-in-Some
returns-in-Some c = clears_swept _ c.args.solid c.args.step.now c.args.part.now c.in-Some.ensures.sweep c.passes_each.result c.passes_each.ensures

pub returns-in-None : goal.returns-in-None
returns-in-None c = (λ _. rw c.part.ensures at c.in-None.ensures, λ _. refl)
