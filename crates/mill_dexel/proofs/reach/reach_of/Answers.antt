use Rattle.std.proofs.Common.{arith}
use Rattle.std.proofs.lemmas.Int.{ints}
use Rattle.mill_sweep.specs.Reach.{margin_of}
use Rattle.mill_dexel.proofs.Reaches.{reach_same}
use Rattle.mill_dexel.proofs.reach.reach_of.Goals as goal

pub returns : goal.returns
returns c =
    reach_same c.args.job.now.fields _ _ _ (margin_of c.args.cutter) c.args.from.x c.args.to.x c.reach_by.result.first c.reach_by.result.«end»
    (omega (arith, ints)) (omega (arith, ints)) (omega (arith, ints)) c.reach_by.ensures
