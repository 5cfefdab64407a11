use Rattle.mill_sweep.proofs.Outer.{outer_holds}
use Rattle.mill_sweep.proofs.moments.outer_holds.Goals as goal

pub returns : goal.returns
returns c = outer_holds
