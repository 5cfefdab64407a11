use Rattle.mill_sweep.proofs.Solids.{passing_keeps_point}
use Rattle.mill_sweep.proofs.moments.halving_keeps_point.Goals as goal

pub returns : goal.returns
returns c = passing_keeps_point
