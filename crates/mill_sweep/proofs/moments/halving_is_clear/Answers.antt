use Rattle.mill_sweep.proofs.Solids.{passing_is_clear}
use Rattle.mill_sweep.proofs.moments.halving_is_clear.Goals as goal

pub returns : goal.returns
returns c = passing_is_clear
