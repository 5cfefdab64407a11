use Rattle.mill_sweep.proofs.Solids.{failing_is_blocked}
use Rattle.mill_sweep.proofs.moments.failing_is_blocked.Goals as goal

pub returns : goal.returns
returns c = failing_is_blocked
