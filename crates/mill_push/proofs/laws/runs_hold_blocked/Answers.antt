use Rattle.mill_push.proofs.Holds.{runs_hold_blocked}
use Rattle.mill_push.proofs.laws.runs_hold_blocked.Goals as goal

pub returns : goal.returns
returns c = runs_hold_blocked
