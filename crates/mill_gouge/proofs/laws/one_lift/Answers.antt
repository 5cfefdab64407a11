use Rattle.mill_gouge.proofs.Leasts.{one_lift}
use Rattle.mill_gouge.proofs.laws.one_lift.Goals as goal

pub returns : goal.returns
returns c = one_lift
