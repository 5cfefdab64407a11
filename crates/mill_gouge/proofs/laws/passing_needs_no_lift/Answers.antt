use Rattle.mill_gouge.proofs.Leasts.{passing_needs_no_lift}
use Rattle.mill_gouge.proofs.laws.passing_needs_no_lift.Goals as goal

pub returns : goal.returns
returns c = passing_needs_no_lift
