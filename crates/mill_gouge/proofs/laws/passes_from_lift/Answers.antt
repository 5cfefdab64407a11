use Rattle.mill_gouge.proofs.Leasts.{passes_from_lift}
use Rattle.mill_gouge.proofs.laws.passes_from_lift.Goals as goal

pub returns : goal.returns
returns c = passes_from_lift
