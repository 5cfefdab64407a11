use Rattle.mill_control.proofs.Going.{hole_goes_on}
use Rattle.mill_control.proofs.hole.hole_goes_on.Goals as goal

pub returns : goal.returns
returns c = hole_goes_on
