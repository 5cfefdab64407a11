use Rattle.mill_control.proofs.Near.{rounded_is_near}
use Rattle.mill_control.proofs.lengths.rounded_is_near.Goals as goal

pub returns : goal.returns
returns c = rounded_is_near
