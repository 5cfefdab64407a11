use Rattle.mill_arc.proofs.Moments.{moment_is_near}
use Rattle.mill_arc.proofs.laws.moment_is_near.Goals as goal

pub returns : goal.returns
returns c = moment_is_near
