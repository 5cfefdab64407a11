use Rattle.mill_arc.proofs.Moments.{moment_is_near_in_space}
use Rattle.mill_arc.proofs.laws.moment_is_near_in_space.Goals as goal

pub returns : goal.returns
returns c = moment_is_near_in_space
