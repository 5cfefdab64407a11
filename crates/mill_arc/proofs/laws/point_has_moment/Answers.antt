use Rattle.mill_arc.proofs.Points.{point_has_moment}
use Rattle.mill_arc.proofs.laws.point_has_moment.Goals as goal

pub returns : goal.returns
returns c = point_has_moment
