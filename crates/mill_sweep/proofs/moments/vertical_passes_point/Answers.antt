use Rattle.mill_sweep.proofs.Vertical.{vertical_passes_point}
use Rattle.mill_sweep.proofs.moments.vertical_passes_point.Goals as goal

pub returns : goal.returns
returns c = vertical_passes_point
