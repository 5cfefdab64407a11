use Rattle.mill_sweep.proofs.Vertical.{vertical_passes}
use Rattle.mill_sweep.proofs.moments.vertical_passes.Goals as goal

pub returns : goal.returns
returns c = vertical_passes
