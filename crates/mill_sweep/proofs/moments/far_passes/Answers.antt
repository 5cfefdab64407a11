use Rattle.mill_sweep.proofs.Solids.{far_passes}
use Rattle.mill_sweep.proofs.moments.far_passes.Goals as goal

pub returns : goal.returns
returns c = far_passes
