use Rattle.mill_sweep.proofs.Solids.{out_of_reach_passes}
use Rattle.mill_sweep.proofs.reach.out_of_reach_passes.Goals as goal

pub returns : goal.returns
returns c = out_of_reach_passes
