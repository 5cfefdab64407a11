use Rattle.mill_gouge.proofs.Leasts.{over_part_passes}
use Rattle.mill_gouge.proofs.laws.over_part_passes.Goals as goal

pub returns : goal.returns
returns c = over_part_passes
