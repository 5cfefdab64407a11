use Rattle.mill_dexel.proofs.Removal.{over_top_is_removed}
use Rattle.mill_dexel.proofs.laws.over_top_is_removed.Goals as goal

pub returns : goal.returns
returns c = over_top_is_removed
