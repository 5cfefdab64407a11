use Rattle.mill_dexel.proofs.Removal.{passed_is_left}
use Rattle.mill_dexel.proofs.laws.passed_is_left.Goals as goal

pub returns : goal.returns
returns c = passed_is_left
