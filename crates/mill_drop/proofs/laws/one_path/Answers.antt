use Rattle.mill_drop.proofs.PathLemmas.{same_path}
use Rattle.mill_drop.proofs.laws.one_path.Goals as goal

pub returns : goal.returns
returns c = same_path
