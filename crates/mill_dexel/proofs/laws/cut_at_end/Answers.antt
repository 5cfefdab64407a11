use Rattle.mill_dexel.proofs.Cleared.{cut_at_end}
use Rattle.mill_dexel.proofs.laws.cut_at_end.Goals as goal

pub returns : goal.returns
returns c = cut_at_end
