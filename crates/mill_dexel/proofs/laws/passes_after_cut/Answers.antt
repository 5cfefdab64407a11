use Rattle.mill_dexel.proofs.Cleared.{passes_after_cut}
use Rattle.mill_dexel.proofs.laws.passes_after_cut.Goals as goal

pub returns : goal.returns
returns c = passes_after_cut
