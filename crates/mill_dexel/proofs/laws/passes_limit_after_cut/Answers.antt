use Rattle.mill_dexel.proofs.Limits.{passes_limit_after_cut}
use Rattle.mill_dexel.proofs.laws.passes_limit_after_cut.Goals as goal

pub returns : goal.returns
returns c = passes_limit_after_cut
