use Rattle.mill_dexel.proofs.RunLaws.{one_outcome}
use Rattle.mill_dexel.proofs.turns.one_outcome.Goals as goal

pub returns : goal.returns
returns c = one_outcome
