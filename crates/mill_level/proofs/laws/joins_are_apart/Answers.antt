-- By the lemma.
use Rattle.mill_level.proofs.Apart.{joins_are_apart}
use Rattle.mill_level.proofs.laws.joins_are_apart.Goals as goal

pub returns : goal.returns
returns c = joins_are_apart
