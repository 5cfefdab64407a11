-- By the lemma.
use Rattle.mill_ngc.proofs.JoinLemmas.{pieces_join}
use Rattle.mill_ngc.proofs.laws.pieces_join.Goals as goal

pub returns : goal.returns
returns c = pieces_join
