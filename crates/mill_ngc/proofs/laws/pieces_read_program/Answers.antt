-- By the lemma.
use Rattle.mill_ngc.proofs.JoinLemmas.{pieces_read_program}
use Rattle.mill_ngc.proofs.laws.pieces_read_program.Goals as goal

pub returns : goal.returns
returns c = pieces_read_program
