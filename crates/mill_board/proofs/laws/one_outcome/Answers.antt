use Rattle.mill_board.proofs.Outcomes.{one_outcome}
use Rattle.mill_board.proofs.laws.one_outcome.Goals as goal

pub returns : goal.returns
returns g c = one_outcome g.W.Work.means
