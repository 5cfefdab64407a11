use Rattle.mill_board.proofs.Listed.{draws_all}
use Rattle.mill_board.proofs.laws.numbers_under_the_claim.Goals as goal

pub returns : goal.returns
returns g c = draws_all g.W.Work.means
