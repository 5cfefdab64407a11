use Rattle.mill_board.proofs.Listed.{draws_once}
use Rattle.mill_board.proofs.laws.no_number_twice.Goals as goal

pub returns : goal.returns
returns g c = draws_once g.W.Work.means
