use Rattle.mill_board.proofs.Holding.{shows_held}
use Rattle.mill_board.proofs.laws.shows_held.Goals as goal

pub returns : goal.returns
returns g c = shows_held g.W.Work.means
