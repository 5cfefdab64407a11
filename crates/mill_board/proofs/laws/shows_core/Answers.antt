use Rattle.mill_board.proofs.Showing.{shows_core}
use Rattle.mill_board.proofs.laws.shows_core.Goals as goal

pub returns : goal.returns
returns g c = shows_core g.W.Work.means
