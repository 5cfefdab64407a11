use Rattle.mill_board.proofs.Dividing.{splits_add_workers}
use Rattle.mill_board.proofs.laws.splits_add_workers.Goals as goal

pub returns : goal.returns
returns g c = splits_add_workers g.W.Work.means
