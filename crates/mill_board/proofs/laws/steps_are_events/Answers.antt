use Rattle.mill_board.proofs.Stepping.{steps_are_events}
use Rattle.mill_board.proofs.laws.steps_are_events.Goals as goal

pub returns : goal.returns
returns g c = steps_are_events g.W.Work.means
