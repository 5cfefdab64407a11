use Rattle.mill_board.proofs.Stepping.{turns_are_events}
use Rattle.mill_board.proofs.laws.turns_are_events.Goals as goal

pub returns : goal.returns
returns g c = turns_are_events g.W.Work.means
