use Rattle.std.proofs.Common.{◌≡◌, ◌-◌, false}
use Rattle.mill_board.specs.Seats.{OnlySees}
use Rattle.mill_board.specs.Works.{IsTrueHeld}
use Rattle.mill_board.proofs.board.Board.advance.Given as goal

abbrev pub invariant-loop-held : goal.invariant-loop-held
invariant-loop-held g l = record {
  seat : OnlySees l.fn.seat l.seat;
  held : IsTrueHeld g.W.Work.means l.self.terms.work l.held;
  number : l.held.number ≡ l.fn.held.number;
  going : l.held.failed ≡ false;
}

abbrev pub decreases-loop-held : goal.decreases-loop-held
decreases-loop-held g l = l.limit - l.held.next
