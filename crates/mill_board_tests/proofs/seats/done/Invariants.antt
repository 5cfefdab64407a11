use Rattle.std.proofs.Common.{◌≡◌, ◌-◌, false}
use Rattle.mill_board.specs.Works.{IsTrueHeld}
use Rattle.mill_board_tests.proofs.seats.done.Given as goal

abbrev pub invariant-loop-held : goal.invariant-loop-held
invariant-loop-held g l = IsTrueHeld g.W.Work.means l.work l.held × (l.held.number ≡ l.fn.held.number) × (l.held.failed ≡ false)

abbrev pub decreases-loop-held : goal.decreases-loop-held
decreases-loop-held g l = l.limit - l.held.next
