use Rattle.std.proofs.Common.{◌≡◌, ◌++◌, ◌-◌}
use Rattle.mill_board.specs.inner.Starts.{StartTrue, starts}
use Rattle.mill_board.proofs.board.fresh_slots.Given as goal

abbrev pub invariant-loop-number : goal.invariant-loop-number
invariant-loop-number g l = record {
  slots : l.slots.items ++ starts g.W.Work.means l.work l.number (l.pieces - l.number) ≡ starts g.W.Work.means l.work 0 l.pieces;
  are_true : StartTrue g.W.Work.means l.work l.number;
}
