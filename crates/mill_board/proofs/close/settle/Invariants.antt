use Rattle.std.proofs.Common.{◌≡◌, ℕ, ◌≤◌, length, get_or, None, Option}
use Rattle.mill_board.specs.declared.work.Held.{Held}
use Rattle.mill_board.specs.inner.Closings.{IsSettled}
use Rattle.mill_board.proofs.close.settle.Given as goal

abbrev pub invariant-loop-n : goal.invariant-loop-n
invariant-loop-n g l =
    let none : Option (Held g.row.W-Piece.Denot) = None in
    record {
      settled : IsSettled g.W.Work.means l.terms l.n l.least l.pieces.items;
      rest : (k : ℕ) → l.n ≤ k → get_or l.slots.items k none ≡ get_or l.fn.slots.items k none;
      len : length l.slots.items ≡ length l.fn.slots.items;
    }
