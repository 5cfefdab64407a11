-- The pieces of the tests: their turns, and what one turn makes of a piece.
use Rattle.std.specs.Prelude.{◌≡◌, ℕ, ◌+◌, ◌*◌, ◌<◌, ◌≤◌, min, cond, ltb, Bool, List, length, take, None, Some, refl}
use Rattle.std.proofs.Common.{sym, ◌∙◌, ap, subst, arith, inl, inr}
use Rattle.std.proofs.lemmas.Bool.{cases_lt, lt-ltb, le-ltb}
use Rattle.mill_base.specs.declared.motion.Move.{Move}
use Rattle.mill_board.specs.Works.{HasPassedTo, HasSpans, IsDue}
use Rattle.mill_job.specs.declared.fields.JobFields.{JobFields}
use Rattle.mill_job.specs.Columns.{row_count}
use Rattle.mill_dexel.specs.Rows.{IsRowOf, RowState, fresh_row}
use Rattle.mill_dexel.specs.Turns.{ClearsRow, IsLeftBy, IsRowStopped, StopsRow, move_at, row_before, turned as row_turned}
use Rattle.mill_dexel.specs.Stocks.{IsStockOf}
use Rattle.mill_dexel.specs.Tops.{Stock as OneStock}
use Rattle.mill_dexel.proofs.Blocks.{row_parts}
use Rattle.mill_dexel.proofs.RowLaws.{row_on_is_row}
use Rattle.mill_dexel.proofs.RunLaws.{left_next}
use Rattle.mill_dexel.proofs.TopLaws.{stock_stays}
use Rattle.mill_verify.specs.Clashes.{IsClear}
use Rattle.mill_dexel.proofs.Stops.{stop_fails}
use Rattle.mill_verify.proofs.Turned.{before_is}
use Rattle.mill_verify.proofs.Scanning.{block_more, clash_fails}
use Rattle.mill_verify.specs.Tests.{stock_met}
use Rattle.mill_verify.specs.Blocks.{BlockState, IsBlockStopped, block_count, block_of, turned}
use Rattle.mill_verify.specs.inner.Pieces.{IsPieceAt, IsPieceFailed, PassesTest, TestsShown, blocks_of, first_turn, tests, turn_limit, stock_under}
use Rattle.mill_verify.specs.declared.piece.Piece.TheVariants.{Block, Stock}

module _ (w : TestsShown) (n : ℕ) where
  -- which of two things is meant, for a block and for a row
  of_block : {A : Type 0} (x y : A) → n < blocks_of w → cond (ltb n (blocks_of w)) x y ≡ x
  of_block {A} x y h = ap (λ (b : Bool). cond b x y) (lt-ltb n (blocks_of w) h)

  of_row : {A : Type 0} (x y : A) → blocks_of w ≤ n → cond (ltb n (blocks_of w)) x y ≡ y
  of_row {A} x y h = ap (λ (b : Bool). cond b x y) (le-ltb n (blocks_of w) h)

  pub first_of_block : n < blocks_of w → first_turn w n ≡ n * 64
  first_of_block = of_block (n * 64) 0

  pub limit_of_block : n < blocks_of w → turn_limit w n ≡ min (n * 64 + 64) w.turns
  limit_of_block = of_block (min (n * 64 + 64) w.turns) w.turns

  pub first_of_row : blocks_of w ≤ n → first_turn w n ≡ 0
  first_of_row = of_row (n * 64) 0

  pub limit_of_row : blocks_of w ≤ n → turn_limit w n ≡ w.turns
  limit_of_row = of_row (min (n * 64 + 64) w.turns) w.turns

-- a block isn't empty
block_there : (turns n : ℕ) → n < block_count turns → n * 64 < turns
block_there turns n h = omega (h, arith)

-- the turns of each piece lie under their number
pub spans : (w : TestsShown) → HasSpans tests w w.turns
spans w n under = elim (cases_lt n (blocks_of w)) [
  | inl block ↦ let f = first_of_block w n block in let l = limit_of_block w n block in let t = block_there w.turns n block in (omega (f, l, t, arith), omega (l, arith))
  | inr row ↦ let f = first_of_row w n row in let l = limit_of_row w n row in (omega (f, l, arith), omega (l, arith))
]

module _ (job : JobFields) (start : OneStock) (moves : List Move) (j k : ℕ) where
  -- a row is one of the job's as each move meets it
  row_met : IsStockOf job start → j < row_count job → IsRowOf job (row_before job moves (fresh_row job start j) k)
  row_met ok there = subst (IsRowOf job) (sym (before_is job start moves j k)) (row_on_is_row job (stock_met job start moves k) j k None there (stock_stays job start (take k moves) ok))

  -- and after a move that it lets pass it is as the next one meets it
  row_more : k < length moves → row_turned job (move_at moves k) (row_before job moves (fresh_row job start j) k) ≡ row_before job moves (fresh_row job start j) (k + 1)
  row_more there = sym (left_next job moves (fresh_row job start j) k refl there)

-- a move that a row lets pass as that move meets it passes the test of the row's piece
row_test : (w : TestsShown) (n t j : ℕ) → n ≡ blocks_of w + j → ClearsRow w.job (row_before w.job w.moves (fresh_row w.job (stock_under w) j) t) (move_at w.moves t) → PassesTest w n t
row_test w n t j number clears = record {
  block = λ block. absurd (omega (number, block, arith));
  stock = λ i at. subst (λ (k : ℕ). ClearsRow w.job (row_before w.job w.moves (fresh_row w.job (stock_under w) k) t) (move_at w.moves t)) (let e : j ≡ i = omega (number, at, arith) in e) clears;
}

module _ (w : TestsShown) (n t m : ℕ) where
  -- a row that is due is one of the job's
  pub row_due : (r : RowState) → IsStockOf w.job (stock_under w) → IsDue tests w n t (Stock m r) → IsRowOf w.job r
  row_due r ok d =
      let under = d.number in let number = d.is_at.1 in
      subst (IsRowOf w.job) (sym d.is_at.2) (row_met w.job (stock_under w) w.moves r.row t ok (omega (under, number, arith)))

  -- which all moves before have left of a row of the stock
  pub row_left : (r : RowState) → IsDue tests w n t (Stock m r) → IsLeftBy w.job w.moves t r
  row_left r d = record { start = fresh_row w.job (stock_under w) r.row; fresh = refl; is = d.is_at.2 }

  pub row_next : (r : RowState) → IsDue tests w n t (Stock m r) → t ≡ r.done
  row_next r d = sym (ap (λ (x : RowState). x.done) d.is_at.2)

  -- its turn is that of a move
  row_move : (r : RowState) → w.turns ≤ length w.moves → IsDue tests w n t (Stock m r) → t < length w.moves
  row_move r within d =
      let number = d.is_at.1 in let to = d.to in
      let limit = limit_of_row w n (let k = number in omega (k, arith)) in
      omega (to, limit, within, arith)

  -- where it lets the move pass, it is as the next one meets it
  pub row_passes : (r new : RowState) → w.turns ≤ length w.moves → IsDue tests w n t (Stock m r) → ClearsRow w.job r (move_at w.moves t) → new ≡ row_turned w.job (move_at w.moves t) r
      → PassesTest w n t × IsPieceAt w n (t + 1) (Stock m new)
  row_passes r new within d clears is =
      let number = d.is_at.1 in
      let met = ap (row_turned w.job (move_at w.moves t)) d.is_at.2 ∙ row_more w.job (stock_under w) w.moves r.row t (row_move r within d) in (
        row_test w n t r.row number (subst (λ (x : RowState). ClearsRow w.job x (move_at w.moves t)) d.is_at.2 clears),
        subst (λ (x : RowState). IsPieceAt w n (t + 1) (Stock m x)) (sym is) (d.is_at.0, number, met),
      )

  -- a later move meets it as it meets the row of the stock
  row_later : (r : RowState) (k : ℕ) → IsDue tests w n t (Stock m r) → t ≤ k → row_before w.job w.moves r k ≡ row_before w.job w.moves (fresh_row w.job (stock_under w) r.row) k
  row_later r k d later =
      let next = row_next r d in
      row_parts w.job w.moves (fresh_row w.job (stock_under w) r.row) r k (omega arith) (omega (next, later, arith)) (subst (λ (u : ℕ). r ≡ row_before w.job w.moves (fresh_row w.job (stock_under w) r.row) u) next d.is_at.2)

  -- where it goes over moves that it lets pass, it is as the next one meets it
  pub row_goes_over : (r new : RowState) (next : ℕ) → IsDue tests w n t (Stock m r) → t ≤ next → next ≤ w.turns
      → ((k : ℕ) → t ≤ k → k < next → ClearsRow w.job (row_before w.job w.moves r k) (move_at w.moves k))
      → new ≡ row_before w.job w.moves r next → HasPassedTo tests w n next (Stock m new)
  row_goes_over r new next d onward within clears is =
      let number = d.is_at.1 in record {
        to = let limit = limit_of_row w n (omega (number, arith)) in omega (within, limit, arith);
        passes = λ u from under. elim (cases_lt u t) [
          | inl before ↦ d.passes u from before
          | inr later ↦ row_test w n u r.row number (subst (λ (x : RowState). ClearsRow w.job x (move_at w.moves u)) (row_later r u d later) (clears u later under))
        ];
        is_at = subst (λ (x : RowState). IsPieceAt w n next (Stock m x)) (sym is) (d.is_at.0, number, row_later r next d onward);
      }

  -- where it stops the move, the piece has failed
  pub row_fails : (r new : RowState) → IsDue tests w n t (Stock m r) → IsRowStopped w.job (move_at w.moves t) r new → (¬ PassesTest w n t) × IsPieceFailed w n t (Stock m new)
  row_fails r new d stopped =
      let stop = stopped.stops in
      let fail = stopped.fail in (
        λ p. stop_fails w.job r (move_at w.moves t) fail stop (subst (λ (x : RowState). ClearsRow w.job x (move_at w.moves t)) (sym d.is_at.2) (p.stock r.row d.is_at.1)),
        subst (λ (x : RowState). IsPieceFailed w n t (Stock m x)) (sym stopped.noted) (
          d.is_at.0,
          d.is_at.1,
          record {
            fail = fail;
            stops = subst (λ (x : RowState). StopsRow w.job x (move_at w.moves t) fail) d.is_at.2 stop;
            noted = ap (λ (x : RowState). record x { failed = Some fail }) d.is_at.2;
          },
        ),
      )

  -- a block on whose move the tool clears the part and the fixtures is as the next one meets it
  pub block_passes : (b new : BlockState) → IsDue tests w n t (Block m b) → IsClear w.job w.part (move_at w.moves t) → new ≡ turned b → PassesTest w n t × IsPieceAt w n (t + 1) (Block m new)
  block_passes b new d clears is =
      let under = d.is_at.1 in
      (record { block = λ block. clears; stock = λ j at. absurd (omega (under, at, arith)) }, (d.is_at.0, under, block_more (block_of w.turns n) b new t d.is_at.2 is))

  -- where it doesn't, the piece has failed
  pub block_fails : (b new : BlockState) → IsDue tests w n t (Block m b) → IsBlockStopped w.job w.part w.moves b new → (¬ PassesTest w n t) × IsPieceFailed w n t (Block m new)
  block_fails b new d stopped =
      let next : b.next ≡ t = ap (λ (x : BlockState). x.next) d.is_at.2 in (
        λ p. clash_fails w.job w.part (move_at w.moves b.next) stopped.fail stopped.fails (subst (λ (k : ℕ). IsClear w.job w.part (move_at w.moves k)) (sym next) (p.block d.is_at.1)),
        (d.is_at.0, d.is_at.1, subst (λ (x : BlockState). IsBlockStopped w.job w.part w.moves x new) d.is_at.2 stopped),
      )
