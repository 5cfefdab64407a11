-- The rows of the stock among the pieces, after all moves.
use Rattle.std.specs.Prelude.{◌≡◌, ℕ, zero, suc, ◌+◌, ◌<◌, ◌≤◌, List, [], ◌∷◌, ◌++◌, length, slice_get, slice_index_or, Some, refl}
use Rattle.std.specs.List.{flat_map}
use Rattle.std.proofs.Common.{sym, ◌∙◌, ap, subst, arith}
use Rattle.std.proofs.lemmas.List.{take_all}
use Rattle.mill_base.specs.declared.motion.Move.{Move}
use Rattle.mill_board.specs.declared.work.Held.{Held}
use Rattle.mill_dexel.specs.Rows.{RowState}
use Rattle.mill_dexel.specs.Tops.{row_tops, stock_after}
use Rattle.mill_verify.specs.inner.Pieces.{IsPieceAt, TestsShown, blocks_of, piece_count, row_in, row_of, turn_limit, stock_under}
use Rattle.mill_dexel.specs.Stocks.{ShowsRow, ShowsStock}
use Rattle.mill_verify.specs.declared.piece.Piece.{Piece}
use Rattle.mill_verify.specs.declared.piece.Piece.TheVariants.{Block, Stock}
use Rattle.mill_verify.proofs.Sharing.{limit_of_row}
use Rattle.mill_verify.proofs.Turned.{before_is}

module _ (w : TestsShown) (all_moves : w.turns ≡ length w.moves) where
  -- the pieces, from number k on, are through their turns
  abbrev AreThrough : ℕ → List (Held Piece) → Type 0
  AreThrough k hs = (n : ℕ) (h : Held Piece) → slice_get hs n ≡ Some h → IsPieceAt w (k + n) (turn_limit w (k + n)) h.piece

  first_through : (k : ℕ) (h : Held Piece) (hs : List (Held Piece)) → AreThrough k (h ∷ hs) → IsPieceAt w k (turn_limit w k) h.piece
  first_through k h hs all = subst (λ (m : ℕ). IsPieceAt w m (turn_limit w m) h.piece) (let e : k + 0 ≡ k = omega arith in e) (all 0 h refl)

  rest_through : (k : ℕ) (h : Held Piece) (hs : List (Held Piece)) → AreThrough k (h ∷ hs) → AreThrough (k + 1) hs
  rest_through k h hs all n x at = subst (λ (m : ℕ). IsPieceAt w m (turn_limit w m) x.piece) (let e : k + suc n ≡ k + 1 + n = omega arith in e) (all (suc n) x at)

  -- a row that is through has its tops after all moves
  row_through : (i m : ℕ) (r : RowState) → IsPieceAt w (blocks_of w + i) (turn_limit w (blocks_of w + i)) (Stock m r) → ShowsRow w.job (stock_after w.job (stock_under w) w.moves) i r
  row_through i m r at =
      let n : ℕ = blocks_of w + i in
      let number : r.row ≡ i = let e = at.1 in omega (e, arith) in
      let last : turn_limit w n ≡ length w.moves = limit_of_row w n (omega arith) ∙ all_moves in
      let tops : r.tops ≡ row_tops w.job (stock_after w.job (stock_under w) w.moves) r.row =
      ap (λ (x : RowState). x.tops) (at.2 ∙ before_is w.job (stock_under w) w.moves r.row (turn_limit w n))
      ∙ ap (λ (ms : List Move). row_tops w.job (stock_after w.job (stock_under w) ms) r.row) (take_all (turn_limit w n) w.moves (omega (last, arith))) in
      record { number = number; after = tops ∙ ap (row_tops w.job (stock_after w.job (stock_under w) w.moves)) number }

  -- from the first row on, each piece is one
  rows_len : (i : ℕ) (hs : List (Held Piece)) → AreThrough (blocks_of w + i) hs → length (flat_map row_in hs) ≡ length hs
  rows_len i [] all = refl
  rows_len i (h ∷ hs) all = by h.piece (first_through (blocks_of w + i) h hs all) (rows_len (i + 1) hs more)
    where
      more : AreThrough (blocks_of w + (i + 1)) hs
      more = subst (λ (k : ℕ). AreThrough k hs) (let e : blocks_of w + i + 1 ≡ blocks_of w + (i + 1) = omega arith in e) (rest_through (blocks_of w + i) h hs all)

      by : (p : Piece) → IsPieceAt w (blocks_of w + i) (turn_limit w (blocks_of w + i)) p → length (flat_map row_in hs) ≡ length hs → length (row_of p ++ flat_map row_in hs) ≡ suc (length hs)
      by (Block m b) at len = absurd (let e = at.1 in omega (e, arith))
      by (Stock m r) at len = ap suc len

  rows_there : (i : ℕ) (hs : List (Held Piece)) → AreThrough (blocks_of w + i) hs → (j : ℕ) (other : RowState) → j < length hs → ShowsRow w.job (stock_after w.job (stock_under w) w.moves) (i + j) (slice_index_or (flat_map row_in hs) j other)
  rows_there i [] all j other there = absurd (omega (there, arith))
  rows_there i (h ∷ hs) all j other there = by h.piece (first_through (blocks_of w + i) h hs all) (λ k lt. rows_there (i + 1) hs more k other lt) j there
    where
      more : AreThrough (blocks_of w + (i + 1)) hs
      more = subst (λ (k : ℕ). AreThrough k hs) (let e : blocks_of w + i + 1 ≡ blocks_of w + (i + 1) = omega arith in e) (rest_through (blocks_of w + i) h hs all)

      by : (p : Piece) → IsPieceAt w (blocks_of w + i) (turn_limit w (blocks_of w + i)) p → ((k : ℕ) → k < length hs → ShowsRow w.job (stock_after w.job (stock_under w) w.moves) (i + 1 + k) (slice_index_or (flat_map row_in hs) k other)) → (j : ℕ) → j < suc (length hs) → ShowsRow w.job (stock_after w.job (stock_under w) w.moves) (i + j) (slice_index_or (row_of p ++ flat_map row_in hs) j other)
      by (Block m b) at later j there = absurd (let e = at.1 in omega (e, arith))
      by (Stock m r) at later zero there = subst (λ (k : ℕ). ShowsRow w.job (stock_after w.job (stock_under w) w.moves) k r) (let e : i ≡ i + 0 = omega arith in e) (row_through i m r at)
      by (Stock m r) at later (suc j) there = subst (λ (k : ℕ). ShowsRow w.job (stock_after w.job (stock_under w) w.moves) k (slice_index_or (flat_map row_in hs) j other)) (let e : i + 1 + j ≡ i + suc j = omega arith in e) (later j (omega (there, arith)))

  -- the rows after so many blocks
  record AreRows (d : ℕ) (hs : List (Held Piece)) : Type 0 where
    count : d + length (flat_map row_in hs) ≡ length hs
    rows : (j : ℕ) (other : RowState) → d + j < length hs → ShowsRow w.job (stock_after w.job (stock_under w) w.moves) j (slice_index_or (flat_map row_in hs) j other)

  rows_past : (d k : ℕ) (hs : List (Held Piece)) → k + d ≡ blocks_of w → d ≤ length hs → AreThrough k hs → AreRows d hs
  rows_past zero k hs e le all =
      let here : AreThrough (blocks_of w + 0) hs = subst (λ (n : ℕ). AreThrough n hs) (let q : k ≡ blocks_of w + 0 = omega (e, arith) in q) all in
      record {
        count = let c = rows_len 0 hs here in omega (c, arith);
        rows = λ j other there. subst (λ (n : ℕ). ShowsRow w.job (stock_after w.job (stock_under w) w.moves) n (slice_index_or (flat_map row_in hs) j other)) (let q : 0 + j ≡ j = omega arith in q) (rows_there 0 hs here j other (omega (there, arith)));
      }
  rows_past (suc d) k [] e le all = absurd (omega (le, arith))
  rows_past (suc d) k (h ∷ hs) e le all = from h.piece refl (first_through k h hs all) (rows_past d (k + 1) hs (omega (e, arith)) (omega (le, arith)) (rest_through k h hs all))
    where
      from : (q : Piece) → h.piece ≡ q → IsPieceAt w k (turn_limit w k) q → AreRows d hs → AreRows (suc d) (h ∷ hs)
      from (Block m b) is at later =
          let same : flat_map row_in hs ≡ flat_map row_in (h ∷ hs) = sym (ap (λ (x : Piece). row_of x ++ flat_map row_in hs) is) in
          record {
            count = subst (λ (rs : List RowState). suc d + length rs ≡ suc (length hs)) same (let c = later.count in omega (c, arith));
            rows = λ j other there. subst (λ (rs : List RowState). ShowsRow w.job (stock_after w.job (stock_under w) w.moves) j (slice_index_or rs j other)) same (later.rows j other (omega (there, arith)));
          }
      from (Stock m r) is at later = absurd (let q = at.1 in omega (q, e, arith))

  -- the rows of all pieces are the stock after all moves
  pub gathered : (hs : List (Held Piece)) → length hs ≡ piece_count w → ((n : ℕ) (h : Held Piece) → slice_get hs n ≡ Some h → IsPieceAt w n (turn_limit w n) h.piece) → ShowsStock w.job (stock_after w.job (stock_under w) w.moves) (flat_map row_in hs)
  gathered hs count all =
      let rows = rows_past (blocks_of w) 0 hs (omega arith) (omega (count, arith)) (λ n h at. subst (λ (m : ℕ). IsPieceAt w m (turn_limit w m) h.piece) (let e : n ≡ 0 + n = omega arith in e) (all n h at)) in
      record {
        count = let c = rows.count in omega (c, count, arith);
        rows_ok = λ j other there. rows.rows j other (omega (there, count, arith));
      }
