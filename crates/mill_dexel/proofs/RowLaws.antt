-- The tops of a row after a list of moves: its entries, and one move more.
use Rattle.std.proofs.Common.{◌≡◌, ℕ, zero, suc, ◌+◌, ◌<◌, refl, sym, ap, ◌∙◌, length, get_or, arith}
use Rattle.std.specs.Prelude.{ℤ, pos, List, [], ◌∷◌, ◌++◌, map, replicate, Option}
use Rattle.std.specs.List.{range_with_len}
use Rattle.std.proofs.lemmas.List.{ext_get_or}
use Rattle.std.proofs.lemmas.List.Sums.{fold-append}
use Rattle.std.proofs.lemmas.List.FromFn.{length-map-range_with_len, get_or-map-range_with_len}
use Rattle.std.proofs.lemmas.List.Elements.{All-from_get_or, All-get_or}
use Rattle.mill_base.specs.declared.motion.Move.{Move}
use Rattle.mill_job.specs.declared.fields.JobFields.{JobFields}
use Rattle.mill_job.specs.Columns.{row_count, column_count, column_x, column_y}
use Rattle.mill_job.specs.Jobs.{IsFrom}
use Rattle.mill_dexel.specs.Stocks.{IsStockOf}
use Rattle.mill_dexel.specs.Tops.{Stock, row_after, row_tops, stock_after, top_after, top_after_move, top_on, tops_after_move, uncut}
use Rattle.mill_dexel.specs.Rows.{RowState, IsRowOf}
use Rattle.mill_dexel.specs.declared.fail.RowFail.{RowFail}
use Rattle.mill_dexel.proofs.TopLaws.{move_stays}

-- a row has a top for each column
pub length-row_tops : (job : JobFields) (stock : Stock) (j : ℕ) → length (row_tops job stock j) ≡ column_count job
length-row_tops job stock j = length-map-range_with_len (λ i. stock j i) 0 (column_count job)

-- entry i is the top of column i
pub row_tops-at : (job : JobFields) (stock : Stock) (j i : ℕ) (d : ℤ) → i < column_count job → get_or (row_tops job stock j) i d ≡ stock j i
row_tops-at job stock j i d there = get_or-map-range_with_len (λ k. stock j k) 0 (column_count job) i i d there (omega arith)

pub row_after-at : (job : JobFields) (j : ℕ) (moves : List Move) (i : ℕ) (d : ℤ) → i < column_count job
    → get_or (row_after job j moves) i d ≡ top_after job (column_x job i) (column_y job j) moves
row_after-at job j moves i d there = row_tops-at job (stock_after job (uncut job) moves) j i d there

-- with no move, each top is the uncut stock's
same_tops : (top : ℤ) (start n : ℕ) → map (λ (i : ℕ). top) (range_with_len start n) ≡ replicate n top
same_tops top start zero = refl
same_tops top start (suc n) = ap (λ (ts : List ℤ). top ∷ ts) (same_tops top (start + 1) n)

pub row_after_none : (job : JobFields) (j : ℕ) → row_after job j [] ≡ replicate (column_count job) job.top
row_after_none job j = same_tops job.top 0 (column_count job)

-- one move more lowers each top by that move
pub top_on_more : (job : JobFields) (x y top : ℤ) (moves : List Move) (m : Move) → top_on job x y top (moves ++ m ∷ []) ≡ top_after_move job x y (top_on job x y top moves) m
top_on_more job x y top moves m = fold-append (top_after_move job x y) top moves (m ∷ [])

module _ (job : JobFields) (stock : Stock) (j : ℕ) (moves : List Move) (m : Move) where
  -- the tops of the row's columns after the moves, and after one more
  abbrev before : ℕ → ℤ
  before i = stock_after job stock moves j i

  abbrev now : ℕ → ℤ
  now i = stock_after job stock (moves ++ m ∷ []) j i

  from_column : (start n : ℕ) → map now (range_with_len start n) ≡ tops_after_move job j start m (map before (range_with_len start n))
  from_column start zero = refl
  from_column start (suc n) =
      ap (λ (t : ℤ). t ∷ map now (range_with_len (start + 1) n)) (top_on_more job (column_x job start) (column_y job j) (stock j start) moves m)
      ∙ ap (λ (ts : List ℤ). top_after_move job (column_x job start) (column_y job j) (before start) m ∷ ts) (from_column (start + 1) n)

  pub row_tops_more : row_tops job (stock_after job stock (moves ++ m ∷ [])) j ≡ tops_after_move job j 0 m (row_tops job (stock_after job stock moves) j)
  row_tops_more = from_column 0 (column_count job)

pub row_after_more : (job : JobFields) (j : ℕ) (moves : List Move) (m : Move) → row_after job j (moves ++ m ∷ []) ≡ tops_after_move job j 0 m (row_after job j moves)
row_after_more job j moves m = row_tops_more job (uncut job) j moves m

-- tops that are, column by column, those of a stock's row
pub tops_are_row : (job : JobFields) (stock : Stock) (j : ℕ) (tops : List ℤ) → length tops ≡ column_count job → ((i : ℕ) → i < column_count job → get_or tops i (pos 0) ≡ stock j i)
    → tops ≡ row_tops job stock j
tops_are_row job stock j tops columns each =
    ext_get_or (pos 0) tops (row_tops job stock j) (columns ∙ sym (length-row_tops job stock j))
    (λ i within. let there : i < column_count job = omega (within, columns, arith) in each i there ∙ sym (row_tops-at job stock j i (pos 0) there))

-- the tops after a move, as many as before, column by column
pub length-tops_after_move : (job : JobFields) (j start : ℕ) (m : Move) (tops : List ℤ) → length (tops_after_move job j start m tops) ≡ length tops
length-tops_after_move job j start m [] = refl
length-tops_after_move job j start m (t ∷ tops) = ap suc (length-tops_after_move job j (start + 1) m tops)

pub tops_after_move-at : (job : JobFields) (j start : ℕ) (m : Move) (tops : List ℤ) (i : ℕ) (d : ℤ) → i < length tops
    → get_or (tops_after_move job j start m tops) i d ≡ top_after_move job (column_x job (start + i)) (column_y job j) (get_or tops i d) m
tops_after_move-at job j start m [] i d there = absurd (omega arith)
tops_after_move-at job j start m (t ∷ tops) zero d there = ap (λ (k : ℕ). top_after_move job (column_x job k) (column_y job j) t m) (omega arith)
tops_after_move-at job j start m (t ∷ tops) (suc i) d there =
    tops_after_move-at job j (start + 1) m tops i d (omega arith)
    ∙ ap (λ (k : ℕ). top_after_move job (column_x job k) (column_y job j) (get_or tops i d) m) (omega arith)

-- a row of the job is one after a move, too
pub row_stays : (job : JobFields) (r : RowState) (m : Move) → IsRowOf job r → IsRowOf job (record r { tops = tops_after_move job r.row 0 m r.tops })
row_stays job r m is_row = record {
  there = is_row.there;
  columns = length-tops_after_move job r.row 0 m r.tops ∙ is_row.columns;
  in_stock = All-from_get_or (IsFrom job.floor job.top) (tops_after_move job r.row 0 m r.tops) (pos 0) each;
}
  where
    each : (i : ℕ) → i < length (tops_after_move job r.row 0 m r.tops) → IsFrom job.floor job.top (get_or (tops_after_move job r.row 0 m r.tops) i (pos 0))
    each i there =
        let within : i < length r.tops = rw (← length-tops_after_move job r.row 0 m r.tops) there in
        rw (tops_after_move-at job r.row 0 m r.tops i (pos 0) within)
        (move_stays job (column_x job (0 + i)) (column_y job r.row) (get_or r.tops i (pos 0)) m (All-get_or (IsFrom job.floor job.top) r.tops i (pos 0) within is_row.in_stock))

pub turned_is_row : (job : JobFields) (r turned : RowState) (m : Move) → turned ≡ record r { tops = tops_after_move job r.row 0 m r.tops } → IsRowOf job r → IsRowOf job turned
turned_is_row job r turned m e is_row = rw e (row_stays job r m is_row)

-- the tops of a row of a stock of the job make a row of the job
pub row_on_is_row : (job : JobFields) (stock : Stock) (j done : ℕ) (failed : Option RowFail) → j < row_count job → IsStockOf job stock
    → IsRowOf job (record { row = j; tops = row_tops job stock j; done = done; failed = failed })
row_on_is_row job stock j done failed there of_job = record {
  there = there;
  columns = length-row_tops job stock j;
  in_stock = All-from_get_or (IsFrom job.floor job.top) (row_tops job stock j) (pos 0) each;
}
  where
    each : (i : ℕ) → i < length (row_tops job stock j) → IsFrom job.floor job.top (get_or (row_tops job stock j) i (pos 0))
    each i within =
        let column : i < column_count job = rw (← length-row_tops job stock j) within in
        rw (row_tops-at job stock j i (pos 0) column) (of_job j i (record { row = there; column = column }))
