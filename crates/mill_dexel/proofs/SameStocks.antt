-- Stocks that are the same at each column, and the rows that show them.
use Rattle.std.proofs.Common.{◌≡◌, ℕ, ◌<◌, sym, subst, ap, ◌∙◌}
use Rattle.std.specs.Prelude.{ℤ, pos, List, [], None}
use Rattle.mill_base.specs.declared.motion.Move.{Move}
use Rattle.mill_job.specs.declared.fields.JobFields.{JobFields}
use Rattle.mill_job.specs.Columns.{row_count, column_x, column_y}
use Rattle.mill_job.specs.Jobs.{IsFrom}
use Rattle.mill_dexel.specs.Rows.{RowState, top_at}
use Rattle.mill_dexel.specs.Stocks.{AreSame, IsStockOf, ShowsStock, shown_by}
use Rattle.mill_dexel.specs.Tops.{Stock, row_tops, stock_after, top_on}
use Rattle.mill_dexel.proofs.RowLaws.{length-row_tops, row_tops-at, tops_are_row}

module _ (job : JobFields) (a b : Stock) (same : AreSame job a b) where
  -- they are the same after the same moves
  pub same_after : (moves : List Move) → AreSame job (stock_after job a moves) (stock_after job b moves)
  same_after moves j i column = ap (λ (top : ℤ). top_on job (column_x job i) (column_y job j) top moves) (same j i column)

  pub same_back : AreSame job b a
  same_back j i column = sym (same j i column)

  -- and their tops are in the same range
  pub same_of_job : IsStockOf job a → IsStockOf job b
  same_of_job of_job j i column = subst (λ (top : ℤ). IsFrom job.floor job.top top) (same j i column) (of_job j i column)

  -- so are the tops of each row
  pub same_row : (j : ℕ) → j < row_count job → row_tops job a j ≡ row_tops job b j
  same_row j there =
      tops_are_row job b j (row_tops job a j) (length-row_tops job a j)
      (λ i column. row_tops-at job a j i (pos 0) column ∙ same j i (record { row = there; column = column }))

  pub shows_same : (rows : List RowState) → ShowsStock job a rows → ShowsStock job b rows
  shows_same rows shows = record {
    count = shows.count;
    rows_ok = λ j other there. let is = shows.rows_ok j other there in record { number = is.number; after = is.after ∙ same_row j there };
  }

module _ (job : JobFields) (stock : Stock) (rows : List RowState) (shows : ShowsStock job stock rows) where
  -- the stock that rows show is the one whose tops they have
  pub shown_same : AreSame job (shown_by rows) stock
  shown_same j i column =
      let is = shows.rows_ok j (record { row = 0; tops = []; done = 0; failed = None }) column.row in
      ap (λ (tops : List ℤ). top_at tops i) is.after ∙ row_tops-at job stock j i (pos 0) column.column

  pub shows_shown : ShowsStock job (shown_by rows) rows
  shows_shown = shows_same job stock (shown_by rows) (same_back job (shown_by rows) stock shown_same) rows shows
