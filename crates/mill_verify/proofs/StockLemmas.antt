-- The stock as a list of rows.
use Rattle.std.specs.Prelude.{◌≡◌, ℕ, ◌<◌, List, length, slice_index_or}
use Rattle.std.proofs.Common.{sym, subst}
use Rattle.mill_job.specs.declared.fields.JobFields.{JobFields}
use Rattle.mill_job.specs.Columns.{row_count}
use Rattle.mill_dexel.specs.Rows.{RowState}
use Rattle.mill_dexel.specs.Stocks.{ShowsRow, ShowsStock}
use Rattle.mill_dexel.specs.Tops.{Stock}

pub row_there : {job : JobFields} {stock : Stock} {rows : List RowState} {j : ℕ} → ShowsStock job stock rows → j < length rows → j < row_count job
row_there {j} shows h = subst (λ (n : ℕ). j < n) shows.count h

pub in_rows : {job : JobFields} {stock : Stock} {rows : List RowState} {j : ℕ} → ShowsStock job stock rows → j < row_count job → j < length rows
in_rows {j} shows h = subst (λ (n : ℕ). j < n) (sym shows.count) h

-- the row that was read
pub row_read : {job : JobFields} {stock : Stock} {rows : List RowState} {j : ℕ} {row : RowState} → ShowsStock job stock rows → j < length rows → row ≡ slice_index_or rows j row → ShowsRow job stock j row
row_read {job} {stock} {j} {row} shows h is = subst (ShowsRow job stock j) (sym is) (shows.rows_ok j row (row_there shows h))
