-- The whole stock, row by row.
use Rattle.std.specs.Prelude.{◌≡◌, ℕ, ◌<◌, List, [], length, None, slice_index_or}
use Rattle.mill_base.specs.declared.motion.Move.{Move}
use Rattle.mill_job.specs.declared.fields.JobFields.{JobFields}
use Rattle.mill_job.specs.Columns.{IsColumn, row_count}
use Rattle.mill_job.specs.Jobs.{IsFrom}
use Rattle.mill_dexel.specs.Rows.{RowState, top_at}
use Rattle.mill_dexel.specs.Tops.{Stock, row_tops, stock_after, uncut}

-- each top of a stock is from the floor to the uncut stock's top
abbrev pub IsStockOf : JobFields → Stock → Type 0
IsStockOf job stock = (j i : ℕ) → IsColumn job j i → IsFrom job.floor job.top (stock j i)

-- two stocks are the same at each of the job's columns
abbrev pub AreSame : JobFields → Stock → Stock → Type 0
AreSame job a b = (j i : ℕ) → IsColumn job j i → a j i ≡ b j i

-- the row is the job's row j, with its tops on a stock
pub record ShowsRow (job : JobFields) (stock : Stock) (j : ℕ) (row : RowState) : Type 0 where
  pub number : row.row ≡ j
  pub after : row.tops ≡ row_tops job stock j

-- the rows are all of the job's, in order, with the tops of a stock
pub record ShowsStock (job : JobFields) (stock : Stock) (rows : List RowState) : Type 0 where
  pub count : length rows ≡ row_count job
  pub rows_ok : (j : ℕ) (other : RowState) → j < row_count job → ShowsRow job stock j (slice_index_or rows j other)

-- the stock that rows show
abbrev pub shown_by : List RowState → Stock
shown_by rows = λ j i. top_at (slice_index_or rows j (record { row = 0; tops = []; done = 0; failed = None })).tops i

-- the row is the job's row j, with its tops after a list of moves, from the uncut stock on
abbrev pub IsRow : JobFields → List Move → ℕ → RowState → Type 0
IsRow job moves j row = ShowsRow job (stock_after job (uncut job) moves) j row

-- the rows are all of the job's, in order, after a list of moves, from the uncut stock on
abbrev pub IsStock : JobFields → List Move → List RowState → Type 0
IsStock job moves rows = ShowsStock job (stock_after job (uncut job) moves) rows
