-- What a thread needs for its share of a test, and the stock from which a program starts.
use Rattle.std.specs.Prelude.{ℕ, ℤ, ◌≤◌, List, length, Option, None, Some, IfSome}
use Rattle.mill_base.specs.Numbers.{Within}
use Rattle.mill_base.specs.Ranges.{MovesInRange}
use Rattle.mill_base.specs.declared.limits.TheConstants.{MAX_COORDINATE, MAX_MOVES, MAX_WORKERS}
use Rattle.mill_base.specs.declared.motion.Move.{Move}
use Rattle.mill_job.specs.declared.fields.JobFields.{JobFields}
use Rattle.mill_dexel.specs.Rows.{RowState}
use Rattle.mill_dexel.specs.Stocks.{IsStockOf, ShowsStock, shown_by}
use Rattle.mill_dexel.specs.Tops.{Stock, uncut}
use Rattle.mill_verify.specs.declared.start.Start.{Start}
use Rattle.mill_verify.specs.declared.start.Start.TheVariants.{Uncut, Rows}

-- the rows are all of the job's, in order, with their tops in the stock
pub record AreJobRows (job : JobFields) (rows : List RowState) : Type 0 where
  pub shows : ShowsStock job (shown_by rows) rows
  pub tops_ok : IsStockOf job (shown_by rows)

-- the stock before a program's first move: the one that these rows show, or where there are none the uncut one
abbrev pub start_stock : JobFields → Option (List RowState) → Stock
start_stock job None = uncut job
start_stock job (Some rows) = shown_by rows

-- the rows that a program starts from, if it doesn't from the uncut stock
abbrev pub rows_at : Start → Option (List RowState)
rows_at Uncut = None
rows_at (Rows rows) = Some rows.items

abbrev pub stock_of : JobFields → Start → Stock
stock_of job start = start_stock job (rows_at start)

-- where rows are left, they are the job's
abbrev pub IsStart : JobFields → Start → Type 0
IsStart job start = IfSome (rows_at start) (AreJobRows job)

-- the stock is one that the job may start from, and the moves are in range and no more than there may be
pub record AreAsked (job : JobFields) (start : Start) (moves : List Move) : Type 0 where
  pub start_ok : IsStart job start
  pub moves_ok : MovesInRange moves
  pub few : length moves ≤ MAX_MOVES

-- the place of a column and its top are in range
pub record IsColumnReady (x y top : ℤ) : Type 0 where
  pub x_ok : Within MAX_COORDINATE x
  pub y_ok : Within MAX_COORDINATE y
  pub top_ok : Within MAX_COORDINATE top

-- the rows are the stock's, s and e bound some of them, and the workers are no more than there may be
pub record AreRowsReady (job : JobFields) (rows : List RowState) (s e workers : ℕ) : Type 0 where
  pub rows_ok : AreJobRows job rows
  pub order : s ≤ e
  pub there : e ≤ length rows
  pub few_workers : workers ≤ MAX_WORKERS
