-- Where the stock stops a move: in the terms of its rows, one after another, and in those of its columns.
use Rattle.std.specs.Prelude.{◌≡◌, ℕ, ◌<◌, List, length, Option, None, Some, MatchOption, slice_index_or}
use Rattle.mill_base.specs.Points.{point_tri}
use Rattle.mill_base.specs.declared.motion.Move.{Move}
use Rattle.mill_base.specs.Solids.{Solid}
use Rattle.mill_sweep.specs.Solids.{SolidFailsAt, SolidIsBlocked, SolidPassesPoint}
use Rattle.mill_job.specs.Solids.{holder_solid_of}
use Rattle.mill_job.specs.declared.fields.JobFields.{JobFields}
use Rattle.mill_job.specs.Columns.{IsBefore, IsColumn}
use Rattle.mill_dexel.specs.Rows.{HolderClearsRow, IsFirstHolderStop, RowState, Test, cutting, holding, uncut_row}
use Rattle.mill_dexel.specs.Tops.{ClearsColumnsOn, HolderClearsColumnsOn, IsTested, Stock, tested_point_on, uncut}
use Rattle.mill_dexel.specs.Turns.{CutClearsRow, CutStopsAt, move_at, row_before}
use Rattle.mill_dexel.specs.declared.fail.RowFail.{RowFail}
use Rattle.mill_dexel.specs.declared.fail.RowTest.{RowTest}
use Rattle.mill_dexel.specs.declared.fail.RowTest.TheVariants as test
use Rattle.mill_verify.specs.Tests.{stock_met}
use Rattle.mill_report.specs.declared.pass.Stop.{Stop}

-- ---- by columns

-- a move passes tests (iii) and (iii h) on a stock
pub record PassesStock (job : JobFields) (stock : Stock) (m : Move) : Type 0 where
  pub cut : ClearsColumnsOn job stock m
  pub holder : HolderClearsColumnsOn job stock m

-- the test of a solid fails on a stock first at the stop's column, whose tested point blocks the stop's leaf
pub record IsColumnStop (job : JobFields) (stock : Stock) (test : Test) (stop : Stop) : Type 0 where
  pub column : IsColumn job stop.row stop.col
  pub first : (a b : ℕ) → IsColumn job a b → IsBefore a b stop.row stop.col → SolidPassesPoint test.solid test.move (tested_point_on job test.kind stock a b)
  pub fails : SolidFailsAt test.solid test.move (point_tri (tested_point_on job test.kind stock stop.row stop.col)) stop.leaf
  pub blocked : SolidIsBlocked test.solid test.move (point_tri (tested_point_on job test.kind stock stop.row stop.col)) stop.leaf

-- a move fails test (iii) on a stock first at the stop's column, whose tested point blocks the stop's leaf
pub record IsCutStop (job : JobFields) (stock : Stock) (m : Move) (stop : Stop) : Type 0 where
  pub tested : IsTested job m.kind
  pub at : IsColumnStop job stock (cutting job m.kind m) stop

-- it passes test (iii), and fails test (iii h) first at the stop's column, whose top blocks the stop's leaf
pub record IsHolderStop (job : JobFields) (stock : Stock) (m : Move) (stop : Stop) : Type 0 where
  pub cut : ClearsColumnsOn job stock m
  pub holder : Solid
  pub mounted : holder_solid_of job ≡ Some holder
  pub at : IsColumnStop job stock (holding holder m) stop

-- so it is by the test that the stop names
abbrev pub StopsBy : RowTest → JobFields → Stock → Move → Stop → Type 0
StopsBy test.Cut job stock m stop = IsCutStop job stock m stop
StopsBy test.Holder job stock m stop = IsHolderStop job stock m stop

-- what is told of a move on a stock: where that stops it, or that it passes
abbrev pub IsTold : JobFields → Stock → Move → Option Stop → Type 0
IsTold job stock m told = MatchOption told (PassesStock job stock m) (λ stop. StopsBy stop.test job stock m stop)

-- so much is told of each move, on the stock that the moves before it leave
pub record AreTold (job : JobFields) (moves : List Move) (stops : List (Option Stop)) : Type 0 where
  pub count : length stops ≡ length moves
  pub each : (k : ℕ) → k < length moves → IsTold job (stock_met job (uncut job) moves k) (move_at moves k) (slice_index_or stops k None)

-- ---- by rows

-- row j of the uncut stock, as move k meets it after all moves before
abbrev pub row_met : JobFields → List Move → ℕ → ℕ → RowState
row_met job moves k j = row_before job moves (uncut_row job j) k

-- a move passes the test of its kind in each row before row n, the rows being these by their numbers
abbrev pub CutClears : JobFields → (ℕ → RowState) → Move → ℕ → Type 0
CutClears job rows m n = (j : ℕ) → j < n → CutClearsRow job (rows j) m

-- and so does the job's holder
abbrev pub HolderClears : JobFields → (ℕ → RowState) → Move → ℕ → Type 0
HolderClears job rows m n = (j : ℕ) → j < n → HolderClearsRow job (rows j) m

-- both
pub record ClearsRows (job : JobFields) (rows : ℕ → RowState) (m : Move) (n : ℕ) : Type 0 where
  pub cut : CutClears job rows m n
  pub holder : HolderClears job rows m n

-- the stop's row is the first in which the cutter is stopped, at the stop's column and leaf
pub record IsCutRow (job : JobFields) (rows : ℕ → RowState) (m : Move) (n : ℕ) (stop : Stop) : Type 0 where
  pub there : stop.row < n
  pub before : CutClears job rows m stop.row
  pub stops : CutStopsAt job (rows stop.row) m stop.col stop.leaf

-- the cutter passes each row, and the stop's row is the first in which the holder is stopped, at the stop's column and leaf
pub record IsHolderRow (job : JobFields) (rows : ℕ → RowState) (m : Move) (n : ℕ) (stop : Stop) : Type 0 where
  pub there : stop.row < n
  pub cut : CutClears job rows m n
  pub before : HolderClears job rows m stop.row
  pub stops : IsFirstHolderStop job (rows stop.row) m stop.col stop.leaf

-- so it is by the test that the stop names
abbrev pub StopsRowBy : RowTest → JobFields → (ℕ → RowState) → Move → ℕ → Stop → Type 0
StopsRowBy test.Cut job rows m n stop = IsCutRow job rows m n stop
StopsRowBy test.Holder job rows m n stop = IsHolderRow job rows m n stop

-- what the rows before row n tell of a move: where they stop it, or that it passes them
abbrev pub IsToldBy : JobFields → (ℕ → RowState) → Move → ℕ → Option Stop → Type 0
IsToldBy job rows m n told = MatchOption told (ClearsRows job rows m n) (λ stop. StopsRowBy stop.test job rows m n stop)

-- so much the rows before row n tell of each move, as it meets them
pub record AreToldBy (job : JobFields) (moves : List Move) (n : ℕ) (stops : List (Option Stop)) : Type 0 where
  pub count : length stops ≡ length moves
  pub each : (k : ℕ) → k < length moves → IsToldBy job (row_met job moves k) (move_at moves k) n (slice_index_or stops k None)

-- the stop that a row's failure makes
abbrev pub stop_in : ℕ → RowFail → Stop
stop_in row fail = record { row = row; col = fail.col; leaf = fail.leaf; test = fail.test }

-- the first of a stop so far and one in a later row: the cutter's test comes before the holder's, and then the earlier row
abbrev pub earlier : RowTest → RowTest → Stop → Stop → Stop
earlier test.Holder test.Cut stop later = later
earlier test.Holder test.Holder stop later = stop
earlier test.Cut t stop later = stop

abbrev pub first_of : Option Stop → Stop → Stop
first_of None later = later
first_of (Some stop) later = earlier stop.test later.test stop later

-- what is told so far, after row number n, which may have stopped the move
abbrev pub told_with : ℕ → Option Stop → Option RowFail → Option Stop
told_with row told None = told
told_with row told (Some fail) = Some (first_of told (stop_in row fail))
