-- A row through its turns, in the terms of the tests.
use Rattle.std.specs.Prelude.{◌≡◌, ℕ, ◌<◌, ℤ, List, None, IfSome}
use Rattle.std.proofs.Common.{◌∙◌, ap, subst, arith}
use Rattle.mill_base.specs.Points.{point_at, point_tri}
use Rattle.mill_base.specs.Solids.{Solid}
use Rattle.mill_base.specs.declared.points.Pt3.{Pt3}
use Rattle.mill_base.specs.declared.motion.Move.{Move}
use Rattle.mill_base.specs.declared.motion.Kind.{Kind}
use Rattle.mill_sweep.specs.Solids.{SolidFailsAt, SolidIsBlocked, SolidPassesPoint}
use Rattle.mill_sweep.specs.declared.leaf.Leaf.{Leaf}
use Rattle.mill_job.specs.Solids.{holder_solid_of}
use Rattle.mill_job.specs.declared.fields.JobFields.{JobFields}
use Rattle.mill_job.specs.Columns.{IsColumn, column_count, column_x, column_y, row_count}
use Rattle.mill_dexel.specs.Tops.{IsTested, Stock, row_tops, tested_height, tested_point_on, top_point_on}
use Rattle.mill_dexel.specs.Rows.{HolderPassesRow, IsColumnBlocked, IsFirstStop, PassesRow, RowState, Test, cutting, fresh_row, holding, row_point}
use Rattle.mill_dexel.specs.Turns.{ClearsRow, CutClearsRow, move_at, row_before}
use Rattle.mill_dexel.proofs.RowLaws.{row_tops-at}
use Rattle.mill_dexel.proofs.Shows.{met_shows}
use Rattle.mill_verify.specs.Tests.{HolderClearsStockOn, PassesColumnOn, stock_met}
use Rattle.mill_verify.proofs.Mounted.{each_some, if_some, of_some}

-- a row as move k meets it
pub before_is : (job : JobFields) (start : Stock) (moves : List Move) (j k : ℕ)
    → row_before job moves (fresh_row job start j) k ≡ record { row = j; tops = row_tops job (stock_met job start moves k) j; done = k; failed = None }
before_is job start moves j k = ap (λ (ts : List ℤ). record { row = j; tops = ts; done = k; failed = None }) (met_shows job start j moves k).after

-- the point of a column at which a move of this kind is tested, as move k meets the row
point_is : (job : JobFields) (start : Stock) (kind : Kind) (moves : List Move) (j k i : ℕ) → i < column_count job
    → row_point job kind (row_before job moves (fresh_row job start j) k) i ≡ tested_point_on job kind (stock_met job start moves k) j i
point_is job start kind moves j k i h =
    ap (λ (r : RowState). row_point job kind r i) (before_is job start moves j k)
    ∙ ap (λ (t : ℤ). point_at (column_x job i) (column_y job j) (tested_height job kind t)) (row_tops-at job (stock_met job start moves k) j i _ h)

-- test (iii) of move k by row j
abbrev pub RowClears : JobFields → Stock → List Move → ℕ → ℕ → Type 0
RowClears job start moves k j = IsTested job (move_at moves k).kind → (i : ℕ) → i < column_count job → PassesColumnOn job start moves k j i

-- test (iii h) of move k by row j
abbrev pub HolderPassesTops : Solid → JobFields → Stock → List Move → ℕ → ℕ → Type 0
HolderPassesTops holder job start moves k j = (i : ℕ) → i < column_count job → SolidPassesPoint holder (move_at moves k) (top_point_on job (stock_met job start moves k) j i)

abbrev pub RowHolderClears : JobFields → Stock → List Move → ℕ → ℕ → Type 0
RowHolderClears job start moves k j = IfSome (holder_solid_of job) (λ holder. HolderPassesTops holder job start moves k j)

-- a test of a row fails in row j of the stock that move k meets, at column i first, where the leaf is blocked
pub record IsRowStop (test : Test) (job : JobFields) (start : Stock) (moves : List Move) (k j i : ℕ) (leaf : Leaf) : Type 0 where
  pub column : i < column_count job
  pub before : (e : ℕ) → e < i → SolidPassesPoint test.solid test.move (tested_point_on job test.kind (stock_met job start moves k) j e)
  pub fails : SolidFailsAt test.solid test.move (point_tri (tested_point_on job test.kind (stock_met job start moves k) j i)) leaf
  pub blocked : SolidIsBlocked test.solid test.move (point_tri (tested_point_on job test.kind (stock_met job start moves k) j i)) leaf

less : (a b c : ℕ) → a < b → b < c → a < c
less a b c h g = omega (h, g, arith)

module _ (job : JobFields) (start : Stock) (moves : List Move) (k j : ℕ) where
  abbrev met : RowState
  met = row_before job moves (fresh_row job start j) k

  abbrev step : Move
  step = move_at moves k

  -- a test that the row passes, as move k meets it, the stock's columns in it pass
  row_passes : (test : Test) → PassesRow job test met → (i : ℕ) → i < column_count job → SolidPassesPoint test.solid test.move (tested_point_on job test.kind (stock_met job start moves k) j i)
  row_passes test passes i there = subst (λ (p : Pt3). SolidPassesPoint test.solid test.move p) (point_is job start test.kind moves j k i there) (passes i there)

  -- a move of which a row passes the tests, as that move meets it, passes test (iii) there
  pub row_cut_clears : CutClearsRow job met step → RowClears job start moves k j
  row_cut_clears clears tested = row_passes (cutting job step.kind step) (clears tested)

  pub row_clears : ClearsRow job met step → RowClears job start moves k j
  row_clears clears = row_cut_clears clears.cut

  -- and test (iii h)
  pub row_holder_clears : ClearsRow job met step → RowHolderClears job start moves k j
  row_holder_clears clears =
      each_some (λ (holder : Solid). HolderPassesRow holder job met step) (λ (holder : Solid). HolderPassesTops holder job start moves k j) (holder_solid_of job)
      (λ holder. row_passes (holding holder step)) clears.holder

  -- one that the row doesn't pass fails in the stock's columns
  pub row_stops : (test : Test) (i : ℕ) (leaf : Leaf) → IsFirstStop job test met i leaf → IsColumnBlocked job test met i leaf → IsRowStop test job start moves k j i leaf
  row_stops test i leaf stop blocked =
      let here = point_is job start test.kind moves j k i stop.column in
      record {
        column = stop.column;
        before = λ e h. subst (λ (p : Pt3). SolidPassesPoint test.solid test.move p) (point_is job start test.kind moves j k e (less e i (column_count job) h stop.column)) (stop.before e h);
        fails = subst (λ (p : Pt3). SolidFailsAt test.solid test.move (point_tri p) leaf) here stop.fails;
        blocked = subst (λ (p : Pt3). SolidIsBlocked test.solid test.move (point_tri p) leaf) here blocked;
      }

-- a move that passes test (iii h) in each row passes it
pub holder_clears_all : (job : JobFields) (start : Stock) (moves : List Move) (k : ℕ) → ((j : ℕ) → j < row_count job → RowHolderClears job start moves k j) → HolderClearsStockOn job start moves k
holder_clears_all job start moves k each =
    if_some (λ (holder : Solid). (j i : ℕ) → IsColumn job j i → SolidPassesPoint holder (move_at moves k) (top_point_on job (stock_met job start moves k) j i)) (holder_solid_of job)
    (λ holder there j i column. of_some (λ (h : Solid). HolderPassesTops h job start moves k j) (holder_solid_of job) holder there (each j column.row) i column.column)
