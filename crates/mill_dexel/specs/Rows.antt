-- A row of columns, and the first of its columns that the cutter, or its holder, doesn't pass on a move.
use Rattle.std.specs.Prelude.{◌≡◌, ℕ, ◌<◌, ℤ, pos, List, length, All, Option, None, Some, IfSome, slice_index_or}
use Rattle.mill_base.specs.Points.{point_at, point_tri}
use Rattle.mill_base.specs.Solids.{Solid}
use Rattle.mill_base.specs.declared.points.Pt3.{Pt3}
use Rattle.mill_base.specs.declared.points.Tri.{Tri}
use Rattle.mill_base.specs.declared.motion.Move.{Move}
use Rattle.mill_base.specs.declared.motion.Kind.{Kind}
use Rattle.mill_base.specs.declared.motion.Kind.TheVariants.{Rapid}
use Rattle.mill_job.specs.declared.fields.JobFields.{JobFields}
use Rattle.mill_job.specs.Columns.{row_count, column_count, column_x, column_y}
use Rattle.mill_job.specs.Jobs.{IsFrom}
use Rattle.mill_job.specs.Solids.{holder_solid_of, stock_solid_of}
use Rattle.mill_sweep.specs.Solids.{SolidFailsAt, SolidIsBlocked, SolidPassesPoint}
use Rattle.mill_sweep.specs.declared.leaf.Leaf.{Leaf}
use Rattle.mill_dexel.specs.Tops.{Stock, row_tops, tested_height, uncut}
use Rattle.mill_dexel.specs.declared.fail.RowFail.{RowFail}

-- the number of a row, the tops of its columns, how many moves have cut it, and where one was stopped
pub record RowState : Type 0 where
  pub row : ℕ
  pub tops : List ℤ
  pub done : ℕ
  pub failed : Option RowFail

-- row j of a stock, before the first move
abbrev pub fresh_row : JobFields → Stock → ℕ → RowState
fresh_row job stock j = record { row = j; tops = row_tops job stock j; done = 0; failed = None }

-- row j of the uncut stock, before the first move
abbrev pub uncut_row : JobFields → ℕ → RowState
uncut_row job j = fresh_row job (uncut job) j

-- a row with the same tops before the first move of another list
abbrev pub restarted : RowState → RowState
restarted r = record r { done = 0; failed = None }

-- the top of column i
abbrev pub top_at : List ℤ → ℕ → ℤ
top_at tops i = slice_index_or tops i (pos 0)

-- the row is one of the job's, with a top for each column, from the floor to the uncut stock's top
pub record IsRowOf (job : JobFields) (r : RowState) : Type 0 where
  pub there : r.row < row_count job
  pub columns : length r.tops ≡ column_count job
  pub in_stock : All (IsFrom job.floor job.top) r.tops

-- the point of column i at which a move of this kind is tested
abbrev pub row_point : JobFields → Kind → RowState → ℕ → Pt3
row_point job kind r i = point_at (column_x job i) (column_y job r.row) (tested_height job kind (top_at r.tops i))

-- the tops of the uncut row, as a flat triangle, from its least x to its greatest
abbrev pub uncut_tri : JobFields → ℕ → Tri
uncut_tri job j = record {
  a = point_at job.area.x0 (column_y job j) job.top;
  b = point_at job.area.x1 (column_y job j) job.top;
  c = point_at job.area.x1 (column_y job j) job.top;
}

-- ---- the tests of a move by a row

-- what a row is tried with: a solid, the tool's move, and the kind of move at whose heights
pub record Test : Type 0 where
  pub solid : Solid
  pub move : Move
  pub kind : Kind

-- the cutter's test, as a move of this kind is tested
abbrev pub cutting : JobFields → Kind → Move → Test
cutting job kind m = record { solid = stock_solid_of job; move = m; kind = kind }

-- the holder's test of a move of the cutter under it, at the columns' tops
abbrev pub holding : Solid → Move → Test
holding holder m = record { solid = holder; move = m; kind = Rapid }

-- the test passes column i, at the point at which a move of its kind is tested
abbrev pub PassesAt : JobFields → Test → RowState → ℕ → Type 0
PassesAt job test r i = SolidPassesPoint test.solid test.move (row_point job test.kind r i)

-- so it passes each column of the row
abbrev pub PassesRow : JobFields → Test → RowState → Type 0
PassesRow job test r = (i : ℕ) → i < column_count job → PassesAt job test r i

-- column i is the first that the test doesn't pass, and it fails at this segment
pub record IsFirstStop (job : JobFields) (test : Test) (r : RowState) (i : ℕ) (leaf : Leaf) : Type 0 where
  pub column : i < column_count job
  pub before : (k : ℕ) → k < i → PassesAt job test r k
  pub fails : SolidFailsAt test.solid test.move (point_tri (row_point job test.kind r i)) leaf

-- the tested point of column i blocks this segment of the test's move
abbrev pub IsColumnBlocked : JobFields → Test → RowState → ℕ → Leaf → Type 0
IsColumnBlocked job test r i leaf = SolidIsBlocked test.solid test.move (point_tri (row_point job test.kind r i)) leaf

-- a holder passes the row's tops
abbrev pub HolderPassesRow : Solid → JobFields → RowState → Move → Type 0
HolderPassesRow holder job r m = PassesRow job (holding holder m) r

-- so does the job's, if it has one
abbrev pub HolderClearsRow : JobFields → RowState → Move → Type 0
HolderClearsRow job r m = IfSome (holder_solid_of job) (λ holder. HolderPassesRow holder job r m)

-- the job has a holder, and column i is the first whose top it doesn't pass, and the column's top blocks this segment
pub record IsFirstHolderStop (job : JobFields) (r : RowState) (m : Move) (i : ℕ) (leaf : Leaf) : Type 0 where
  pub holder : Solid
  pub there : holder_solid_of job ≡ Some holder
  pub column : IsFirstStop job (holding holder m) r i leaf
  pub blocked : IsColumnBlocked job (holding holder m) r i leaf
