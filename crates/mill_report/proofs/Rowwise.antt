-- What the rows of a stock tell of a move, in the terms of its columns.
use Rattle.std.specs.Prelude.{◌≡◌, ℕ, ◌<◌, pos, Option, None, Some, refl}
use Rattle.std.proofs.Common.{sym, subst, inl, inr}
use Rattle.mill_base.specs.Points.{point_tri}
use Rattle.mill_base.specs.Solids.{Solid}
use Rattle.mill_base.specs.declared.points.Pt3.{Pt3}
use Rattle.mill_base.specs.declared.motion.Move.{Move}
use Rattle.mill_base.specs.declared.motion.Kind.{Kind}
use Rattle.mill_sweep.specs.Solids.{SolidFailsAt, SolidIsBlocked, SolidPassesPoint}
use Rattle.mill_job.specs.Solids.{holder_solid_of}
use Rattle.mill_job.specs.declared.fields.JobFields.{JobFields}
use Rattle.mill_job.specs.Columns.{IsBefore, IsColumn, column_count, row_count}
use Rattle.mill_dexel.specs.Rows.{HolderClearsRow, IsColumnBlocked, IsFirstStop, PassesRow, RowState, Test, cutting, holding, row_point}
use Rattle.mill_dexel.specs.Stocks.{ShowsRow}
use Rattle.mill_dexel.specs.Tops.{ClearsColumnsOn, HolderClearsColumnsOn, Stock, tested_point_on, top_point_on}
use Rattle.mill_dexel.specs.declared.fail.RowTest.{RowTest}
use Rattle.mill_dexel.specs.declared.fail.RowTest.TheVariants as test
use Rattle.mill_dexel.proofs.RowLaws.{row_tops-at}
use Rattle.mill_verify.proofs.Mounted.{if_some, of_some}
use Rattle.mill_report.specs.inner.Stops.{CutClears, HolderClears, IsColumnStop, IsCutRow, IsCutStop, IsHolderRow, IsHolderStop, IsTold, IsToldBy, StopsBy, StopsRowBy}
use Rattle.mill_report.specs.declared.pass.Stop.{Stop}

module _ (job : JobFields) (stock : Stock) (rows : ℕ → RowState) (shows : (j : ℕ) → ShowsRow job stock j (rows j)) (m : Move) where
  -- the point at which a move of a kind is tested at a column
  point_is : (kind : Kind) (j i : ℕ) → i < column_count job → row_point job kind (rows j) i ≡ tested_point_on job kind stock j i
  point_is kind j i column = let row = shows j in rw (row.number, row.after, row_tops-at job stock j i (pos 0) column) refl

  -- what a row passes, its columns do
  row_passes : (t : Test) (j i : ℕ) → IsColumn job j i → PassesRow job t (rows j) → SolidPassesPoint t.solid t.move (tested_point_on job t.kind stock j i)
  row_passes t j i column passes = subst (λ (p : Pt3). SolidPassesPoint t.solid t.move p) (point_is t.kind j i column.column) (passes i column.column)

  -- where a row is the first that stops a test, its column is
  row_stops : (t : Test) (stop : Stop) → stop.row < row_count job → ((j : ℕ) → j < stop.row → PassesRow job t (rows j)) → IsFirstStop job t (rows stop.row) stop.col stop.leaf
      → IsColumnBlocked job t (rows stop.row) stop.col stop.leaf → IsColumnStop job stock t stop
  row_stops t stop there before stops blocked = record {
    column = column;
    first = first;
    fails = subst (λ (p : Pt3). SolidFailsAt t.solid t.move (point_tri p) stop.leaf) here stops.fails;
    blocked = subst (λ (p : Pt3). SolidIsBlocked t.solid t.move (point_tri p) stop.leaf) here blocked;
  }
    where
      column : IsColumn job stop.row stop.col
      column = record { row = there; column = stops.column }

      here : row_point job t.kind (rows stop.row) stop.col ≡ tested_point_on job t.kind stock stop.row stop.col
      here = point_is t.kind stop.row stop.col stops.column

      first : (a b : ℕ) → IsColumn job a b → IsBefore a b stop.row stop.col → SolidPassesPoint t.solid t.move (tested_point_on job t.kind stock a b)
      first a b at (inl row) = row_passes t a b at (before a row)
      first a b at (inr same) =
          subst (λ (p : Pt3). SolidPassesPoint t.solid t.move p) (point_is t.kind a b at.column)
          (subst (λ (j : ℕ). SolidPassesPoint t.solid t.move (row_point job t.kind (rows j) b)) (sym same.0) (stops.before b same.1))

  -- the cutter
  cut_clears : CutClears job rows m (row_count job) → ClearsColumnsOn job stock m
  cut_clears clears tested j i column = row_passes (cutting job m.kind m) j i column (clears j column.row tested)

  cut_stops : (stop : Stop) → IsCutRow job rows m (row_count job) stop → IsCutStop job stock m stop
  cut_stops stop h = record {
    tested = h.stops.tested;
    at = row_stops (cutting job m.kind m) stop h.there (λ j less. h.before j less h.stops.tested) h.stops.column h.stops.blocked;
  }

  -- and the holder
  held_passes : (holder : Solid) → holder_solid_of job ≡ Some holder → (j : ℕ) → HolderClearsRow job (rows j) m → PassesRow job (holding holder m) (rows j)
  held_passes holder mounted j clears = of_some (λ (h : Solid). PassesRow job (holding h m) (rows j)) (holder_solid_of job) holder mounted clears

  holder_clears : HolderClears job rows m (row_count job) → HolderClearsColumnsOn job stock m
  holder_clears clears =
      if_some (λ (holder : Solid). (j i : ℕ) → IsColumn job j i → SolidPassesPoint holder m (top_point_on job stock j i)) (holder_solid_of job)
      (λ holder mounted j i column. row_passes (holding holder m) j i column (held_passes holder mounted j (clears j column.row)))

  holder_stops : (stop : Stop) → IsHolderRow job rows m (row_count job) stop → IsHolderStop job stock m stop
  holder_stops stop h = record {
    cut = cut_clears h.cut;
    holder = h.stops.holder;
    mounted = h.stops.there;
    at = row_stops (holding h.stops.holder m) stop h.there (λ j less. held_passes h.stops.holder h.stops.there j (h.before j less)) h.stops.column h.stops.blocked;
  }

  -- so what all rows tell of the move is told of it on the stock
  pub told_on : (told : Option Stop) → IsToldBy job rows m (row_count job) told → IsTold job stock m told
  told_on None h = record { cut = cut_clears h.cut; holder = holder_clears h.holder }
  told_on (Some stop) h = by stop.test h
    where
      by : (t : RowTest) → StopsRowBy t job rows m (row_count job) stop → StopsBy t job stock m stop
      by test.Cut h = cut_stops stop h
      by test.Holder h = holder_stops stop h
