-- The band that a move stands in, rows that go over a band, and the columns of a row that a test needs not be tried at.
use Rattle.std.specs.Prelude.{◌≡◌, ℕ, ◌<◌, ◌≤◌, ℤ, List, IfSome}
use Rattle.mill_base.specs.Solids.{Solid}
use Rattle.mill_base.specs.declared.motion.Move.{Move}
use Rattle.mill_base.specs.declared.motion.Kind.{Kind}
use Rattle.mill_job.specs.declared.fields.JobFields.{JobFields}
use Rattle.mill_sweep.specs.Reach.{margin_of}
use Rattle.mill_job.specs.Columns.{column_count, column_y}
use Rattle.mill_job.specs.Solids.{holder_solid_of, inner_of}
use Rattle.mill_dexel.specs.declared.band.Band.{Band}
use Rattle.mill_dexel.specs.Rows.{RowState, Test, PassesAt}
use Rattle.mill_dexel.specs.inner.Cuts.{IsBeyond}
use Rattle.mill_dexel.specs.Bands.{IsBand}

-- the band has move t in it, and none from the first so many on
pub record IsBandAround (moves : List Move) (count t : ℕ) (band : Band) : Type 0 where
  pub first : band.first ≤ t
  pub onward : t < band.«end»
  pub within : band.«end» ≤ count
  pub is_band : IsBand moves band

-- a row at y is at least the radius of what the cutter removes for sure and 2 away from the interval from a to b, and the radius of the holder, if there is one, and 2
pub record IsAway (job : JobFields) (a b y : ℤ) : Type 0 where
  pub cut : IsBeyond (margin_of (inner_of job).cutter) a b y
  pub holder : IfSome (holder_solid_of job) (λ holder. IsBeyond (margin_of holder.cutter) a b y)

-- the row goes over the moves of a band at once, which stays that far away from it
pub record PassesOver (job : JobFields) (band : Band) (old new : RowState) : Type 0 where
  pub first : band.first ≤ old.done
  pub onward : old.done ≤ band.«end»
  pub away : IsAway job band.low band.high (column_y job old.row)
  pub is : new ≡ record old { done = band.«end» }

-- a solid on a move, tried at the heights of a kind
abbrev pub trying : Solid → Kind → Move → Test
trying solid kind m = record { solid = solid; move = m; kind = kind }

-- a test passes the columns of a row before this one, and those from that one on
pub record PassesBeside (job : JobFields) (test : Test) (r : RowState) (first «end» : ℕ) : Type 0 where
  pub before : (k : ℕ) → k < first → PassesAt job test r k
  pub behind : (k : ℕ) → «end» ≤ k → k < column_count job → PassesAt job test r k
