-- What one sample does to the tops of a row, and which columns and rows it leaves alone.
use Rattle.std.specs.Prelude.{◌≡◌, ◌⊎◌, ℕ, ◌<◌, ◌≤◌, ℤ, pos, ◌+ℤ◌, ◌*ℤ◌, ◌≤ℤ◌, List, length, Option, Some}
use Rattle.mill_base.specs.Numbers.{square}
use Rattle.mill_base.specs.Solids.{solid_tip}
use Rattle.mill_base.specs.declared.points.Pt3.{Pt3}
use Rattle.mill_job.specs.declared.fields.JobFields.{JobFields}
use Rattle.mill_job.specs.Columns.{row_count, column_count, column_x, column_y}
use Rattle.mill_job.specs.Solids.{inner_of}
use Rattle.mill_sweep.specs.Reach.{margin_of}
use Rattle.mill_dexel.specs.declared.sample.Placed.{Placed}
use Rattle.mill_dexel.specs.Samples.{placed}
use Rattle.mill_dexel.specs.Tops.{top_after_sample}
use Rattle.mill_dexel.specs.Rows.{top_at}

-- each top of row j is lowered to where the sample's cutter, if there is one, cuts its column
pub record IsCutBy (job : JobFields) (j : ℕ) (s : Option Placed) (old new : List ℤ) : Type 0 where
  pub columns : length new ≡ length old
  pub each : (i : ℕ) → i < length old → top_at new i ≡ top_after_sample job.floor (column_x job i) (column_y job j) (top_at old i) s

-- the tops of row j aren't lowered by what the cutter removes for sure with the tool's tip at this point: it has cut there, or is too far away
abbrev pub IsCutAt : JobFields → ℕ → Pt3 → List ℤ → Type 0
IsCutAt job j tip tops = IsCutBy job j (Some (placed (inner_of job).cutter (solid_tip (inner_of job) (pos 1) tip))) tops tops

-- x is at least r under, or over, both a and b
pub record IsUnderBy (r a b x : ℤ) : Type 0 where
  pub first : (x +ℤ r) ≤ℤ a
  pub second : (x +ℤ r) ≤ℤ b

pub record IsOverBy (r a b x : ℤ) : Type 0 where
  pub first : (a +ℤ r) ≤ℤ x
  pub second : (b +ℤ r) ≤ℤ x

-- of so many places at steps of pitch from start on, all that are nearer than r to the interval from a to b are among those from number first on, before end
pub record IsReachAlong (start pitch : ℤ) (count : ℕ) (r a b : ℤ) (first «end» : ℕ) : Type 0 where
  pub within : «end» ≤ count
  pub under : (i : ℕ) → i < first → IsUnderBy r a b (start +ℤ pos i *ℤ pitch)
  pub over : (i : ℕ) → «end» ≤ i → i < count → IsOverBy r a b (start +ℤ pos i *ℤ pitch)

-- so are all columns of a row in x
abbrev pub IsReachBy : JobFields → ℤ → ℤ → ℤ → ℕ → ℕ → Type 0
IsReachBy job r a b first «end» = IsReachAlong job.area.x0 job.pitch (column_count job) r a b first «end»

-- and all rows in y, by the radius of what it removes for sure and the last reach, beyond which a move passes each column
abbrev pub IsRowReach : JobFields → ℤ → ℤ → ℕ → ℕ → Type 0
IsRowReach job a b first «end» = IsReachAlong job.area.y0 job.pitch (row_count job) (margin_of (inner_of job).cutter) a b first «end»

-- y is at least r away from the interval from a to b
abbrev pub IsBeyond : ℤ → ℤ → ℤ → ℤ → Type 0
IsBeyond r a b y = IsUnderBy r a b y ⊎ IsOverBy r a b y

-- at least half the chord of a circle of radius r that a row crosses at this distance from the middle
pub record IsHalfChord (r distance chord : ℤ) : Type 0 where
  pub least : (pos 1) ≤ℤ chord
  pub wide : square r ≤ℤ (square chord +ℤ square distance)
