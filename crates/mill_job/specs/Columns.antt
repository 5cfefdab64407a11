-- The columns of a job, by row and column number, both from 0.
use Rattle.std.specs.Prelude.{◌≡◌, ◌⊎◌, ℕ, ◌+◌, ◌/◌, ◌<◌, ℤ, pos, ◌+ℤ◌, ◌-ℤ◌, ◌*ℤ◌, nat_abs}
use Rattle.mill_base.specs.declared.points.Pt3.{Pt3}
use Rattle.mill_job.specs.declared.fields.JobFields.{JobFields}

-- how many positions lie from a to b at steps of pitch
abbrev pub positions : ℤ → ℤ → ℤ → ℕ
positions a b pitch = nat_abs (b -ℤ a) / nat_abs pitch + 1

abbrev pub row_count : JobFields → ℕ
row_count job = positions job.area.y0 job.area.y1 job.pitch

abbrev pub column_count : JobFields → ℕ
column_count job = positions job.area.x0 job.area.x1 job.pitch

-- where column i of row j stands
abbrev pub column_x : JobFields → ℕ → ℤ
column_x job i = job.area.x0 +ℤ pos i *ℤ job.pitch

abbrev pub column_y : JobFields → ℕ → ℤ
column_y job j = job.area.y0 +ℤ pos j *ℤ job.pitch

-- the job has a column i in row j
pub record IsColumn (job : JobFields) (j i : ℕ) : Type 0 where
  pub row : j < row_count job
  pub column : i < column_count job

-- (a, b) comes before (j, i) by row first
abbrev pub IsBefore : ℕ → ℕ → ℕ → ℕ → Type 0
IsBefore a b j i = (a < j) ⊎ ((a ≡ j) × (b < i))

-- where a program starts
abbrev pub home : JobFields → Pt3
home job = record { x = job.home.x; y = job.home.y; z = job.clear }
