-- The sample part of a size, and the job that it is planned with.
use Rattle.std.specs.Prelude.{◌≡◌, ◌≤◌, ℕ, ◌+◌, ◌*◌, ◌%◌, pos, List, [], ◌∷◌, None, false}
use Rattle.std.specs.List.{flat_map, range_with_len}
use Rattle.mill_base.specs.declared.cutter.Cutter.TheVariants.{Ball}
use Rattle.mill_base.specs.declared.points.Pt3.{Pt3}
use Rattle.mill_base.specs.declared.points.Tri.{Tri}
use Rattle.mill_base.specs.declared.unit.Unit.TheVariants.{Hundredth}
use Rattle.mill_decimal.specs.declared.snap.Snap.TheVariants.{Nearest}
use Rattle.mill_job.specs.declared.fields.JobFields.{JobFields}
use Rattle.mill_job.specs.declared.habits.Rapids.TheVariants.{Straight}
use Rattle.mill_job.specs.declared.habits.Start.TheVariants.{Home}
use Rattle.mill_job.specs.declared.habits.ToolLengths.TheVariants.{Table}
use Rattle.mill_job.specs.declared.habits.Words.TheVariants.{Strict}
use Rattle.mill_base.specs.Covers.{IsUnder}

-- ---- the part

-- the node (i, j): nodes stand 100 units apart in x and in y, at heights from 100 to 139
abbrev pub sample_node : ℕ → ℕ → Pt3
sample_node i j = record { x = pos (100 * i); y = pos (100 * j); z = pos (100 + (7 * i * i + 13 * j * j + 5 * i * j) % 40) }

-- the two triangles between the nodes (i, j) and (i + 1, j + 1)
abbrev pub sample_square : ℕ → ℕ → List Tri
sample_square j i =
    record { a = sample_node i j; b = sample_node (i + 1) j; c = sample_node (i + 1) (j + 1) }
    ∷ record { a = sample_node i j; b = sample_node (i + 1) (j + 1); c = sample_node i (j + 1) }
    ∷ []

-- those of a row of n squares, for i from 0 on
abbrev pub sample_row : ℕ → ℕ → List Tri
sample_row n j = flat_map (sample_square j) (range_with_len 0 n)

-- the sample part of size n: those of n rows, for j from 0 on
abbrev pub sample_part : ℕ → List Tri
sample_part n = flat_map (sample_row n) (range_with_len 0 n)

-- ---- the job

-- the job over that part, in hundredths: a ball of 1.00 mm, over all of the part, with columns 0.50 mm apart, of which 0.40 mm may be left
abbrev pub sample_job : ℕ → JobFields
sample_job n = record {
  unit = Hundredth;
  cutter = Ball (pos 100);
  floor = pos 0;
  top = pos 200;
  clear = pos 300;
  area = record { x0 = pos 0; y0 = pos 0; x1 = pos (100 * n); y1 = pos (100 * n) };
  home = record { x = pos 0; y = pos 0 };
  pitch = pos 50;
  sample = pos 50;
  allowance = pos 40;
  band = pos 0;
  lift = pos 0;
  raster = pos 50;
  rough_raster = pos 100;
  layer = pos 50;
  rough_stock = pos 0;
  levels = [];
  snap = Nearest;
  max_cut = pos 0;
  holder = None;
  path_tol = None;
  slack = pos 0;
  overcut = pos 0;
  graze = None;
  keep_out = [];
  rapids = Straight;
  start = Home;
  spindle = false;
  words = Strict;
  peck_clearance = None;
  lengths = Table;
  arc_tol = None;
}

-- ---- both

-- a size that a sample part may have
pub record IsSize (n : ℕ) : Type 0 where
  pub some : 1 ≤ n
  pub few : n ≤ 100

-- the job and the part of this size, which a sample part may have; the part isn't over the job's top
pub record IsSample (n : ℕ) (job : JobFields) (part : List Tri) : Type 0 where
  pub size_ok : IsSize n
  pub job_is : job ≡ sample_job n
  pub part_is : part ≡ sample_part n
  pub under : IsUnder part job.top
