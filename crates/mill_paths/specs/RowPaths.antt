-- The points of the paths along a plan's rows, in the order in which they are come to.
use Rattle.std.specs.Prelude.{◌≡◌, ℕ, ◌-◌, ℤ, pos, List, slice_index_or}
use Rattle.std.specs.List.{AllZip, range_with_len}
use Rattle.mill_base.specs.Lattices.{lattice_ys}
use Rattle.mill_base.specs.declared.points.Pt3.{Pt3}
use Rattle.mill_base.specs.declared.points.Tri.{Tri}
use Rattle.mill_job.specs.declared.fields.JobFields.{JobFields}
use Rattle.mill_paths.specs.Lattices.{finish_lattice}
use Rattle.mill_paths.specs.Visits.{IsRowPath, in_turn}

-- where the row of this number lies in y
abbrev pub row_y : JobFields → ℕ → ℤ
row_y job row = slice_index_or (lattice_ys (finish_lattice job)) row (pos 0)

-- these are the points of the path along the row of this number, in the order in which they are come to
pub record IsTurnedPath (job : JobFields) (part : List Tri) (tol : ℤ) (row : ℕ) (points : List Pt3) : Type 0 where
  pub path : List Pt3
  pub is : IsRowPath job part tol (row_y job row) path
  pub turned : points ≡ in_turn row path

-- these are those of the paths along the rows from this one on, up to the row of number end
abbrev pub AreTurnedPaths : JobFields → List Tri → ℤ → ℕ → ℕ → List (List Pt3) → Type 0
AreTurnedPaths job part tol first end paths = AllZip (IsTurnedPath job part tol) (range_with_len first (end - first)) paths
