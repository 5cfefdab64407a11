-- What the path along one row needs, and the visits along the first rows. It serves the functions within.
use Rattle.std.specs.Prelude.{◌≡◌, ℕ, ◌<◌, ◌≤◌, ℤ, pos, ◌≤ℤ◌, List, [], ◌∷◌, ◌++◌, length}
use Rattle.mill_base.specs.Lattices.{lattice_ys, node_count}
use Rattle.mill_base.specs.declared.lattice.Lattice.{Lattice}
use Rattle.mill_base.specs.declared.limits.TheConstants.{MAX_NODES}
use Rattle.mill_base.specs.declared.points.Pt3.{Pt3}
use Rattle.mill_base.specs.declared.points.Tri.{Tri}
use Rattle.mill_job.specs.Jobs.{IsFrom}
use Rattle.mill_job.specs.declared.fields.JobFields.{JobFields}
use Rattle.mill_job.specs.declared.limits.TheConstants.{MAX_DISTANCE}
use Rattle.mill_links.specs.declared.visit.Visit.{Visit}
use Rattle.mill_paths.specs.Lattices.{finish_lattice}
use Rattle.mill_paths.specs.Limits.{HasManyNodes}
use Rattle.mill_paths.specs.Visits.{AreFirstPaths, row_visits_from, visits_after}
use Rattle.mill_paths.specs.declared.fault.PathFault.{PathFault}
use Rattle.mill_paths.specs.declared.fault.PathFault.TheVariants.{TooManyNodes, TooManyVisits, WantOfMemory}

-- the point lies over the job's area in x
pub record IsInArea (job : JobFields) (p : Pt3) : Type 0 where
  pub from_x0 : job.area.x0 ≤ℤ p.x
  pub to_x1 : p.x ≤ℤ job.area.x1

-- what the path along the row of this number needs
pub record IsRowTask (job : JobFields) (tol : ℤ) (row : ℕ) : Type 0 where
  pub tol_ok : IsFrom (pos 0) MAX_DISTANCE tol
  pub few : node_count (finish_lattice job) ≤ MAX_NODES
  pub row_ok : row < length (lattice_ys (finish_lattice job))

-- the last of a point and of those after it
abbrev pub last_point : Pt3 → List Pt3 → Pt3
last_point before [] = before
last_point before (p ∷ points) = last_point p points

-- to a list the visits at these points are added, which come after one, and it has come to the last of them
pub record AreAdded (job : JobFields) (first : Pt3) (points : List Pt3) (start : List Visit) (last : Pt3) (list : List Visit) : Type 0 where
  pub come : last ≡ last_point first points
  pub inside : IsInArea job last
  pub visits : list ≡ start ++ visits_after job first points

-- these are the visits along the paths of the first rows, so many of them
pub record AreFirstVisits (job : JobFields) (part : List Tri) (tol : ℤ) (rows : ℕ) (list : List Visit) : Type 0 where
  pub paths : List (List Pt3)
  pub are : AreFirstPaths job part tol rows paths
  pub visits : list ≡ row_visits_from job 0 paths

-- what a fault tells of the finishing visits: the lattice has too many nodes; or it hasn't, and too many visits differ from the one before them, as the fact says; or
-- it hasn't, and nothing more
abbrev pub IsFinishFault : Lattice → Type 0 → PathFault → Type 0
IsFinishFault lattice many (TooManyNodes nodes) = HasManyNodes lattice nodes
IsFinishFault lattice many TooManyVisits = (node_count lattice ≤ MAX_NODES) × many
IsFinishFault lattice many WantOfMemory = node_count lattice ≤ MAX_NODES
