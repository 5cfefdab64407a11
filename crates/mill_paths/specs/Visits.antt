-- The places that a plan comes to, in their order, from the drop heights over its lattices.
use Rattle.std.specs.Prelude.{◌≡◌, ℕ, ◌+◌, ◌-◌, ◌*◌, ◌/◌, ◌%◌, ◌==◌, ◌<◌, nat_abs, Bool, if◌then◌else◌, ℤ, pos, ◌+ℤ◌, ◌-ℤ◌, ◌*ℤ◌, ◌<ℤ◌, ◌≤ℤ◌, int_lt, int_le, List, [], ◌∷◌, ◌++◌, take, map, reverse, slice_index_or, All, MatchOption}
use Rattle.std.specs.List.{AllZip, flat_map, range_with_len}
use Rattle.mill_base.specs.Numbers.{greater}
use Rattle.mill_base.specs.Points.{point_at}
use Rattle.mill_base.specs.Ranges.{IsInUnitRange}
use Rattle.mill_base.specs.Tools.{ToolGouges}
use Rattle.mill_base.specs.declared.lattice.Lattice.{Lattice}
use Rattle.mill_base.specs.declared.points.Pt3.{Pt3}
use Rattle.mill_base.specs.declared.points.Tri.{Tri}
use Rattle.mill_base.specs.Lattices.{lattice_ys, node_at}
use Rattle.mill_base.specs.declared.limits.TheConstants.{MAX_COORDINATE}
use Rattle.mill_drop.specs.Maps.{AreDropHeights}
use Rattle.mill_drop.specs.Paths.{IsPath}
use Rattle.mill_job.specs.Jobs.{IsFrom, IsJob, tool_of}
use Rattle.mill_job.specs.declared.fields.JobFields.{JobFields}
use Rattle.mill_level.specs.Waterlines.{IsWaterline, Outline}
use Rattle.mill_links.specs.declared.visit.Visit.{Visit}
use Rattle.mill_paths.specs.Lattices.{finish_lattice, rough_lattice, zigzag_of}
use Rattle.mill_paths.specs.Limits.{change_count, most_changes}

-- the visit over the node of this number at height z
abbrev pub visit_at : Lattice → ℕ → ℤ → Visit
visit_at lattice number z = record { at = point_at (node_at lattice number).0 (node_at lattice number).1 z; step = lattice.step }

-- that visit alone, or none where the condition fails
abbrev pub visit_if : Bool → Lattice → ℕ → ℤ → List Visit
visit_if holds lattice number z = if holds then visit_at lattice number z ∷ [] else []

-- the drop height at the node of this number
abbrev pub height_at : List ℤ → ℕ → ℤ
height_at heights number = slice_index_or heights number (pos 0)

-- roughing goes down from the top by layers: how many of them end over the floor
abbrev pub layer_count : JobFields → ℕ
layer_count job = (nat_abs (job.top -ℤ job.floor) - 1) / nat_abs job.layer

-- the layers' heights, at which they end: top - layer, top - 2*layer and so on, while over the floor; without a layer there are none
abbrev pub layer_heights : JobFields → List ℤ
layer_heights job = if int_lt (pos 0) job.layer then map (λ k. job.top -ℤ pos k *ℤ job.layer) (range_with_len 1 (layer_count job)) else []

-- roughing comes to a node at a layer's height where that is at least the rough stock over the drop height
abbrev pub rough_visit : JobFields → List ℤ → ℤ → ℕ → List Visit
rough_visit job heights z number = visit_if (int_le (height_at heights number +ℤ job.rough_stock) z) (rough_lattice job) number z

-- the roughing visits on the layer of this height, in zigzag order
abbrev pub rough_visits_on : JobFields → List ℤ → ℤ → List Visit
rough_visits_on job heights z = flat_map (rough_visit job heights z) (zigzag_of (rough_lattice job))

-- the roughing visits: layer by layer from the top, and on each in zigzag order
abbrev pub rough_visits_of : JobFields → List ℤ → List Visit
rough_visits_of job heights = flat_map (rough_visits_on job heights) (layer_heights job)

-- the finishing path comes to a node at its drop height and lift, where that is under the top
abbrev pub finish_visit : JobFields → List ℤ → ℕ → List Visit
finish_visit job heights number = visit_if (int_lt (height_at heights number +ℤ job.lift) job.top) (finish_lattice job) number (height_at heights number +ℤ job.lift)

-- the finishing visits, in zigzag order
abbrev pub finish_visits_of : JobFields → List ℤ → List Visit
finish_visits_of job heights = flat_map (finish_visit job heights) (zigzag_of (finish_lattice job))

-- ---- the finishing path by a tolerance: along each row only as many places as it takes

-- the step of a visit at p that comes after a place at before: the greater of the raster and the way between them in x
abbrev pub step_from : JobFields → Pt3 → Pt3 → ℤ
step_from job before p = greater job.raster (pos (nat_abs (p.x -ℤ before.x)))

-- the visit at a point of a row's path, raised by the lift, alone; none where that isn't under the top
abbrev pub point_visit : JobFields → Pt3 → Pt3 → List Visit
point_visit job before p =
    if int_lt (p.z +ℤ job.lift) job.top then record { at = point_at p.x p.y (p.z +ℤ job.lift); step = step_from job before p } ∷ [] else []

-- the visits at these points, which come one after another, and after this one
abbrev pub visits_after : JobFields → Pt3 → List Pt3 → List Visit
visits_after job before [] = []
visits_after job before (p ∷ points) = point_visit job before p ++ visits_after job p points

-- the visits at these points; the first comes after none, and has the raster as its step
abbrev pub point_visits : JobFields → List Pt3 → List Visit
point_visits job [] = []
point_visits job (p ∷ points) = visits_after job p (p ∷ points)

-- the points of a row's path in the order in which they are come to: x ascends in the rows 0, 2, 4 and so on, and descends in the others
abbrev pub in_turn : ℕ → List Pt3 → List Pt3
in_turn row points = if row % 2 == 0 then points else reverse points

-- the visits of the rows from this one on
abbrev pub row_visits_from : JobFields → ℕ → List (List Pt3) → List Visit
row_visits_from job row [] = []
row_visits_from job row (path ∷ paths) = point_visits job (in_turn row path) ++ row_visits_from job (row + 1) paths

-- these are the points of the path along the row at this y, by this tolerance
abbrev pub IsRowPath : JobFields → List Tri → ℤ → ℤ → List Pt3 → Type 0
IsRowPath job part tol y path = IsPath (tool_of job) part y job.area.x0 job.area.x1 job.floor tol path

-- these are the paths along the first rows of the finishing lattice, so many of them
abbrev pub AreFirstPaths : JobFields → List Tri → ℤ → ℕ → List (List Pt3) → Type 0
AreFirstPaths job part tol rows paths = AllZip (IsRowPath job part tol) (take rows (lattice_ys (finish_lattice job))) paths

-- and these along all of them
abbrev pub AreRowPaths : JobFields → List Tri → ℤ → List (List Pt3) → Type 0
AreRowPaths job part tol paths = AllZip (IsRowPath job part tol) (lattice_ys (finish_lattice job)) paths

-- the visits along a chain of a waterline: its points in their order, and of a closed one its first point again
abbrev pub outline_visits : ℤ → Outline → List Visit
outline_visits step outline = map (λ (p : Pt3). record { at = p; step = step }) (outline.points ++ (if outline.closed then take 1 outline.points else []))

-- the level visits: level by level from the highest, and on each chain by chain
abbrev pub level_visits_of : JobFields → List (List Outline) → List Visit
level_visits_of job waterlines = flat_map (flat_map (outline_visits job.raster)) waterlines

-- these are the waterlines of the job's tool at its levels, over the finishing lattice
abbrev pub AreWaterlines : JobFields → List Tri → List (List Outline) → Type 0
AreWaterlines job part waterlines = AllZip (λ z outlines. IsWaterline (tool_of job) part z (finish_lattice job) outlines) job.levels waterlines

-- these are the roughing visits; without a layer there are none, whatever the heights
pub record AreRoughVisits (job : JobFields) (part : List Tri) (list : List Visit) : Type 0 where
  pub heights : List ℤ
  pub are : (pos 0) <ℤ job.layer → AreDropHeights (tool_of job) part job.floor (rough_lattice job) heights
  pub visits : list ≡ rough_visits_of job heights

-- these are the level visits; without levels there are none
pub record AreLevelVisits (job : JobFields) (part : List Tri) (list : List Visit) : Type 0 where
  pub waterlines : List (List Outline)
  pub are : AreWaterlines job part waterlines
  pub visits : list ≡ level_visits_of job waterlines

-- these are the finishing visits at the nodes of the finishing lattice
pub record AreNodeVisits (job : JobFields) (part : List Tri) (list : List Visit) : Type 0 where
  pub heights : List ℤ
  pub are : AreDropHeights (tool_of job) part job.floor (finish_lattice job) heights
  pub visits : list ≡ finish_visits_of job heights

-- these are the finishing visits along the paths of the rows by a tolerance
pub record AreRowVisits (job : JobFields) (part : List Tri) (tol : ℤ) (list : List Visit) : Type 0 where
  pub paths : List (List Pt3)
  pub are : AreRowPaths job part tol paths
  pub visits : list ≡ row_visits_from job 0 paths

-- these are the finishing visits: at the nodes, or where the job has a tolerance along the rows' paths
abbrev pub AreFinishVisits : JobFields → List Tri → List Visit → Type 0
AreFinishVisits job part list = MatchOption job.path_tol (AreNodeVisits job part list) (λ tol. AreRowVisits job part tol list)

-- with the drop heights over the lattice, roughing has too many visits that differ from the one before them
pub record HaveManyRoughVisits (job : JobFields) (part : List Tri) : Type 0 where
  pub heights : List ℤ
  pub are : AreDropHeights (tool_of job) part job.floor (rough_lattice job) heights
  pub many : most_changes < change_count (rough_visits_of job heights)

-- with the waterlines at the job's levels, too many level visits differ from the one before them
pub record HaveManyLevelVisits (job : JobFields) (part : List Tri) : Type 0 where
  pub waterlines : List (List Outline)
  pub are : AreWaterlines job part waterlines
  pub many : most_changes < change_count (level_visits_of job waterlines)

-- with the drop heights over the lattice, too many finishing visits at its nodes differ from the one before them
pub record HaveManyNodeVisits (job : JobFields) (part : List Tri) : Type 0 where
  pub heights : List ℤ
  pub are : AreDropHeights (tool_of job) part job.floor (finish_lattice job) heights
  pub many : most_changes < change_count (finish_visits_of job heights)

-- along the paths of the first rows alone, too many finishing visits differ from the one before them
pub record HaveManyRowVisits (job : JobFields) (part : List Tri) (tol : ℤ) : Type 0 where
  pub rows : ℕ
  pub paths : List (List Pt3)
  pub are : AreFirstPaths job part tol rows paths
  pub many : most_changes < change_count (row_visits_from job 0 paths)

-- so too many finishing visits do: at the nodes, or where the job has a tolerance along the rows' paths
abbrev pub HaveManyFinishVisits : JobFields → List Tri → Type 0
HaveManyFinishVisits job part = MatchOption job.path_tol (HaveManyNodeVisits job part) (λ tol. HaveManyRowVisits job part tol)

-- a place that a plan may come to: in the unit's range, from the floor on and under the top, with the step of a job's path; there and at every greater height the tool doesn't gouge
pub record IsVisit (job : JobFields) (part : List Tri) (visit : Visit) : Type 0 where
  pub in_range : IsInUnitRange job.unit visit.at
  pub kept : job.floor ≤ℤ visit.at.z
  pub under_top : visit.at.z <ℤ job.top
  pub free : (higher : ℤ) → visit.at.z ≤ℤ higher → ¬ ToolGouges (tool_of job) (pos 1) (point_at visit.at.x visit.at.y higher) part
  pub step_ok : IsFrom (pos 1) (pos (2 * MAX_COORDINATE)) visit.step

-- the finishing visits are places that a plan may come to
abbrev pub FinishVisitsAreFree : Type 0
FinishVisitsAreFree = (job : JobFields) (part : List Tri) (visits : List Visit) → IsJob job → AreFinishVisits job part visits → All (IsVisit job part) visits

-- so are the roughing visits
abbrev pub RoughVisitsAreFree : Type 0
RoughVisitsAreFree = (job : JobFields) (part : List Tri) (visits : List Visit) → IsJob job → AreRoughVisits job part visits → All (IsVisit job part) visits

-- and so are the level visits
abbrev pub LevelVisitsAreFree : Type 0
LevelVisitsAreFree = (job : JobFields) (part : List Tri) (visits : List Visit) → IsJob job → AreLevelVisits job part visits → All (IsVisit job part) visits
