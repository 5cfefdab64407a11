-- The command `level`: its word for a height, read in the job's unit, and the chains of points along which the tool goes round part and fixtures there.
use Rattle.std.specs.Prelude.{◌≡◌, ◌≤◌, ℕ, ℤ, codes, decimal, Bool, if◌then◌else◌, List, [], ◌∷◌, ◌++◌, length}
use Rattle.std.specs.List.{flat_map}
use Rattle.mill_base.specs.Lattices.{node_count}
use Rattle.mill_base.specs.declared.limits.TheConstants.{MAX_NODES}
use Rattle.mill_base.specs.declared.points.Pt3.{Pt3}
use Rattle.mill_base.specs.declared.points.Tri.{Tri}
use Rattle.mill_base.specs.declared.unit.Unit.{Unit}
use Rattle.mill_decimal.specs.Decimals.{canonical}
use Rattle.mill_decimal.specs.declared.fault.DecFault.{DecFault}
use Rattle.mill_job.specs.declared.fields.JobFields.{JobFields}
use Rattle.mill_job.specs.Jobs.{tool_of}
use Rattle.mill_level.specs.Waterlines.{Outline, IsWaterline, HasManyNodes}
use Rattle.mill_obstacles.specs.Faces.{obstacles_of}
use Rattle.mill_paths.specs.Lattices.{finish_lattice}
use Rattle.mill_answer.specs.Lines.{line}
use Rattle.mill_load.specs.declared.place.Coordinate.{Coordinate}
use Rattle.mill_load.specs.Places.{ReadsHeight, RefusesZ}
use Rattle.mill_answer.specs.Printed.{nodes_line}
use Rattle.mill_load.specs.Setup.{SetupTexts, ReadsJob, ReadsSetup}

-- ---- the word

-- the job is read, and in its unit the word reads as some height
pub record HasHeight (texts : SetupTexts) (z : List ℕ) : Type 0 where
  pub job : JobFields
  pub height : ℤ
  pub job_is : ReadsJob texts job
  pub height_is : ReadsHeight job.unit z height

-- the job is read, and in its unit the word is refused
pub record RefusesHeight (texts : SetupTexts) (z : List ℕ) (coordinate : Coordinate) (fault : DecFault) : Type 0 where
  pub job : JobFields
  pub job_is : ReadsJob texts job
  pub refused : RefusesZ job.unit z coordinate fault

-- ---- the answers

-- what can be answered at a height: the outlines of the chains there, or that a lattice of so many nodes is too large
pub data LevelAnswer : Type 0 where
  outlines : List Outline → LevelAnswer
  too_many_nodes : ℕ → LevelAnswer

-- the outlines are the waterline of part and fixtures at the height, for the job's tool and over its area by steps of its raster, and that lattice has no more nodes than one may;
-- or it has so many nodes, which are too many
abbrev pub IsLevelAnswer : JobFields → List Tri → ℤ → LevelAnswer → Type 0
IsLevelAnswer job part height (outlines found) = IsWaterline (tool_of job) (obstacles_of job part) height (finish_lattice job) found × (node_count (finish_lattice job) ≤ MAX_NODES)
IsLevelAnswer job part height (too_many_nodes nodes) = HasManyNodes (finish_lattice job) nodes

-- job, word and part are read, and this is the answer at the height, in the job's unit
pub record Levels (z : List ℕ) (texts : SetupTexts) (unit : Unit) (answer : LevelAnswer) : Type 0 where
  pub height : ℤ
  pub job : JobFields
  pub part : List Tri
  pub unit_is : unit ≡ job.unit
  pub height_is : ReadsHeight job.unit z height
  pub setup_is : ReadsSetup texts job part
  pub is : IsLevelAnswer job part height answer

-- ---- how they are shown

-- the exit status of an answer
abbrev pub level_status : LevelAnswer → ℕ
level_status (outlines found) = 0
level_status (too_many_nodes nodes) = 9

-- the line of a point: its x and y
abbrev pub point_line : Unit → Pt3 → List ℕ
point_line unit p = line (canonical unit p.x ∷ canonical unit p.y ∷ [])

-- whether a chain's last point is joined to its first
abbrev pub closed_word : Bool → List ℕ
closed_word closed = if closed then codes "closed" else codes "open"

-- the lines of a chain: whether it is closed and how many points it has, and then each of them
abbrev pub outline_text : Unit → Outline → List ℕ
outline_text unit o = line (closed_word o.closed ∷ decimal (length o.points) ∷ []) ++ flat_map (point_line unit) o.points

-- those of each chain in its order, and then how many chains there are
abbrev pub outlines_text : Unit → List Outline → List ℕ
outlines_text unit found = flat_map (outline_text unit) found ++ line (codes "chains" ∷ decimal (length found) ∷ [])

-- the text of an answer
abbrev pub level_line : Unit → LevelAnswer → List ℕ
level_line unit (outlines found) = outlines_text unit found
level_line unit (too_many_nodes nodes) = nodes_line nodes
