-- The command `drop`: its words for a place, read in the job's unit, and the drop height there.
use Rattle.std.specs.Prelude.{◌≡◌, ℕ, ℤ, codes, List, [], ◌∷◌}
use Rattle.mill_base.specs.declared.points.Tri.{Tri}
use Rattle.mill_base.specs.declared.unit.Unit.{Unit}
use Rattle.mill_decimal.specs.Decimals.{canonical}
use Rattle.mill_decimal.specs.declared.fault.DecFault.{DecFault}
use Rattle.mill_job.specs.declared.fields.JobFields.{JobFields}
use Rattle.mill_job.specs.Jobs.{tool_of}
use Rattle.mill_drop.specs.Drops.{IsDropHeight}
use Rattle.mill_obstacles.specs.Faces.{obstacles_of}
use Rattle.mill_answer.specs.Lines.{line}
use Rattle.mill_load.specs.declared.place.Coordinate.{Coordinate}
use Rattle.mill_job.specs.declared.fields.Place.{Place}
use Rattle.mill_load.specs.Places.{ReadsPlace, RefusesWord}
use Rattle.mill_load.specs.Setup.{SetupTexts, ReadsJob, ReadsSetup}

-- ---- the words

-- the job is read, and in its unit the words read as some place
pub record HasPlace (texts : SetupTexts) (x y : List ℕ) : Type 0 where
  pub job : JobFields
  pub place : Place
  pub job_is : ReadsJob texts job
  pub place_is : ReadsPlace job.unit x y place

-- the job is read, and in its unit this is the first of the two words that is refused
pub record RefusesPlace (texts : SetupTexts) (x y : List ℕ) (coordinate : Coordinate) (fault : DecFault) : Type 0 where
  pub job : JobFields
  pub job_is : ReadsJob texts job
  pub refused : RefusesWord job.unit x y coordinate fault

-- ---- the answer

-- job, words and part are read, and this is the drop height of the job's tool over part and fixtures at the place, not under the job's floor, in the job's unit
pub record Drops (x y : List ℕ) (texts : SetupTexts) (unit : Unit) (height : ℤ) : Type 0 where
  pub place : Place
  pub job : JobFields
  pub part : List Tri
  pub unit_is : unit ≡ job.unit
  pub place_is : ReadsPlace job.unit x y place
  pub setup_is : ReadsSetup texts job part
  pub is : IsDropHeight (tool_of job) (obstacles_of job part) place.x place.y job.floor height

-- the line of a drop height
abbrev pub height_line : Unit → ℤ → List ℕ
height_line unit height = line (codes "drop" ∷ canonical unit height ∷ [])
