-- What the planner's steps ask for. It serves the functions within.
use Rattle.std.specs.Prelude.{◌≡◌, List, [], ◌++◌, All}
use Rattle.mill_base.specs.declared.motion.Move.{Move}
use Rattle.mill_base.specs.declared.points.Tri.{Tri}
use Rattle.mill_dexel.specs.Rows.{IsRowOf}
use Rattle.mill_dexel.specs.declared.row.Row.{Row}
use Rattle.mill_job.specs.Columns.{home}
use Rattle.mill_job.specs.declared.fields.JobFields.{JobFields}
use Rattle.mill_links.specs.Links.{FollowStock, head}
use Rattle.mill_links.specs.Safety.{GoSafely}
use Rattle.mill_obstacles.specs.Faces.{obstacles_of}

-- rows of the job's, which are those of the uncut stock where the job limits the depth of cut
pub record AreFirstRows (job : JobFields) (rows : List Row) : Type 0 where
  pub stock : FollowStock job [] rows
  pub rows_ok : All (IsRowOf job) rows

-- the moves go safely from home to home, past the part and the fixtures
abbrev pub KeepsOffAll : JobFields → List Tri → List Move → Type 0
KeepsOffAll job part moves = GoSafely job (obstacles_of job part) [] (home job) moves (home job)

-- with what a program of the job begins they begin
pub record BeginsWithHead (job : JobFields) (moves : List Move) : Type 0 where
  pub rest : List Move
  pub joined : moves ≡ head job ++ rest
