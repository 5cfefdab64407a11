-- What holds of the obstacles of a job and a part.
use Rattle.std.specs.Prelude.{◌≡◌, List, []}
use Rattle.mill_base.specs.declared.points.Tri.{Tri}
use Rattle.mill_job.specs.declared.fields.JobFields.{JobFields}
use Rattle.mill_obstacles.specs.Faces.{obstacles_of}

-- without fixtures they are the part
abbrev pub NoFixturesNoMore : Type 0
NoFixturesNoMore = (job : JobFields) (part : List Tri) → job.keep_out ≡ [] → obstacles_of job part ≡ part
