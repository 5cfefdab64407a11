-- The whole list of moves of a plan.
use Rattle.std.specs.Prelude.{◌≡◌, List, ◌++◌}
use Rattle.mill_base.specs.declared.points.Tri.{Tri}
use Rattle.mill_base.specs.declared.motion.Move.{Move}
use Rattle.mill_job.specs.Columns.{home}
use Rattle.mill_job.specs.declared.fields.JobFields.{JobFields}
use Rattle.mill_links.specs.Links.{way_home}
use Rattle.mill_links.specs.Tours.{GoesThrough, last_place}
use Rattle.mill_links.specs.declared.visit.Visit.{Visit}
use Rattle.mill_paths.specs.Visits.{AreRoughVisits, AreLevelVisits, AreFinishVisits}

-- the visits of a plan: of its roughing, of its levels, and of its finishing path
pub record ArePlanVisits (job : JobFields) (part : List Tri) (visits : List Visit) : Type 0 where
  pub rough : List Visit
  pub level : List Visit
  pub finish : List Visit
  pub are_rough : AreRoughVisits job part rough
  pub are_level : AreLevelVisits job part level
  pub are_finish : AreFinishVisits job part finish
  pub all : visits ≡ rough ++ level ++ finish

-- the moves of a plan: from home through its visits, and home again. What is called the part here is all that the tool has to keep off
pub record IsPlan (job : JobFields) (part : List Tri) (moves : List Move) : Type 0 where
  pub visits : List Visit
  pub are : ArePlanVisits job part visits
  pub toured : List Move
  pub tour : GoesThrough job part visits toured
  pub joined : moves ≡ toured ++ way_home job (last_place (home job) visits)
