-- What a job and a part settle of their plan.
use Rattle.std.specs.Prelude.{◌≡◌, ◌<◌, ◌≤◌, pos, ◌<ℤ◌, List, [], ◌++◌, length, All}
use Rattle.mill_base.specs.declared.points.Tri.{Tri}
use Rattle.mill_base.specs.declared.motion.Move.{Move}
use Rattle.mill_job.specs.Columns.{home}
use Rattle.mill_job.specs.Jobs.{IsJob}
use Rattle.mill_job.specs.declared.fields.JobFields.{JobFields}
use Rattle.mill_links.specs.Links.{way_home}
use Rattle.mill_links.specs.Safety.{GoSafely, LiesUnderClear}
use Rattle.mill_links.specs.Tours.{GoesThrough, last_place}
use Rattle.mill_links.specs.declared.visit.Visit.{Visit}
use Rattle.mill_paths.specs.Limits.{most_changes}
use Rattle.mill_paths.specs.Plans.{ArePlanVisits, IsPlan}
use Rattle.mill_paths.specs.Visits.{HaveManyRoughVisits, HaveManyLevelVisits, HaveManyFinishVisits, IsVisit}

-- a job and a part have at most one plan
abbrev pub OnePlan : Type 0
OnePlan = (job : JobFields) (part : List Tri) (a b : List Move) → IsPlan job part a → IsPlan job part b → a ≡ b

-- a program that begins with these moves goes from home through the first of the visits
pub record BeginsTour (job : JobFields) (part : List Tri) (visits : List Visit) (moves : List Move) : Type 0 where
  pub first : List Visit
  pub rest : List Visit
  pub all : visits ≡ first ++ rest
  pub tour : GoesThrough job part first moves

-- a plan has at least as many moves as go through the first of its visits
abbrev pub PlanIsLonger : Type 0
PlanIsLonger = (job : JobFields) (part : List Tri) (visits : List Visit) (begun moves : List Move) → ArePlanVisits job part visits
    → BeginsTour job part visits begun → IsPlan job part moves → length begun ≤ length moves

-- where too many roughing visits differ from the one before them, a plan has too many moves
abbrev pub ManyRoughVisitsMakeMoves : Type 0
ManyRoughVisitsMakeMoves = (job : JobFields) (part : List Tri) (moves : List Move) → (pos 0) <ℤ job.layer → HaveManyRoughVisits job part → IsPlan job part moves
    → most_changes < length moves

-- so it has where too many level visits do
abbrev pub ManyLevelVisitsMakeMoves : Type 0
ManyLevelVisitsMakeMoves = (job : JobFields) (part : List Tri) (moves : List Move) → HaveManyLevelVisits job part → IsPlan job part moves → most_changes < length moves

-- and where too many finishing visits do
abbrev pub ManyFinishVisitsMakeMoves : Type 0
ManyFinishVisitsMakeMoves = (job : JobFields) (part : List Tri) (moves : List Move) → HaveManyFinishVisits job part → IsPlan job part moves → most_changes < length moves

-- from home through visits and home again the moves go safely
abbrev pub RoundIsSafe : Type 0
RoundIsSafe = (job : JobFields) (part : List Tri) (visits : List Visit) (toured : List Move) → IsJob job → LiesUnderClear job part → All (IsVisit job part) visits
    → GoesThrough job part visits toured → GoSafely job part [] (home job) (toured ++ way_home job (last_place (home job) visits)) (home job)
