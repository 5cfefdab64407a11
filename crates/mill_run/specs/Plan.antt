-- The command `plan`: what keeps it from a plan, the planner's answer to job and part, and how it is shown and stored.
use Rattle.std.specs.Prelude.{◌≡◌, ◌⊎◌, ℕ, codes, decimal, true, false, List, [], ◌∷◌}
use Rattle.mill_base.specs.declared.points.Tri.{Tri}
use Rattle.mill_base.specs.declared.unit.Unit.{Unit}
use Rattle.mill_decimal.specs.Decimals.{canonical}
use Rattle.mill_job.specs.Jobs.{IsJob}
use Rattle.mill_job.specs.declared.fault.JobFault.TheVariants.{Missing}
use Rattle.mill_job.specs.declared.fields.JobFields.{JobFields}
use Rattle.mill_job.specs.declared.key.Key.TheVariants.{Feed}
use Rattle.mill_plan.specs.Plans.{PlanAnswer, IsPlanAnswer, done, too_many_nodes, too_many_moves, uncut, held}
use Rattle.mill_answer.specs.Lines.{line}
use Rattle.mill_answer.specs.Printed.{column_words, nodes_line}
use Rattle.mill_load.specs.Setup.{SetupTexts, ReadsJob, ReadsSetup, IsUnfitWith}
use Rattle.mill_load.specs.declared.load.Unfit.{Unfit}
use Rattle.mill_load.specs.declared.load.Unfit.TheVariants.{JobRefused}

-- ---- what keeps it from a plan

-- the job is read, and asks for no spindle in its programs
pub record NeedsNoFeed (texts : SetupTexts) : Type 0 where
  pub job : JobFields
  pub job_is : ReadsJob texts job
  pub still : job.spindle ≡ false

-- the job is read, and asks for a spindle in its programs, and so for a feed, which no key of a job names: that is missing
pub record LacksFeed (texts : SetupTexts) (fault : Unfit) : Type 0 where
  pub job : JobFields
  pub job_is : ReadsJob texts job
  pub turns : job.spindle ≡ true
  pub is : fault ≡ JobRefused (Missing Feed)

-- the first check that fails: a job's own faults come first, then the want of a feed, and then the part's file
abbrev pub IsUnfitPlan : SetupTexts → Unfit → Type 0
IsUnfitPlan texts fault = IsUnfitWith (NeedsNoFeed texts) texts fault ⊎ LacksFeed texts fault

-- ---- the answer

-- job and part are read, the job is in its ranges and asks for no spindle, and this is the planner's answer to them
pub record Plans (texts : SetupTexts) (job : JobFields) (part : List Tri) (answer : PlanAnswer) : Type 0 where
  pub setup_is : ReadsSetup texts job part
  pub job_ok : IsJob job
  pub still : job.spindle ≡ false
  pub is : IsPlanAnswer job part answer

-- the exit status of the planner's answer
abbrev pub plan_status : PlanAnswer → ℕ
plan_status (done text moves columns left) = 0
plan_status (uncut row column top) = 8
plan_status (held number row column) = 8
plan_status (too_many_nodes nodes) = 9
plan_status too_many_moves = 9

-- the line of a plan on this move of which the holder would touch what is left of this column
abbrev pub held_line : ℕ → ℕ → ℕ → List ℕ
held_line number row column = line (codes "held" ∷ codes "move" ∷ decimal number ∷ codes "row" ∷ decimal row ∷ codes "column" ∷ decimal column ∷ [])

-- the line of the planner's answer
abbrev pub plan_line : Unit → PlanAnswer → List ℕ
plan_line unit (done text moves columns left) = line (codes "planned" ∷ codes "moves" ∷ decimal moves ∷ codes "columns" ∷ decimal columns ∷ codes "left" ∷ canonical unit left ∷ [])
plan_line unit (uncut row column top) = line (codes "uncut" ∷ column_words unit row column top)
plan_line unit (held number row column) = held_line number row column
plan_line unit (too_many_nodes nodes) = nodes_line nodes
plan_line unit too_many_moves = line (codes "over" ∷ codes "moves" ∷ [])
