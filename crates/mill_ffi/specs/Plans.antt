-- The plan for a job's text and a part's, in bytes and numbers, and when there is none.
use Rattle.std.specs.Prelude.{◌≡◌, ◌≢◌, ◌⊎◌, ℕ, ℤ, pos, true, false, List, length, Ok}
use Rattle.mill_base.specs.declared.points.Tri.{Tri}
use Rattle.mill_job.specs.Documents.{IsJobOf}
use Rattle.mill_job.specs.Jobs.{IsJob}
use Rattle.mill_job.specs.declared.fields.JobFields.{JobFields}
use Rattle.mill_plan.specs.Plans.{PlanAnswer, IsPlanAnswer, IsPlanFault, done}
use Rattle.mill_plan.specs.declared.fault.PlanFault.{PlanFault}
use Rattle.mill_plan.specs.declared.fault.PlanFault.TheVariants as plan_fault
use Rattle.mill_verify.specs.declared.verdict.Verdict.TheVariants.{Accept}
use Rattle.mill_ffi_data.specs.declared.fault.Fault.{Fault}
use Rattle.mill_ffi_data.specs.declared.fault.Fault.TheVariants as fault
use Rattle.mill_ffi_data.specs.declared.raw.RawPlanned.{RawPlanned}
use Rattle.mill_ffi_data.specs.declared.raw.RawVerdict.{RawVerdict}
use Rattle.mill_ffi.specs.Judged.{IsSetupCause, IsVerdictFor, ReadsSetup}

-- ---- what is told

-- nothing is told
abbrev pub unplanned : RawPlanned
unplanned = record { bytes = 0; moves = 0; columns = 0; nodes = 0; at = 0; line = 0; most_left = pos 0; top = pos 0; height = pos 0; row = 0; column = 0 }

-- a program of this text, with so many moves, on so many columns, of which it leaves so much at most
abbrev pub told_of_plan : List ℕ → ℕ → ℕ → ℤ → RawPlanned
told_of_plan text moves columns left = record unplanned { bytes = length text; moves = moves; columns = columns; most_left = left }

-- why the planner gives no program
abbrev pub told_of_plan_fault : PlanFault → RawPlanned
told_of_plan_fault (plan_fault.TooManyNodes nodes) = record unplanned { nodes = nodes }
told_of_plan_fault plan_fault.TooManyMoves = unplanned
told_of_plan_fault (plan_fault.Uncut row col top) = record unplanned { row = row; column = col; top = top }
told_of_plan_fault (plan_fault.Held k row col) = record unplanned { at = k; row = row; column = col }
told_of_plan_fault plan_fault.WantOfMemory = unplanned

-- that fault, as a call tells it
abbrev pub fault_of_plan : PlanFault → Fault
fault_of_plan (plan_fault.TooManyNodes nodes) = fault.TooManyNodes
fault_of_plan plan_fault.TooManyMoves = fault.TooManyMoves
fault_of_plan (plan_fault.Uncut row col top) = fault.Uncut
fault_of_plan (plan_fault.Held k row col) = fault.Held
fault_of_plan plan_fault.WantOfMemory = fault.Memory

-- what is told of texts that give no job and part: what a verdict tells of them
abbrev pub told_of_setup : RawVerdict → RawPlanned
told_of_setup said = record unplanned { line = said.line; height = said.height }

-- ---- the plan

-- the texts read as a job, which asks for no spindle, and a part, and this is the planner's answer to them
pub record IsPlannedFor (job_text part_text : List ℕ) (answer : PlanAnswer) : Type 0 where
  pub job : JobFields
  pub part : List Tri
  pub job_ok : IsJob job
  pub setup_is : ReadsSetup job_text part_text job part
  pub still : job.spindle ≡ false
  pub is : IsPlanAnswer job part answer

-- the planner's answer to the texts is the program of this text, which the verifier accepts for them, and these numbers are told of it
pub record IsPlanned (job_text part_text text : List ℕ) (told : RawPlanned) : Type 0 where
  pub moves : ℕ
  pub columns : ℕ
  pub left : ℤ
  pub is : IsPlannedFor job_text part_text (done text moves columns left)
  pub accepted : IsVerdictFor job_text part_text text (Accept moves columns left)
  pub told_ok : told ≡ told_of_plan text moves columns left

-- ---- why there is none

-- the texts give no job and part, for what a verdict tells of them; if that is a fault of the part's, the job asks for no spindle
pub record IsUnread (job_text part_text : List ℕ) (told : RawPlanned) (kind : Fault) : Type 0 where
  pub said : RawVerdict
  pub cause : IsSetupCause job_text part_text said kind
  pub told_ok : told ≡ told_of_setup said
  pub still : (job : JobFields) → IsJobOf job_text (Ok job) → kind ≢ fault.Memory → job.spindle ≡ false

-- the job's text reads as a job that asks for a spindle, and so for a feed, which no key of a job names: that is missing
pub record LacksFeed (job_text : List ℕ) (told : RawPlanned) (kind : Fault) : Type 0 where
  pub job : JobFields
  pub job_is : IsJobOf job_text (Ok job)
  pub turns : job.spindle ≡ true
  pub kind_ok : kind ≡ fault.JobMissing
  pub told_ok : told ≡ unplanned

-- why there is no job and part to be planned for: of the job's faults the want of a feed comes last, and then come the part's
abbrev pub IsUnfed : List ℕ → List ℕ → RawPlanned → Fault → Type 0
IsUnfed job_text part_text told kind = IsUnread job_text part_text told kind ⊎ LacksFeed job_text told kind

-- the texts read as a job, which asks for no spindle, and a part, and the planner gives no program for them, for the reason that is told, or for want of memory
pub record IsUnplanned (job_text part_text : List ℕ) (told : RawPlanned) (kind : Fault) : Type 0 where
  pub job : JobFields
  pub part : List Tri
  pub setup_is : ReadsSetup job_text part_text job part
  pub still : job.spindle ≡ false
  pub first : PlanFault
  pub is : IsPlanFault job part first
  pub kind_ok : kind ≡ fault_of_plan first
  pub told_ok : told ≡ told_of_plan_fault first

-- there is a program, of which the numbers are told, and the array is not as long as its text
pub record HasOtherText (job_text part_text : List ℕ) (room : ℕ) (told : RawPlanned) (kind : Fault) : Type 0 where
  pub text : List ℕ
  pub is : IsPlanned job_text part_text text told
  pub other : room ≢ length text
  pub kind_ok : kind ≡ fault.Room

-- why no program is written: there is no job and part, or no plan, or no room of its length
abbrev pub IsPlanCause : List ℕ → List ℕ → ℕ → RawPlanned → Fault → Type 0
IsPlanCause job_text part_text room told kind = (IsUnfed job_text part_text told kind ⊎ IsUnplanned job_text part_text told kind) ⊎ HasOtherText job_text part_text room told kind
