-- The list of answers: what can be answered, its status, its line and the text that is stored with it, and when it is a command's answer.
use Rattle.std.specs.Prelude.{◌≡◌, ℕ, ℤ, List, Option, None, Some}
use Rattle.mill_base.specs.declared.points.Tri.{Tri}
use Rattle.mill_base.specs.declared.motion.Move.{Move}
use Rattle.mill_base.specs.declared.unit.Unit.{Unit}
use Rattle.mill_command.specs.Requests.{Request, verify, plan, drop, level, stock, rest, sample}
use Rattle.mill_decimal.specs.declared.fault.DecFault.{DecFault}
use Rattle.mill_job.specs.declared.step.Step.{Step}
use Rattle.mill_job.specs.declared.fields.JobFields.{JobFields}
use Rattle.mill_plan.specs.Plans.{PlanAnswer, done}
use Rattle.mill_verify.specs.Files.{File}
use Rattle.mill_verify.specs.declared.list.ListVerdict.{ListVerdict}
use Rattle.mill_verify.specs.declared.verdict.Verdict.{Verdict}
use Rattle.mill_load.specs.declared.load.Unfit.{Unfit}
use Rattle.mill_load.specs.declared.place.Coordinate.{Coordinate}
use Rattle.mill_run.specs.Drop.{HasPlace, RefusesPlace, Drops, height_line}
use Rattle.mill_answer.specs.Faults.{word_line, unfit_line}
use Rattle.mill_run.specs.Level.{HasHeight, RefusesHeight, LevelAnswer, Levels, level_status, level_line}
use Rattle.mill_run.specs.Plan.{IsUnfitPlan, Plans, plan_status, plan_line}
use Rattle.mill_run.specs.Rest.{rest_texts, IsUnfitRest, JudgesFiles, list_status, list_line}
use Rattle.mill_run.specs.Sample.{Samples, sample_status, sample_line}
use Rattle.mill_run.specs.Stock.{StockAnswer, drawn, stock_texts, DrawsStock, IsUnfitStock, stock_status, stock_line}
use Rattle.mill_load.specs.Setup.{setup_texts, IsUnfitWith}
use Rattle.mill_answer.specs.Verify.{texts_of, IsUnfitProgram, Judges, verdict_status, verdict_line}

-- a text and the name that it is to be stored under
pub record NamedText : Type 0 where
  pub name : List ℕ
  pub text : List ℕ

-- what can be answered: a word is refused; a file is refused or too long, or the part is too high; a verdict on a job, a part and moves;
-- the planner's answer to a job and a part, with the name that a program is stored under; a drop height; the answer at a height; each of these two with the unit of its lengths;
-- the surface of a job's stock after moves or why there is none, with the name that it is stored under; a verdict on a job, a part, and the files of steps in turn; the planner's answer to the sample part of a size
pub data Answer : Type 0 where
  refused_word : Coordinate → DecFault → Answer
  unfit : Unfit → Answer
  judged : JobFields → List Tri → List Move → Verdict → Answer
  planned : JobFields → List Tri → List ℕ → PlanAnswer → Answer
  dropped : Unit → ℤ → Answer
  leveled : Unit → LevelAnswer → Answer
  stocked : JobFields → List Move → List ℕ → StockAnswer → Answer
  judged_files : JobFields → List Tri → List Step → List File → ListVerdict → Answer
  sampled : ℕ → PlanAnswer → Answer

-- its exit status
abbrev pub answer_status : Answer → ℕ
answer_status (refused_word coordinate fault) = 4
answer_status (unfit fault) = 4
answer_status (judged job part moves verdict) = verdict_status verdict
answer_status (planned job part name answer) = plan_status answer
answer_status (dropped unit height) = 0
answer_status (leveled unit answer) = level_status answer
answer_status (stocked job moves name answer) = stock_status answer
answer_status (judged_files job part steps files verdict) = list_status verdict
answer_status (sampled n answer) = sample_status answer

-- its line
abbrev pub answer_line : Answer → List ℕ
answer_line (refused_word coordinate fault) = word_line coordinate fault
answer_line (unfit fault) = unfit_line fault
answer_line (judged job part moves verdict) = verdict_line job moves verdict
answer_line (planned job part name answer) = plan_line job.unit answer
answer_line (dropped unit height) = height_line unit height
answer_line (leveled unit answer) = level_line unit answer
answer_line (stocked job moves name answer) = stock_line answer
answer_line (judged_files job part steps files verdict) = list_line job files verdict
answer_line (sampled n answer) = sample_line n answer

-- the text that is stored with it, and under which name
abbrev pub answer_file : Answer → Option NamedText
answer_file (planned job part name (done text moves columns left)) = Some (record { name = name; text = text })
answer_file (stocked job moves name (drawn text count)) = Some (record { name = name; text = text })
answer_file _ = None

-- this is the command's answer, by each file that is told: the first check that fails, in the order of work, else the command's own answer
abbrev pub IsAnswer : (List ℕ → Option (List ℕ)) → Request → Answer → Type 0
IsAnswer contents (verify job part program workers) (unfit fault) = IsUnfitProgram (texts_of contents (record { job = job; part = part; program = program })) fault
IsAnswer contents (verify job part program workers) (judged j p m verdict) = Judges (texts_of contents (record { job = job; part = part; program = program })) j p m verdict
IsAnswer contents (plan job part out workers) (unfit fault) = IsUnfitPlan (setup_texts contents job part) fault
IsAnswer contents (plan job part out workers) (planned j p name answer) = (name ≡ out) × Plans (setup_texts contents job part) j p answer
IsAnswer contents (drop job part x y) (refused_word coordinate fault) = RefusesPlace (setup_texts contents job part) x y coordinate fault
IsAnswer contents (drop job part x y) (unfit fault) = IsUnfitWith (HasPlace (setup_texts contents job part) x y) (setup_texts contents job part) fault
IsAnswer contents (drop job part x y) (dropped unit height) = Drops x y (setup_texts contents job part) unit height
IsAnswer contents (level job part z) (refused_word coordinate fault) = RefusesHeight (setup_texts contents job part) z coordinate fault
IsAnswer contents (level job part z) (unfit fault) = IsUnfitWith (HasHeight (setup_texts contents job part) z) (setup_texts contents job part) fault
IsAnswer contents (level job part z) (leveled unit answer) = Levels z (setup_texts contents job part) unit answer
IsAnswer contents (stock job file out) (unfit fault) = IsUnfitStock (stock_texts contents job file) fault
IsAnswer contents (stock job file out) (stocked j m name answer) = (name ≡ out) × DrawsStock (stock_texts contents job file) j m answer
IsAnswer contents (rest job part list workers) (unfit fault) = IsUnfitRest (rest_texts contents (record { job = job; part = part; list = list })) fault
IsAnswer contents (rest job part list workers) (judged_files j p steps files verdict) = JudgesFiles (rest_texts contents (record { job = job; part = part; list = list })) j p steps files verdict
IsAnswer contents (sample n workers) (sampled size answer) = (size ≡ n) × Samples n answer
IsAnswer contents asked answer = ⊥
