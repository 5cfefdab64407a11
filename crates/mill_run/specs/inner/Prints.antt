-- What printing an outcome comes to.
use Rattle.std.specs.Prelude.{◌⊎◌, ℕ, ℤ, List, string_bytes}
use Rattle.mill_base.specs.declared.unit.Unit.{Unit as LengthUnit}
use Rattle.mill_command.specs.declared.refusal.Refusal.{Refusal}
use Rattle.mill_command.specs.declared.refusal.Refusal.TheVariants as refusal
use Rattle.mill_drop.specs.Drops.{IsDropHeight}
use Rattle.mill_obstacles.specs.Faces.{obstacles_of}
use Rattle.mill_io.specs.Views.{SinkView}
use Rattle.mill_plan.specs.Plans.{PlanAnswer, too_many_nodes, too_many_moves, uncut, held, IsPlanAnswer}
use Rattle.mill_plan.specs.declared.fault.PlanFault.{PlanFault}
use Rattle.mill_plan.specs.declared.fault.PlanFault.TheVariants as plan_fault
use Rattle.mill_verify.specs.declared.verdict.Verdict.{Verdict}
use Rattle.mill_verify.specs.Verdicts.{IsVerdict}
use Rattle.mill_verify.specs.Lists.{IsListVerdict}
use Rattle.mill_verify.specs.declared.list.ListVerdict.{ListVerdict}
use Rattle.mill_load.specs.declared.load.LoadFault.{LoadFault}
use Rattle.mill_load.specs.declared.load.LoadFault.TheVariants as load_fault
use Rattle.mill_load.specs.declared.load.Setup.{Setup}
use Rattle.mill_job.specs.declared.fields.Place.{Place}
use Rattle.mill_job.specs.Jobs.{tool_of}
use Rattle.mill_run.specs.declared.verify.Loaded.{Loaded}
use Rattle.mill_run.specs.declared.rest.Listed.{Listed}
use Rattle.mill_run.specs.declared.stock.Cutting.{Cutting}
use Rattle.mill_answer.specs.Prints.{Prints}
use Rattle.mill_run.specs.Answers.{unfit, judged, judged_files, dropped, leveled, planned, stocked, sampled}
use Rattle.mill_answer.specs.Calls.{Call}
use Rattle.mill_run.specs.Level.{LevelAnswer, IsLevelAnswer}
use Rattle.mill_run.specs.Outcomes.{Outcome, help, bad_words, no_memory, read_fault, answered, outcome_status, outcome_line, Shows}
use Rattle.mill_run.specs.Plan.{plan_line, plan_status}
use Rattle.mill_run.specs.Rest.{AreSafe, IsFileNamed}
use Rattle.mill_run.specs.Sample.{Samples}
use Rattle.mill_run.specs.Stock.{StockAnswer, IsStockAnswer}
use Rattle.mill_answer.specs.Verify.{IsNamed, IsSafe}

-- the line and the status of this outcome
abbrev pub PrintsOutcome : Outcome → ℕ → SinkView → SinkView → Type 0
PrintsOutcome outcome status sink sink_after = Prints (outcome_line outcome) (outcome_status outcome) status sink sink_after

-- those of this outcome, or that memory was short
abbrev pub PrintsOr : Outcome → ℕ → SinkView → SinkView → Type 0
PrintsOr outcome status sink sink_after = PrintsOutcome outcome status sink sink_after ⊎ PrintsOutcome no_memory status sink sink_after

-- ---- which outcome a fault of the code is

abbrev pub fault_outcome : LoadFault → Outcome
fault_outcome load_fault.Memory = no_memory
fault_outcome (load_fault.ReadFault file) = read_fault file
fault_outcome (load_fault.Unfit fault) = answered (unfit fault)

abbrev pub refusal_outcome : Refusal → Outcome
refusal_outcome (refusal.Help text) = help (string_bytes text)
refusal_outcome (refusal.NotTaken text) = bad_words (string_bytes text)
refusal_outcome refusal.WantOfMemory = no_memory

-- the line and the status of the planner's answer, or that memory was short
abbrev pub PrintsPlan : LengthUnit → PlanAnswer → ℕ → SinkView → SinkView → Type 0
PrintsPlan unit answer status sink sink_after = Prints (plan_line unit answer) (plan_status answer) status sink sink_after ⊎ PrintsOutcome no_memory status sink sink_after

-- those of a plan that didn't come to a program
abbrev pub PrintsPlanFault : LengthUnit → PlanFault → ℕ → SinkView → SinkView → Type 0
PrintsPlanFault unit (plan_fault.TooManyNodes nodes) status sink sink_after = PrintsPlan unit (too_many_nodes nodes) status sink sink_after
PrintsPlanFault unit plan_fault.TooManyMoves status sink sink_after = PrintsPlan unit too_many_moves status sink sink_after
PrintsPlanFault unit (plan_fault.Uncut row col top) status sink sink_after = PrintsPlan unit (uncut row col top) status sink sink_after
PrintsPlanFault unit (plan_fault.Held number row col) status sink sink_after = PrintsPlan unit (held number row col) status sink sink_after
PrintsPlanFault unit plan_fault.WantOfMemory status sink sink_after = PrintsOutcome no_memory status sink sink_after

-- ---- the work of a command on what was read

-- the verdict on what was read is printed, or that memory was short
pub record PrintsVerdict (l : Loaded) (status : ℕ) (sink sink_after : SinkView) : Type 0 where
  pub verdict : Verdict
  pub is : IsVerdict l.job.fields l.part l.moves.items verdict
  pub safe : IsSafe l.job.fields l.part l.moves.items verdict
  pub named : IsNamed l.job.fields l.part l.moves.items verdict
  pub printed : PrintsOr (answered (judged l.job.fields l.part l.moves.items verdict)) status sink sink_after

abbrev pub TriesVerdict : Loaded → ℕ → SinkView → SinkView → Type 0
TriesVerdict l status sink sink_after = PrintsVerdict l status sink sink_after ⊎ PrintsOutcome no_memory status sink sink_after

-- the verdict on the files that were read is printed, or that memory was short
pub record PrintsListVerdict (l : Listed) (status : ℕ) (sink sink_after : SinkView) : Type 0 where
  pub verdict : ListVerdict
  pub is : IsListVerdict l.job.fields l.part l.files.items verdict
  pub safe : AreSafe l.job.fields l.part l.files.items verdict
  pub named : IsFileNamed l.job.fields l.part l.files.items verdict
  pub printed : PrintsOr (answered (judged_files l.job.fields l.part l.steps.items l.files.items verdict)) status sink sink_after

abbrev pub TriesListVerdict : Listed → ℕ → SinkView → SinkView → Type 0
TriesListVerdict l status sink sink_after = PrintsListVerdict l status sink sink_after ⊎ PrintsOutcome no_memory status sink sink_after

-- the drop height at a place over part and fixtures is printed, or that memory was short
pub record PrintsHeight (s : Setup) (place : Place) (status : ℕ) (sink sink_after : SinkView) : Type 0 where
  pub height : ℤ
  pub is : IsDropHeight (tool_of s.job.fields) (obstacles_of s.job.fields s.part) place.x place.y s.job.fields.floor height
  pub printed : PrintsOr (answered (dropped s.job.fields.unit height)) status sink sink_after

abbrev pub TriesHeight : Setup → Place → ℕ → SinkView → SinkView → Type 0
TriesHeight s place status sink sink_after = PrintsHeight s place status sink sink_after ⊎ PrintsOutcome no_memory status sink sink_after

-- the answer at a height is printed, or that memory was short
pub record PrintsLevel (s : Setup) (height : ℤ) (status : ℕ) (sink sink_after : SinkView) : Type 0 where
  pub answer : LevelAnswer
  pub is : IsLevelAnswer s.job.fields s.part height answer
  pub printed : PrintsOr (answered (leveled s.job.fields.unit answer)) status sink sink_after

abbrev pub TriesLevel : Setup → ℤ → ℕ → SinkView → SinkView → Type 0
TriesLevel s height status sink sink_after = PrintsLevel s height status sink sink_after ⊎ PrintsOutcome no_memory status sink sink_after

-- the planner's answer to what was read is shown and its text stored
pub record ShowsPlan (s : Setup) (name : List ℕ) (call : Call) : Type 0 where
  pub answer : PlanAnswer
  pub is : IsPlanAnswer s.job.fields s.part answer
  pub shows : Shows call (answered (planned s.job.fields s.part name answer))

-- so it is, or it is shown that memory was short
abbrev pub ShowsPlanOr : Setup → List ℕ → Call → Type 0
ShowsPlanOr s name call = ShowsPlan s name call ⊎ Shows call no_memory

-- the surface of the stock that was cut is shown and its text stored, or it is shown that it is too large
pub record ShowsStock (c : Cutting) (name : List ℕ) (call : Call) : Type 0 where
  pub answer : StockAnswer
  pub is : IsStockAnswer c.job.fields c.moves.items answer
  pub shows : Shows call (answered (stocked c.job.fields c.moves.items name answer))

-- so it is, or it is shown that memory was short
abbrev pub ShowsStockOr : Cutting → List ℕ → Call → Type 0
ShowsStockOr c name call = ShowsStock c name call ⊎ Shows call no_memory

-- the planner's answer to the sample part of a size is printed, or that memory was short
pub record PrintsSample (n status : ℕ) (sink sink_after : SinkView) : Type 0 where
  pub answer : PlanAnswer
  pub is : Samples n answer
  pub printed : PrintsOr (answered (sampled n answer)) status sink sink_after

abbrev pub TriesSample : ℕ → ℕ → SinkView → SinkView → Type 0
TriesSample n status sink sink_after = PrintsSample n status sink sink_after ⊎ PrintsOutcome no_memory status sink sink_after
