-- What a call comes to, and how it shows that.
use Rattle.std.specs.Prelude.{◌⊎◌, ◌≡◌, ◌<◌, ℕ, false, List, [], Option, None, Some}
use Rattle.mill_io.specs.Contents.{AppendedPart}
use Rattle.mill_io.specs.Readings.{LastFails, Reading}
use Rattle.mill_io.specs.Views.{IsWritten, IsPartStored, IsStored, ReadsOnly}
use Rattle.mill_command.specs.Requests.{AsksHelp, IsMistaken, Request, faults, is_taken, request, verify, plan, drop, level, stock, rest, sample}
use Rattle.mill_load.specs.declared.file.File.{File}
use Rattle.mill_load.specs.declared.file.File.TheVariants.{Job as JobFile, Part as PartFile, Program as ProgramFile, List as ListFile, StepProgram}
use Rattle.mill_run.specs.Answers.{Answer, IsAnswer, NamedText, answer_status, answer_line, answer_file}
use Rattle.mill_answer.specs.Calls.{Call, HoldsReads}
use Rattle.mill_run.specs.Drop.{HasPlace}
use Rattle.mill_answer.specs.Faults.{memory_line, read_fault_line}
use Rattle.mill_run.specs.Level.{HasHeight}
use Rattle.mill_run.specs.Plan.{NeedsNoFeed}
use Rattle.mill_run.specs.Rest.{rest_texts, FailsAtStep, IsReadBeforeRest}
use Rattle.mill_load.specs.Setup.{setup_texts, IsReadBeforeWith}
use Rattle.mill_run.specs.Stock.{stock_texts, IsReadBeforeStock}
use Rattle.mill_answer.specs.Verify.{texts_of, IsReadBeforeProgram}

-- what a call comes to before it prints: clap's text of help or of a mistake in the words; or no answer; or one
pub data Outcome : Type 0 where
  help : List ℕ → Outcome
  bad_words : List ℕ → Outcome
  no_memory : Outcome
  read_fault : File → Outcome
  answered : Answer → Outcome

-- its exit status
abbrev pub outcome_status : Outcome → ℕ
outcome_status (help text) = 0
outcome_status (bad_words text) = 2
outcome_status no_memory = 5
outcome_status (read_fault file) = 6
outcome_status (answered answer) = answer_status answer

-- what is printed
abbrev pub outcome_line : Outcome → List ℕ
outcome_line (help text) = text
outcome_line (bad_words text) = text
outcome_line no_memory = memory_line
outcome_line (read_fault file) = read_fault_line file
outcome_line (answered answer) = answer_line answer

-- what is stored
abbrev pub outcome_file : Outcome → Option NamedText
outcome_file (answered answer) = answer_file answer
outcome_file _ = None

-- ---- which outcome it is

-- all that a command reads and checks before one of its files holds, by each file that is told; `sample` has none
abbrev pub ReadsBefore : (List ℕ → Option (List ℕ)) → Request → File → Type 0
ReadsBefore contents (verify job part program workers) file = IsReadBeforeProgram (texts_of contents (record { job = job; part = part; program = program })) file
ReadsBefore contents (plan job part out workers) file = IsReadBeforeWith (NeedsNoFeed (setup_texts contents job part)) file
ReadsBefore contents (drop job part x y) file = IsReadBeforeWith (HasPlace (setup_texts contents job part) x y) file
ReadsBefore contents (level job part z) file = IsReadBeforeWith (HasHeight (setup_texts contents job part) z) file
ReadsBefore contents (stock job program out) file = IsReadBeforeStock (stock_texts contents job program) file
ReadsBefore contents (rest job part list workers) file = IsReadBeforeRest (rest_texts contents (record { job = job; part = part; list = list })) file
ReadsBefore contents (sample n workers) file = ⊥

-- the name that a request gives to each of its files but the programs of a list
abbrev pub file_name : Request → File → List ℕ
file_name (verify job part program workers) JobFile = job
file_name (verify job part program workers) PartFile = part
file_name (verify job part program workers) ProgramFile = program
file_name (plan job part out workers) JobFile = job
file_name (plan job part out workers) PartFile = part
file_name (drop job part x y) JobFile = job
file_name (drop job part x y) PartFile = part
file_name (level job part z) JobFile = job
file_name (level job part z) PartFile = part
file_name (stock job program out) JobFile = job
file_name (stock job program out) ProgramFile = program
file_name (rest job part list workers) JobFile = job
file_name (rest job part list workers) PartFile = part
file_name (rest job part list workers) ListFile = list
file_name _ _ = []

-- the last read was one of this file, and it failed
abbrev pub FailsAt : (List ℕ → Option (List ℕ)) → Request → File → List Reading → Type 0
FailsAt contents (rest job part list workers) (StepProgram k) log = FailsAtStep (rest_texts contents (record { job = job; part = part; list = list })) k log
FailsAt contents asked file log = LastFails (file_name asked file) log

-- where the work on a request comes to a read fault, that is a fault of the file that it names
abbrev pub Fails : (List ℕ → Option (List ℕ)) → Request → List Reading → Outcome → Type 0
Fails contents asked log (read_fault file) = FailsAt contents asked file log
Fails contents asked log outcome = Unit {0}

-- the work on a request comes to this: memory was short; or a file couldn't be read, and all before it could; or this is the answer
abbrev pub IsOutcome : (List ℕ → Option (List ℕ)) → Request → Outcome → Type 0
IsOutcome contents asked no_memory = Unit {0}
IsOutcome contents asked (read_fault file) = ReadsBefore contents asked file
IsOutcome contents asked (answered answer) = IsAnswer contents asked answer
IsOutcome contents asked outcome = ⊥

-- the words aren't taken, and clap may answer them with help or its version
pub record ShowsHelp (words : List (List ℕ)) : Type 0 where
  pub untaken : is_taken words ≡ false
  pub asks : AsksHelp (faults words)

-- the words aren't taken, and clap may answer them with a mistake
pub record RefusesWords (words : List (List ℕ)) : Type 0 where
  pub untaken : is_taken words ≡ false
  pub mistaken : IsMistaken (faults words)

-- the words are taken as a request, and the work on it comes to this
pub record AsksFor (words : List (List ℕ)) (contents : List ℕ → Option (List ℕ)) (outcome : Outcome) : Type 0 where
  pub asked : Request
  pub taken : request words ≡ Some asked
  pub is : IsOutcome contents asked outcome

-- a call with these words comes to this
abbrev pub IsOutcomeOf : List (List ℕ) → (List ℕ → Option (List ℕ)) → Outcome → Type 0
IsOutcomeOf words contents (help text) = ShowsHelp words
IsOutcomeOf words contents (bad_words text) = RefusesWords words
IsOutcomeOf words contents no_memory = Unit {0}
IsOutcomeOf words contents (read_fault file) = AsksFor words contents (read_fault file)
IsOutcomeOf words contents (answered answer) = AsksFor words contents (answered answer)

-- ---- how it is shown

-- the text is stored under its name, and nothing else has changed; where there is none, nothing has
abbrev pub Stores : Call → Option NamedText → Type 0
Stores call None = ReadsOnly call.store call.store_after
Stores call (Some file) = IsStored file.name file.text call.store call.store_after

-- the status is the outcome's, its line is printed and its text is stored
pub record ShowsWhole (call : Call) (outcome : Outcome) : Type 0 where
  pub status : call.status ≡ outcome_status outcome
  pub printed : IsWritten (outcome_line outcome) call.sink call.sink_after
  pub stored : Stores call (outcome_file outcome)

-- the storing failed: the status is 7, nothing is printed, and the contents of the name are as they were, or a prefix of the text
pub record FailsToStore (call : Call) (outcome : Outcome) : Type 0 where
  pub file : NamedText
  pub text_is : outcome_file outcome ≡ Some file
  pub status : call.status ≡ 7
  pub silent : call.sink_after ≡ call.sink
  pub stored : IsPartStored file.name file.text call.store call.store_after
  pub risen : call.store.write_faults < call.store_after.write_faults

-- the printing failed: the status is 7, a prefix of the line is printed, and the text is stored all the same
pub record FailsToPrint (call : Call) (outcome : Outcome) : Type 0 where
  pub status : call.status ≡ 7
  pub printed : AppendedPart (outcome_line outcome) call.sink.written call.sink_after.written
  pub risen : call.sink.faults < call.sink_after.faults
  pub stored : Stores call (outcome_file outcome)

-- the count of failed reads rises with a read fault, so that a read of this call failed, and else stays
abbrev pub CountsReads : Outcome → ℕ → ℕ → Type 0
CountsReads (read_fault file) before after = before < after
CountsReads outcome before after = after ≡ before

-- the outcome is shown and its text stored, or one of the two failed
pub record Shows (call : Call) (outcome : Outcome) : Type 0 where
  pub reads : CountsReads outcome call.store.read_faults call.store_after.read_faults
  pub way : ShowsWhole call outcome ⊎ (FailsToStore call outcome ⊎ FailsToPrint call outcome)

-- it is shown, or that memory was short
abbrev pub ShowsOr : Outcome → Call → Type 0
ShowsOr outcome call = Shows call outcome ⊎ Shows call no_memory

-- the work on a request came to an outcome, which is right by whatever the files hold, if they hold what the reads gave, and shows it; the contents that the store tells hold that
pub record Serves (asked : Request) (call : Call) : Type 0 where
  pub outcome : Outcome
  pub is : (contents : List ℕ → Option (List ℕ)) → HoldsReads contents call → IsOutcome contents asked outcome
  pub failed : (contents : List ℕ → Option (List ℕ)) → HoldsReads contents call → Fails contents asked call.store_after.log outcome
  pub held : HoldsReads call.store.contents call
  pub shows : Shows call outcome

-- a call with these words came to an outcome, which is right by whatever the files hold, if they hold what the reads gave, and shows it; the contents that the store tells hold that
pub record HasOutcome (words : List (List ℕ)) (call : Call) : Type 0 where
  pub outcome : Outcome
  pub is : (contents : List ℕ → Option (List ℕ)) → HoldsReads contents call → IsOutcomeOf words contents outcome
  pub failed : (contents : List ℕ → Option (List ℕ)) → HoldsReads contents call → (asked : Request) → request words ≡ Some asked → Fails contents asked call.store_after.log outcome
  pub held : HoldsReads call.store.contents call
  pub shows : Shows call outcome
