-- What a call comes to, and how it tells that.
use Rattle.std.specs.Prelude.{◌≡◌, ◌<◌, ℕ, List, [], Option, Some, IfSome}
use Rattle.mill_base.specs.declared.motion.Move.{Move}
use Rattle.mill_base.specs.declared.points.Tri.{Tri}
use Rattle.mill_io.specs.Readings.{LastFails, Reading}
use Rattle.mill_io.specs.Views.{ReadsOnly}
use Rattle.mill_job.specs.Jobs.{IsJob}
use Rattle.mill_job.specs.declared.fields.JobFields.{JobFields}
use Rattle.mill_answer.specs.Faults.{fault_status}
use Rattle.mill_load.specs.Loads.{AreMoves}
use Rattle.mill_answer.specs.Prints.{Prints}
use Rattle.mill_load.specs.declared.file.File.{File}
use Rattle.mill_load.specs.declared.file.File.TheVariants.{Job as JobFile, Part as PartFile, Program as ProgramFile}
use Rattle.mill_load.specs.declared.load.LoadFault.{LoadFault}
use Rattle.mill_load.specs.declared.load.LoadFault.TheVariants.{Memory, ReadFault, Unfit}
use Rattle.mill_report_run.specs.Reports.{IsFaultText, IsReportText, Texts}
use Rattle.mill_report_run.specs.Words.{Request, RefusesWords, ShowsHelp, request}
use Rattle.mill_answer.specs.Calls.{Call, HoldsReads}
use Rattle.mill_answer.specs.Verify.{Files, IsReadBeforeProgram, IsUnfitProgram, Texts as ToldTexts, texts_of}

-- a report: the texts of the three files, the job, the part and the moves that they read as, and the report's text and status
pub record Reported : Type 0 where
  pub texts : Texts
  pub job : JobFields
  pub part : List Tri
  pub moves : List Move
  pub report : List ℕ
  pub status : ℕ

-- what a call comes to before it prints: clap's text of help or of a mistake in the words; or what kept it from a report; or a report
pub data Outcome : Type 0 where
  help : List ℕ → Outcome
  bad_words : List ℕ → Outcome
  failed : LoadFault → Outcome
  reported : Reported → Outcome

-- its exit status
abbrev pub outcome_status : Outcome → ℕ
outcome_status (help shown) = 0
outcome_status (bad_words shown) = 2
outcome_status (failed fault) = fault_status fault
outcome_status (reported r) = r.status

-- this text tells it
abbrev pub IsTextOf : Outcome → List ℕ → Type 0
IsTextOf (help shown) text = text ≡ shown
IsTextOf (bad_words shown) text = text ≡ shown
IsTextOf (failed fault) text = IsFaultText fault text
IsTextOf (reported r) text = text ≡ r.report

-- ---- which outcome it is

-- each text is that of its file, where that is told
pub record AreTextsOf (told : ToldTexts) (texts : Texts) : Type 0 where
  pub job : IfSome told.setup.job (λ text. texts.job ≡ text)
  pub part : IfSome told.setup.part (λ text. texts.part ≡ text)
  pub program : IfSome told.program (λ text. texts.program ≡ text)

-- each of its texts is that of its file, where that is told; they read as its job, its part and its moves, which are in their ranges, and the report on them has its text and its status
pub record Reports (told : ToldTexts) (r : Reported) : Type 0 where
  pub agree : AreTextsOf told r.texts
  pub job_ok : IsJob r.job
  pub moves_ok : AreMoves r.job r.moves
  pub is : IsReportText r.texts r.job r.part r.moves r.report r.status

-- the work on these files comes to this: memory was short; or a file couldn't be read, and all before it could; or the first check of them that fails is this one; or this is the report on them
abbrev pub IsOutcome : ToldTexts → Outcome → Type 0
IsOutcome told (failed Memory) = Unit {0}
IsOutcome told (failed (ReadFault file)) = IsReadBeforeProgram told file
IsOutcome told (failed (Unfit fault)) = IsUnfitProgram told fault
IsOutcome told (reported r) = Reports told r
IsOutcome told outcome = ⊥

-- the name of each of the three files
abbrev pub name_in : Files → File → List ℕ
name_in files JobFile = files.job
name_in files PartFile = files.part
name_in files ProgramFile = files.program
name_in files _ = []

-- where the work on these files comes to a read fault, the last read was one of the file that it names, and it failed
abbrev pub Fails : Files → List Reading → Outcome → Type 0
Fails files log (failed (ReadFault file)) = LastFails (name_in files file) log
Fails files log outcome = Unit {0}

-- the words are taken as a request, and the work on its files comes to this
pub record AsksFor (words : List (List ℕ)) (contents : List ℕ → Option (List ℕ)) (outcome : Outcome) : Type 0 where
  pub asked : Request
  pub taken : request words ≡ Some asked
  pub is : IsOutcome (texts_of contents asked.files) outcome

-- a call with these words comes to this
abbrev pub IsOutcomeOf : List (List ℕ) → (List ℕ → Option (List ℕ)) → Outcome → Type 0
IsOutcomeOf words contents (help shown) = ShowsHelp words
IsOutcomeOf words contents (bad_words shown) = RefusesWords words
IsOutcomeOf words contents (failed Memory) = Unit {0}
IsOutcomeOf words contents (failed (ReadFault file)) = AsksFor words contents (failed (ReadFault file))
IsOutcomeOf words contents (failed (Unfit fault)) = AsksFor words contents (failed (Unfit fault))
IsOutcomeOf words contents (reported r) = AsksFor words contents (reported r)

-- ---- how it is told

-- the count of failed reads rises with a read fault, so that a read of this call failed, and else stays
abbrev pub CountsReads : Outcome → ℕ → ℕ → Type 0
CountsReads (help shown) before after = after ≡ before
CountsReads (bad_words shown) before after = after ≡ before
CountsReads (failed Memory) before after = after ≡ before
CountsReads (failed (ReadFault file)) before after = before < after
CountsReads (failed (Unfit fault)) before after = after ≡ before
CountsReads (reported r) before after = after ≡ before

-- its text was printed, with its status, or the printing failed; nothing of the store has changed but the count of failed reads
pub record Shows (call : Call) (outcome : Outcome) : Type 0 where
  pub text : List ℕ
  pub text_is : IsTextOf outcome text
  pub printed : Prints text (outcome_status outcome) call.status call.sink call.sink_after
  pub only : ReadsOnly call.store call.store_after
  pub reads : CountsReads outcome call.store.read_faults call.store_after.read_faults

-- a call with these words came to one outcome, which is right by whatever the files hold, if they hold what the reads gave, and tells it; the contents that the store tells hold that
pub record HasOutcome (words : List (List ℕ)) (call : Call) : Type 0 where
  pub outcome : Outcome
  pub is : (contents : List ℕ → Option (List ℕ)) → HoldsReads contents call → IsOutcomeOf words contents outcome
  pub held : HoldsReads call.store.contents call
  pub fails : (asked : Request) → request words ≡ Some asked → Fails asked.files call.store_after.log outcome
  pub shows : Shows call outcome
