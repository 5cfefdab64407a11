-- What one call of the program means. What is said of files is said of whatever they hold, if they hold what the reads gave: `contents` tell of each name what its file holds, or nothing.
-- What the store itself tells holds that too (`held` of HasOutcome).
use Rattle.std.specs.List.{AllZip}
use Rattle.std.specs.Prelude.{◌⊎◌, ◌≡◌, ◌≢◌, ℕ, ℤ, true, false, List, length, All, IsSome, Option, Some}
use Rattle.mill_io.specs.Views.{IsWritten, IsStored}
use Rattle.mill_base.specs.declared.points.Tri.{Tri}
use Rattle.mill_base.specs.Motion.{Follow}
use Rattle.mill_base.specs.declared.motion.Move.{Move}
use Rattle.mill_base.specs.declared.points.Pt3.{Pt3}
use Rattle.mill_command.specs.Requests.{Request, is_taken, request}
use Rattle.mill_dexel.specs.Tops.{uncut}
use Rattle.mill_job.specs.Columns.{home}
use Rattle.mill_job.specs.Jobs.{IsJob}
use Rattle.mill_job.specs.declared.fields.JobFields.{JobFields}
use Rattle.mill_plan.specs.Plans.{done}
use Rattle.mill_stl.specs.Written.{ReadsBack}
use Rattle.mill_verify.specs.Verdicts.{IsRejection, NamesLeaf}
use Rattle.mill_job.specs.declared.step.Step.{Step}
use Rattle.mill_verify.specs.Claims.{CutsSafely}
use Rattle.mill_verify.specs.Files.{File as CutFile, IsFileOf, job_of}
use Rattle.mill_verify.specs.ListClaims.{FilesCutSafely}
use Rattle.mill_verify.specs.Lists.{IsListVerdict}
use Rattle.mill_verify.specs.Starts.{StartsSafely}
use Rattle.mill_verify.specs.declared.list.ListVerdict.{ListVerdict}
use Rattle.mill_verify.specs.declared.verdict.Verdict.TheVariants.{Accept, Reject}
use Rattle.mill_verify.specs.declared.verdict.Reason.{Reason}
use Rattle.mill_job.specs.declared.fields.Place.{Place}
use Rattle.mill_run.specs.Answers.{Answer, IsAnswer, answer_status, answer_line, answer_file}
use Rattle.mill_answer.specs.ByText.{MayGoByText}
use Rattle.mill_answer.specs.Calls.{Call, HoldsReads, NoFault}
use Rattle.mill_run.specs.Outcomes.{Stores}
use Rattle.mill_load.specs.Loads.{AreMoves}
use Rattle.mill_load.specs.Places.{ReadsPlace, ReadsHeight}
use Rattle.mill_run.specs.Outcomes.{ShowsHelp, RefusesWords}
use Rattle.mill_run.specs.Plan.{plan_line}
use Rattle.mill_run.specs.Rest.{rest_texts, AreRestTold, ReadsRest, IsFileNamed, list_status, list_line}
use Rattle.mill_load.specs.Setup.{Fits, setup_texts, AreSetupTold, ReadsJob, ReadsSetup}
use Rattle.mill_run.specs.Stock.{stock_texts, AreStockTold, ReadsStock, stock_surface, drawn, stock_line}
use Rattle.mill_answer.specs.Verify.{AcceptsSafely, texts_of, AreTold, Reads, Judges, verdict_line}
use Rattle.mill_answer.specs.Verify.{Files}
use Rattle.mill_run.specs.Words.{AsksVerify, PlanFiles, AsksPlan, DropWords, AsksDrop, LevelWords, AsksLevel, StockFiles, AsksStock, RestFiles, AsksRest, AsksSample}

-- ---- from bytes to bytes

-- status, line and stored text are those of the answer to the request, which is right by whatever the files hold, if they hold what the reads gave
pub record Answered (call : Call) (asked : Request) : Type 0 where
  pub answer : Answer
  pub is : (contents : List ℕ → Option (List ℕ)) → HoldsReads contents call → IsAnswer contents asked answer
  pub status : call.status ≡ answer_status answer
  pub printed : IsWritten (answer_line answer) call.sink call.sink_after
  pub stored : Stores call (answer_file answer)

-- where nothing of the outside failed and memory was enough, words that are taken get their answer
abbrev pub Answers : List (List ℕ) → Call → Type 0
Answers words call = (asked : Request) → request words ≡ Some asked → NoFault call → call.status ≢ 5 → Answered call asked

-- where the files are told, hold what the reads gave and are read, the part isn't over the job's top and nothing of the outside failed, a program is accepted or rejected;
-- a plan is stored, or leaves stock uncut, or its holder would touch stock, or it is too large, or where the job asks for a spindle there is none; a drop height is told; the chains at a height are told, or the lattice is too large; or memory was short;
-- where the job's and the program's file are told, hold what the reads gave and are read, and nothing of the outside failed, the stock is stored, or its surface is too large; or memory was short;
-- where the files and the programs that the list names are told, hold what the reads gave and are read, the part isn't over the job's top and nothing of the outside failed, the programs are accepted or rejected; or memory was short;
-- where nothing of the outside failed, a sample is planned, or its plan leaves stock uncut, or its holder would touch stock, or it is too large; or memory was short
pub record Completes (words : List (List ℕ)) (call : Call) : Type 0 where
  pub verifies : (files : Files) (contents : List ℕ → Option (List ℕ)) (job : JobFields) (part : List Tri) (moves : List Move) → AsksVerify words files → HoldsReads contents call
      → AreTold (texts_of contents files) → Reads (texts_of contents files) job part moves → NoFault call → (call.status ≡ 0) ⊎ ((call.status ≡ 3) ⊎ (call.status ≡ 5))
  pub plans : (files : PlanFiles) (contents : List ℕ → Option (List ℕ)) (job : JobFields) (part : List Tri) → AsksPlan words files → HoldsReads contents call
      → AreSetupTold (setup_texts contents files.job files.part) → ReadsSetup (setup_texts contents files.job files.part) job part → job.spindle ≡ false → NoFault call
      → (call.status ≡ 0) ⊎ ((call.status ≡ 8) ⊎ ((call.status ≡ 9) ⊎ (call.status ≡ 5)))
  pub unfed : (files : PlanFiles) (contents : List ℕ → Option (List ℕ)) (job : JobFields) → AsksPlan words files → HoldsReads contents call → IsSome (contents files.job)
      → ReadsJob (setup_texts contents files.job files.part) job → job.spindle ≡ true → NoFault call → (call.status ≡ 4) ⊎ (call.status ≡ 5)
  pub drops : (given : DropWords) (contents : List ℕ → Option (List ℕ)) (place : Place) (job : JobFields) (part : List Tri) → AsksDrop words given
      → ReadsPlace job.unit given.x given.y place → HoldsReads contents call → AreSetupTold (setup_texts contents given.job given.part)
      → ReadsSetup (setup_texts contents given.job given.part) job part → NoFault call → (call.status ≡ 0) ⊎ (call.status ≡ 5)
  pub levels : (given : LevelWords) (contents : List ℕ → Option (List ℕ)) (height : ℤ) (job : JobFields) (part : List Tri) → AsksLevel words given
      → ReadsHeight job.unit given.z height → HoldsReads contents call → AreSetupTold (setup_texts contents given.job given.part)
      → ReadsSetup (setup_texts contents given.job given.part) job part → NoFault call → (call.status ≡ 0) ⊎ ((call.status ≡ 9) ⊎ (call.status ≡ 5))
  pub stocks : (files : StockFiles) (contents : List ℕ → Option (List ℕ)) (job : JobFields) (moves : List Move) → AsksStock words files → HoldsReads contents call
      → AreStockTold (stock_texts contents files.job files.program) → ReadsStock (stock_texts contents files.job files.program) job moves → NoFault call
      → (call.status ≡ 0) ⊎ ((call.status ≡ 9) ⊎ (call.status ≡ 5))
  pub rests : (names : RestFiles) (contents : List ℕ → Option (List ℕ)) (job : JobFields) (part : List Tri) (steps : List Step) (files : List CutFile) → AsksRest words names
      → HoldsReads contents call → AreRestTold (rest_texts contents names) steps
      → ReadsRest (rest_texts contents names) job part steps files → NoFault call → (call.status ≡ 0) ⊎ ((call.status ≡ 3) ⊎ (call.status ≡ 5))
  pub samples : (n : ℕ) → AsksSample words n → NoFault call → (call.status ≡ 0) ⊎ ((call.status ≡ 8) ⊎ ((call.status ≡ 9) ⊎ (call.status ≡ 5)))

-- where the words aren't taken and nothing of the outside failed, the status is that of help, of a mistake or of want of memory;
-- status 2 comes only where they aren't taken
pub record Untaken (words : List (List ℕ)) (call : Call) : Type 0 where
  pub refused : is_taken words ≡ false → NoFault call → call.status ≢ 5
      → ((call.status ≡ 0) × ShowsHelp words) ⊎ ((call.status ≡ 2) × RefusesWords words)
  pub mistaken : call.status ≡ 2 → RefusesWords words

-- what is said of a call from bytes to bytes: which answer words get that are taken, when they get one of their command's own, and what becomes of words that aren't taken
pub record Replies (words : List (List ℕ)) (call : Call) : Type 0 where
  pub answers : Answers words call
  pub completes : Completes words call
  pub untaken : Untaken words call

-- ---- what status 0 and status 3 mean

-- each file, if it holds what the reads gave, reads as this job, this part and these moves, which are in their ranges, the first written test that fails is this one, and the line names it;
-- a leaf that it names is one of the last of its move, and blocked
pub record RejectsFirst (call : Call) (files : Files) : Type 0 where
  pub job : JobFields
  pub part : List Tri
  pub moves : List Move
  pub reason : Reason
  pub all_read : (contents : List ℕ → Option (List ℕ)) → HoldsReads contents call → Reads (texts_of contents files) job part moves
  pub job_ok : IsJob job
  pub moves_ok : AreMoves job moves
  pub first : IsRejection job part moves reason
  pub named : NamesLeaf job part (uncut job) moves reason
  pub printed : IsWritten (verdict_line job moves (Reject reason)) call.sink call.sink_after

-- when `verify` answers 0, wherever within the slack the machine's own tip is at each moment of each move: no part point lies deeper than the overcut in the cutter,
-- nor a column point at or under the part; no rapid has a column point that may be left before it deeper than the graze in the cutter, and every column point that may
-- be left at the end is covered by part or floor within allowance and band; where the job limits the depth of cut, no feed has a column point so deep under its top
-- deeper than the graze in the cutter; where it has a holder, no part point is strictly inside the holder, nor a column point that may be left before the move; no point of a fixture
-- is strictly inside cutter or holder; and wherever the tip is before the program, the tool comes safely to where its moves begin;
-- status 3 names exactly the first written test that fails
pub record Headline (words : List (List ℕ)) (call : Call) : Type 0 where
  pub accepts : (files : Files) → AsksVerify words files → call.status ≡ 0 → AcceptsSafely call files
  pub rejects : (files : Files) → AsksVerify words files → call.status ≡ 3 → RejectsFirst call files
  pub exactly : (files : Files) (contents : List ℕ → Option (List ℕ)) (job : JobFields) (part : List Tri) (moves : List Move) (reason : Reason) → AsksVerify words files
      → HoldsReads contents call → AreTold (texts_of contents files) → Reads (texts_of contents files) job part moves
      → IsRejection job part moves reason → NoFault call → call.status ≢ 5 → call.status ≡ 3

-- the file holds a text that `verify` accepts with the same job and part, whatever their files hold, if they hold what the reads gave; its moves are safe, the tool comes safely
-- to home, where they begin, from wherever its tip is, and the line has its numbers
pub record StoresSafely (call : Call) (files : PlanFiles) : Type 0 where
  pub job : JobFields
  pub part : List Tri
  pub moves : List Move
  pub text : List ℕ
  pub columns : ℕ
  pub left : ℤ
  pub stored : IsStored files.out text call.store call.store_after
  pub accepted : (contents : List ℕ → Option (List ℕ)) → HoldsReads contents call
      → Judges (record { setup = setup_texts contents files.job files.part; program = Some text }) job part moves (Accept (length moves) columns left)
  pub start : StartsSafely job part (home job)
  pub safe : CutsSafely job part moves
  pub printed : IsWritten (plan_line job.unit (done text (length moves) columns left)) call.sink call.sink_after

-- when `plan` answers 0, the program that it stored is accepted and cuts safely
abbrev pub PlanHeadline : List (List ℕ) → Call → Type 0
PlanHeadline words call = (files : PlanFiles) → AsksPlan words files → call.status ≡ 0 → StoresSafely call files

-- the job's and the program's file, if they hold what the reads gave, read as this job and these moves, which are in their ranges; the file holds a text that reads, in the job's unit,
-- as exactly the surface of the stock after the moves, of which each corner is the point at its column's top and no coordinate is rounded; and the line has the number of its triangles
pub record StoresStock (call : Call) (files : StockFiles) : Type 0 where
  pub job : JobFields
  pub moves : List Move
  pub text : List ℕ
  pub all_read : (contents : List ℕ → Option (List ℕ)) → HoldsReads contents call → ReadsStock (stock_texts contents files.job files.program) job moves
  pub job_ok : IsJob job
  pub moves_ok : AreMoves job moves
  pub stored : IsStored files.out text call.store call.store_after
  pub fits : Fits text
  pub reads : ReadsBack job.unit (stock_surface job moves) text
  pub printed : IsWritten (stock_line (drawn text (length (stock_surface job moves)))) call.sink call.sink_after

-- when `stock` answers 0, what it stored is the surface of the stock after the program's moves
abbrev pub StockHeadline : List (List ℕ) → Call → Type 0
StockHeadline words call = (files : StockFiles) → AsksStock words files → call.status ≡ 0 → StoresStock call files

-- the moves of a file follow on each other from a place to which the tool comes safely, with the file's cutter, from wherever its tip is
pub record BeginsSafely (job : JobFields) (part : List Tri) (file : CutFile) : Type 0 where
  pub from : Pt3
  pub follow : Follow from file.moves
  pub start : StartsSafely (job_of job file) part from

-- what is promised of a machine that goes by the numbers of the step's program
abbrev pub StepGoesByText : (List ℕ → Option (List ℕ)) → JobFields → Step → CutFile → Type 0
StepGoesByText programs job step file = MayGoByText job (programs step.program) file.moves

-- each file, if it holds what the reads gave, reads as this job, this part, these steps and these files, which are in their ranges, and the files begin and cut safely in turn, each with its step's cutter
pub record AcceptsFilesSafely (call : Call) (names : RestFiles) : Type 0 where
  pub job : JobFields
  pub part : List Tri
  pub steps : List Step
  pub files : List CutFile
  pub all_read : (contents : List ℕ → Option (List ℕ)) → HoldsReads contents call → ReadsRest (rest_texts contents names) job part steps files
  pub job_ok : IsJob job
  pub files_ok : All (IsFileOf job) files
  pub starts : All (BeginsSafely job part) files
  pub safe : FilesCutSafely job part files
  pub by_texts : (contents : List ℕ → Option (List ℕ)) → HoldsReads contents call → AllZip (StepGoesByText contents job) steps files

-- each file, if it holds what the reads gave, reads as this job, this part, these steps and these files, which are in their ranges, the verdict on them is this rejection, and the line names it;
-- a leaf that it names is one of the last of its move, and blocked
pub record RejectsFilesFirst (call : Call) (names : RestFiles) : Type 0 where
  pub job : JobFields
  pub part : List Tri
  pub steps : List Step
  pub files : List CutFile
  pub verdict : ListVerdict
  pub all_read : (contents : List ℕ → Option (List ℕ)) → HoldsReads contents call → ReadsRest (rest_texts contents names) job part steps files
  pub job_ok : IsJob job
  pub files_ok : All (IsFileOf job) files
  pub first : IsListVerdict job part files verdict
  pub rejects : list_status verdict ≡ 3
  pub named : IsFileNamed job part files verdict
  pub printed : IsWritten (list_line job files verdict) call.sink call.sink_after

-- when `rest` answers 0, the headline of `verify` holds for the moves of all the list's programs in turn, each with its own cutter;
-- status 3 names exactly the first written test that fails
pub record RestHeadline (words : List (List ℕ)) (call : Call) : Type 0 where
  pub accepts : (names : RestFiles) → AsksRest words names → call.status ≡ 0 → AcceptsFilesSafely call names
  pub rejects : (names : RestFiles) → AsksRest words names → call.status ≡ 3 → RejectsFilesFirst call names
  pub exactly : (names : RestFiles) (contents : List ℕ → Option (List ℕ)) (job : JobFields) (part : List Tri) (steps : List Step) (files : List CutFile) (verdict : ListVerdict)
      → AsksRest words names → HoldsReads contents call → AreRestTold (rest_texts contents names) steps
      → ReadsRest (rest_texts contents names) job part steps files → IsListVerdict job part files verdict → list_status verdict ≡ 3 → NoFault call → call.status ≢ 5 → call.status ≡ 3

-- what status 0 and status 3 of `verify` and of `rest` mean, and status 0 of `plan` and of `stock`
pub record Headlines (words : List (List ℕ)) (call : Call) : Type 0 where
  pub verify : Headline words call
  pub plan : PlanHeadline words call
  pub stock : StockHeadline words call
  pub rest : RestHeadline words call
