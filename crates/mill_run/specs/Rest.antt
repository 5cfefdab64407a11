-- The command `rest`: what its files say, each where it is told, and the verdict on the programs that its list names, in turn on one stock.
use Rattle.std.specs.Prelude.{◌≡◌, ℕ, ◌<◌, pos, codes, decimal, List, [], ◌∷◌, length, take, slice_index_or, All, Option, IsSome, IfSome, Ok, Err}
use Rattle.mill_base.specs.declared.cutter.Cutter.TheVariants.{Flat}
use Rattle.mill_base.specs.declared.points.Tri.{Tri}
use Rattle.mill_decimal.specs.Decimals.{canonical}
use Rattle.mill_job.specs.declared.fault.JobFault.{JobFault}
use Rattle.mill_job.specs.Jobs.{IsJob}
use Rattle.mill_job.specs.declared.fields.JobFields.{JobFields}
use Rattle.mill_job.specs.Lists.{IsListOf}
use Rattle.mill_job.specs.declared.step.Step.{Step}
use Rattle.mill_said.specs.declared.fault.NgcFault.{NgcFault}
use Rattle.mill_verify.specs.Files.{File as CutFile, IsFileOf, file_at, job_of, stock_before}
use Rattle.mill_verify.specs.ListClaims.{FilesCutSafely}
use Rattle.mill_verify.specs.Lists.{IsListVerdict}
use Rattle.mill_verify.specs.Verdicts.{NamesLeaf}
use Rattle.mill_verify.specs.declared.list.ListVerdict.{ListVerdict}
use Rattle.mill_verify.specs.declared.list.ListVerdict.TheVariants.{Accept, Reject, Left}
use Rattle.mill_answer.specs.Lines.{line}
use Rattle.mill_load.specs.declared.file.File.{File}
use Rattle.mill_load.specs.declared.file.File.TheVariants.{List as ListFile, StepProgram}
use Rattle.mill_load.specs.declared.load.Unfit.{Unfit}
use Rattle.mill_load.specs.declared.load.Unfit.TheVariants.{TooLong, ListRefused, ProgramRefused}
use Rattle.mill_answer.specs.Printed.{column_words, margin_words}
use Rattle.mill_io.specs.Readings.{LastFails, Reading}
use Rattle.mill_load.specs.Setup.{SetupTexts, setup_texts, AreSetupTold, FitsJobFile, IsTooLong, IsTooLongJob, ReadsSetup, IsUnfit, IsReadBefore}
use Rattle.mill_load.specs.Programs.{IsProgramText, IsRefusedProgram}
use Rattle.mill_answer.specs.Verify.{NamesMove, reason_words}
use Rattle.mill_run.specs.Words.{RestFiles}

-- what is told of the job's, the part's and the list's file, and of each name that a list may give: the text of each, or nothing
pub record RestTexts : Type 0 where
  pub setup : SetupTexts
  pub list : Option (List ℕ)
  pub programs : List ℕ → Option (List ℕ)

abbrev pub rest_texts : (List ℕ → Option (List ℕ)) → RestFiles → RestTexts
rest_texts contents names = record { setup = setup_texts contents names.job names.part; list = contents names.list; programs = contents }

-- job, part and list are told, and the program of each of these steps
pub record AreRestTold (texts : RestTexts) (steps : List Step) : Type 0 where
  pub setup : AreSetupTold texts.setup
  pub list : IsSome texts.list
  pub programs : All (λ step. IsSome (texts.programs step.program)) steps

-- ---- the list

-- a text within the limit that reads, for the job, as these steps
pub record IsListText (job : JobFields) (text : List ℕ) (steps : List Step) : Type 0 where
  pub fits : FitsJobFile text
  pub reads : IsListOf job text (Ok steps)

-- a text within the limit that is refused, with its first fault
pub record IsRefusedList (job : JobFields) (text : List ℕ) (fault : JobFault) : Type 0 where
  pub fits : FitsJobFile text
  pub refused : IsListOf job text (Err fault)

-- where the list's file is told, it reads, for the job, as these steps
abbrev pub ReadsList : RestTexts → JobFields → List Step → Type 0
ReadsList texts job steps = IfSome texts.list (λ text. IsListText job text steps)

-- ---- its programs

-- step k; there is none past the end, so what stands there is never looked at
abbrev pub step_at : List Step → ℕ → Step
step_at steps k = slice_index_or steps k (record { program = []; cutter = Flat (pos 1) })

-- the file has the step's cutter; where the step's program is told, it reads, from the job's home and in its unit, as the file's moves
pub record ReadsStep (programs : List ℕ → Option (List ℕ)) (job : JobFields) (step : Step) (file : CutFile) : Type 0 where
  pub cutter_is : file.cutter ≡ step.cutter
  pub moves_are : IfSome (programs step.program) (λ text. IsProgramText job text file.moves)

-- so it is of each step and the file at its place
abbrev pub ReadsSteps : (List ℕ → Option (List ℕ)) → JobFields → List Step → List CutFile → Type 0
ReadsSteps programs job [] [] = Unit {0}
ReadsSteps programs job (step ∷ steps) (file ∷ files) = ReadsStep programs job step file × ReadsSteps programs job steps files
ReadsSteps programs job _ _ = ⊥

-- job, part and list, where they are told, read as this job, this part and these steps, the part isn't over the job's top, and the steps read as these files
pub record ReadsRest (texts : RestTexts) (job : JobFields) (part : List Tri) (steps : List Step) (files : List CutFile) : Type 0 where
  pub setup_is : ReadsSetup texts.setup job part
  pub list_is : ReadsList texts job steps
  pub files_are : ReadsSteps texts.programs job steps files

-- ---- what keeps it from a verdict

-- job and part are read, and the part isn't too high; where the list's file is told, it is too long
pub record LongList (texts : RestTexts) : Type 0 where
  pub job : JobFields
  pub part : List Tri
  pub setup_is : ReadsSetup texts.setup job part
  pub long : IfSome texts.list IsTooLongJob

-- job and part are read, and the part isn't too high; where the list's file is told, it is refused for the job
pub record RefusesList (texts : RestTexts) (fault : JobFault) : Type 0 where
  pub job : JobFields
  pub part : List Tri
  pub setup_is : ReadsSetup texts.setup job part
  pub refused : IfSome texts.list (λ text. IsRefusedList job text fault)

-- all that comes before the program of step k, which is this step, is read: job, part and list, and the programs of the steps before it
pub record ReadsToStep (texts : RestTexts) (job : JobFields) (step : Step) (k : ℕ) : Type 0 where
  pub part : List Tri
  pub steps : List Step
  pub files : List CutFile
  pub setup_is : ReadsSetup texts.setup job part
  pub list_is : ReadsList texts job steps
  pub there : k < length steps
  pub step_is : step ≡ step_at steps k
  pub before : ReadsSteps texts.programs job (take k steps) files

-- so it is; where the program of step k is told, it is too long
pub record LongStep (texts : RestTexts) (k : ℕ) : Type 0 where
  pub job : JobFields
  pub step : Step
  pub before : ReadsToStep texts job step k
  pub long : IfSome (texts.programs step.program) IsTooLong

-- so it is; where the program of step k is told, it is refused
pub record RefusesStep (texts : RestTexts) (k : ℕ) (fault : NgcFault) : Type 0 where
  pub job : JobFields
  pub step : Step
  pub before : ReadsToStep texts job step k
  pub refused : IfSome (texts.programs step.program) (λ text. IsRefusedProgram job text fault)

-- the first check of the files that fails: job, part and part-top, the list, then the program of each step in turn
abbrev pub IsUnfitRest : RestTexts → Unfit → Type 0
IsUnfitRest texts (TooLong ListFile) = LongList texts
IsUnfitRest texts (TooLong (StepProgram k)) = LongStep texts k
IsUnfitRest texts (ListRefused fault) = RefusesList texts fault
IsUnfitRest texts (ProgramRefused (StepProgram k) fault) = RefusesStep texts k fault
IsUnfitRest texts unfit = IsUnfit texts.setup unfit

-- all that is read and checked before one of the files holds
abbrev pub IsReadBeforeRest : RestTexts → File → Type 0
IsReadBeforeRest texts ListFile = (job : JobFields) × (part : List Tri) × ReadsSetup texts.setup job part
IsReadBeforeRest texts (StepProgram k) = (job : JobFields) × (step : Step) × ReadsToStep texts job step k
IsReadBeforeRest texts file = IsReadBefore texts.setup file

-- the last read was one of the program of step k, and it failed; all that comes before it is read.
-- Where the list isn't told, nothing says what its step k is: so this is to be said of every list that holds what was read, and each has that program at step k
pub record FailsAtStep (texts : RestTexts) (k : ℕ) (log : List Reading) : Type 0 where
  pub job : JobFields
  pub step : Step
  pub before : ReadsToStep texts job step k
  pub last : LastFails step.program log

-- ---- the verdict

-- files that are accepted cut safely, each with its own cutter
abbrev pub AreSafe : JobFields → List Tri → List CutFile → ListVerdict → Type 0
AreSafe job part files (Accept count moves columns left) = FilesCutSafely job part files
AreSafe job part files _ = Unit {0}

-- a leaf that a rejection names is one of the last of its move, and blocked: by the triangle that is named, or by the point at which the column that is named is tested
-- on the stock that the files before it left
abbrev pub IsFileNamed : JobFields → List Tri → List CutFile → ListVerdict → Type 0
IsFileNamed job part files (Reject f reason) = NamesLeaf (job_of job (file_at files f)) part (stock_before job files f) (file_at files f).moves reason
IsFileNamed job part files _ = Unit {0}

-- all is read, job and files are in their ranges, this is the verdict on the files, and if they are accepted they cut safely; what a rejection names blocks the move
pub record JudgesFiles (texts : RestTexts) (job : JobFields) (part : List Tri) (steps : List Step) (files : List CutFile) (verdict : ListVerdict) : Type 0 where
  pub all_read : ReadsRest texts job part steps files
  pub job_ok : IsJob job
  pub files_ok : All (IsFileOf job) files
  pub is : IsListVerdict job part files verdict
  pub safe : AreSafe job part files verdict
  pub named : IsFileNamed job part files verdict

-- ---- how it is shown

abbrev pub list_status : ListVerdict → ℕ
list_status (Accept count moves columns left) = 0
list_status (Reject f reason) = 3
list_status (Left j i top) = 3

-- the file that a verdict's line names is there, and so is the move of it that the line shows the height of
abbrev pub NamesFileMove : List CutFile → ListVerdict → Type 0
NamesFileMove files (Reject f reason) = (f < length files) × NamesMove (file_at files f).moves reason
NamesFileMove files _ = Unit {0}

-- the line of a verdict, with lengths in the job's unit; an acceptance tells the margins that it was given with, and a reason counts the moves of its file
abbrev pub list_line : JobFields → List CutFile → ListVerdict → List ℕ
list_line job files (Accept count moves columns left) = line (codes "accepted" ∷ codes "files" ∷ decimal count ∷ codes "moves" ∷ decimal moves ∷ codes "columns" ∷ decimal columns ∷ codes "left" ∷ canonical job.unit left ∷ margin_words job.unit job.overcut job.slack)
list_line job files (Reject f reason) = line (codes "rejected" ∷ codes "file" ∷ decimal f ∷ reason_words job.unit (file_at files f).moves reason)
list_line job files (Left j i top) = line (codes "rejected" ∷ codes "left" ∷ column_words job.unit j i top)
