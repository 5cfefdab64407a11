-- What reading a list, and reading all that a command needs, comes to.
use Rattle.std.specs.Prelude.{◌≡◌, ◌⊎◌, ◌≤◌, ◌<◌, ℕ, true, false, List, [], length, take, All, Option, IfSome, Result, Ok, Err}
use Rattle.std.specs.Global.{Vec}
use Rattle.mill_base.specs.declared.limits.TheConstants.{MAX_WORKERS}
use Rattle.mill_base.specs.Covers.{IsUnder}
use Rattle.mill_job.specs.declared.fault.JobFault.TheVariants.{Missing}
use Rattle.mill_job.specs.declared.fields.JobFields.{JobFields}
use Rattle.mill_job.specs.declared.key.Key.TheVariants.{Feed}
use Rattle.mill_job.specs.declared.step_limits.TheConstants.{MAX_STEPS}
use Rattle.mill_job.specs.declared.step.Step.{Step}
use Rattle.mill_verify.specs.Files.{File as CutFile, IsFileOf}
use Rattle.mill_io.specs.Readings.{LastFails, Reading}
use Rattle.mill_load.specs.declared.file.File.{File}
use Rattle.mill_load.specs.declared.file.File.TheVariants.{Job as JobFile, Part as PartFile, List as ListFile, StepProgram}
use Rattle.mill_load.specs.declared.load.LoadFault.{LoadFault}
use Rattle.mill_load.specs.declared.load.LoadFault.TheVariants.{Memory, ReadFault, Unfit}
use Rattle.mill_load.specs.declared.load.Setup.{Setup}
use Rattle.mill_load.specs.declared.load.Unfit.TheVariants.{TooLong, JobRefused, ListRefused}
use Rattle.mill_run.specs.declared.verify.Loaded.{Loaded}
use Rattle.mill_run.specs.declared.rest.Listed.{Listed}
use Rattle.mill_run.specs.declared.stock.Cutting.{Cutting}
use Rattle.mill_run.specs.Plan.{NeedsNoFeed, IsUnfitPlan}
use Rattle.mill_run.specs.Rest.{RestTexts, rest_texts, FailsAtStep, ReadsRest, ReadsSteps, step_at, IsListText, IsRefusedList, IsUnfitRest, IsReadBeforeRest}
use Rattle.mill_load.specs.Setup.{SetupTexts, IsTooLongJob, ReadsSetup, IsReadBeforeWith}
use Rattle.mill_run.specs.Stock.{StockTexts, ReadsStock, IsUnfitStock, IsReadBeforeStock}
use Rattle.mill_answer.specs.Verify.{Texts, Reads, IsUnfitProgram, IsReadBeforeProgram}
use Rattle.mill_load.specs.Loads.{AreMoves, IsSetup, LoadsProgram, LoadsUnder, NamesFault}
use Rattle.mill_run.specs.Words.{RestFiles}

-- ---- a list and its programs

-- the steps of a list's file, or why there are none
abbrev pub LoadsList : JobFields → Option (List ℕ) → Result (Vec Step) LoadFault → Type 0
LoadsList job told (Ok steps) = IfSome told (λ text. IsListText job text steps.items)
LoadsList job told (Err Memory) = Unit {0}
LoadsList job told (Err (ReadFault ListFile)) = Unit {0}
LoadsList job told (Err (Unfit (TooLong ListFile))) = IfSome told IsTooLongJob
LoadsList job told (Err (Unfit (ListRefused fault))) = IfSome told (λ text. IsRefusedList job text fault)
LoadsList job told (Err _) = ⊥

-- why the program of a step has no moves, where all steps before it are read; a read fault is that of its file
pub record StopsAtStep (programs : List ℕ → Option (List ℕ)) (job : JobFields) (steps : List Step) (log : List Reading) (fault : LoadFault) : Type 0 where
  pub number : ℕ
  pub files : List CutFile
  pub there : number < length steps
  pub before : ReadsSteps programs job (take number steps) files
  pub stops : LoadsProgram job (programs (step_at steps number).program) (StepProgram number) (Err fault)
  pub failed : NamesFault (λ file. (step_at steps number).program) log fault

-- the name of each of a list's files but its programs
abbrev pub rest_name : RestFiles → File → List ℕ
rest_name names JobFile = names.job
rest_name names PartFile = names.part
rest_name names ListFile = names.list
rest_name names _ = []

-- a read fault is one of the last read, which was of the file that it names
abbrev pub FailsInRest : (List ℕ → Option (List ℕ)) → RestFiles → List Reading → LoadFault → Type 0
FailsInRest contents names log Memory = Unit {0}
FailsInRest contents names log (ReadFault (StepProgram k)) = FailsAtStep (rest_texts contents names) k log
FailsInRest contents names log (ReadFault file) = LastFails (rest_name names file) log
FailsInRest contents names log (Unfit fault) = Unit {0}

-- ---- job and part of a plan

-- the part of a job that asks for no spindle, or why there is none; a job that asks for one is refused before
abbrev pub LoadsFed : JobFields → Option (List ℕ) → Result Setup LoadFault → Type 0
LoadsFed job told r = ((job.spindle ≡ false) × LoadsUnder job told r) ⊎ ((job.spindle ≡ true) × (r ≡ Err (Unfit (JobRefused (Missing Feed)))))

-- job and part, or why there are none
abbrev pub LoadsPlan : SetupTexts → Result Setup LoadFault → Type 0
LoadsPlan texts (Ok s) = ReadsSetup texts s.job.fields s.part
LoadsPlan texts (Err Memory) = Unit {0}
LoadsPlan texts (Err (ReadFault file)) = IsReadBeforeWith (NeedsNoFeed texts) file
LoadsPlan texts (Err (Unfit fault)) = IsUnfitPlan texts fault

-- ---- all that a command needs

-- job, part and moves, or why there are none
abbrev pub Loads : Texts → Result Loaded LoadFault → Type 0
Loads texts (Ok l) = Reads texts l.job.fields l.part l.moves.items
Loads texts (Err Memory) = Unit {0}
Loads texts (Err (ReadFault file)) = IsReadBeforeProgram texts file
Loads texts (Err (Unfit fault)) = IsUnfitProgram texts fault

-- job and moves, or why there are none
abbrev pub LoadsCutting : StockTexts → Result Cutting LoadFault → Type 0
LoadsCutting texts (Ok c) = ReadsStock texts c.job.fields c.moves.items
LoadsCutting texts (Err Memory) = Unit {0}
LoadsCutting texts (Err (ReadFault file)) = IsReadBeforeStock texts file
LoadsCutting texts (Err (Unfit fault)) = IsUnfitStock texts fault

-- job, part, steps and files, or why there are none
abbrev pub LoadsFiles : RestTexts → Result Listed LoadFault → Type 0
LoadsFiles texts (Ok l) = ReadsRest texts l.job.fields l.part l.steps.items l.files.items
LoadsFiles texts (Err Memory) = Unit {0}
LoadsFiles texts (Err (ReadFault file)) = IsReadBeforeRest texts file
LoadsFiles texts (Err (Unfit fault)) = IsUnfitRest texts fault

-- ---- what was read

-- all that the planner asks for
pub record CanBePlanned (s : Setup) : Type 0 where
  pub under : IsSetup s
  pub still : s.job.fields.spindle ≡ false

-- all that the verifier asks for
pub record IsReady (l : Loaded) : Type 0 where
  pub under : IsUnder l.part l.job.fields.top
  pub moves_ok : AreMoves l.job.fields l.moves.items

-- moves within the ranges that cutting asks for
abbrev pub IsCutting : Cutting → Type 0
IsCutting c = AreMoves c.job.fields c.moves.items

-- all that the verifier asks for of files in turn
pub record AreFilesReady (l : Listed) : Type 0 where
  pub under : IsUnder l.part l.job.fields.top
  pub files_ok : All (IsFileOf l.job.fields) l.files.items
  pub few : length l.files.items ≤ MAX_STEPS

-- a number of workers that a command may have
pub record AreWorkers (workers : ℕ) : Type 0 where
  pub some : 1 ≤ workers
  pub few : workers ≤ MAX_WORKERS
