-- What reading the files, and keeping their texts, comes to.
use Rattle.std.specs.Global.{Vec}
use Rattle.std.specs.Prelude.{◌≡◌, ℕ, List, Option, IfSome, Result, Ok, Err}
use Rattle.mill_load.specs.Loads.{AreMoves, IsSetup, LoadsJob, LoadsSetup, LoadsUnder, ReadsFile}
use Rattle.mill_load.specs.Setup.{IsJobText, IsPartText, SetupTexts}
use Rattle.mill_load.specs.declared.file.File.{File}
use Rattle.mill_load.specs.declared.file.File.TheVariants.{Job as JobFile, Part as PartFile, Program as ProgramFile}
use Rattle.mill_load.specs.declared.load.LoadFault.{LoadFault}
use Rattle.mill_load.specs.declared.load.LoadFault.TheVariants.{Memory, ReadFault, Unfit}
use Rattle.mill_report_run.specs.Outcomes.{AreTextsOf}
use Rattle.mill_report_run.specs.declared.load.JobRead.{JobRead}
use Rattle.mill_report_run.specs.declared.load.Loaded.{Loaded}
use Rattle.mill_report_run.specs.declared.load.SetupRead.{SetupRead}
use Rattle.mill_report_run.specs.Reports.{Read}
use Rattle.mill_report_run.specs.inner.Sources.{texts_of_sources}
use Rattle.mill_answer.specs.Verify.{IsReadBeforeProgram, IsUnfitProgram, Texts as ToldTexts}

-- ---- one text

-- the text of a file, where it is told, or why it has none
abbrev pub ReadsSource : Option (List ℕ) → File → Result (List ℕ) LoadFault → Type 0
ReadsSource told file (Ok source) = IfSome told (λ text. source ≡ text)
ReadsSource told file (Err fault) = (let r : Result (Vec ℕ) LoadFault = Err fault in ReadsFile told file r)

-- ---- the job

-- the text reads as the job
abbrev pub HoldsJob : JobRead → Type 0
HoldsJob r = IsJobText r.source r.job.fields

-- the text of the job's file, where it is told, or why there is no job
abbrev pub ReadsJob : Option (List ℕ) → Result JobRead LoadFault → Type 0
ReadsJob told (Ok r) = IfSome told (λ text. r.source ≡ text)
ReadsJob told (Err fault) = LoadsJob told (Err fault)

-- ---- the part

-- the texts read as the job and the part, which isn't over the job's top
pub record HoldsSetup (r : SetupRead) : Type 0 where
  pub job_is : IsJobText r.job r.setup.job.fields
  pub part_is : IsPartText r.setup.job.fields r.part r.setup.part
  pub under : IsSetup r.setup

-- the job's text stays, and to it comes that of the part's file, where it is told
pub record AddsPart (before : JobRead) (told : Option (List ℕ)) (r : SetupRead) : Type 0 where
  pub stays : r.job ≡ before.source
  pub same : IfSome told (λ text. r.part ≡ text)

-- the text of the part's file for a job, or why there is no part
abbrev pub ReadsPart : JobRead → Option (List ℕ) → Result SetupRead LoadFault → Type 0
ReadsPart before told (Ok r) = AddsPart before told r
ReadsPart before told (Err fault) = LoadsUnder before.job.fields told (Err fault)

-- each of the two texts is that of its file, where it is told
pub record AreSetupTexts (told : SetupTexts) (r : SetupRead) : Type 0 where
  pub job : IfSome told.job (λ text. r.job ≡ text)
  pub part : IfSome told.part (λ text. r.part ≡ text)

-- the texts of both files, or why there are no job and part
abbrev pub ReadsSetup : SetupTexts → Result SetupRead LoadFault → Type 0
ReadsSetup told (Ok r) = AreSetupTexts told r
ReadsSetup told (Err fault) = LoadsSetup told (Err fault)

-- ---- all three

-- the texts read as this job, this part and these moves, and these are all that a report asks for
pub record IsReady (l : Loaded) : Type 0 where
  pub moves_ok : AreMoves l.setup.job.fields l.moves.items
  pub read : Read (texts_of_sources l.sources) l.setup.job.fields l.setup.part l.moves.items

-- the texts of the three files, or why there is nothing to report on
abbrev pub Loads : ToldTexts → Result Loaded LoadFault → Type 0
Loads told (Ok l) = AreTextsOf told (texts_of_sources l.sources)
Loads told (Err Memory) = Unit {0}
Loads told (Err (ReadFault file)) = IsReadBeforeProgram told file
Loads told (Err (Unfit fault)) = IsUnfitProgram told fault

-- one of the three files that are read
abbrev pub IsReportFile : File → Type 0
IsReportFile JobFile = Unit {0}
IsReportFile PartFile = Unit {0}
IsReportFile ProgramFile = Unit {0}
IsReportFile file = ⊥

-- a read fault is that of one of the three files
abbrev pub IsOfThree : LoadFault → Type 0
IsOfThree Memory = Unit {0}
IsOfThree (ReadFault file) = IsReportFile file
IsOfThree (Unfit fault) = Unit {0}
