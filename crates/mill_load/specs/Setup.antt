-- What the job's and the part's file say, each where it is told: what a command works on, or why it gets nothing to work on.
use Rattle.std.specs.Prelude.{◌≡◌, ℕ, ◌≤◌, ◌<◌, ℤ, ◌<ℤ◌, List, length, Option, IsSome, IfSome, Ok, Err}
use Rattle.mill_base.specs.declared.limits.TheConstants.{MAX_FILE_BYTES}
use Rattle.mill_base.specs.declared.points.Tri.{Tri}
use Rattle.mill_base.specs.declared.unit.Unit.{Unit as LengthUnit}
use Rattle.mill_base.specs.Covers.{IsUnder}
use Rattle.mill_part.specs.Tops.{IsTop}
use Rattle.mill_stl.specs.Parts.{part_of}
use Rattle.mill_stl.specs.declared.fault.StlFault.{StlFault}
use Rattle.mill_job.specs.declared.fields.JobFields.{JobFields}
use Rattle.mill_job.specs.declared.fault.JobFault.{JobFault}
use Rattle.mill_job.specs.Documents.{IsJobOf}
use Rattle.mill_load.specs.declared.file.File.{File}
use Rattle.mill_load.specs.declared.file.File.TheVariants.{Job as JobFile, Part as PartFile, Program as ProgramFile, List as ListFile, StepProgram}
use Rattle.mill_load.specs.declared.limits.TheConstants.{MAX_JOB_BYTES}
use Rattle.mill_load.specs.declared.load.Unfit.{Unfit}
use Rattle.mill_load.specs.declared.load.Unfit.TheVariants.{TooLong, JobRefused, PartRefused, PartTop}

-- what is told of the job's and of the part's file: the text of each, or nothing
pub record SetupTexts : Type 0 where
  pub job : Option (List ℕ)
  pub part : Option (List ℕ)

abbrev pub setup_texts : (List ℕ → Option (List ℕ)) → List ℕ → List ℕ → SetupTexts
setup_texts contents job part = record { job = contents job; part = contents part }

-- it tells both
pub record AreSetupTold (texts : SetupTexts) : Type 0 where
  pub job : IsSome texts.job
  pub part : IsSome texts.part

-- a part or a program has no more bytes than it may have, or has more
abbrev pub Fits : List ℕ → Type 0
Fits text = length text ≤ MAX_FILE_BYTES

abbrev pub IsTooLong : List ℕ → Type 0
IsTooLong text = MAX_FILE_BYTES < length text

-- so it is of a job or a list
abbrev pub FitsJobFile : List ℕ → Type 0
FitsJobFile text = length text ≤ MAX_JOB_BYTES

abbrev pub IsTooLongJob : List ℕ → Type 0
IsTooLongJob text = MAX_JOB_BYTES < length text

-- the most bytes that each of the files may have
abbrev pub most_bytes : File → ℕ
most_bytes JobFile = MAX_JOB_BYTES
most_bytes PartFile = MAX_FILE_BYTES
most_bytes ProgramFile = MAX_FILE_BYTES
most_bytes ListFile = MAX_JOB_BYTES
most_bytes (StepProgram k) = MAX_FILE_BYTES

-- ---- the job

-- a text within the limit that reads as this job
pub record IsJobText (text : List ℕ) (job : JobFields) : Type 0 where
  pub fits : FitsJobFile text
  pub reads : IsJobOf text (Ok job)

-- a text within the limit that is refused, with its first fault
pub record IsRefusedJob (text : List ℕ) (fault : JobFault) : Type 0 where
  pub fits : FitsJobFile text
  pub refused : IsJobOf text (Err fault)

-- where the job's file is told, it reads as this job
abbrev pub ReadsJob : SetupTexts → JobFields → Type 0
ReadsJob texts job = IfSome texts.job (λ text. IsJobText text job)

-- ---- the part

-- a text within the limit that reads, in the job's unit and under its snap, as these triangles
pub record IsPartText (job : JobFields) (text : List ℕ) (part : List Tri) : Type 0 where
  pub fits : Fits text
  pub rounded : ℕ
  pub reads : part_of job.snap job.unit text ≡ Ok (record { tris = part; rounded = rounded })

-- a text within the limit that is refused in that unit and under that snap, with its first fault
pub record IsRefusedPart (job : JobFields) (text : List ℕ) (fault : StlFault) : Type 0 where
  pub fits : Fits text
  pub refused : part_of job.snap job.unit text ≡ Err fault

-- where the part's file is told, it reads, for the job, as these triangles
abbrev pub ReadsPart : SetupTexts → JobFields → List Tri → Type 0
ReadsPart texts job part = IfSome texts.part (λ text. IsPartText job text part)

-- each of the two files, where it is told, reads as this job and as this part, and the part isn't over the job's top
pub record ReadsSetup (texts : SetupTexts) (job : JobFields) (part : List Tri) : Type 0 where
  pub job_is : ReadsJob texts job
  pub part_is : ReadsPart texts job part
  pub under : IsUnder part job.top

-- ---- what keeps a command from both

-- the job is read; where the part's file is told, it is too long
pub record LongPart (texts : SetupTexts) : Type 0 where
  pub job : JobFields
  pub job_is : ReadsJob texts job
  pub long : IfSome texts.part IsTooLong

-- the job is read; where the part's file is told, it is refused
pub record RefusesPart (texts : SetupTexts) (fault : StlFault) : Type 0 where
  pub job : JobFields
  pub job_is : ReadsJob texts job
  pub refused : IfSome texts.part (λ text. IsRefusedPart job text fault)

-- job and part are read, and the part's greatest height is over the job's top; both are in the job's unit
pub record HighPart (texts : SetupTexts) (height top : ℤ) (unit : LengthUnit) : Type 0 where
  pub job : JobFields
  pub part : List Tri
  pub job_is : ReadsJob texts job
  pub part_is : ReadsPart texts job part
  pub greatest : IsTop part height
  pub limit : top ≡ job.top
  pub unit_is : unit ≡ job.unit
  pub over : top <ℤ height

-- the first check of the two files that fails
abbrev pub IsUnfit : SetupTexts → Unfit → Type 0
IsUnfit texts (TooLong JobFile) = IfSome texts.job IsTooLongJob
IsUnfit texts (TooLong PartFile) = LongPart texts
IsUnfit texts (JobRefused fault) = IfSome texts.job (λ text. IsRefusedJob text fault)
IsUnfit texts (PartRefused fault) = RefusesPart texts fault
IsUnfit texts (PartTop height top unit) = HighPart texts height top unit
IsUnfit texts _ = ⊥

-- all that is read and checked before the job's or the part's file holds
abbrev pub IsReadBefore : SetupTexts → File → Type 0
IsReadBefore texts JobFile = Unit {0}
IsReadBefore texts PartFile = (job : JobFields) × ReadsJob texts job
IsReadBefore texts _ = ⊥

-- ---- where a command reads words behind the job

-- all that is read and checked before the job's or the part's file, where a command reads words between the two
abbrev pub IsReadBeforeWith : Type 0 → File → Type 0
IsReadBeforeWith ReadsWords JobFile = Unit {0}
IsReadBeforeWith ReadsWords PartFile = ReadsWords
IsReadBeforeWith ReadsWords _ = ⊥

-- the first check of the two files that fails, where a command reads words between the two
abbrev pub IsUnfitWith : Type 0 → SetupTexts → Unfit → Type 0
IsUnfitWith ReadsWords texts (TooLong JobFile) = IsUnfit texts (TooLong JobFile)
IsUnfitWith ReadsWords texts (JobRefused fault) = IsUnfit texts (JobRefused fault)
IsUnfitWith ReadsWords texts unfit = ReadsWords × IsUnfit texts unfit
