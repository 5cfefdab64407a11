-- The parts of the reading of three texts.
use Rattle.std.specs.Prelude.{◌≡◌, ◌⊎◌, ℕ, ℤ, ◌<ℤ◌, List, Ok, Err}
use Rattle.mill_base.specs.Covers.{IsUnder}
use Rattle.mill_base.specs.declared.points.Tri.{Tri}
use Rattle.mill_job.specs.Columns.{home}
use Rattle.mill_job.specs.declared.fields.JobFields.{JobFields}
use Rattle.mill_load.specs.Programs.{rules_of}
use Rattle.mill_ngc.specs.Programs.{program_of}
use Rattle.mill_said.specs.declared.fault.NgcFault.{NgcFault}
use Rattle.mill_part.specs.Tops.{IsTop}
use Rattle.mill_stl.specs.Parts.{part_of}
use Rattle.mill_stl.specs.declared.fault.StlFault.{StlFault}
use Rattle.mill_ffi_data.specs.declared.fault.Fault.{Fault}
use Rattle.mill_ffi_data.specs.declared.fault.Fault.TheVariants as fault
use Rattle.mill_ffi_data.specs.declared.raw.RawVerdict.{RawVerdict}
use Rattle.mill_ffi.specs.Judged.{IsOutOfMemory, IsRefusedJob, line_of_program, untold}
use Rattle.mill_ffi.specs.Texts.{fault_of, line_of}

-- the text reads as this part in the job's unit and by its snap
pub record IsPartText (job : JobFields) (text : List ℕ) (part : List Tri) : Type 0 where
  pub rounded : ℕ
  pub is : part_of job.snap job.unit text ≡ Ok (record { tris = part; rounded = rounded })

-- the part's greatest height is over the job's top
pub record IsHighFor (job : JobFields) (part : List Tri) (height : ℤ) : Type 0 where
  pub greatest : IsTop part height
  pub over : job.top <ℤ height

-- why there is no job
abbrev pub IsJobCause : List ℕ → RawVerdict → Fault → Type 0
IsJobCause text told kind = IsOutOfMemory told kind ⊎ IsRefusedJob text told kind

-- the text is refused as the job's part
pub record IsRefusedFor (job : JobFields) (text : List ℕ) (told : RawVerdict) (kind : Fault) : Type 0 where
  pub first : StlFault
  pub refused : part_of job.snap job.unit text ≡ Err first
  pub kind_ok : kind ≡ fault_of first
  pub told_ok : told ≡ record untold { line = line_of first }

-- why there is no part for the job
abbrev pub IsPartCause : JobFields → List ℕ → RawVerdict → Fault → Type 0
IsPartCause job text told kind = IsOutOfMemory told kind ⊎ IsRefusedFor job text told kind

-- the text reads as a part that is over the job's top, and its greatest height is told
pub record IsTooHigh (job : JobFields) (text : List ℕ) (told : RawVerdict) (kind : Fault) : Type 0 where
  pub part : List Tri
  pub read : IsPartText job text part
  pub height : ℤ
  pub high : IsHighFor job part height
  pub kind_ok : kind ≡ fault.PartTop
  pub told_ok : told ≡ record untold { height = height }

-- the text reads as this part, which isn't over the job's top
pub record IsFitPart (job : JobFields) (text : List ℕ) (part : List Tri) : Type 0 where
  pub read : IsPartText job text part
  pub under : IsUnder part job.top

-- why there is no such part
abbrev pub IsUnfitPart : JobFields → List ℕ → RawVerdict → Fault → Type 0
IsUnfitPart job text told kind = IsPartCause job text told kind ⊎ IsTooHigh job text told kind

-- the text is refused as a program for the job
pub record IsNoProgram (job : JobFields) (text : List ℕ) (told : RawVerdict) (kind : Fault) : Type 0 where
  pub first : NgcFault
  pub refused : program_of (home job) job.unit (rules_of job) text ≡ Err first
  pub kind_ok : kind ≡ fault.Program
  pub told_ok : told ≡ record untold { line = line_of_program first }

-- why there are no moves for the job
abbrev pub IsProgramCause : JobFields → List ℕ → RawVerdict → Fault → Type 0
IsProgramCause job text told kind = IsOutOfMemory told kind ⊎ IsNoProgram job text told kind
