-- What reading a command's files comes to, and what it does to the store.
use Rattle.std.specs.Prelude.{◌≡◌, ◌<◌, ◌≤◌, ℕ, ℤ, ◌<ℤ◌, List, length, Option, IfSome, Result, Ok, Err}
use Rattle.std.specs.Global.{Vec}
use Rattle.mill_base.specs.declared.limits.TheConstants.{MAX_MOVES}
use Rattle.mill_base.specs.declared.points.Tri.{Tri}
use Rattle.mill_base.specs.declared.motion.Move.{Move}
use Rattle.mill_base.specs.declared.unit.Unit.{Unit as LengthUnit}
use Rattle.mill_base.specs.Ranges.{MovesInUnitRange}
use Rattle.mill_base.specs.Covers.{IsUnder}
use Rattle.mill_io.specs.Causes.{Rose}
use Rattle.mill_io.specs.Readings.{AreHeld, Reading, LastFails}
use Rattle.mill_io.specs.Views.{StoreView, ReadsOnly}
use Rattle.mill_ngc.specs.Pieces.{FollowOn}
use Rattle.mill_part.specs.Tops.{IsTop}
use Rattle.mill_part.specs.declared.part.Part.{Part}
use Rattle.mill_job.specs.declared.fields.JobFields.{JobFields}
use Rattle.mill_job.specs.declared.job.Job.{Job}
use Rattle.mill_job.specs.Columns.{home}
use Rattle.mill_load.specs.declared.file.File.{File}
use Rattle.mill_load.specs.declared.file.File.TheVariants.{Job as JobFile, Part as PartFile}
use Rattle.mill_load.specs.declared.load.LoadFault.{LoadFault}
use Rattle.mill_load.specs.declared.load.LoadFault.TheVariants.{Memory, ReadFault, Unfit}
use Rattle.mill_load.specs.declared.load.Unfit.TheVariants.{TooLong, JobRefused, PartRefused, ProgramRefused, PartTop}
use Rattle.mill_load.specs.declared.load.Setup.{Setup}
use Rattle.mill_load.specs.Programs.{IsProgramText, IsRefusedProgram, rules_of}
use Rattle.mill_load.specs.Setup.{SetupTexts, IsTooLong, IsTooLongJob, most_bytes, IsJobText, IsRefusedJob, IsPartText, IsRefusedPart, ReadsSetup, IsUnfit, IsReadBefore}

-- ---- one file

-- the bytes of a file, or why there are none
abbrev pub ReadsFile : Option (List ℕ) → File → Result (Vec ℕ) LoadFault → Type 0
ReadsFile told file (Ok v) = IfSome told (λ text. v.items ≡ text)
ReadsFile told file (Err Memory) = Unit {0}
ReadsFile told file (Err (ReadFault f)) = f ≡ file
ReadsFile told file (Err (Unfit (TooLong f))) = (f ≡ file) × IfSome told (λ text. most_bytes file < length text)
ReadsFile told file (Err (Unfit _)) = ⊥

-- the job of a file, or why there is none
abbrev pub LoadsJob : Option (List ℕ) → Result Job LoadFault → Type 0
LoadsJob told (Ok job) = IfSome told (λ text. IsJobText text job.fields)
LoadsJob told (Err Memory) = Unit {0}
LoadsJob told (Err (ReadFault JobFile)) = Unit {0}
LoadsJob told (Err (Unfit (TooLong JobFile))) = IfSome told IsTooLongJob
LoadsJob told (Err (Unfit (JobRefused fault))) = IfSome told (λ text. IsRefusedJob text fault)
LoadsJob told (Err _) = ⊥

-- the part of a file, or why there is none
abbrev pub LoadsPart : JobFields → Option (List ℕ) → Result Part LoadFault → Type 0
LoadsPart job told (Ok part) = IfSome told (λ text. IsPartText job text part)
LoadsPart job told (Err Memory) = Unit {0}
LoadsPart job told (Err (ReadFault PartFile)) = Unit {0}
LoadsPart job told (Err (Unfit (TooLong PartFile))) = IfSome told IsTooLong
LoadsPart job told (Err (Unfit (PartRefused fault))) = IfSome told (λ text. IsRefusedPart job text fault)
LoadsPart job told (Err _) = ⊥

-- the moves of a file, or why there are none
abbrev pub LoadsProgram : JobFields → Option (List ℕ) → File → Result (Vec Move) LoadFault → Type 0
LoadsProgram job told file (Ok moves) = IfSome told (λ text. IsProgramText job text moves.items)
LoadsProgram job told file (Err Memory) = Unit {0}
LoadsProgram job told file (Err (ReadFault f)) = f ≡ file
LoadsProgram job told file (Err (Unfit (TooLong f))) = (f ≡ file) × IfSome told IsTooLong
LoadsProgram job told file (Err (Unfit (ProgramRefused f fault))) = (f ≡ file) × IfSome told (λ text. IsRefusedProgram job text fault)
LoadsProgram job told file (Err _) = ⊥

-- ---- job and part

-- this job with this part; or the part's greatest height, which is over the job's top
abbrev pub JoinsPart : JobFields → List Tri → Result Setup LoadFault → Type 0
JoinsPart job part (Ok s) = (s.job.fields ≡ job) × (s.part ≡ part) × IsUnder part job.top
JoinsPart job part (Err (Unfit (PartTop height top unit))) = IsTop part height × (top ≡ job.top) × (unit ≡ job.unit) × (top <ℤ height)
JoinsPart job part (Err _) = ⊥

-- where the part's file is told, it reads as a part whose greatest height is over the job's top
pub record HasHighPart (job : JobFields) (told : Option (List ℕ)) (height top : ℤ) (unit : LengthUnit) : Type 0 where
  pub part : List Tri
  pub part_is : IfSome told (λ text. IsPartText job text part)
  pub greatest : IsTop part height
  pub limit : top ≡ job.top
  pub unit_is : unit ≡ job.unit
  pub over : top <ℤ height

-- this job with a part, or why there is none, by what is told of the part's file
abbrev pub LoadsUnder : JobFields → Option (List ℕ) → Result Setup LoadFault → Type 0
LoadsUnder job told (Ok s) = (s.job.fields ≡ job) × IfSome told (λ text. IsPartText job text s.part) × IsUnder s.part job.top
LoadsUnder job told (Err (Unfit (PartTop height top unit))) = HasHighPart job told height top unit
LoadsUnder job told (Err fault) = LoadsPart job told (Err fault)

-- job and part, or why there are none
abbrev pub LoadsSetup : SetupTexts → Result Setup LoadFault → Type 0
LoadsSetup texts (Ok s) = ReadsSetup texts s.job.fields s.part
LoadsSetup texts (Err Memory) = Unit {0}
LoadsSetup texts (Err (ReadFault file)) = IsReadBefore texts file
LoadsSetup texts (Err (Unfit fault)) = IsUnfit texts fault

-- ---- what reading does to the store

-- the count of failed reads rose where the fault is a read fault, and else stays
abbrev pub CountsFault : {T : Type 0} → ℕ → ℕ → Result T LoadFault → Type 0
CountsFault before now (Ok _) = now ≡ before
CountsFault before now (Err Memory) = now ≡ before
CountsFault before now (Err (ReadFault file)) = Rose before now
CountsFault before now (Err (Unfit fault)) = now ≡ before

-- nothing but the log of reads and the count of those that failed changes, and that rises with a read fault alone;
-- files that hold what the store tells hold what was read, so that what is said of all contents that hold it is said of the store's own
pub record OnlyLoads {T : Type 0} (old new : StoreView) (result : Result T LoadFault) : Type 0 where
  pub only : ReadsOnly old new
  pub reads : CountsFault old.read_faults new.read_faults result
  pub held : AreHeld old.contents old.log new.log

-- a read fault is that of the last read, which was one of the name that these names give to the file
abbrev pub NamesFault : (File → List ℕ) → List Reading → LoadFault → Type 0
NamesFault names log Memory = Unit {0}
NamesFault names log (ReadFault file) = LastFails (names file) log
NamesFault names log (Unfit fault) = Unit {0}

-- ---- what was read

-- the part isn't over the job's top
abbrev pub IsSetup : Setup → Type 0
IsSetup s = IsUnder s.part s.job.fields.top

-- moves within the ranges that the verifier asks for, which follow on each other as the job's programs do
pub record AreMoves (job : JobFields) (moves : List Move) : Type 0 where
  pub in_range : MovesInUnitRange job.unit moves
  pub follow : FollowOn (home job) (rules_of job) moves
  pub few : length moves ≤ MAX_MOVES
