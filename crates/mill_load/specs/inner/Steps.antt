-- What the steps of reading come to: of a program's file in pieces, of the part's top and of one word.
use Rattle.std.specs.Prelude.{◌≡◌, ◌≤◌, Bool, true, false, ℕ, ℤ, ◌<ℤ◌, List, [], length, take, Option, Some, None, IfSome, Result, Ok, Err}
use Rattle.mill_base.specs.declared.limits.TheConstants.{MAX_FILE_BYTES}
use Rattle.mill_base.specs.declared.points.Pt3.{Pt3}
use Rattle.mill_base.specs.declared.points.Tri.{Tri}
use Rattle.mill_base.specs.declared.motion.Move.{Move}
use Rattle.mill_base.specs.declared.unit.Unit.{Unit as LengthUnit}
use Rattle.mill_base.specs.Covers.{IsUnder}
use Rattle.mill_decimal.specs.Decimals.{read_as}
use Rattle.mill_decimal.specs.declared.snap.Snap.TheVariants.{Exact}
use Rattle.mill_io.specs.Readings.{AreHeld, Reading as FileReading}
use Rattle.mill_io.specs.declared.pieces.PieceEnd.{PieceEnd}
use Rattle.mill_said.specs.declared.fault.NgcFault.{NgcFault}
use Rattle.mill_said.specs.declared.fault.NgcFault.TheVariants.{WantOfMemory}
use Rattle.mill_said.specs.declared.rules.Rules.{Rules}
use Rattle.mill_ngc.specs.Pieces.{Reading, reading_at, lines_read, fed, MovesSoFar}
use Rattle.mill_part.specs.Tops.{IsTop}
use Rattle.mill_job.specs.declared.fields.JobFields.{JobFields}
use Rattle.mill_load.specs.declared.file.File.{File}
use Rattle.mill_load.specs.declared.load.LoadFault.{LoadFault}
use Rattle.mill_load.specs.declared.load.LoadFault.TheVariants.{Memory, ReadFault, Unfit}
use Rattle.mill_load.specs.declared.load.Unfit.TheVariants.{TooLong}
use Rattle.mill_load.specs.declared.place.Coordinate.{Coordinate}
use Rattle.mill_load.specs.declared.place.WordFault.{WordFault}
use Rattle.mill_load.specs.Setup.{Fits, IsTooLong}

-- ---- a program's file, in pieces

-- a reader has taken this text from this start and in this unit, and made these moves
pub record HasTaken (start : Pt3) (unit : LengthUnit) (asked : Rules) (reader : Reading) (moves : List Move) (text : List ℕ) : Type 0 where
  pub all : (reader, moves) ≡ fed (reading_at start unit asked, []) text
  pub lines : lines_read reader ≤ length text
  pub moves_ok : MovesSoFar start unit asked reader moves

-- it has taken the whole text of a file, within the limit; where the file is told, this is it
pub record TakesFile (start : Pt3) (unit : LengthUnit) (asked : Rules) (told : Option (List ℕ)) (reader : Reading) (moves : List Move) : Type 0 where
  pub text : List ℕ
  pub whole : IfSome told (λ bytes. text ≡ bytes)
  pub fits : Fits text
  pub taken : HasTaken start unit asked reader moves text

-- it has taken the front of the file of this name, whatever the files hold, if they hold what each read gave from one time to another
pub record TakesFront (start : Pt3) (unit : LengthUnit) (asked : Rules) (name : List ℕ) (before after : List FileReading) (given : ℕ) (reader : Reading) (moves : List Move) : Type 0 where
  pub text : List ℕ
  pub front : (contents : List ℕ → Option (List ℕ)) → AreHeld contents before after → IfSome (contents name) (λ bytes. text ≡ take (length text) bytes)
  pub size : length text ≡ given
  pub taken : HasTaken start unit asked reader moves text

-- the pieces of a file within its limit, before the first
pub record IsFirst (limit given : ℕ) (end : Option (Result Unit PieceEnd)) : Type 0 where
  pub limit_is : limit ≡ MAX_FILE_BYTES
  pub none_given : given ≡ 0
  pub going : end ≡ None

-- why a program's file gives no text
abbrev pub LoadsNone : Option (List ℕ) → File → LoadFault → Type 0
LoadsNone told file Memory = Unit {0}
LoadsNone told file (ReadFault f) = f ≡ file
LoadsNone told file (Unfit (TooLong f)) = (f ≡ file) × IfSome told IsTooLong
LoadsNone told file (Unfit _) = ⊥

-- ---- the part's top

-- the answer is the part's greatest height, where that is over the job's top, and none where the part is under it
abbrev pub IsLow : JobFields → List Tri → Option ℤ → Type 0
IsLow job part None = IsUnder part job.top
IsLow job part (Some height) = IsTop part height × (job.top <ℤ height)

-- ---- one word

-- what the word of this coordinate comes to in this unit
abbrev pub CoordinateFrom : LengthUnit → List ℕ → Coordinate → Result ℤ WordFault → Type 0
CoordinateFrom unit word coordinate (Ok units) = read_as Exact unit word ≡ Ok units
CoordinateFrom unit word coordinate (Err f) = (f.coordinate ≡ coordinate) × (read_as Exact unit word ≡ Err f.fault)

-- it is no fault of a program's
abbrev pub is_memory_fault : NgcFault → Bool
is_memory_fault WantOfMemory = true
is_memory_fault fault = false
