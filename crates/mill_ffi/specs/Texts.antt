-- What the reading of a part's text comes to, in numbers.
use Rattle.std.specs.Prelude.{◌≡◌, ◌≢◌, ℕ, ℤ, pos, List, length, Option, Some, None, Result, Ok, Err, if◌then◌else◌, IsSome}
use Rattle.std.specs.Ordering.{int_eq}
use Rattle.mill_base.specs.declared.unit.Unit.{Unit}
use Rattle.mill_base.specs.declared.unit.Unit.TheVariants.{Hundredth, Thousandth}
use Rattle.mill_decimal.specs.declared.snap.Snap.{Snap}
use Rattle.mill_decimal.specs.declared.snap.Snap.TheVariants.{Nearest, Exact}
use Rattle.mill_stl.specs.Parts.{Part, part_of}
use Rattle.mill_stl.specs.declared.fault.StlFault.{StlFault}
use Rattle.mill_stl.specs.declared.fault.StlFault.TheVariants.{Expected, Coord, TooManyTriangles, CutShort, WantOfMemory}
use Rattle.mill_ffi_data.specs.Raw.{tris_of}
use Rattle.mill_ffi_data.specs.declared.fault.Fault.{Fault}
use Rattle.mill_ffi_data.specs.declared.fault.Fault.TheVariants as fault
use Rattle.mill_ffi_data.specs.declared.raw.RawReading.{RawReading}
use Rattle.mill_ffi_data.specs.declared.raw.RawTriangle.{RawTriangle}

-- the unit of this number, which is how many decimals of a millimetre stand for whole units
abbrev pub unit_of : ℤ → Option Unit
unit_of number = if int_eq number (pos 2) then Some Hundredth else if int_eq number (pos 3) then Some Thousandth else None

-- how a coordinate between two units is read: 0 refuses it, 1 rounds it to the nearest
abbrev pub snap_of : ℤ → Option Snap
snap_of number = if int_eq number (pos 0) then Some Exact else if int_eq number (pos 1) then Some Nearest else None

-- the text means this part, in the unit and by the snap of these numbers
pub record Means (unit snap : ℤ) (text : List ℕ) (meaning : Result Part StlFault) : Type 0 where
  pub read_unit : Unit
  pub read_snap : Snap
  pub unit_ok : unit_of unit ≡ Some read_unit
  pub snap_ok : snap_of snap ≡ Some read_snap
  pub is : part_of read_snap read_unit text ≡ meaning

-- what is told of a text that means a part, and of one that is refused at a line
abbrev pub told_of_part : Part → RawReading
told_of_part part = record { triangles = length part.tris; rounded = part.rounded; line = 0 }

abbrev pub told_at : ℕ → RawReading
told_at line = record { triangles = 0; rounded = 0; line = line }

-- the text means a part, whose triangles stand in the array, and this is told of it
pub record IsRead (unit snap : ℤ) (text : List ℕ) (triangles : List RawTriangle) (told : RawReading) : Type 0 where
  pub part : Part
  pub means : Means unit snap text (Ok part)
  pub written : tris_of triangles ≡ part.tris
  pub told_ok : told ≡ told_of_part part

-- the text means a part that has not as many triangles as the array is long, and this is told of it
pub record HasOtherCount (unit snap : ℤ) (text : List ℕ) (room : ℕ) (told : RawReading) : Type 0 where
  pub part : Part
  pub means : Means unit snap text (Ok part)
  pub other : room ≢ length part.tris
  pub told_ok : told ≡ told_of_part part

-- the fault of a part's text, as a call tells it, and its line; one of memory has none
abbrev pub fault_of : StlFault → Fault
fault_of (Expected line what) = fault.Word
fault_of (Coord line why) = fault.Coordinate
fault_of (TooManyTriangles line) = fault.LongText
fault_of (CutShort line) = fault.CutShort
fault_of WantOfMemory = fault.Memory

abbrev pub line_of : StlFault → ℕ
line_of (Expected line what) = line
line_of (Coord line why) = line
line_of (TooManyTriangles line) = line
line_of (CutShort line) = line
line_of WantOfMemory = 0

-- the text's first fault is one of this kind, and its line is told
pub record IsRefused (unit snap : ℤ) (text : List ℕ) (told : RawReading) (kind : Fault) : Type 0 where
  pub first : StlFault
  pub means : Means unit snap text (Err first)
  pub kind_ok : fault_of first ≡ kind
  pub told_ok : told ≡ told_at (line_of first)

-- what is so when the reading of a text ends with a fault: memory is asked for once the numbers are sound, and what isn't told is 0
abbrev pub IsReadCause : ℤ → ℤ → List ℕ → ℕ → RawReading → Fault → Type 0
IsReadCause unit snap text room told fault.Memory = IsSome (unit_of unit) × IsSome (snap_of snap) × (told ≡ told_at 0)
IsReadCause unit snap text room told fault.Unit = (unit_of unit ≡ None) × (told ≡ told_at 0)
IsReadCause unit snap text room told fault.Snap = (snap_of snap ≡ None) × (told ≡ told_at 0)
IsReadCause unit snap text room told fault.Word = IsRefused unit snap text told fault.Word
IsReadCause unit snap text room told fault.Coordinate = IsRefused unit snap text told fault.Coordinate
IsReadCause unit snap text room told fault.LongText = IsRefused unit snap text told fault.LongText
IsReadCause unit snap text room told fault.CutShort = IsRefused unit snap text told fault.CutShort
IsReadCause unit snap text room told fault.Room = HasOtherCount unit snap text room told
IsReadCause unit snap text room told _ = ⊥
