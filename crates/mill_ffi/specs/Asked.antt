-- What a call is asked for, when each fault comes, and what is answered.
use Rattle.std.specs.Prelude.{◌≡◌, ◌≢◌, ◌<◌, ◌≤◌, ◌^◌, ℕ, ℤ, List, length, All}
use Rattle.std.specs.List.{AllZip}
use Rattle.mill_base.specs.Numbers.{Within}
use Rattle.mill_base.specs.declared.limits.TheConstants.{MAX_COORDINATE}
use Rattle.mill_base.specs.declared.points.Tri.{Tri}
use Rattle.mill_base.specs.declared.tool.Tool.{Tool}
use Rattle.mill_drop.specs.Drops.{IsDropHeight}
use Rattle.mill_ffi_data.specs.Faults.{fault_code}
use Rattle.mill_ffi_data.specs.Raw.{IsPlace, IsSoundTool, IsTriangle, SaysCutter, SaysHolder}
use Rattle.mill_ffi_data.specs.declared.fault.Fault.{Fault}
use Rattle.mill_ffi_data.specs.declared.fault.Fault.TheVariants as fault
use Rattle.mill_ffi_data.specs.declared.raw.RawPlace.{RawPlace}
use Rattle.mill_ffi_data.specs.declared.raw.RawTool.{RawTool}
use Rattle.mill_ffi_data.specs.declared.raw.RawTriangle.{RawTriangle}

-- each other argument is in its range, and the array for the results is as long as they are many
pub record AreSound (triangles : List RawTriangle) (places : List RawPlace) (floor : ℤ) (room : ℕ) : Type 0 where
  pub triangles_ok : All IsTriangle triangles
  pub count_ok : length triangles < 2 ^ 32
  pub places_ok : All IsPlace places
  pub floor_ok : Within MAX_COORDINATE floor
  pub room_ok : room ≡ length places

-- what is so when a call for drop heights ends with a fault: memory is asked for once the arguments are sound
abbrev pub IsCause : List RawTriangle → RawTool → List RawPlace → ℤ → ℕ → Fault → Type 0
IsCause triangles tool places floor room fault.Memory = IsSoundTool tool × AreSound triangles places floor room
IsCause triangles tool places floor room fault.Cutter = ¬ SaysCutter tool
IsCause triangles tool places floor room fault.Holder = ¬ SaysHolder tool
IsCause triangles tool places floor room fault.Triangle = ¬ All IsTriangle triangles
IsCause triangles tool places floor room fault.TooManyTriangles = 2 ^ 32 ≤ length triangles
IsCause triangles tool places floor room fault.Place = ¬ All IsPlace places
IsCause triangles tool places floor room fault.Floor = ¬ Within MAX_COORDINATE floor
IsCause triangles tool places floor room fault.Room = room ≢ length places
IsCause triangles tool places floor room _ = ⊥

-- the status is that of a fault that has such a cause
pub record IsToldFor (IsCauseOf : Fault → Type 0) (status : ℤ) : Type 0 where
  pub fault : Fault
  pub told : status ≡ fault_code fault
  pub cause : IsCauseOf fault

-- z is the drop height at the place
abbrev pub IsHeightAt : Tool → List Tri → ℤ → RawPlace → ℤ → Type 0
IsHeightAt tool part floor place z = IsDropHeight tool part place.x place.y floor z

-- the heights are the drop heights at the places, in their order
abbrev pub AreHeightsAt : Tool → List Tri → ℤ → List RawPlace → List ℤ → Type 0
AreHeightsAt tool part floor places heights = AllZip (IsHeightAt tool part floor) places heights
