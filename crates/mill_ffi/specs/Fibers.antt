-- What a call for runs along fibers is asked for, when each fault comes, and what is answered.
use Rattle.std.specs.Prelude.{◌≡◌, ◌≢◌, ◌<◌, ◌≤◌, ◌^◌, ℕ, ℤ, pos, ◌≤ℤ◌, if◌then◌else◌, List, [], ◌∷◌, ◌++◌, length, map, All, IsSomeAnd}
use Rattle.std.specs.List.{AllZip}
use Rattle.std.specs.Ordering.{int_eq}
use Rattle.mill_base.specs.Numbers.{Within}
use Rattle.mill_base.specs.declared.limits.TheConstants.{MAX_COORDINATE}
use Rattle.mill_base.specs.declared.points.Tri.{Tri}
use Rattle.mill_base.specs.declared.tool.Tool.{Tool}
use Rattle.mill_geom.specs.declared.touch.Axis.TheVariants.{X, Y}
use Rattle.mill_push.specs.Runs.{AreRuns}
use Rattle.mill_push.specs.declared.fiber.Fiber.{Fiber}
use Rattle.mill_push.specs.declared.fiber.Run.{Run}
use Rattle.mill_ffi_data.specs.Raw.{IsSoundTool, IsTriangle, SaysCutter, SaysHolder, tool_of, tris_of}
use Rattle.mill_ffi_data.specs.declared.fault.Fault.{Fault}
use Rattle.mill_ffi_data.specs.declared.fault.Fault.TheVariants as fault
use Rattle.mill_ffi_data.specs.declared.raw.RawFiber.{RawFiber}
use Rattle.mill_ffi_data.specs.declared.raw.RawRun.{RawRun}
use Rattle.mill_ffi_data.specs.declared.raw.RawTool.{RawTool}
use Rattle.mill_ffi_data.specs.declared.raw.RawTriangle.{RawTriangle}

-- the fiber of these numbers: axis 1 is along x, and 2 along y
abbrev pub fiber_of : RawFiber → Fiber
fiber_of raw = record { axis = if int_eq raw.axis (pos 2) then Y else X; at = raw.at; z = raw.z }

-- the run of these numbers
abbrev pub run_of : RawRun → Run
run_of raw = record { first = raw.first; last = raw.last }

-- the axis is one of the two
pub record IsAxis (axis : ℤ) : Type 0 where
  pub least : pos 1 ≤ℤ axis
  pub most : axis ≤ℤ pos 2

-- the line's coordinates are in range
pub record IsLine (at z : ℤ) : Type 0 where
  pub at_ok : Within MAX_COORDINATE at
  pub z_ok : Within MAX_COORDINATE z

-- so are the ends of a stretch, and the first isn't after the last
pub record IsStretch (first last : ℤ) : Type 0 where
  pub order : first ≤ℤ last
  pub first_ok : Within MAX_COORDINATE first
  pub last_ok : Within MAX_COORDINATE last

-- the numbers of the fiber are in their ranges
pub record IsSoundFiber (raw : RawFiber) : Type 0 where
  pub axis_ok : IsAxis raw.axis
  pub line_ok : IsLine raw.at raw.z
  pub stretch_ok : IsStretch raw.first raw.last

-- each argument but the tool is in its range, and the array for the counts is as long as the fibers are many
pub record AreSoundFibers (triangles : List RawTriangle) (fibers : List RawFiber) (room : ℕ) : Type 0 where
  pub triangles_ok : All IsTriangle triangles
  pub count_ok : length triangles < 2 ^ 32
  pub fibers_ok : All IsSoundFiber fibers
  pub room_ok : room ≡ length fibers

-- the runs of one fiber
abbrev pub IsRunsOf : Tool → List Tri → RawFiber → List Run → Type 0
IsRunsOf tool part raw runs = AreRuns tool part (fiber_of raw) raw.first raw.last runs

-- lists, one after another
abbrev pub joined : List (List Run) → List Run
joined [] = []
joined (runs ∷ lists) = runs ++ joined lists

-- the counts and the runs are those of these fibers, in their order
pub record AreRunsAt (tool : Tool) (part : List Tri) (fibers : List RawFiber) (counts : List ℕ) (runs : List RawRun) : Type 0 where
  pub lists : List (List Run)
  pub each : AllZip (IsRunsOf tool part) fibers lists
  pub counted : counts ≡ map length lists
  pub all : map run_of runs ≡ joined lists

-- the fibers have so many runs as are told, and the array for them is not as long
pub record HasOtherRoom (triangles : List RawTriangle) (tool : Tool) (fibers : List RawFiber) (room told : ℕ) : Type 0 where
  pub counts : List ℕ
  pub runs : List RawRun
  pub are : AreRunsAt tool (tris_of triangles) fibers counts runs
  pub told_ok : told ≡ length runs
  pub other : room ≢ length runs

-- what is so when a call for runs ends with a fault: memory is asked for once the arguments are sound
abbrev pub IsFiberCause : List RawTriangle → RawTool → List RawFiber → ℕ → ℕ → ℕ → Fault → Type 0
IsFiberCause triangles tool fibers counts_room room told fault.Memory = IsSoundTool tool × AreSoundFibers triangles fibers counts_room
IsFiberCause triangles tool fibers counts_room room told fault.Cutter = ¬ SaysCutter tool
IsFiberCause triangles tool fibers counts_room room told fault.Holder = ¬ SaysHolder tool
IsFiberCause triangles tool fibers counts_room room told fault.Triangle = ¬ All IsTriangle triangles
IsFiberCause triangles tool fibers counts_room room told fault.TooManyTriangles = 2 ^ 32 ≤ length triangles
IsFiberCause triangles tool fibers counts_room room told fault.Fiber = ¬ All IsSoundFiber fibers
IsFiberCause triangles tool fibers counts_room room told fault.CountsRoom = counts_room ≢ length fibers
IsFiberCause triangles tool fibers counts_room room told fault.Room = IsSomeAnd (tool_of tool) (λ t. HasOtherRoom triangles t fibers room told)
IsFiberCause triangles tool fibers counts_room room told _ = ⊥
