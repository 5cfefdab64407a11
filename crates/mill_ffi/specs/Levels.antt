-- What a call for waterlines is asked for, when each fault comes, and what is answered.
use Rattle.std.specs.Prelude.{◌≡◌, ◌≢◌, ◌<◌, ◌≤◌, ◌⊎◌, ◌^◌, ℕ, ℤ, if◌then◌else◌, List, length, map, All, IsSomeAnd}
use Rattle.std.specs.List.{flat_map}
use Rattle.mill_base.specs.Lattices.{IsLattice, IsMapLattice}
use Rattle.mill_base.specs.Numbers.{Within}
use Rattle.mill_base.specs.declared.lattice.Lattice.{Lattice}
use Rattle.mill_base.specs.declared.limits.TheConstants.{MAX_COORDINATE}
use Rattle.mill_base.specs.declared.points.Tri.{Tri}
use Rattle.mill_base.specs.declared.tool.Tool.{Tool}
use Rattle.mill_level.specs.Waterlines.{IsWaterline, Outline}
use Rattle.mill_ffi_data.specs.Raw.{IsSoundTool, IsTriangle, SaysCutter, SaysHolder, corner_of, lattice_of, tool_of, tris_of}
use Rattle.mill_ffi_data.specs.Tests.{HasTooManyNodes}
use Rattle.mill_ffi_data.specs.declared.fault.Fault.{Fault}
use Rattle.mill_ffi_data.specs.declared.fault.Fault.TheVariants as fault
use Rattle.mill_ffi_data.specs.declared.raw.RawChain.{RawChain}
use Rattle.mill_ffi_data.specs.declared.raw.RawCounts.{RawCounts}
use Rattle.mill_ffi_data.specs.declared.raw.RawLattice.{RawLattice}
use Rattle.mill_ffi_data.specs.declared.raw.RawPoint.{RawPoint}
use Rattle.mill_ffi_data.specs.declared.raw.RawTool.{RawTool}
use Rattle.mill_ffi_data.specs.declared.raw.RawTriangle.{RawTriangle}

-- each argument but the tool is in its range
pub record AreSoundLevel (triangles : List RawTriangle) (z : ℤ) (lattice : RawLattice) : Type 0 where
  pub triangles_ok : All IsTriangle triangles
  pub count_ok : length triangles < 2 ^ 32
  pub z_ok : Within MAX_COORDINATE z
  pub lattice_ok : IsMapLattice (lattice_of lattice)

-- what is told of a chain: how many points it has, and 1 where its last point is joined to its first
abbrev pub head_of : Outline → RawChain
head_of outline = record { points = length outline.points; closed = if outline.closed then 1 else 0 }

-- these are the chains, in their order, and their points, one chain after another
pub record AreOutlines (outlines : List Outline) (chains : List RawChain) (points : List RawPoint) : Type 0 where
  pub heads : chains ≡ map head_of outlines
  pub all : map corner_of points ≡ flat_map (λ (outline : Outline). outline.points) outlines

-- these are the chains of the part's waterline at height z, and their points, one chain after another
pub record AreChainsAt (tool : Tool) (part : List Tri) (z : ℤ) (lattice : Lattice) (chains : List RawChain) (points : List RawPoint) : Type 0 where
  pub outlines : List Outline
  pub is : IsWaterline tool part z lattice outlines
  pub are : AreOutlines outlines chains points

-- how many chains there are, and how many points
abbrev pub counts_of : List RawChain → List RawPoint → RawCounts
counts_of chains points = record { chains = length chains; points = length points }

-- the waterline has so many chains and points as are told, and one of the arrays for them is not as long
pub record HasOtherRooms (triangles : List RawTriangle) (tool : Tool) (z : ℤ) (lattice : RawLattice) (chains_room points_room : ℕ) (told : RawCounts) : Type 0 where
  pub chains : List RawChain
  pub points : List RawPoint
  pub are : AreChainsAt tool (tris_of triangles) z (lattice_of lattice) chains points
  pub told_ok : told ≡ counts_of chains points
  pub other : (chains_room ≢ length chains) ⊎ (points_room ≢ length points)

-- what is so when a call for waterlines ends with a fault: memory is asked for once the arguments are sound
abbrev pub IsLevelCause : List RawTriangle → RawTool → ℤ → RawLattice → ℕ → ℕ → RawCounts → Fault → Type 0
IsLevelCause triangles tool z lattice chains_room points_room told fault.Memory = IsSoundTool tool × AreSoundLevel triangles z lattice
IsLevelCause triangles tool z lattice chains_room points_room told fault.Cutter = ¬ SaysCutter tool
IsLevelCause triangles tool z lattice chains_room points_room told fault.Holder = ¬ SaysHolder tool
IsLevelCause triangles tool z lattice chains_room points_room told fault.Triangle = ¬ All IsTriangle triangles
IsLevelCause triangles tool z lattice chains_room points_room told fault.TooManyTriangles = 2 ^ 32 ≤ length triangles
IsLevelCause triangles tool z lattice chains_room points_room told fault.Height = ¬ Within MAX_COORDINATE z
IsLevelCause triangles tool z lattice chains_room points_room told fault.Lattice = ¬ IsLattice (lattice_of lattice)
IsLevelCause triangles tool z lattice chains_room points_room told fault.TooManyNodes = HasTooManyNodes lattice
IsLevelCause triangles tool z lattice chains_room points_room told fault.Room = IsSomeAnd (tool_of tool) (λ t. HasOtherRooms triangles t z lattice chains_room points_room told)
IsLevelCause triangles tool z lattice chains_room points_room told _ = ⊥
