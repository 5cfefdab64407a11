-- What a call for drop heights over a lattice is asked for, and when each fault comes.
use Rattle.std.specs.Prelude.{◌≡◌, ◌≢◌, ◌<◌, ◌≤◌, ◌^◌, ℕ, ℤ, List, length, All}
use Rattle.mill_base.specs.Lattices.{IsLattice, IsMapLattice}
use Rattle.mill_base.specs.Numbers.{Within}
use Rattle.mill_base.specs.declared.limits.TheConstants.{MAX_COORDINATE}
use Rattle.mill_ffi_data.specs.Raw.{IsSoundTool, IsTriangle, SaysCutter, SaysHolder, lattice_of, nodes_in}
use Rattle.mill_ffi_data.specs.Tests.{HasTooManyNodes}
use Rattle.mill_ffi_data.specs.declared.fault.Fault.{Fault}
use Rattle.mill_ffi_data.specs.declared.fault.Fault.TheVariants as fault
use Rattle.mill_ffi_data.specs.declared.raw.RawLattice.{RawLattice}
use Rattle.mill_ffi_data.specs.declared.raw.RawTool.{RawTool}
use Rattle.mill_ffi_data.specs.declared.raw.RawTriangle.{RawTriangle}

-- each argument but the tool is in its range, and the array for the heights is as long as the nodes are many
pub record AreSoundNodes (triangles : List RawTriangle) (lattice : RawLattice) (floor : ℤ) (room : ℕ) : Type 0 where
  pub triangles_ok : All IsTriangle triangles
  pub count_ok : length triangles < 2 ^ 32
  pub lattice_ok : IsMapLattice (lattice_of lattice)
  pub floor_ok : Within MAX_COORDINATE floor
  pub room_ok : room ≡ nodes_in lattice

-- the lattice is in its range and has so many nodes as are told, and the array for the heights is not as long
pub record HasOtherNodes (lattice : RawLattice) (room told : ℕ) : Type 0 where
  pub lattice_ok : IsMapLattice (lattice_of lattice)
  pub told_ok : told ≡ nodes_in lattice
  pub other : room ≢ nodes_in lattice

-- what is so when a call for drop heights over a lattice ends with a fault: memory is asked for once the arguments are sound
abbrev pub IsNodesCause : List RawTriangle → RawTool → RawLattice → ℤ → ℕ → ℕ → Fault → Type 0
IsNodesCause triangles tool lattice floor room told fault.Memory = IsSoundTool tool × AreSoundNodes triangles lattice floor room
IsNodesCause triangles tool lattice floor room told fault.Cutter = ¬ SaysCutter tool
IsNodesCause triangles tool lattice floor room told fault.Holder = ¬ SaysHolder tool
IsNodesCause triangles tool lattice floor room told fault.Triangle = ¬ All IsTriangle triangles
IsNodesCause triangles tool lattice floor room told fault.TooManyTriangles = 2 ^ 32 ≤ length triangles
IsNodesCause triangles tool lattice floor room told fault.Lattice = ¬ IsLattice (lattice_of lattice)
IsNodesCause triangles tool lattice floor room told fault.TooManyNodes = HasTooManyNodes lattice
IsNodesCause triangles tool lattice floor room told fault.Floor = ¬ Within MAX_COORDINATE floor
IsNodesCause triangles tool lattice floor room told fault.Room = HasOtherNodes lattice room told
IsNodesCause triangles tool lattice floor room told _ = ⊥
