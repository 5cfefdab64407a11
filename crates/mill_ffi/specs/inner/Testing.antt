-- The parts of a test.
use Rattle.std.specs.Prelude.{◌≢◌, ◌<◌, ◌≤◌, ◌^◌, ℕ, ℤ, List, length, All}
use Rattle.mill_base.specs.Numbers.{Within}
use Rattle.mill_base.specs.Lattices.{IsLattice, IsMapLattice}
use Rattle.mill_base.specs.declared.limits.TheConstants.{MAX_COORDINATE}
use Rattle.mill_ffi_data.specs.Raw.{IsPlace, IsTriangle, lattice_of}
use Rattle.mill_ffi_data.specs.Tests.{HasTooManyNodes}
use Rattle.mill_ffi_data.specs.declared.fault.Fault.{Fault}
use Rattle.mill_ffi_data.specs.declared.fault.Fault.TheVariants as fault
use Rattle.mill_ffi_data.specs.declared.raw.RawFiber.{RawFiber}
use Rattle.mill_ffi_data.specs.declared.raw.RawLattice.{RawLattice}
use Rattle.mill_ffi_data.specs.declared.raw.RawPlace.{RawPlace}
use Rattle.mill_ffi_data.specs.declared.raw.RawTriangle.{RawTriangle}
use Rattle.mill_ffi.specs.Fibers.{IsSoundFiber}

-- what is so when the other arguments are refused with a fault
abbrev pub IsCauseBeside : List RawTriangle → List RawPlace → ℤ → ℕ → Fault → Type 0
IsCauseBeside triangles places floor room fault.Triangle = ¬ All IsTriangle triangles
IsCauseBeside triangles places floor room fault.TooManyTriangles = 2 ^ 32 ≤ length triangles
IsCauseBeside triangles places floor room fault.Place = ¬ All IsPlace places
IsCauseBeside triangles places floor room fault.Floor = ¬ Within MAX_COORDINATE floor
IsCauseBeside triangles places floor room fault.Room = room ≢ length places
IsCauseBeside triangles places floor room _ = ⊥

-- what is so when the other arguments of a call for runs are refused with a fault
abbrev pub IsCauseBesideFibers : List RawTriangle → List RawFiber → ℕ → Fault → Type 0
IsCauseBesideFibers triangles fibers room fault.Triangle = ¬ All IsTriangle triangles
IsCauseBesideFibers triangles fibers room fault.TooManyTriangles = 2 ^ 32 ≤ length triangles
IsCauseBesideFibers triangles fibers room fault.Fiber = ¬ All IsSoundFiber fibers
IsCauseBesideFibers triangles fibers room fault.CountsRoom = room ≢ length fibers
IsCauseBesideFibers triangles fibers room _ = ⊥

-- the arguments of a call for drop heights over a lattice, but tool and array, are in their ranges
pub record AreSoundBeside (triangles : List RawTriangle) (lattice : RawLattice) (floor : ℤ) : Type 0 where
  pub triangles_ok : All IsTriangle triangles
  pub count_ok : length triangles < 2 ^ 32
  pub lattice_ok : IsMapLattice (lattice_of lattice)
  pub floor_ok : Within MAX_COORDINATE floor

-- what is so when they are refused with a fault
abbrev pub IsCauseBesideNodes : List RawTriangle → RawLattice → ℤ → Fault → Type 0
IsCauseBesideNodes triangles lattice floor fault.Triangle = ¬ All IsTriangle triangles
IsCauseBesideNodes triangles lattice floor fault.TooManyTriangles = 2 ^ 32 ≤ length triangles
IsCauseBesideNodes triangles lattice floor fault.Floor = ¬ Within MAX_COORDINATE floor
IsCauseBesideNodes triangles lattice floor fault.Lattice = ¬ IsLattice (lattice_of lattice)
IsCauseBesideNodes triangles lattice floor fault.TooManyNodes = HasTooManyNodes lattice
IsCauseBesideNodes triangles lattice floor _ = ⊥

-- what is so when those of a call for a waterline are refused with a fault
abbrev pub IsCauseBesideLevel : List RawTriangle → ℤ → RawLattice → Fault → Type 0
IsCauseBesideLevel triangles z lattice fault.Triangle = ¬ All IsTriangle triangles
IsCauseBesideLevel triangles z lattice fault.TooManyTriangles = 2 ^ 32 ≤ length triangles
IsCauseBesideLevel triangles z lattice fault.Height = ¬ Within MAX_COORDINATE z
IsCauseBesideLevel triangles z lattice fault.Lattice = ¬ IsLattice (lattice_of lattice)
IsCauseBesideLevel triangles z lattice fault.TooManyNodes = HasTooManyNodes lattice
IsCauseBesideLevel triangles z lattice _ = ⊥
