-- When numbers are refused.
use Rattle.std.specs.Prelude.{◌<◌, ◌≤◌, ◌^◌, List, length, All}
use Rattle.mill_base.specs.Lattices.{IsLattice}
use Rattle.mill_base.specs.declared.limits.TheConstants.{MAX_NODES}
use Rattle.mill_ffi_data.specs.Raw.{IsTriangle, SaysCutter, SaysHolder, lattice_of, nodes_in}
use Rattle.mill_ffi_data.specs.declared.fault.Fault.{Fault}
use Rattle.mill_ffi_data.specs.declared.fault.Fault.TheVariants as fault
use Rattle.mill_ffi_data.specs.declared.raw.RawLattice.{RawLattice}
use Rattle.mill_ffi_data.specs.declared.raw.RawTool.{RawTool}
use Rattle.mill_ffi_data.specs.declared.raw.RawTriangle.{RawTriangle}

-- what is so when triangles are refused with a fault: their number is looked at where each is in range
abbrev pub IsTrianglesCause : List RawTriangle → Fault → Type 0
IsTrianglesCause raws fault.Triangle = ¬ All IsTriangle raws
IsTrianglesCause raws fault.TooManyTriangles = All IsTriangle raws × 2 ^ 32 ≤ length raws
IsTrianglesCause raws _ = ⊥

-- what is so when a tool's numbers are refused with a fault
abbrev pub IsToolCause : RawTool → Fault → Type 0
IsToolCause raw fault.Cutter = ¬ SaysCutter raw
IsToolCause raw fault.Holder = ¬ SaysHolder raw
IsToolCause raw _ = ⊥

-- the numbers are those of a lattice that has more nodes than a call takes
abbrev pub HasTooManyNodes : RawLattice → Type 0
HasTooManyNodes lattice = IsLattice (lattice_of lattice) × MAX_NODES < nodes_in lattice

-- what is so when the numbers of a lattice are refused with a fault
abbrev pub IsLatticeCause : RawLattice → Fault → Type 0
IsLatticeCause lattice fault.Lattice = ¬ IsLattice (lattice_of lattice)
IsLatticeCause lattice fault.TooManyNodes = HasTooManyNodes lattice
IsLatticeCause lattice _ = ⊥
