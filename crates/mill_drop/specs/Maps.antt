-- The drop heights over a lattice.
use Rattle.std.specs.Prelude.{ℕ, ◌<◌, ℤ, List, length}
use Rattle.std.specs.List.{AllZip}
use Rattle.mill_base.specs.Numbers.{Within}
use Rattle.mill_base.specs.declared.limits.TheConstants.{MAX_COORDINATE}
use Rattle.mill_base.specs.Lattices.{IsMapLattice, nodes_of}
use Rattle.mill_base.specs.declared.points.Tri.{Tri}
use Rattle.mill_base.specs.declared.lattice.Lattice.{Lattice}
use Rattle.mill_base.specs.declared.tool.Tool.{Tool}
use Rattle.mill_drop.specs.Drops.{IsDropHeight}

-- z is the drop height at the node
abbrev pub IsHeightAt : Tool → List Tri → ℤ → ℤ × ℤ → ℤ → Type 0
IsHeightAt tool part floor node z = IsDropHeight tool part node.0 node.1 floor z

-- the heights are the drop heights at the lattice's nodes, in their order
abbrev pub AreDropHeights : Tool → List Tri → ℤ → Lattice → List ℤ → Type 0
AreDropHeights tool part floor lattice heights = AllZip (IsHeightAt tool part floor) (nodes_of lattice) heights

-- what a drop height at the node of this number needs
pub record IsNodeTask (lattice : Lattice) (floor : ℤ) (number : ℕ) : Type 0 where
  pub lattice_ok : IsMapLattice lattice
  pub floor_ok : Within MAX_COORDINATE floor
  pub number_ok : number < length (nodes_of lattice)
