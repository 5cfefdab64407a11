-- The arguments of a call for drop heights over a lattice, and how many heights there are.
use Rattle.std.proofs.Common.{◌≡◌, ◌∙◌, sym, length}
use Rattle.std.specs.Prelude.{ℕ, ℤ, List}
use Rattle.mill_base.proofs.NodeLemmas.{length-rows}
use Rattle.mill_base.specs.Lattices.{lattice_xs, lattice_ys, node_count, nodes_of}
use Rattle.mill_base.specs.declared.lattice.Lattice.{Lattice}
use Rattle.mill_base.specs.declared.points.Tri.{Tri}
use Rattle.mill_base.specs.declared.tool.Tool.{Tool}
use Rattle.mill_drop.specs.Maps.{AreDropHeights, IsHeightAt}
use Rattle.mill_drop.proofs.RowLemmas.{zip_length}
use Rattle.mill_ffi_data.specs.Raw.{nodes_in}
use Rattle.mill_ffi_data.specs.declared.raw.RawLattice.{RawLattice}
use Rattle.mill_ffi_data.specs.declared.raw.RawTriangle.{RawTriangle}
use Rattle.mill_ffi.specs.Lattices.{AreSoundNodes}
use Rattle.mill_ffi.specs.inner.Testing.{AreSoundBeside}

-- there is one for each node
pub length-heights : (tool : Tool) (part : List Tri) (floor : ℤ) (lattice : Lattice) (heights : List ℤ) → AreDropHeights tool part floor lattice heights → length heights ≡ node_count lattice
length-heights tool part floor lattice heights are =
    sym (zip_length (IsHeightAt tool part floor) (nodes_of lattice) heights are) ∙ length-rows (lattice_xs lattice) (lattice_ys lattice)

pub sound_nodes : (triangles : List RawTriangle) (lattice : RawLattice) (floor : ℤ) (room : ℕ) → AreSoundBeside triangles lattice floor → room ≡ nodes_in lattice → AreSoundNodes triangles lattice floor room
sound_nodes triangles lattice floor room beside room_ok = record { triangles_ok = beside.triangles_ok; count_ok = beside.count_ok; lattice_ok = beside.lattice_ok; floor_ok = beside.floor_ok; room_ok = room_ok }
