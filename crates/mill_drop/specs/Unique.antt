-- What a tool, a part and a floor settle of the drop heights.
use Rattle.std.specs.Prelude.{◌≡◌, ℤ, List}
use Rattle.mill_base.specs.declared.lattice.Lattice.{Lattice}
use Rattle.mill_base.specs.declared.points.Tri.{Tri}
use Rattle.mill_base.specs.declared.tool.Tool.{Tool}
use Rattle.mill_drop.specs.Maps.{AreDropHeights}

-- two lists that are the drop heights over one lattice are equal
abbrev pub OneListOfHeights : Type 0
OneListOfHeights = (tool : Tool) (part : List Tri) (floor : ℤ) (lattice : Lattice) (a b : List ℤ) → AreDropHeights tool part floor lattice a
    → AreDropHeights tool part floor lattice b → a ≡ b
