-- Where a crossing is.
use Rattle.std.specs.Prelude.{◌≡◌, ℕ, ◌+◌, ◌*◌, ◌≤◌, ◌<◌, if◌then◌else◌, ℤ, pos, ◌+ℤ◌, ◌-ℤ◌, List, length, slice_index_or, MatchBool}
use Rattle.mill_base.specs.Points.{point_at}
use Rattle.mill_base.specs.Tools.{ToolGouges}
use Rattle.mill_base.specs.Lattices.{lattice_xs, lattice_ys}
use Rattle.mill_base.specs.declared.points.Pt3.{Pt3}
use Rattle.mill_base.specs.declared.points.Tri.{Tri}
use Rattle.mill_base.specs.declared.tool.Tool.{Tool}
use Rattle.mill_base.specs.declared.lattice.Lattice.{Lattice}
use Rattle.mill_geom.specs.declared.touch.Axis.{Axis}
use Rattle.mill_geom.specs.declared.touch.Axis.TheVariants.{X, Y}
use Rattle.mill_level.specs.declared.edge.Edge.{Edge}
use Rattle.mill_level.specs.Grids.{Grid, is_blocked, is_lower_blocked, upper_column, upper_row}

-- where the node in column i of row j is, at height z
abbrev pub node_tip : Lattice → ℤ → ℕ → ℕ → Pt3
node_tip lattice z i j = point_at (slice_index_or (lattice_xs lattice) i (pos 0)) (slice_index_or (lattice_ys lattice) j (pos 0)) z

-- the grid says of each node of the lattice whether the tool with its tip there, at height z, gouges the part
pub record TellsBlocked (tool : Tool) (part : List Tri) (z : ℤ) (lattice : Lattice) (grid : Grid) : Type 0 where
  pub columns : grid.columns ≡ length (lattice_xs lattice)
  pub rows : grid.rows ≡ length (lattice_ys lattice)
  pub size : length grid.blocked ≡ grid.columns * grid.rows
  pub tells : (i j : ℕ) → i < grid.columns → j < grid.rows
      → MatchBool (is_blocked grid i j) (ToolGouges tool (pos 1) (node_tip lattice z i j) part) (¬ ToolGouges tool (pos 1) (node_tip lattice z i j) part)

-- the place moved by so much along an axis
abbrev pub moved_along : Axis → ℤ → Pt3 → Pt3
moved_along X by p = point_at (p.x +ℤ by) p.y p.z
moved_along Y by p = point_at p.x (p.y +ℤ by) p.z

-- k positions from the edge's free node on the way to its blocked one
abbrev pub on_the_way : Lattice → ℤ → Grid → Edge → ℕ → Pt3
on_the_way lattice z grid e k =
    if is_lower_blocked grid e then moved_along e.axis (pos 0 -ℤ pos k) (node_tip lattice z (upper_column e) (upper_row e)) else
    moved_along e.axis (pos k) (node_tip lattice z e.column e.row)

-- an edge, and a place on it
pub record Crossing : Type 0 where
  pub edge : Edge
  pub x : ℤ
  pub y : ℤ

-- the place is the last free position on the way from the edge's free node, before the first blocked one
pub record HasLastFree (tool : Tool) (part : List Tri) (z : ℤ) (lattice : Lattice) (grid : Grid) (c : Crossing) : Type 0 where
  pub k : ℕ
  pub place : point_at c.x c.y z ≡ on_the_way lattice z grid c.edge k
  pub free : (n : ℕ) → n ≤ k → ¬ ToolGouges tool (pos 1) (on_the_way lattice z grid c.edge n) part
  pub blocked : ToolGouges tool (pos 1) (on_the_way lattice z grid c.edge (k + 1)) part
