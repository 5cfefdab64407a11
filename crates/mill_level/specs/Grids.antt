-- Which nodes of a lattice are blocked, and the edges between a free and a blocked one.
use Rattle.std.specs.Prelude.{ℕ, ◌+◌, ◌*◌, nat_lt, Bool, true, false, ◌&&◌, not, if◌then◌else◌, ◌==◌, List, slice_index_or}
use Rattle.mill_geom.specs.declared.touch.Axis.{Axis}
use Rattle.mill_geom.specs.declared.touch.Axis.TheVariants.{X, Y}
use Rattle.mill_level.specs.declared.edge.Edge.{Edge}

-- which nodes of so many columns and rows are blocked, row by row
pub record Grid : Type 0 where
  pub columns : ℕ
  pub rows : ℕ
  pub blocked : List Bool

-- the node in column i of row j is blocked
abbrev pub is_blocked : Grid → ℕ → ℕ → Bool
is_blocked grid i j = slice_index_or grid.blocked (j * grid.columns + i) false

-- the edge from its lower node, in column i of row j, to the next node along an axis
abbrev pub edge : ℕ → ℕ → Axis → Edge
edge i j axis = record { column = i; row = j; axis = axis }

abbrev pub is_along_y : Axis → Bool
is_along_y X = false
is_along_y Y = true

-- the column and the row of an edge's upper node
abbrev pub upper_column : Edge → ℕ
upper_column e = if is_along_y e.axis then e.column else e.column + 1

abbrev pub upper_row : Edge → ℕ
upper_row e = if is_along_y e.axis then e.row + 1 else e.row

-- both its nodes are nodes of the grid
abbrev pub has_edge : Grid → Edge → Bool
has_edge grid e = nat_lt (upper_column e) grid.columns && nat_lt (upper_row e) grid.rows

abbrev pub is_lower_blocked : Grid → Edge → Bool
is_lower_blocked grid e = is_blocked grid e.column e.row

abbrev pub is_upper_blocked : Grid → Edge → Bool
is_upper_blocked grid e = is_blocked grid (upper_column e) (upper_row e)

abbrev pub differ : Bool → Bool → Bool
differ true b = not b
differ false b = b

-- the edge crosses: one of its nodes is free and one is blocked
abbrev pub is_crossing : Grid → Edge → Bool
is_crossing grid e = has_edge grid e && differ (is_lower_blocked grid e) (is_upper_blocked grid e)

-- the two are one edge
abbrev pub same_axis : Axis → Axis → Bool
same_axis X a = not (is_along_y a)
same_axis Y a = is_along_y a

abbrev pub same_edge : Edge → Edge → Bool
same_edge a b = (a.column == b.column) && (a.row == b.row) && same_axis a.axis b.axis
