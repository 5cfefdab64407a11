-- What the code knows of a lattice at a height.
use Rattle.std.specs.Prelude.{◌≡◌, ℕ, ◌+◌, ◌*◌, ◌≤◌, ◌<◌, true, if◌then◌else◌, ℤ, pos, List, length, slice_index_or}
use Rattle.mill_base.specs.declared.limits.TheConstants.{MAX_NODES}
use Rattle.mill_base.specs.declared.points.Tri.{Tri}
use Rattle.mill_base.specs.declared.tool.Tool.{Tool}
use Rattle.mill_base.specs.declared.lattice.Lattice.{Lattice}
use Rattle.mill_level.specs.declared.edge.Edge.{Edge}
use Rattle.mill_level.specs.declared.grid.LevelMap.{LevelMap}
use Rattle.mill_level.specs.Grids.{Grid, is_along_y, is_crossing}
use Rattle.mill_level.specs.Crossings.{Crossing, HasLastFree, TellsBlocked}

abbrev pub grid_of : LevelMap → Grid
grid_of map = record { columns = map.columns; rows = map.rows; blocked = map.blocked.items }

-- the number of the edge: first those along X, row by row, then those along Y, column by column
abbrev pub edge_number : Grid → Edge → ℕ
edge_number grid e =
    if is_along_y e.axis then grid.columns * grid.rows + (e.column * grid.rows + e.row) else e.row * grid.columns + e.column

-- the crossing at an edge, at the place that the map gives it
abbrev pub crossing_on : LevelMap → Edge → ℤ → Crossing
crossing_on map e place =
    if is_along_y e.axis then record { edge = e; x = slice_index_or map.xs.items e.column (pos 0); y = place } else
    record { edge = e; x = place; y = slice_index_or map.ys.items e.row (pos 0) }

abbrev pub crossing_at : LevelMap → Edge → Crossing
crossing_at map e = crossing_on map e (slice_index_or map.places.items (edge_number (grid_of map) e) (pos 0))

-- its lists are as long as its counts of columns and rows say
pub record IsSized (map : LevelMap) : Type 0 where
  pub some_columns : 0 < map.columns
  pub some_rows : 0 < map.rows
  pub few : map.columns * map.rows ≤ MAX_NODES
  pub xs : length map.xs.items ≡ map.columns
  pub ys : length map.ys.items ≡ map.rows
  pub blocked : length map.blocked.items ≡ map.columns * map.rows
  pub places : length map.places.items ≡ 2 * (map.columns * map.rows)

-- it tells which nodes are blocked, and has each crossing at its place
pub record IsMapOf (tool : Tool) (part : List Tri) (z : ℤ) (lattice : Lattice) (map : LevelMap) : Type 0 where
  pub sized : IsSized map
  pub tells : TellsBlocked tool part z lattice (grid_of map)
  pub places : (e : Edge) → is_crossing (grid_of map) e ≡ true → HasLastFree tool part z lattice (grid_of map) (crossing_at map e)
