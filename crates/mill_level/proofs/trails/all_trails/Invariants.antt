use Rattle.std.proofs.Common.{◌≡◌, ◌*◌, ◌<◌}
use Rattle.mill_level.specs.inner.Maps.{edge_number, grid_of}
use Rattle.mill_level.proofs.Found.{FoundBelow}
use Rattle.mill_level.proofs.trails.all_trails.Given as goal

-- the edge is that of the number, if there is one
abbrev pub invariant-loop-number : goal.invariant-loop-number
invariant-loop-number l = record {
  found : FoundBelow l.map l.passed.items l.trails.items l.number;
  is : l.number ≡ edge_number (grid_of l.map) l.edge;
  column : l.number < 2 * (l.map.columns * l.map.rows) → l.edge.column < l.map.columns;
  row : l.edge.row < l.map.rows;
}
