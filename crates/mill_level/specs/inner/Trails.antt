-- Chains as the code follows them: lists of edges.
use Rattle.std.specs.Prelude.{◌≡◌, ℕ, ◌*◌, ◌<◌, ℤ, Bool, true, false, ◌&&◌, if◌then◌else◌, List, [], ◌∷◌, All, map, length, slice_index_or}
use Rattle.mill_geom.specs.declared.touch.Axis.TheVariants.{X}
use Rattle.mill_level.specs.declared.edge.Edge.{Edge}
use Rattle.mill_level.specs.declared.grid.LevelMap.{LevelMap}
use Rattle.mill_level.specs.declared.trace.Trail.{Trail}
use Rattle.mill_level.specs.Grids.{edge, has_edge, is_along_y, is_crossing}
use Rattle.mill_level.specs.Joins.{IsJoin}
use Rattle.mill_level.specs.Crossings.{Crossing}
use Rattle.mill_level.specs.Chains.{Chain, IsChain, times}
use Rattle.mill_level.specs.inner.Maps.{crossing_at, edge_number, grid_of}

-- the chain of these edges; of one crossing at the origin's edge if there are none
abbrev pub chain_from : LevelMap → Bool → List Edge → Chain
chain_from level closed [] = record { closed = closed; first = crossing_at level (edge 0 0 X); others = [] }
chain_from level closed (e ∷ es) = record { closed = closed; first = crossing_at level e; others = map (crossing_at level) es }

abbrev pub chain_of : LevelMap → Trail → Chain
chain_of level trail = chain_from level trail.closed trail.edges.items

abbrev pub chains_of : LevelMap → List Trail → List Chain
chains_of level trails = map (chain_of level) trails

-- what crossings are ordered by
abbrev pub rank_of : Crossing → ℤ × ℤ × ℕ × ℕ × Bool
rank_of c = (c.x, c.y, c.edge.column, c.edge.row, is_along_y c.edge.axis)

-- the trail has a crossing, its edges and its chain are the grid's, and its rank is that of its first crossing
pub record IsTrail (level : LevelMap) (trail : Trail) : Type 0 where
  pub some : 0 < length trail.edges.items
  pub edges : All (λ e. has_edge (grid_of level) e ≡ true) trail.edges.items
  pub chain : IsChain (grid_of level) (chain_of level trail)
  pub rank : trail.rank ≡ rank_of (chain_of level trail).first

-- the edge is one of the grid's, and is marked by its number
abbrev pub is_passed : LevelMap → List Bool → Edge → Bool
is_passed level passed e = has_edge (grid_of level) e && slice_index_or passed (edge_number (grid_of level) e) false

-- how many marks an edge has: one or none
abbrev pub mark : LevelMap → List Bool → Edge → ℕ
mark level passed e = if is_passed level passed e then 1 else 0

-- what is marked are crossings, and of those that are joined both or none
pub record AreMarks (level : LevelMap) (passed : List Bool) : Type 0 where
  pub size : length passed ≡ 2 * (level.columns * level.rows)
  pub crosses : (e : Edge) → is_passed level passed e ≡ true → is_crossing (grid_of level) e ≡ true
  pub after : (a b : Edge) → IsJoin (grid_of level) a b → is_passed level passed a ≡ true → is_passed level passed b ≡ true
  pub before : (a b : Edge) → IsJoin (grid_of level) a b → is_passed level passed b ≡ true → is_passed level passed a ≡ true

-- the trails are chains, and each crossing stands in one of them, once
pub record AreTrails (level : LevelMap) (trails : List Trail) : Type 0 where
  pub each : All (IsTrail level) trails
  pub once : (e : Edge) → times e (chains_of level trails) ≡ (if is_crossing (grid_of level) e then 1 else 0)
