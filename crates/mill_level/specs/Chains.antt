-- Chains: maximal runs of joins.
use Rattle.std.specs.Prelude.{◌≡◌, ℕ, Bool, false, if◌then◌else◌, List, [], ◌∷◌, Contains, IsSortedBy, MatchBool, sum_by, count_by}
use Rattle.std.specs.declared.cmp.Ordering.{Ordering}
use Rattle.std.specs.Ordering.{ordering_then, int_cmp, nat_cmp, bool_cmp, is_lt}
use Rattle.mill_level.specs.declared.edge.Edge.{Edge}
use Rattle.mill_level.specs.Grids.{Grid, is_along_y, is_crossing, same_edge}
use Rattle.mill_level.specs.Joins.{IsJoin}
use Rattle.mill_level.specs.Crossings.{Crossing}

-- the order of crossings: by the place's x, then y, then the edge's column, its row, and edges along X before edges along Y
abbrev pub order : Crossing → Crossing → Ordering
order a b =
    ordering_then (ordering_then (ordering_then (ordering_then (int_cmp a.x b.x) (int_cmp a.y b.y)) (nat_cmp a.edge.column b.edge.column))
    (nat_cmp a.edge.row b.edge.row)) (bool_cmp (is_along_y a.edge.axis) (is_along_y b.edge.axis))

abbrev pub comes_before : Crossing → Crossing → Bool
comes_before a b = is_lt (order a b)

-- a run of crossings: a first one and those after it
pub record Chain : Type 0 where
  pub closed : Bool
  pub first : Crossing
  pub others : List Crossing

abbrev pub crossings_of : Chain → List Crossing
crossings_of chain = chain.first ∷ chain.others

-- joins go from the first crossing along these to the last
abbrev pub IsWay : Grid → Crossing → List Crossing → Crossing → Type 0
IsWay grid first [] last = first ≡ last
IsWay grid first (c ∷ cs) last = IsJoin grid first.edge c.edge × IsWay grid c cs last

-- a chain that is open: no join comes to its first crossing, and none goes from its last
pub record IsOpenChain (grid : Grid) (chain : Chain) : Type 0 where
  pub last : Crossing
  pub way : IsWay grid chain.first chain.others last
  pub starts : (e : Edge) → ¬ IsJoin grid e chain.first.edge
  pub ends : (e : Edge) → ¬ IsJoin grid last.edge e

-- a chain that is closed: a join goes from its last crossing to its first, which is the least of them
pub record IsClosedChain (grid : Grid) (chain : Chain) : Type 0 where
  pub last : Crossing
  pub way : IsWay grid chain.first chain.others last
  pub closes : IsJoin grid last.edge chain.first.edge
  pub least : (c : Crossing) → Contains chain.others c → comes_before c chain.first ≡ false

abbrev pub IsChain : Grid → Chain → Type 0
IsChain grid chain = MatchBool chain.closed (IsClosedChain grid chain) (IsOpenChain grid chain)

-- how often an edge stands in a chain, and in all chains
abbrev pub times_in : Edge → Chain → ℕ
times_in e chain = count_by (λ (c : Crossing). same_edge c.edge e) (crossings_of chain)

abbrev pub times : Edge → List Chain → ℕ
times e chains = sum_by (times_in e) chains

abbrev pub starts_before : Chain → Chain → Bool
starts_before a b = comes_before a.first b.first

-- the chains of a grid: each crossing stands in one of them, once, and nothing else does; they come in the order of their starts
pub record AreChains (grid : Grid) (chains : List Chain) : Type 0 where
  pub each : (chain : Chain) → Contains chains chain → IsChain grid chain
  pub once : (e : Edge) → times e chains ≡ (if is_crossing grid e then 1 else 0)
  pub ordered : IsSortedBy starts_before chains
