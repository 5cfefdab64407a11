-- Ways along joins, as the code follows them and marks their edges.
use Rattle.std.specs.Prelude.{◌≡◌, ℕ, ◌+◌, ◌-◌, ◌*◌, ◌<◌, ◌≤◌, true, false, Bool, List, All, MatchBool, length, slice_index_or, count_by}
use Rattle.mill_level.specs.declared.edge.Edge.{Edge}
use Rattle.mill_level.specs.declared.grid.LevelMap.{LevelMap}
use Rattle.mill_level.specs.Grids.{Grid, is_crossing, same_edge}
use Rattle.mill_level.specs.Joins.{IsJoin}
use Rattle.mill_level.specs.Chains.{comes_before}
use Rattle.mill_level.specs.inner.Maps.{crossing_at, grid_of}
use Rattle.mill_level.specs.inner.Trails.{AreMarks, is_passed, mark}

-- an edge that crosses and has no mark, beside marks of whole chains
pub record MayStart (level : LevelMap) (passed : List Bool) (e : Edge) : Type 0 where
  pub crosses : is_crossing (grid_of level) e ≡ true
  pub unmarked : is_passed level passed e ≡ false
  pub marks : AreMarks level passed

-- from each edge but the last, a step leads to the next
abbrev pub AreSteps : (Edge → Edge → Type 0) → List Edge → Type 0
AreSteps Step edges = (k : ℕ) (d : Edge) → k + 1 < length edges → Step (slice_index_or edges k d) (slice_index_or edges (k + 1) d)

-- a step along a join, and one against it
abbrev pub GoesOn : Grid → Edge → Edge → Type 0
GoesOn grid a b = IsJoin grid a b

abbrev pub GoesBack : Grid → Edge → Edge → Type 0
GoesBack grid a b = IsJoin grid b a

-- no join comes to an edge, and none goes from it
abbrev pub IsFirst : Grid → Edge → Type 0
IsFirst grid e = (d : Edge) → ¬ IsJoin grid d e

abbrev pub IsLast : Grid → Edge → Type 0
IsLast grid e = (d : Edge) → ¬ IsJoin grid e d

-- how often an edge stands among these
abbrev pub times_among : Edge → List Edge → ℕ
times_among e edges = count_by (λ (d : Edge). same_edge d e) edges

-- steps over crossings to this last one, which were unmarked before and then marked
pub record IsTrack (level : LevelMap) (old new : List Bool) (Step : Edge → Edge → Type 0) (edges : List Edge) (last : Edge) : Type 0 where
  pub some : 0 < length edges
  pub size : length new ≡ 2 * (level.columns * level.rows)
  pub crosses : All (λ e. is_crossing (grid_of level) e ≡ true) edges
  pub steps : AreSteps Step edges
  pub ends : (d : Edge) → slice_index_or edges (length edges - 1) d ≡ last
  pub marks : (e : Edge) → mark level new e ≡ mark level old e + times_among e edges

-- the way back from an edge to the last one: round to the one after it, or to a first one
pub record WentBack (level : LevelMap) (old new : List Bool) (start : Edge) (closed : Bool) (edges : List Edge) : Type 0 where
  pub last : Edge
  pub track : IsTrack level old new (GoesBack (grid_of level)) edges last
  pub starts : (d : Edge) → slice_index_or edges 0 d ≡ start
  pub ends : MatchBool closed (IsJoin (grid_of level) start last) (IsFirst (grid_of level) last)

-- a way from a first crossing to one from which it may go on
pub record MayGoOn (level : LevelMap) (new : List Bool) (last : Edge) (edges : List Edge) : Type 0 where
  pub old : List Bool
  pub old_ok : AreMarks level old
  pub track : IsTrack level old new (GoesOn (grid_of level)) edges last
  pub starts : (d : Edge) → IsFirst (grid_of level) (slice_index_or edges 0 d)

-- more edges, and as many more marks
pub record GrewAlike (level : LevelMap) (old new : List Bool) (edges all : List Edge) : Type 0 where
  pub more : (e : Edge) → times_among e edges ≤ times_among e all
  pub marks : (e : Edge) → mark level new e + times_among e edges ≡ mark level old e + times_among e all

-- the way went on to a last crossing
pub record WentOn (level : LevelMap) (old new : List Bool) (edges all : List Edge) : Type 0 where
  pub last : Edge
  pub may : MayGoOn level new last all
  pub grew : GrewAlike level old new edges all
  pub ends : IsLast (grid_of level) last

-- the crossing at one of the edges is not after that at any other
pub record IsLeast (level : LevelMap) (edges : List Edge) (at : ℕ) : Type 0 where
  pub within : at < length edges
  pub least : (k : ℕ) (d : Edge) → k < length edges
      → comes_before (crossing_at level (slice_index_or edges k d)) (crossing_at level (slice_index_or edges at d)) ≡ false
