-- How the crossings on the sides of a square of four nodes are joined.
use Rattle.std.specs.Prelude.{◌≡◌, ℕ, ◌+◌, ◌<◌, Bool, ◌&&◌, not, if◌then◌else◌, List, [], ◌∷◌, ◌++◌, Contains}
use Rattle.mill_geom.specs.declared.touch.Axis.TheVariants.{X, Y}
use Rattle.mill_level.specs.declared.edge.Edge.{Edge}
use Rattle.mill_level.specs.Grids.{Grid, edge, is_blocked}

-- a join goes from one crossing to another, by their edges
pub record Join : Type 0 where
  pub from : Edge
  pub to : Edge

abbrev pub join : Edge → Edge → Join
join from to = record { from = from; to = to }

-- Going round a square counterclockwise, a stretch of blocked corners begins after one side and ends before another: the join goes from the latter
-- to the former, so that the stretch is on its left. Here `first` is a corner, `before` the side before it, and what follows comes in that order.
abbrev pub join_at : Edge → Bool → Edge → Bool → Edge → Bool → Edge → Bool → List Join
join_at before first side second next_side third last_side fourth =
    if not (first && not fourth) then [] else
    (if not second then join side before ∷ [] else
    (if not third then join next_side before ∷ [] else
    join last_side before ∷ []))

-- the joins of four sides, given with the corners between them: two crossings are joined; of four, those that meet at a blocked corner
abbrev pub square_joins : Edge → Bool → Edge → Bool → Edge → Bool → Edge → Bool → List Join
square_joins left low_left bottom low_right right high_right top high_left =
    join_at left low_left bottom low_right right high_right top high_left
    ++ join_at bottom low_right right high_right top high_left left low_left
    ++ join_at right high_right top high_left left low_left bottom low_right
    ++ join_at top high_left left low_left bottom low_right right high_right

-- the joins in the square whose lower left node is in column i of row j
abbrev pub joins_at : Grid → ℕ → ℕ → List Join
joins_at grid i j = square_joins
    (edge i j Y) (is_blocked grid i j) (edge i j X) (is_blocked grid (i + 1) j)
    (edge (i + 1) j Y) (is_blocked grid (i + 1) (j + 1)) (edge i (j + 1) X) (is_blocked grid i (j + 1))

-- in some square of the grid there is a join from one edge to another
pub record IsJoin (grid : Grid) (from to : Edge) : Type 0 where
  pub column : ℕ
  pub row : ℕ
  pub column_ok : column + 1 < grid.columns
  pub row_ok : row + 1 < grid.rows
  pub joined : Contains (joins_at grid column row) (join from to)

-- no two joins go from one crossing, and no two come to one
pub record JoinsAreApart : Type 0 where
  pub from : (grid : Grid) (a b c : Edge) → IsJoin grid a b → IsJoin grid a c → b ≡ c
  pub to : (grid : Grid) (a b c : Edge) → IsJoin grid b a → IsJoin grid c a → b ≡ c
