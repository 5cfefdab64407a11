-- Squares of four nodes as the code sees them.
use Rattle.std.specs.Prelude.{◌≡◌, ℕ, ◌+◌, ◌<◌, Bool, true, false, not, if◌then◌else◌, List}
use Rattle.mill_geom.specs.declared.touch.Axis.TheVariants.{X, Y}
use Rattle.mill_level.specs.declared.edge.Edge.{Edge}
use Rattle.mill_level.specs.declared.square.Side.{Side}
use Rattle.mill_level.specs.declared.square.Side.TheVariants.{Bottom, Right, Top, Left}
use Rattle.mill_level.specs.declared.square.Square.{Square}
use Rattle.mill_level.specs.Grids.{Grid, edge, is_blocked}
use Rattle.mill_level.specs.Joins.{Join, square_joins}

-- the square whose lower left node is in column i of row j
abbrev pub square_at : Grid → ℕ → ℕ → Square
square_at grid i j = record {
  bottom = edge i j X;
  right = edge (i + 1) j Y;
  top = edge i (j + 1) X;
  left = edge i j Y;
  low_left = is_blocked grid i j;
  low_right = is_blocked grid (i + 1) j;
  high_right = is_blocked grid (i + 1) (j + 1);
  high_left = is_blocked grid i (j + 1);
}

abbrev pub joins_of : Square → List Join
joins_of q = square_joins q.left q.low_left q.bottom q.low_right q.right q.high_right q.top q.high_left

abbrev pub side_of : Square → Side → Edge
side_of q Bottom = q.bottom
side_of q Right = q.right
side_of q Top = q.top
side_of q Left = q.left

-- going round counterclockwise, the corner at which a side begins is blocked, and the one at which it ends
abbrev pub is_begin_blocked : Square → Side → Bool
is_begin_blocked q Bottom = q.low_left
is_begin_blocked q Right = q.low_right
is_begin_blocked q Top = q.high_right
is_begin_blocked q Left = q.high_left

abbrev pub is_end_blocked : Square → Side → Bool
is_end_blocked q Bottom = q.low_right
is_end_blocked q Right = q.high_right
is_end_blocked q Top = q.high_left
is_end_blocked q Left = q.low_left

-- so the side goes from its edge's lower node to the upper one
abbrev pub is_upward : Side → Bool
is_upward Bottom = true
is_upward Right = true
is_upward Top = false
is_upward Left = false

-- of three sides the first behind which the corner is free
abbrev pub first_of_three : Bool → Bool → Edge → Edge → Edge → Edge
first_of_three first second near facing far = if not first then near else (if not second then facing else far)

-- where the join goes that comes in at a side, and where the one comes from that goes out there
abbrev pub next_of : Square → Side → Edge
next_of q Bottom = first_of_three q.high_left q.high_right q.left q.top q.right
next_of q Right = first_of_three q.low_left q.high_left q.bottom q.left q.top
next_of q Top = first_of_three q.low_right q.low_left q.right q.bottom q.left
next_of q Left = first_of_three q.high_right q.low_right q.top q.right q.bottom

abbrev pub prior_of : Square → Side → Edge
prior_of q Bottom = first_of_three q.high_right q.high_left q.right q.top q.left
prior_of q Right = first_of_three q.high_left q.low_left q.top q.left q.bottom
prior_of q Top = first_of_three q.low_left q.low_right q.left q.bottom q.right
prior_of q Left = first_of_three q.low_right q.high_right q.bottom q.right q.top

-- the edge is this side of the grid's square in that column and row
pub record IsSide (grid : Grid) (e : Edge) (i j : ℕ) (side : Side) : Type 0 where
  pub column_ok : i + 1 < grid.columns
  pub row_ok : j + 1 < grid.rows
  pub same : e ≡ side_of (square_at grid i j) side

-- of this square of the grid the edge is this side, upward or not
pub record IsBeside (grid : Grid) (e : Edge) (upward : Bool) (square : Square) (side : Side) : Type 0 where
  pub column : ℕ
  pub row : ℕ
  pub is : IsSide grid e column row side
  pub square_is : square ≡ square_at grid column row
  pub direction : is_upward side ≡ upward

-- no square of the grid has the edge as such a side
abbrev pub IsAtBorder : Grid → Edge → Bool → Type 0
IsAtBorder grid e upward = (i j : ℕ) (side : Side) → IsSide grid e i j side → is_upward side ≡ upward → ⊥
