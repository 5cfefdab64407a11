-- The cells of a grid, and which of them a box covers.
use Rattle.std.specs.Prelude.{◌≡◌, ℕ, ◌+◌, ◌-◌, ◌*◌, ◌/◌, ◌%◌, ◌^◌, ◌<◌, ◌≤◌, ◌==◌, if◌then◌else◌, ℤ, pos, ◌+ℤ◌, ◌-ℤ◌, nat_abs, nat_le, Bool, ◌&&◌}
use Rattle.mill_base.specs.declared.points.Box2.{Box2}
use Rattle.mill_cells.specs.Boxes.{IsBounds}
use Rattle.mill_cells.specs.declared.frame.Frame.{Frame}
use Rattle.mill_cells.specs.declared.frame.Block.{Block}

-- how many whole cells lie between low and a coordinate that isn't under it
abbrev pub cell_of : ℤ → ℕ → ℤ → ℕ
cell_of low size at = nat_abs (at -ℤ low) / size

-- where the column, or the row, at begins; for the first one that is looked at, where the lowest begins
abbrev pub border_of : ℤ → ℕ → ℕ → ℕ → ℤ
border_of low size first at = if at == first then low else (low +ℤ pos (at * size))

-- the cells of this size over the rectangle
abbrev pub frame_over : Box2 → ℕ → Frame
frame_over b size = record { bounds = b; size = size; columns = cell_of b.x0 size b.x1 + 1; rows = cell_of b.y0 size b.y1 + 1 }

-- how many cells there are
abbrev pub cell_count : Frame → ℕ
cell_count f = f.columns * f.rows

-- the cells that a box covers
abbrev pub block_of : Frame → Box2 → Block
block_of f b = record {
  first_column = cell_of f.bounds.x0 f.size b.x0;
  last_column = cell_of f.bounds.x0 f.size b.x1;
  first_row = cell_of f.bounds.y0 f.size b.y0;
  last_row = cell_of f.bounds.y0 f.size b.y1;
}

-- how many columns and rows a block has, and how many cells
abbrev pub width_of : Block → ℕ
width_of b = (b.last_column - b.first_column) + 1

abbrev pub height_of : Block → ℕ
height_of b = (b.last_row - b.first_row) + 1

abbrev pub frame_area : Block → ℕ
frame_area b = width_of b * height_of b

-- its ends are the right way round, and small
pub record IsBlock (b : Block) : Type 0 where
  pub columns : b.first_column ≤ b.last_column
  pub rows : b.first_row ≤ b.last_row
  pub narrow : b.last_column < 2 ^ 20
  pub low : b.last_row < 2 ^ 20

-- the block has the cell in this column and row
abbrev pub has_cell : Block → ℕ → ℕ → Bool
has_cell b column row = (nat_le b.first_column column && nat_le column b.last_column) && (nat_le b.first_row row && nat_le row b.last_row)

-- the box covers cell k, counted row by row
abbrev pub covers : Frame → Box2 → ℕ → Bool
covers f b k = has_cell (block_of f b) (k % f.columns) (k / f.columns)

-- a frame is made of its rectangle and size, and has at most 2^20 cells
pub record IsFrame (f : Frame) : Type 0 where
  pub bounds : IsBounds f.bounds
  pub some : 0 < f.size
  pub made : f ≡ frame_over f.bounds f.size
  pub few : cell_count f ≤ 2 ^ 20
