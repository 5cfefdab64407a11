-- What a walk through the cells of an area still gives.
use Rattle.std.specs.Prelude.{◌≡◌, ℕ, zero, suc, ◌+◌, ◌-◌, ◌*◌, ◌/◌, ◌%◌, ◌≤◌, ◌==◌, max, Bool, ◌&&◌, not, ℤ, pos, int_lt, List, [], ◌++◌, length, filter, slice_range, All}
use Rattle.mill_base.specs.declared.points.Box2.{Box2}
use Rattle.mill_cells.specs.Boxes.{box_at, IsInside}
use Rattle.mill_cells.specs.Frames.{block_of, frame_area, width_of}
use Rattle.mill_cells.specs.Grids.{IsGrid, numbers_in}
use Rattle.mill_cells.specs.declared.frame.Frame.{Frame}
use Rattle.mill_cells.specs.declared.frame.Block.{Block}
use Rattle.mill_cells.specs.declared.walk.Walk.{Walk}
use Rattle.mill_cells.specs.declared.grid.Grid.{Grid}
use Rattle.std.specs.Borrow.{Bor}

-- neither of two stretches ends before the other begins
abbrev pub do_overlap : ℤ → ℤ → ℤ → ℤ → Bool
do_overlap a0 a1 b0 b1 = not (int_lt b1 a0) && not (int_lt a1 b0)

-- two boxes overlap in x and in y
abbrev pub do_meet : Box2 → Box2 → Bool
do_meet a b = do_overlap a.x0 a.x1 b.x0 b.x1 && do_overlap a.y0 a.y1 b.y0 b.y1

-- the cell in this column and row is the first one that both the box and the area cover
abbrev pub is_first_cell : Block → Block → ℕ → ℕ → Bool
is_first_cell area b column row = (column == max area.first_column b.first_column) && (row == max area.first_row b.first_row)

-- the box begins at these borders or further on
abbrev pub begins_at : ℤ → ℤ → Box2 → Bool
begins_at west south b = not (int_lt b.x0 west) && not (int_lt b.y0 south)

-- these borders tell of each of the boxes of these numbers whether the cell is the first one that it and the area cover
abbrev pub TellFirst : Frame → List Box2 → Box2 → ℕ → ℕ → ℤ → ℤ → List ℕ → Type 0
TellFirst f boxes area column row west south = All (λ i. begins_at west south (box_at boxes i) ≡ is_first_cell (block_of f area) (block_of f (box_at boxes i)) column row)

-- in this cell the box is given
abbrev pub shows : Frame → Box2 → ℕ → ℕ → Box2 → Bool
shows f area column row b = do_meet b area && is_first_cell (block_of f area) (block_of f b) column row

-- the column and the row of an area's cell w, counted row by row
abbrev pub column_in : Block → ℕ → ℕ
column_in b w = b.first_column + w % width_of b

abbrev pub row_in : Block → ℕ → ℕ
row_in b w = b.first_row + w / width_of b

-- the numbers that are given in the area's cell w
abbrev pub given_in : Frame → List Box2 → Box2 → ℕ → List ℕ
given_in f boxes area w =
    let column = column_in (block_of f area) w in
    let row = row_in (block_of f area) w in
    filter (λ i. shows f area column row (box_at boxes i)) (numbers_in f boxes (row * f.columns + column))

-- the numbers that are given in this many of the area's cells, from w on
abbrev pub given_from : Frame → List Box2 → Box2 → ℕ → ℕ → List ℕ
given_from f boxes area w zero = []
given_from f boxes area w (suc left) = given_in f boxes area w ++ given_from f boxes area (w + 1) left

-- the numbers that are still to come
abbrev pub rest_of : Walk → List ℕ
rest_of w =
    filter (λ i. shows w.grid.now.frame w.area w.column w.row (box_at w.grid.now.boxes.items i)) (slice_range w.grid.now.entries.items w.place w.end)
    ++ given_from w.grid.now.frame w.grid.now.boxes.items w.area w.entered (w.cells - w.entered)

-- a walk is within its area's cells, and within the entries
pub record IsWalk (w : Walk) : Type 0 where
  pub grid : IsGrid w.grid.now
  pub inside : IsInside w.grid.now.frame.bounds w.area
  pub block : w.block ≡ block_of w.grid.now.frame w.area
  pub cells : w.cells ≤ frame_area w.block
  pub entered : w.entered ≤ w.cells
  pub next_column : w.next_column ≡ column_in w.block w.entered
  pub next_row : w.next_row ≡ row_in w.block w.entered
  pub order : w.place ≤ w.end
  pub room : w.end ≤ length w.grid.now.entries.items
  pub borders : TellFirst w.grid.now.frame w.grid.now.boxes.items w.area w.column w.row w.west w.south (slice_range w.grid.now.entries.items w.place w.end)

-- a walk before its first cell
abbrev pub walk_over : Bor Grid → Box2 → Block → ℕ → Walk
walk_over grid area block cells = record { grid = grid; area = area; block = block; cells = cells; entered = 0; next_column = block.first_column; next_row = block.first_row; column = 0; row = 0; west = pos 0; south = pos 0; place = 0; «end» = 0 }

-- a walk whose next cell is passed, and the one in this column and row comes next
abbrev pub moved : Walk → ℕ → ℕ → Walk
moved w column row = record w { entered = w.entered + 1; next_column = column; next_row = row }
