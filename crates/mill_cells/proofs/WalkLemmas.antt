-- A walk through the cells of an area.
use Rattle.std.proofs.Common.{◌≡◌, ℕ, suc, ◌+◌, ◌-◌, ◌*◌, ◌/◌, ◌%◌, ◌<◌, ◌≤◌, Bool, true, false, mul_comm, add-mul, List, [], ◌∷◌, ◌++◌, length, get_or, refl, sym, subst, ap, ◌∙◌, inl, inr, arith}
use Rattle.std.specs.Prelude.{slice_index, slice_range, filter, All}
use Rattle.std.proofs.lemmas.List.Elements.{All-head, All-rest}
use Rattle.std.proofs.lemmas.Bool.{cases_lt, cond-true, cond-false}
use Rattle.std.proofs.lemmas.List.{drop_more}
use Rattle.std.proofs.lemmas.List.Edits.{between_none}
use Rattle.std.proofs.lemmas.Nat.{div_below, mod_below, mul-add-lt, div-add-mod', div-mul-add, mod-mul-add}
use Rattle.mill_base.specs.declared.points.Box2.{Box2}
use Rattle.mill_cells.specs.Boxes.{box_at}
use Rattle.mill_cells.specs.Frames.{border_of, cell_count, block_of, width_of, height_of, frame_area, IsBlock}
use Rattle.mill_cells.specs.Grids.{numbers_in, start_of, IsGrid}
use Rattle.mill_cells.specs.Walks.{TellFirst, begins_at, is_first_cell, shows, column_in, row_in, given_from, rest_of, moved, IsWalk}
use Rattle.mill_cells.specs.declared.frame.Frame.{Frame}
use Rattle.mill_cells.specs.declared.frame.Block.{Block}
use Rattle.mill_cells.specs.declared.grid.Grid.{Grid}
use Rattle.mill_cells.specs.declared.walk.Walk.{Walk}
use lib.IntN.{ℤ}
use Rattle.mill_cells.proofs.Borders.{borders_tell}
use Rattle.mill_cells.proofs.FrameLemmas.{InFrame, block_in, block_is}
use Rattle.mill_cells.proofs.Placements.{start_mono}

-- the walk has come further in its cell, and gives the same
pub record IsLike (old new : Walk) : Type 0 where
  pub walk : IsWalk new
  pub rest : rest_of new ≡ rest_of old
  pub entered : new.entered ≡ old.entered
  pub cells : new.cells ≡ old.cells

-- the walk has come further, and gives the same
pub record IsAhead (old new : Walk) : Type 0 where
  pub walk : IsWalk new
  pub rest : rest_of new ≡ rest_of old

-- a part of a list, its first element and the others
pub part_more : (xs : List ℕ) (i j : ℕ) → i < j → j ≤ length xs → slice_range xs i j ≡ get_or xs i 0 ∷ slice_range xs (i + 1) j
part_more xs i j less le =
    let e : j - i ≡ suc (j - (i + 1)) = omega arith in
    rw (e, drop_more xs i 0 (omega arith)) refl

pub part_none : (p : ℕ → Bool) (xs : List ℕ) (i j : ℕ) → i ≡ j → filter p (slice_range xs i j) ≡ []
part_none p xs i j e = rw (e, between_none xs j) refl

-- the next number is given, or not
pub given_next : (p : ℕ → Bool) (xs more : List ℕ) (i j : ℕ) → i < j → j ≤ length xs → p (get_or xs i 0) ≡ true
    → filter p (slice_range xs i j) ++ more ≡ get_or xs i 0 ∷ (filter p (slice_range xs (i + 1) j) ++ more)
given_next p xs more i j less le e =
    ap (λ (ys : List ℕ). filter p ys ++ more) (part_more xs i j less le)
    ∙ ap (λ (ys : List ℕ). ys ++ more) (cond-true (p (get_or xs i 0)) (get_or xs i 0 ∷ filter p (slice_range xs (i + 1) j)) (filter p (slice_range xs (i + 1) j)) e)

pub given_later : (p : ℕ → Bool) (xs more : List ℕ) (i j : ℕ) → i < j → j ≤ length xs → p (get_or xs i 0) ≡ false
    → filter p (slice_range xs i j) ++ more ≡ filter p (slice_range xs (i + 1) j) ++ more
given_later p xs more i j less le e =
    ap (λ (ys : List ℕ). filter p ys ++ more) (part_more xs i j less le)
    ∙ ap (λ (ys : List ℕ). ys ++ more) (cond-false (p (get_or xs i 0)) (get_or xs i 0 ∷ filter p (slice_range xs (i + 1) j)) (filter p (slice_range xs (i + 1) j)) e)

-- the walk one place further
abbrev pub stepped : Walk → Walk
stepped w = record w { place = w.place + 1 }

pub step_walks : (w : Walk) → w.place < w.end → IsWalk w → IsWalk (stepped w)
step_walks w less h = record {
  grid = h.grid;
  inside = h.inside;
  block = h.block;
  cells = h.cells;
  entered = h.entered;
  next_column = h.next_column;
  next_row = h.next_row;
  order = omega arith;
  room = h.room;
  borders = All-rest (λ i. begins_at w.west w.south (box_at w.grid.now.boxes.items i) ≡ is_first_cell (block_of w.grid.now.frame w.area) (block_of w.grid.now.frame (box_at w.grid.now.boxes.items i)) w.column w.row)
      (get_or w.grid.now.entries.items w.place 0) (slice_range w.grid.now.entries.items (w.place + 1) w.end) (slice_range w.grid.now.entries.items w.place w.end) (part_more w.grid.now.entries.items w.place w.end less h.room) h.borders;
}

-- of the number at a walk's place too
pub first_tells : (w : Walk) → IsWalk w → w.place < w.end
    → begins_at w.west w.south (box_at w.grid.now.boxes.items (get_or w.grid.now.entries.items w.place 0))
    ≡ is_first_cell (block_of w.grid.now.frame w.area) (block_of w.grid.now.frame (box_at w.grid.now.boxes.items (get_or w.grid.now.entries.items w.place 0))) w.column w.row
first_tells w h less =
    let tell = λ (i : ℕ). begins_at w.west w.south (box_at w.grid.now.boxes.items i) ≡ is_first_cell (block_of w.grid.now.frame w.area) (block_of w.grid.now.frame (box_at w.grid.now.boxes.items i)) w.column w.row in
    let x = get_or w.grid.now.entries.items w.place 0 in
    let xs = slice_range w.grid.now.entries.items (w.place + 1) w.end in
    All-head tell x xs (subst (All tell) (part_more w.grid.now.entries.items w.place w.end less h.room) h.borders)

-- the cell of a walk lies in its block and in the frame
pub cell_in : (f : Frame) (b : Block) (w : ℕ) → InFrame f b → w < frame_area b
    → (column_in b w ≤ b.last_column) × (row_in b w ≤ b.last_row) × (column_in b w < f.columns) × (row_in b w < f.rows) × (row_in b w * f.columns + column_in b w < cell_count f)
cell_in f b w h less =
    let c : w % width_of b < width_of b = mod_below w (width_of b) (omega arith) in
    let r : w / width_of b < height_of b = div_below w (width_of b) (height_of b) (omega arith) (subst (λ t. w < t) (mul_comm (width_of b) (height_of b)) less) in
    let column : column_in b w ≤ b.last_column = omega (arith, h.columns) in
    let row : row_in b w ≤ b.last_row = omega (arith, h.rows) in
    let inc : column_in b w < f.columns = omega (arith, h.narrow) in
    let inr' : row_in b w < f.rows = omega (arith, h.low) in
    (column, row, inc, inr', subst (λ t. row_in b w * f.columns + column_in b w < t) (mul_comm f.rows f.columns) (mul-add-lt_turned (row_in b w) f.columns (column_in b w) f.rows inr' inc))
  where
    mul-add-lt_turned : (a w b h : ℕ) → a < h → b < w → a * w + b < h * w
    mul-add-lt_turned a w b h p q = rw (mul_comm h w) (mul-add-lt a w b h p q)

-- a cell's part of the entries
pub part_is : (g : Grid) (cell s t : ℕ) → IsGrid g → cell < cell_count g.frame → s ≡ slice_index g.starts.items cell → t ≡ slice_index g.starts.items (cell + 1)
    → slice_range g.entries.items s t ≡ numbers_in g.frame g.boxes.items cell
part_is g cell s t h within es et =
    subst (λ (p : ℕ). slice_range g.entries.items p t ≡ numbers_in g.frame g.boxes.items cell) (sym (es ∙ h.starts cell (omega arith)))
    (subst (λ (q : ℕ). slice_range g.entries.items (start_of g.frame g.boxes.items cell) q ≡ numbers_in g.frame g.boxes.items cell) (sym (et ∙ h.starts (cell + 1) (omega arith))) (h.cells cell within))

-- to enter a cell changes nothing of what is still to come
pub enters : (g : Grid) (area : Box2) (entered cells s t column row : ℕ) → IsGrid g
    → column ≡ column_in (block_of g.frame area) entered → row ≡ row_in (block_of g.frame area) entered → row * g.frame.columns + column < cell_count g.frame
    → s ≡ slice_index g.starts.items (row * g.frame.columns + column) → t ≡ slice_index g.starts.items ((row * g.frame.columns + column) + 1) → entered < cells
    → filter (λ i. shows g.frame area column row (box_at g.boxes.items i)) (slice_range g.entries.items s t) ++ given_from g.frame g.boxes.items area (entered + 1) (cells - (entered + 1))
    ≡ given_from g.frame g.boxes.items area entered (cells - entered)
enters g area entered cells s t column row h ec er within es et less =
    let n : cells - entered ≡ suc (cells - (entered + 1)) = omega arith in
    let part = part_is g (row * g.frame.columns + column) s t h within es et in
    rw (n, part, ec, er) refl

-- the walk at the begin of its next cell
abbrev pub begun_at : Walk → ℤ → ℤ → ℕ → ℕ → Walk
begun_at w west south s t = record w { column = w.next_column; row = w.next_row; west = west; south = south; place = s; «end» = t }

walk_cell : (w : Walk) → IsWalk w → w.entered < w.cells
    → (column_in w.block w.entered ≤ w.block.last_column) × (row_in w.block w.entered ≤ w.block.last_row) × (column_in w.block w.entered < w.grid.now.frame.columns) × (row_in w.block w.entered < w.grid.now.frame.rows)
    × (row_in w.block w.entered * w.grid.now.frame.columns + column_in w.block w.entered < cell_count w.grid.now.frame)
walk_cell w h more =
    cell_in w.grid.now.frame w.block w.entered (subst (InFrame w.grid.now.frame) (sym h.block) (block_in w.grid.now.frame w.area h.grid.frame h.inside)) (omega (arith, h.cells))

pub walk_block : (w : Walk) → IsWalk w → IsBlock w.block
walk_block w h = subst IsBlock (sym h.block) (block_is w.grid.now.frame w.area h.grid.frame.bounds h.grid.frame.some h.inside)

-- the next cell lies in its block and in the frame
pub cell_is : (w : Walk) → IsWalk w → w.entered < w.cells
    → (w.next_row ≤ w.block.last_row) × (w.next_row * w.grid.now.frame.columns + w.next_column < cell_count w.grid.now.frame) × (w.next_column < w.grid.now.frame.columns) × (w.next_row < w.grid.now.frame.rows)
    × (w.next_column ≤ w.block.last_column)
cell_is w h more = let k = walk_cell w h more in rw (h.next_column, h.next_row) (k.1, k.4, k.2, k.3, k.0)

pub enter_walks : (w : Walk) (cell s t : ℕ) (west south : ℤ) → IsWalk w → w.entered < w.cells → cell ≡ w.next_row * w.grid.now.frame.columns + w.next_column → cell < cell_count w.grid.now.frame
    → west ≡ border_of w.grid.now.frame.bounds.x0 w.grid.now.frame.size w.block.first_column w.next_column
    → south ≡ border_of w.grid.now.frame.bounds.y0 w.grid.now.frame.size w.block.first_row w.next_row
    → s ≡ slice_index w.grid.now.starts.items cell → t ≡ slice_index w.grid.now.starts.items (cell + 1) → IsWalk (begun_at w west south s t)
enter_walks w cell s t west south h more e within ew es' es et =
    let k = cell_is w h more in
    let f = w.grid.now.frame in
    let boxes = w.grid.now.boxes.items in
    let a = h.grid.starts cell (omega arith) in
    let b = h.grid.starts (cell + 1) (omega arith) in
    let part : slice_range w.grid.now.entries.items s t ≡ numbers_in f boxes (w.next_row * f.columns + w.next_column) = part_is w.grid.now cell s t h.grid within es et ∙ ap (numbers_in f boxes) e in
    record {
      grid = h.grid;
      inside = h.inside;
      block = h.block;
      cells = h.cells;
      entered = h.entered;
      next_column = h.next_column;
      next_row = h.next_row;
      order = omega (arith, es, et, a, b, start_mono f boxes cell (cell + 1) (omega arith));
      room = omega (arith, et, b, h.grid.size, start_mono f boxes (cell + 1) (cell_count f) (omega arith));
      borders = subst (TellFirst f boxes w.area w.next_column w.next_row west south) (sym part)
          (borders_tell w.grid.now w.area w.next_column w.next_row west south h.grid k.2 (omega (arith, h.next_column, ap (λ (c : Block). c.first_column) h.block)) (omega (arith, h.next_row, ap (λ (c : Block). c.first_row) h.block))
          (ew ∙ ap (λ (c : Block). border_of f.bounds.x0 f.size c.first_column w.next_column) h.block) (es' ∙ ap (λ (c : Block). border_of f.bounds.y0 f.size c.first_row w.next_row) h.block));
    }

pub enter_rest : (w : Walk) (cell s t : ℕ) (west south : ℤ) (column row : ℕ) → IsWalk w → w.entered < w.cells → w.place ≡ w.end → cell ≡ w.next_row * w.grid.now.frame.columns + w.next_column → cell < cell_count w.grid.now.frame
    → s ≡ slice_index w.grid.now.starts.items cell → t ≡ slice_index w.grid.now.starts.items (cell + 1) → rest_of (moved (begun_at w west south s t) column row) ≡ rest_of w
enter_rest w cell s t west south column row h more done e within es et =
    enters w.grid.now w.area w.entered w.cells s t w.next_column w.next_row h.grid
    (h.next_column ∙ ap (λ (b : Block). column_in b w.entered) h.block) (h.next_row ∙ ap (λ (b : Block). row_in b w.entered) h.block) (subst (λ (k : ℕ). k < cell_count w.grid.now.frame) e within)
    (es ∙ ap (slice_index w.grid.now.starts.items) e) (et ∙ ap (λ (k : ℕ). slice_index w.grid.now.starts.items (k + 1)) e) more
    ∙ sym (ap (λ (xs : List ℕ). xs ++ given_from w.grid.now.frame w.grid.now.boxes.items w.area w.entered (w.cells - w.entered))
    (part_none (λ i. shows w.grid.now.frame w.area w.column w.row (box_at w.grid.now.boxes.items i)) w.grid.now.entries.items w.place w.end done))

-- the cell after one in a block, counted row by row
pub next_along : (b : Block) (n column row : ℕ) → IsBlock b → column ≡ column_in b n → row ≡ row_in b n → (column ≡ b.last_column → ⊥) → (column + 1 ≡ column_in b (n + 1)) × (row ≡ row_in b (n + 1))
next_along b n column row h ec er other =
    let width = width_of b in
    let whole : n / width * width + n % width ≡ n = div-add-mod' n width in
    let under : n % width < width = mod_below n width (omega arith) in
    let narrow : n % width + 1 < width = not_last (n % width) (omega (arith, h.columns)) (λ e. other (omega (arith, h.columns))) in
    let one : n / width * width + (n % width + 1) ≡ n + 1 = omega arith in
    let m : (n + 1) % width ≡ n % width + 1 = rw one at (mod-mul-add (n / width) width (n % width + 1) narrow) in
    let d : (n + 1) / width ≡ n / width = rw one at (div-mul-add (n / width) width (n % width + 1) narrow) in
    (omega (arith, m), omega (arith, d))
  where
    not_last : (r : ℕ) → r ≤ b.last_column - b.first_column → (r ≡ b.last_column - b.first_column → ⊥) → r + 1 < width_of b
    not_last r le ne = elim (cases_lt r (b.last_column - b.first_column)) [
      | inl less ↦ omega arith
      | inr more ↦ absurd (ne (omega arith))
    ]

pub next_above : (b : Block) (n column row : ℕ) → IsBlock b → column ≡ column_in b n → row ≡ row_in b n → column ≡ b.last_column → (b.first_column ≡ column_in b (n + 1)) × (row + 1 ≡ row_in b (n + 1))
next_above b n column row h ec er last =
    let width = width_of b in
    let whole : n / width * width + n % width ≡ n = div-add-mod' n width in
    let end : n % width + 1 ≡ width = omega (arith, h.columns) in
    let one : (n / width + 1) * width + 0 ≡ n + 1 = omega (arith, add-mul (n / width) 1 width) in
    let m : (n + 1) % width ≡ 0 = rw one at (mod-mul-add (n / width + 1) width 0 (omega arith)) in
    let d : (n + 1) / width ≡ n / width + 1 = rw one at (div-mul-add (n / width + 1) width 0 (omega arith)) in
    (omega (arith, m), omega (arith, d))

-- a walk whose next cell is passed
pub moved_walks : (w : Walk) (column row : ℕ) → IsWalk w → w.entered < w.cells → (column ≡ column_in w.block (w.entered + 1)) × (row ≡ row_in w.block (w.entered + 1)) → IsWalk (moved w column row)
moved_walks w column row h more e = record {
  grid = h.grid;
  inside = h.inside;
  block = h.block;
  cells = h.cells;
  entered = omega arith;
  next_column = e.0;
  next_row = e.1;
  order = h.order;
  room = h.room;
  borders = h.borders;
}

-- the number at the walk's place is given, or the walk goes on
pub gives_yes : (w : Walk) → IsWalk w → w.place < w.end → shows w.grid.now.frame w.area w.column w.row (box_at w.grid.now.boxes.items (get_or w.grid.now.entries.items w.place 0)) ≡ true
    → rest_of w ≡ get_or w.grid.now.entries.items w.place 0 ∷ rest_of (stepped w)
gives_yes w h less e =
    given_next (λ i. shows w.grid.now.frame w.area w.column w.row (box_at w.grid.now.boxes.items i)) w.grid.now.entries.items
    (given_from w.grid.now.frame w.grid.now.boxes.items w.area w.entered (w.cells - w.entered)) w.place w.end less h.room e

pub gives_no : (w : Walk) → IsWalk w → w.place < w.end → shows w.grid.now.frame w.area w.column w.row (box_at w.grid.now.boxes.items (get_or w.grid.now.entries.items w.place 0)) ≡ false
    → rest_of (stepped w) ≡ rest_of w
gives_no w h less e =
    sym (given_later (λ i. shows w.grid.now.frame w.area w.column w.row (box_at w.grid.now.boxes.items i)) w.grid.now.entries.items
    (given_from w.grid.now.frame w.grid.now.boxes.items w.area w.entered (w.cells - w.entered)) w.place w.end less h.room e)

-- nothing is left where the last cell is done
pub all_given : (w : Walk) → w.place ≡ w.end → w.entered ≡ w.cells → rest_of w ≡ []
all_given w done last =
    let n : w.cells - w.entered ≡ 0 = omega arith in
    rw (n, part_none (λ i. shows w.grid.now.frame w.area w.column w.row (box_at w.grid.now.boxes.items i)) w.grid.now.entries.items w.place w.end done) refl
