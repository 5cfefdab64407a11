-- Which cells a box covers.
use Rattle.std.proofs.Common.{◌≡◌, ℕ, ◌+◌, ◌-◌, ◌*◌, ◌/◌, ◌^◌, ◌<◌, ◌≤◌, true, false, refl, ap, ◌∙◌, arith}
use Rattle.std.specs.Prelude.{nat_abs}
use Rattle.std.proofs.Math.Nat.{div-mul-le_self, div-le_self, mul-le-mul}
use Rattle.std.proofs.lemmas.Int.{ints}
use Rattle.std.proofs.lemmas.Nat.{le-div, div_below, div-mul-add, mod-mul-add}
use Rattle.std.proofs.lemmas.Bool.{and_parts, and_from, and_left, and_right, leb-true, le-leb, lt-leb}
use lib.IntN.{ℤ, ◌-ℤ◌}
use lib.Signed.{◌≤ℤ◌}
use Rattle.mill_base.specs.Numbers.{Within}
use Rattle.mill_base.specs.declared.limits.TheConstants.{MAX_COORDINATE}
use Rattle.mill_base.specs.declared.points.Box2.{Box2}
use Rattle.mill_cells.specs.Boxes.{IsInside, IsBounds}
use Rattle.mill_cells.specs.Frames.{cell_of, cell_count, block_of, width_of, height_of, frame_area, has_cell, covers, IsBlock, IsFrame}
use Rattle.mill_cells.specs.declared.frame.Frame.{Frame}
use Rattle.mill_cells.specs.declared.frame.Block.{Block}

div_mono : (m n k : ℕ) → 0 < k → m ≤ n → m / k ≤ n / k
div_mono m n k h le = le-div (m / k) n k h (omega (arith, div-mul-le_self m k))

-- a coordinate further on is in the same cell or a later one
pub cell_mono : (low : ℤ) (size : ℕ) (a b : ℤ) → 0 < size → low ≤ℤ a → a ≤ℤ b → cell_of low size a ≤ cell_of low size b
cell_mono low size a b h p q = div_mono (nat_abs (a -ℤ low)) (nat_abs (b -ℤ low)) size h (omega (arith, ints))

pub cell_small : (low : ℤ) (size : ℕ) (a : ℤ) → Within MAX_COORDINATE low → Within MAX_COORDINATE a → cell_of low size a < 2 ^ 20
cell_small low size a hl ha =
    let k = hl.within in
    let l = ha.within in
    let d : nat_abs (a -ℤ low) ≤ 1048574 = omega (arith, ints) in
    omega (arith, div-le_self (nat_abs (a -ℤ low)) size)

-- a block's first and last cells are in order and in the frame
pub record InFrame (f : Frame) (b : Block) : Type 0 where
  pub columns : b.first_column ≤ b.last_column
  pub rows : b.first_row ≤ b.last_row
  pub narrow : b.last_column < f.columns
  pub low : b.last_row < f.rows

pub block_in : (f : Frame) (b : Box2) → IsFrame f → IsInside f.bounds b → InFrame f (block_of f b)
block_in f b h i =
    let c : f.columns ≡ cell_of f.bounds.x0 f.size f.bounds.x1 + 1 = ap (λ (g : Frame). g.columns) h.made in
    let r : f.rows ≡ cell_of f.bounds.y0 f.size f.bounds.y1 + 1 = ap (λ (g : Frame). g.rows) h.made in
    let x = i.x_order in
    let y = i.y_order in
    let w = i.west in
    let s = i.south in
    let narrow = cell_mono f.bounds.x0 f.size b.x1 f.bounds.x1 h.some (omega (arith, ints)) i.east in
    let low = cell_mono f.bounds.y0 f.size b.y1 f.bounds.y1 h.some (omega (arith, ints)) i.north in
    record {
      columns = cell_mono f.bounds.x0 f.size b.x0 b.x1 h.some i.west i.x_order;
      rows = cell_mono f.bounds.y0 f.size b.y0 b.y1 h.some i.south i.y_order;
      narrow = omega arith;
      low = omega arith;
    }

within_bounds : (lo hi a : ℤ) → Within MAX_COORDINATE lo → Within MAX_COORDINATE hi → lo ≤ℤ a → a ≤ℤ hi → Within MAX_COORDINATE a
within_bounds lo hi a p q h k = let u = p.within in let v = q.within in record { within = omega (arith, ints) }

-- a box within bounds has ends in range
pub inside_bounds : (f b : Box2) → IsBounds f → IsInside f b → IsBounds b
inside_bounds f b h i =
    let x = i.x_order in
    let y = i.y_order in
    let w = i.west in
    let e = i.east in
    let s = i.south in
    let n = i.north in
    record {
      x0_ok = within_bounds f.x0 f.x1 b.x0 h.x0_ok h.x1_ok i.west (omega (arith, ints));
      y0_ok = within_bounds f.y0 f.y1 b.y0 h.y0_ok h.y1_ok i.south (omega (arith, ints));
      x1_ok = within_bounds f.x0 f.x1 b.x1 h.x0_ok h.x1_ok (omega (arith, ints)) i.east;
      y1_ok = within_bounds f.y0 f.y1 b.y1 h.y0_ok h.y1_ok (omega (arith, ints)) i.north;
      x_order = x;
      y_order = y;
    }

-- the same without a frame's own facts
pub block_is : (f : Frame) (b : Box2) → IsBounds f.bounds → 0 < f.size → IsInside f.bounds b → IsBlock (block_of f b)
block_is f b h some i =
    let k = inside_bounds f.bounds b h i in
    record {
      columns = cell_mono f.bounds.x0 f.size b.x0 b.x1 some i.west i.x_order;
      rows = cell_mono f.bounds.y0 f.size b.y0 b.y1 some i.south i.y_order;
      narrow = cell_small f.bounds.x0 f.size b.x1 h.x0_ok k.x1_ok;
      low = cell_small f.bounds.y0 f.size b.y1 h.y0_ok k.y1_ok;
    }

pub area_le : (f : Frame) (b : Block) → InFrame f b → frame_area b ≤ cell_count f
area_le f b h = mul-le-mul {n₁ = width_of b} {m₁ = height_of b} {n₂ = f.columns} {m₂ = f.rows} (omega (arith, h.narrow)) (omega (arith, h.low))

-- the tests of a block's cells
pub has_cell_tells : (b : Block) (column row : ℕ) → has_cell b column row ≡ true → ((b.first_column ≤ column) × (column ≤ b.last_column)) × ((b.first_row ≤ row) × (row ≤ b.last_row))
has_cell_tells b column row e =
    let p = and_parts _ _ e in
    let x = and_parts _ _ p.0 in
    let y = and_parts _ _ p.1 in
    ((leb-true _ _ x.0, leb-true _ _ x.1), (leb-true _ _ y.0, leb-true _ _ y.1))

pub has_cell_yes : (b : Block) (column row : ℕ) → b.first_column ≤ column → column ≤ b.last_column → b.first_row ≤ row → row ≤ b.last_row → has_cell b column row ≡ true
has_cell_yes b column row p q r s = and_from _ _ (and_from _ _ (le-leb _ _ p) (le-leb _ _ q)) (and_from _ _ (le-leb _ _ r) (le-leb _ _ s))

-- the cell in a column and a row
pub covers_at : (f : Frame) (b : Box2) (column row : ℕ) → column < f.columns → covers f b (row * f.columns + column) ≡ has_cell (block_of f b) column row
covers_at f b column row h = rw (div-mul-add row f.columns column h, mod-mul-add row f.columns column h) refl

pub before_column : (f : Frame) (b : Box2) (column row : ℕ) → column < f.columns → column < (block_of f b).first_column → covers f b (row * f.columns + column) ≡ false
before_column f b column row h less = covers_at f b column row h ∙ and_left _ _ (and_left _ _ (lt-leb _ _ less))

pub after_column : (f : Frame) (b : Box2) (column row : ℕ) → column < f.columns → (block_of f b).last_column < column → covers f b (row * f.columns + column) ≡ false
after_column f b column row h less = covers_at f b column row h ∙ and_left _ _ (and_right _ _ (lt-leb _ _ less))

pub before_row : (f : Frame) (b : Box2) (k : ℕ) → 0 < f.columns → k < (block_of f b).first_row * f.columns → covers f b k ≡ false
before_row f b k some less = and_right _ _ (and_left _ _ (lt-leb _ _ (div_below k f.columns (block_of f b).first_row some less)))

pub after_row : (f : Frame) (b : Box2) (k : ℕ) → 0 < f.columns → ((block_of f b).last_row + 1) * f.columns ≤ k → covers f b k ≡ false
after_row f b k some more =
    let far = le-div ((block_of f b).last_row + 1) k f.columns some more in
    and_right _ _ (and_right _ _ (lt-leb (k / f.columns) (block_of f b).last_row (omega arith)))

-- the part of a row from one place up to another
pub row_part : (f : Frame) (row low high k : ℕ) → high ≤ f.columns → row * f.columns + low ≤ k → k < row * f.columns + high → (c : ℕ) × (low ≤ c) × (c < high) × (c < f.columns) × (k ≡ row * f.columns + c)
row_part f row low high k h p q = (k - row * f.columns, omega arith, omega arith, omega arith, omega arith)

-- bounds are within themselves
pub itself_inside : (b : Box2) → IsBounds b → IsInside b b
itself_inside b h = record {
  west = omega (arith, ints);
  x_order = h.x_order;
  east = omega (arith, ints);
  south = omega (arith, ints);
  y_order = h.y_order;
  north = omega (arith, ints);
}

-- a column and a row of the frame begin within its bounds
place_room : (low high : ℤ) (size at : ℕ) → Within MAX_COORDINATE low → Within MAX_COORDINATE high → at ≤ cell_of low size high → at * size < 2 ^ 20
place_room low high size at hl hh le =
    let k = hl.within in
    let l = hh.within in
    let d : nat_abs (high -ℤ low) ≤ 1048574 = omega (arith, ints) in
    let m = mul-le-mul {n₁ = at} {m₁ = size} {n₂ = cell_of low size high} {m₂ = size} le (omega arith) in
    omega (arith, m, d, div-mul-le_self (nat_abs (high -ℤ low)) size)

pub column_room : (f : Frame) (column : ℕ) → IsFrame f → column < f.columns → column * f.size < 2 ^ 20
column_room f column h less =
    let c : f.columns ≡ cell_of f.bounds.x0 f.size f.bounds.x1 + 1 = ap (λ (g : Frame). g.columns) h.made in
    place_room f.bounds.x0 f.bounds.x1 f.size column h.bounds.x0_ok h.bounds.x1_ok (omega arith)

pub row_room : (f : Frame) (row : ℕ) → IsFrame f → row < f.rows → row * f.size < 2 ^ 20
row_room f row h less =
    let r : f.rows ≡ cell_of f.bounds.y0 f.size f.bounds.y1 + 1 = ap (λ (g : Frame). g.rows) h.made in
    place_room f.bounds.y0 f.bounds.y1 f.size row h.bounds.y0_ok h.bounds.y1_ok (omega arith)
