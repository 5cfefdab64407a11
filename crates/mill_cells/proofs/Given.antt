-- A walk gives exactly the boxes that meet its area, each once.
use Rattle.std.proofs.Common.{◌≡◌, ◌⊎◌, ◌↔◌, ℕ, zero, suc, ◌+◌, ◌-◌, ◌*◌, ◌/◌, ◌%◌, ◌<◌, ◌≤◌, max, true, false, List, [], length, refl, sym, subst, ap, ◌∙◌, inl, inr, Bor, arith}
use Rattle.std.specs.Prelude.{nat_eq, slice_range}
use Rattle.std.proofs.lemmas.List.Edits.{between_none}
use Rattle.std.specs.List.{Contains, IsDistinct}
use Rattle.std.proofs.lemmas.Bool.{and_parts, and_from, not-true, not_from_false, eqb-true, eq-eqb}
use Rattle.std.proofs.lemmas.Int.{ints}
use Rattle.std.proofs.lemmas.List.Elements.{Contains-append_cases, Contains-append_left, Contains-append_right}
use Rattle.std.proofs.lemmas.Nat.{div-mul-add, mod-mul-add, div-add-mod', mul-add-lt}
use lib.IntN.{ℤ, pos}
use lib.Signed.{◌≤ℤ◌, lt_z}
use Rattle.mill_base.specs.declared.points.Box2.{Box2}
use Rattle.mill_cells.specs.Boxes.{box_at, IsIn, Meet, IsNear, IsInside, IsCommon}
use Rattle.mill_cells.specs.Frames.{block_of, width_of, height_of, frame_area, covers, IsFrame}
use Rattle.mill_cells.specs.Grids.{numbers_in, IsGrid}
use Rattle.mill_cells.specs.Walks.{TellFirst, do_overlap, do_meet, is_first_cell, shows, column_in, row_in, given_in, given_from, rest_of, walk_over, IsWalk}
use Rattle.mill_cells.specs.declared.frame.Frame.{Frame}
use Rattle.mill_cells.specs.declared.frame.Block.{Block}
use Rattle.mill_cells.specs.declared.grid.Grid.{Grid}
use Rattle.mill_cells.specs.declared.walk.Walk.{Walk}
use Rattle.mill_cells.proofs.BoxLemmas.{not_less}
use Rattle.mill_cells.proofs.FrameLemmas.{block_in, cell_mono, covers_at, has_cell_yes}
use Rattle.mill_cells.proofs.Meeting.{overlapping_meet}
use Rattle.mill_cells.proofs.Lists.{nothing_in_nil, Contains-filter, filter_keeps, distinct-append, distinct-filter, distinct-nil}
use Rattle.mill_cells.proofs.Passing.{in_passing, passing_has, passing_distinct}
use Rattle.std.proofs.Math.Nat.{sub-zero}

-- overlapping stretches
less_no : (a b : ℤ) → a ≤ℤ b → lt_z b a ≡ false
less_no a b h = grind (arith, ints)

overlap_tells : (a0 a1 b0 b1 : ℤ) → do_overlap a0 a1 b0 b1 ≡ true → (a0 ≤ℤ b1) × (b0 ≤ℤ a1)
overlap_tells a0 a1 b0 b1 e = let p = and_parts _ _ e in (not_less a0 b1 (not-true _ p.0), not_less b0 a1 (not-true _ p.1))

overlap_yes : (a0 a1 b0 b1 : ℤ) → a0 ≤ℤ b1 → b0 ≤ℤ a1 → do_overlap a0 a1 b0 b1 ≡ true
overlap_yes a0 a1 b0 b1 p q = and_from _ _ (not_from_false _ (less_no a0 b1 p)) (not_from_false _ (less_no b0 a1 q))

-- the test of two boxes, with their ends the right way round
pub meet_tells : (a b : Box2) → a.x0 ≤ℤ a.x1 → a.y0 ≤ℤ a.y1 → b.x0 ≤ℤ b.x1 → b.y0 ≤ℤ b.y1 → do_meet a b ≡ true → Meet a b
meet_tells a b ax ay bx by' e =
    let p = and_parts _ _ e in
    let in_x = overlap_tells a.x0 a.x1 b.x0 b.x1 p.0 in
    let in_y = overlap_tells a.y0 a.y1 b.y0 b.y1 p.1 in
    overlapping_meet a b (record { first = ax; second = bx; up = in_x.0; down = in_x.1 }) (record { first = ay; second = by'; up = in_y.0; down = in_y.1 })

le_on : (a x b : ℤ) → a ≤ℤ x → x ≤ℤ b → a ≤ℤ b
le_on a x b h k = omega (arith, ints)

pub meet_yes : (a b : Box2) → Meet a b → do_meet a b ≡ true
meet_yes a b m =
    and_from _ _
    (overlap_yes a.x0 a.x1 b.x0 b.x1 (le_on _ m.x _ m.in_first.right m.in_second.left) (le_on _ m.x _ m.in_second.right m.in_first.left))
    (overlap_yes a.y0 a.y1 b.y0 b.y1 (le_on _ m.y _ m.in_first.over m.in_second.under) (le_on _ m.y _ m.in_second.over m.in_first.under))

-- the cells of boxes that meet
meet_ends : (a b : Box2) → Meet a b → (a.x0 ≤ℤ b.x1) × (b.x0 ≤ℤ a.x1) × (a.y0 ≤ℤ b.y1) × (b.y0 ≤ℤ a.y1)
meet_ends a b m = (
  le_on _ m.x _ m.in_first.right m.in_second.left,
  le_on _ m.x _ m.in_second.right m.in_first.left,
  le_on _ m.y _ m.in_first.over m.in_second.under,
  le_on _ m.y _ m.in_second.over m.in_first.under,
)

-- the first cell that two blocks share
record SharedCell (f : Frame) (a b : Box2) : Type 0 where
  pub column : ℕ
  pub row : ℕ
  pub first : is_first_cell (block_of f a) (block_of f b) column row ≡ true
  pub covered : covers f b (row * f.columns + column) ≡ true
  pub column_from : (block_of f a).first_column ≤ column
  pub column_to : column ≤ (block_of f a).last_column
  pub row_from : (block_of f a).first_row ≤ row
  pub row_to : row ≤ (block_of f a).last_row

max_bounds : (a b c d : ℕ) → a ≤ c → b ≤ c → a ≤ d → b ≤ d → (a ≤ max a b) × (b ≤ max a b) × (max a b ≤ c) × (max a b ≤ d)
max_bounds a b c d p q r s = (omega arith, omega arith, omega arith, omega arith)

shared_cell : (f : Frame) (a b : Box2) → IsFrame f → IsInside f.bounds a → IsInside f.bounds b → Meet b a → SharedCell f a b
shared_cell f a b h ia ib m =
    let e = meet_ends b a m in
    let ka = block_in f a h ia in
    let kb = block_in f b h ib in
    let c1 = cell_mono f.bounds.x0 f.size b.x0 a.x1 h.some ib.west e.0 in
    let c2 = cell_mono f.bounds.x0 f.size a.x0 b.x1 h.some ia.west e.1 in
    let r1 = cell_mono f.bounds.y0 f.size b.y0 a.y1 h.some ib.south e.2 in
    let r2 = cell_mono f.bounds.y0 f.size a.y0 b.y1 h.some ia.south e.3 in
    let c = max_bounds (block_of f a).first_column (block_of f b).first_column (block_of f a).last_column (block_of f b).last_column ka.columns c1 c2 kb.columns in
    let r = max_bounds (block_of f a).first_row (block_of f b).first_row (block_of f a).last_row (block_of f b).last_row ka.rows r1 r2 kb.rows in
    let narrow = ka.narrow in
    record {
      column = max (block_of f a).first_column (block_of f b).first_column;
      row = max (block_of f a).first_row (block_of f b).first_row;
      first = and_from _ _
          (eq-eqb (max (block_of f a).first_column (block_of f b).first_column) (max (block_of f a).first_column (block_of f b).first_column) refl)
          (eq-eqb (max (block_of f a).first_row (block_of f b).first_row) (max (block_of f a).first_row (block_of f b).first_row) refl);
      covered =
          covers_at f b (max (block_of f a).first_column (block_of f b).first_column) (max (block_of f a).first_row (block_of f b).first_row) (omega arith)
          ∙ has_cell_yes (block_of f b) _ _ c.1 c.3 r.1 r.3;
      column_from = c.0;
      column_to = c.2;
      row_from = r.0;
      row_to = r.2;
    }

-- the number of a cell in a block
cell_number : (b : Block) (column row : ℕ) → b.first_column ≤ column → column ≤ b.last_column → b.first_row ≤ row → row ≤ b.last_row
    → (w : ℕ) × (w < frame_area b) × (column_in b w ≡ column) × (row_in b w ≡ row)
cell_number b column row p q r s =
    let w = (row - b.first_row) * width_of b + (column - b.first_column) in
    let narrow : column - b.first_column < width_of b = omega arith in
    let low : row - b.first_row < height_of b = omega arith in (
      w,
      mul-add-lt (row - b.first_row) (width_of b) (column - b.first_column) (height_of b) low narrow,
      rw (mod-mul-add (row - b.first_row) (width_of b) (column - b.first_column) narrow) (omega arith),
      rw (div-mul-add (row - b.first_row) (width_of b) (column - b.first_column) narrow) (omega arith),
    )

-- what is given in one cell
given_in_tells : (f : Frame) (boxes : List Box2) (area : Box2) (w i : ℕ) → Contains (given_in f boxes area w) i
    → (i < length boxes) × (shows f area (column_in (block_of f area) w) (row_in (block_of f area) w) (box_at boxes i) ≡ true)
given_in_tells f boxes area w i c =
    let k = Contains-filter (λ j. shows f area (column_in (block_of f area) w) (row_in (block_of f area) w) (box_at boxes j)) (numbers_in f boxes (row_in (block_of f area) w * f.columns + column_in (block_of f area) w)) i c in
    let n = in_passing (λ j. covers f (box_at boxes j) (row_in (block_of f area) w * f.columns + column_in (block_of f area) w)) (length boxes) i k.0 in
    (n.0, k.1)

given_in_has : (f : Frame) (boxes : List Box2) (area : Box2) (w i : ℕ) → i < length boxes
    → covers f (box_at boxes i) (row_in (block_of f area) w * f.columns + column_in (block_of f area) w) ≡ true
    → shows f area (column_in (block_of f area) w) (row_in (block_of f area) w) (box_at boxes i) ≡ true → Contains (given_in f boxes area w) i
given_in_has f boxes area w i less e s =
    filter_keeps (λ j. shows f area (column_in (block_of f area) w) (row_in (block_of f area) w) (box_at boxes j)) (numbers_in f boxes (row_in (block_of f area) w * f.columns + column_in (block_of f area) w)) i s
    (passing_has (λ j. covers f (box_at boxes j) (row_in (block_of f area) w * f.columns + column_in (block_of f area) w)) (length boxes) i less e)

-- what is given in several cells
record GivenAt (f : Frame) (boxes : List Box2) (area : Box2) (w left i : ℕ) : Type 0 where
  pub cell : ℕ
  pub from : w ≤ cell
  pub under : cell < w + left
  pub given : Contains (given_in f boxes area cell) i

given_from_tells : (f : Frame) (boxes : List Box2) (area : Box2) (w left i : ℕ) → Contains (given_from f boxes area w left) i → GivenAt f boxes area w left i
given_from_tells f boxes area w zero i c = absurd (nothing_in_nil i c)
given_from_tells f boxes area w (suc left) i c = elim (Contains-append_cases (given_in f boxes area w) (given_from f boxes area (w + 1) left) i c) [
  | inl here ↦ record { cell = w; from = omega arith; under = omega arith; given = here }
  | inr later ↦ let k = given_from_tells f boxes area (w + 1) left i later in record { cell = k.cell; from = omega (arith, k.from); under = omega (arith, k.under); given = k.given }
]

given_from_has : (f : Frame) (boxes : List Box2) (area : Box2) (w left v i : ℕ) → w ≤ v → v < w + left → Contains (given_in f boxes area v) i → Contains (given_from f boxes area w left) i
given_from_has f boxes area w zero v i p q c = absurd (omega arith)
given_from_has f boxes area w (suc left) v i p q c = elim (now_or_later w v p) [
  | inl same ↦ Contains-append_left (given_in f boxes area w) (given_from f boxes area (w + 1) left) i (subst (λ t. Contains (given_in f boxes area t) i) (sym same) c)
  | inr later ↦ Contains-append_right (given_in f boxes area w) (given_from f boxes area (w + 1) left) i (given_from_has f boxes area (w + 1) left v i later (omega arith) c)
]
  where
    now_or_later : (w v : ℕ) → w ≤ v → (w ≡ v) ⊎ (w + 1 ≤ v)
    now_or_later w v h = grind arith

-- a box is given in one cell only
one_cell_shows : (f : Frame) (area b : Box2) (v w : ℕ) → shows f area (column_in (block_of f area) v) (row_in (block_of f area) v) b ≡ true
    → shows f area (column_in (block_of f area) w) (row_in (block_of f area) w) b ≡ true → v ≡ w
one_cell_shows f area b v w ev ew =
    let k = block_of f area in
    let p = and_parts _ _ (and_parts _ _ ev).1 in
    let q = and_parts _ _ (and_parts _ _ ew).1 in
    let c = eqb-true _ _ p.0 ∙ sym (eqb-true _ _ q.0) in
    let r = eqb-true _ _ p.1 ∙ sym (eqb-true _ _ q.1) in
    same_number (width_of k) v w (drop_first k.first_column (v % width_of k) (w % width_of k) c) (drop_first k.first_row (v / width_of k) (w / width_of k) r)
  where
    drop_first : (a b c : ℕ) → a + b ≡ a + c → b ≡ c
    drop_first a b c e = omega arith

    same_number : (n v w : ℕ) → v % n ≡ w % n → v / n ≡ w / n → v ≡ w
    same_number n v w m d = sym (div-add-mod' v n) ∙ (rw (m, d) (div-add-mod' w n))

given_distinct : (f : Frame) (boxes : List Box2) (area : Box2) (w left : ℕ) → IsDistinct nat_eq (given_from f boxes area w left)
given_distinct f boxes area w zero = distinct-nil
given_distinct f boxes area w (suc left) =
    distinct-append (given_in f boxes area w) (given_from f boxes area (w + 1) left)
    (distinct-filter (λ j. shows f area (column_in (block_of f area) w) (row_in (block_of f area) w) (box_at boxes j)) (numbers_in f boxes (row_in (block_of f area) w * f.columns + column_in (block_of f area) w))
    (passing_distinct (λ j. covers f (box_at boxes j) (row_in (block_of f area) w * f.columns + column_in (block_of f area) w)) (length boxes)))
    (given_distinct f boxes area (w + 1) left)
    (λ i c d.
    let k = given_from_tells f boxes area (w + 1) left i d in
    let e = one_cell_shows f area (box_at boxes i) w k.cell (given_in_tells f boxes area w i c).1 (given_in_tells f boxes area k.cell i k.given).1 in
    omega (arith, k.from, e))

-- all the cells of an area give exactly the boxes that meet it
pub given_is_near : (g : Grid) (area : Box2) (i : ℕ) → IsGrid g → IsInside g.frame.bounds area → Contains (given_from g.frame g.boxes.items area 0 (frame_area (block_of g.frame area))) i
    → IsNear g.boxes.items area i
given_is_near g area i h ia c =
    let k = given_from_tells g.frame g.boxes.items area 0 (frame_area (block_of g.frame area)) i c in
    let t = given_in_tells g.frame g.boxes.items area k.cell i k.given in
    let b = h.inside i t.0 in
    record { within = t.0; meets = meet_tells (box_at g.boxes.items i) area b.x_order b.y_order ia.x_order ia.y_order (and_parts _ _ t.1).0 }

pub near_is_given : (g : Grid) (area : Box2) (i : ℕ) → IsGrid g → IsInside g.frame.bounds area → IsNear g.boxes.items area i
    → Contains (given_from g.frame g.boxes.items area 0 (frame_area (block_of g.frame area))) i
near_is_given g area i h ia n =
    let f = g.frame in
    let boxes = g.boxes.items in
    let k = block_of f area in
    let b = box_at boxes i in
    let s = shared_cell f area b h.frame ia (h.inside i n.within) n.meets in
    let c = cell_number k s.column s.row s.column_from s.column_to s.row_from s.row_to in
    given_from_has f boxes area 0 (frame_area k) c.0 i (omega arith) (omega (arith, c.1))
    (given_in_has f boxes area c.0 i n.within
    (rw (c.2, c.3) s.covered)
    (and_from _ _ (meet_yes b area n.meets) (rw (c.2, c.3) s.first)))

pub given_once : (g : Grid) (area : Box2) (left : ℕ) → IsDistinct nat_eq (given_from g.frame g.boxes.items area 0 left)
given_once g area left = given_distinct g.frame g.boxes.items area 0 left

-- what is near an area is near its common part with the bounds
inner_point : (outer inner : Box2) (x y : ℤ) → IsInside outer inner → IsIn inner x y → IsIn outer x y
inner_point outer inner x y h p = record {
  right = le_on _ inner.x0 _ h.west p.right;
  left = le_on _ inner.x1 _ p.left h.east;
  over = le_on _ inner.y0 _ h.south p.over;
  under = le_on _ inner.y1 _ p.under h.north;
}

pub near_common : (g : Grid) (all area : Box2) (i : ℕ) → IsGrid g → IsCommon all g.frame.bounds area → IsNear g.boxes.items all i → IsNear g.boxes.items area i
near_common g all area i h common n =
    let m = n.meets in
    record {
      within = n.within;
      meets = record { x = m.x; y = m.y; in_first = m.in_first; in_second = common m.x m.y m.in_second (inner_point g.frame.bounds (box_at g.boxes.items i) m.x m.y (h.inside i n.within) m.in_first) };
    }

pub common_near : (g : Grid) (all area : Box2) (i : ℕ) → IsInside all area → IsNear g.boxes.items area i → IsNear g.boxes.items all i
common_near g all area i part n =
    let m = n.meets in
    record { within = n.within; meets = record { x = m.x; y = m.y; in_first = m.in_first; in_second = inner_point all area m.x m.y part m.in_second } }

pub none_near : (g : Grid) (all : Box2) (i : ℕ) → IsGrid g → (Meet g.frame.bounds all → ⊥) → IsNear g.boxes.items all i → ⊥
none_near g all i h none n =
    let m = n.meets in
    none (record { x = m.x; y = m.y; in_first = inner_point g.frame.bounds (box_at g.boxes.items i) m.x m.y (h.inside i n.within) m.in_first; in_second = m.in_second })

-- a walk that begins
first_is : (first width : ℕ) → 0 < width → first ≡ first + 0 % width
first_is first width some = let z : 0 * width + 0 ≡ 0 = omega arith in let m : 0 % width ≡ 0 = rw z at (mod-mul-add 0 width 0 some) in omega (arith, m)

first_row_is : (first width : ℕ) → 0 < width → first ≡ first + 0 / width
first_row_is first width some = let z : 0 * width + 0 ≡ 0 = omega arith in let d : 0 / width ≡ 0 = rw z at (div-mul-add 0 width 0 some) in omega (arith, d)

none_tell : (g : Bor Grid) (area : Box2) → TellFirst g.now.frame g.now.boxes.items area 0 0 (pos 0) (pos 0) (slice_range g.now.entries.items 0 0)
none_tell g area = subst (TellFirst g.now.frame g.now.boxes.items area 0 0 (pos 0) (pos 0)) (sym (between_none g.now.entries.items 0)) (λ k d less. absurd (omega arith))

pub new_walk : (g : Bor Grid) (area : Box2) (block : Block) (cells : ℕ) → IsGrid g.now → IsInside g.now.frame.bounds area → block ≡ block_of g.now.frame area → cells ≤ frame_area block → IsWalk (walk_over g area block cells)
new_walk g area block cells h ia e le =
    record { grid = h; inside = ia; block = e; cells = le; entered = omega arith; next_column = first_is block.first_column (width_of block) (omega arith); next_row = first_row_is block.first_row (width_of block) (omega arith); order = omega arith; room = omega arith; borders = none_tell g area }

pub new_rest : (g : Bor Grid) (area : Box2) (block : Block) (cells : ℕ) → rest_of (walk_over g area block cells) ≡ given_from g.now.frame g.now.boxes.items area 0 cells
new_rest g area block cells =
    rw (sub-zero cells) refl

-- the walk through all cells of the area's common part with the bounds
pub walk_each : (w : Walk) (g : Bor Grid) (all area : Box2) (block : Block) (cells : ℕ) → w ≡ walk_over g area block cells → IsGrid g.now → block ≡ block_of g.now.frame area → cells ≡ frame_area block
    → IsInside g.now.frame.bounds area → IsCommon all g.now.frame.bounds area → IsInside all area → (i : ℕ) → Contains (rest_of w) i ↔ IsNear g.now.boxes.items all i
walk_each w g all area block cells is h e n ia common part i =
    let r : rest_of w ≡ given_from g.now.frame g.now.boxes.items area 0 (frame_area (block_of g.now.frame area)) =
    ap rest_of is ∙ (new_rest g area block cells ∙ ap (given_from g.now.frame g.now.boxes.items area 0) (n ∙ ap frame_area e)) in (
      λ c. common_near g.now all area i part (given_is_near g.now area i h ia (subst (λ (xs : List ℕ). Contains xs i) r c)),
      λ m. subst (λ (xs : List ℕ). Contains xs i) (sym r) (near_is_given g.now area i h ia (near_common g.now all area i h common m)),
    )

pub walk_none : (w : Walk) (g : Bor Grid) (all area : Box2) (block : Block) → w ≡ walk_over g area block 0 → IsGrid g.now → ¬ Meet g.now.frame.bounds all
    → (i : ℕ) → Contains (rest_of w) i ↔ IsNear g.now.boxes.items all i
walk_none w g all area block is h none i =
    let r : rest_of w ≡ [] = ap rest_of is ∙ new_rest g area block 0 in
    (λ c. absurd (nothing_in_nil i (subst (λ (xs : List ℕ). Contains xs i) r c)), λ m. absurd (none_near g.now all i h none m))

pub walk_once : (w : Walk) (g : Bor Grid) (area : Box2) (block : Block) (cells : ℕ) → w ≡ walk_over g area block cells → IsDistinct nat_eq (rest_of w)
walk_once w g area block cells is = subst (IsDistinct nat_eq) (sym (ap rest_of is ∙ new_rest g area block cells)) (given_once g.now area cells)
