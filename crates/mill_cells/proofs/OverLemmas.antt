-- A walk that passes over the triangles whose tops aren't over a height.
use Rattle.std.proofs.Common.{◌≡◌, ℕ, suc, ◌+◌, ◌-◌, ◌*◌, ◌<◌, Bool, true, false, ◌&&◌, List, [], ◌∷◌, ◌++◌, get_or, refl, sym, subst, ap, ◌∙◌, arith}
use Rattle.std.proofs.lemmas.Bool.{and_parts}
use Rattle.std.proofs.lemmas.List.Elements.{All-contains}
use Rattle.std.proofs.lemmas.Int.{ints}
use lib.IntN.{ℤ}
use lib.Signed.{◌≤ℤ◌, lt_z, le_z}
use Rattle.mill_cells.specs.Boxes.{box_at}
use Rattle.mill_cells.specs.Frames.{cell_count, block_of}
use Rattle.mill_cells.specs.Grids.{numbers_in}
use Rattle.mill_cells.specs.inner.Passed.{ArePassed, IsNext}
use Rattle.mill_cells.specs.Sorted.{top_at, AreUnder}
use Rattle.mill_cells.specs.Walks.{shows, column_in, row_in, given_in, given_from, rest_of, moved, IsWalk}
use Rattle.mill_cells.specs.declared.frame.Block.{Block}
use Rattle.mill_cells.specs.declared.walk.Walk.{Walk}
use Rattle.mill_cells.proofs.BoxLemmas.{not_less, is_less, le_trans_ℤ}
use Rattle.mill_cells.proofs.Lists.{Contains-filter}
use Rattle.mill_cells.proofs.PassedLemmas.{All-members, none_passed, one_passed, passed_on, next_on}
use Rattle.mill_cells.proofs.WalkLemmas.{part_none, stepped, step_walks, gives_yes, gives_no}

-- the walk has come further in its cell, and passed over some
pub record IsOverIn (height : ℤ) (old new : Walk) : Type 0 where
  pub walk : IsWalk new
  pub passed : ArePassed old.grid.now.tops.items height (rest_of old) (rest_of new)
  pub entered : new.entered ≡ old.entered
  pub cells : new.cells ≡ old.cells
  pub tops : new.grid.now.tops.items ≡ old.grid.now.tops.items

-- the walk has come further, and passed over some
pub record IsOver (height : ℤ) (old new : Walk) : Type 0 where
  pub walk : IsWalk new
  pub passed : ArePassed old.grid.now.tops.items height (rest_of old) (rest_of new)
  pub tops : new.grid.now.tops.items ≡ old.grid.now.tops.items

pub over_in_starts : (height : ℤ) (w : Walk) → IsWalk w → IsOverIn height w w
over_in_starts height w h = record { walk = h; passed = none_passed w.grid.now.tops.items height (rest_of w) (rest_of w) refl; entered = refl; cells = refl; tops = refl }

-- whether the number i is given in the walk's cell
abbrev pub shows_in : Walk → ℕ → Bool
shows_in w i = shows w.grid.now.frame w.area w.column w.row (box_at w.grid.now.boxes.items i)

-- the number at the walk's place is passed over, or comes
pub over_no : (w : Walk) (height : ℤ) (tops : List ℤ) → IsWalk w → w.place < w.end
    → (lt_z height (top_at tops (get_or w.grid.now.entries.items w.place 0)) && shows_in w (get_or w.grid.now.entries.items w.place 0)) ≡ false
    → ArePassed tops height (rest_of w) (rest_of (stepped w))
over_no w height tops h less e = by (shows_in w (get_or w.grid.now.entries.items w.place 0)) refl
  where
    not_over : (a b : Bool) → (a && b) ≡ false → b ≡ true → a ≡ false
    not_over true b p q = sym (sym p ∙ q)
    not_over false b p q = refl

    by : (b : Bool) → shows_in w (get_or w.grid.now.entries.items w.place 0) ≡ b → ArePassed tops height (rest_of w) (rest_of (stepped w))
    by true shown =
        one_passed tops height (rest_of w) (rest_of (stepped w)) (get_or w.grid.now.entries.items w.place 0) (gives_yes w h less shown)
        (not_less (top_at tops (get_or w.grid.now.entries.items w.place 0)) height (not_over _ _ e shown))
    by false hidden = none_passed tops height (rest_of w) (rest_of (stepped w)) (sym (gives_no w h less hidden))

pub over_yes : (w : Walk) (height : ℤ) (tops : List ℤ) → IsWalk w → w.place < w.end
    → (lt_z height (top_at tops (get_or w.grid.now.entries.items w.place 0)) && shows_in w (get_or w.grid.now.entries.items w.place 0)) ≡ true
    → IsNext tops height (rest_of w) (get_or w.grid.now.entries.items w.place 0) (rest_of (stepped w))
over_yes w height tops h less e =
    let p = and_parts _ _ e in
    record { passed = none_passed tops height (rest_of w) (get_or w.grid.now.entries.items w.place 0 ∷ rest_of (stepped w)) (gives_yes w h less p.1); over = is_less height _ p.0 }

-- what a step in a cell makes of a walk that has passed over some
pub over_found : (old w : Walk) (height : ℤ) (i : ℕ) → IsOverIn height old w → w.place < w.end → i ≡ get_or w.grid.now.entries.items w.place 0
    → (lt_z height (top_at w.grid.now.tops.items i) && shows_in w i) ≡ true → IsNext old.grid.now.tops.items height (rest_of old) i (rest_of (stepped w))
over_found old w height i h less e is =
    let n = over_yes w height w.grid.now.tops.items h.walk less (subst (λ (j : ℕ). (lt_z height (top_at w.grid.now.tops.items j) && shows_in w j) ≡ true) e is) in
    let m = subst (λ (j : ℕ). IsNext w.grid.now.tops.items height (rest_of w) j (rest_of (stepped w))) (sym e) n in
    next_on old.grid.now.tops.items height (rest_of old) (rest_of w) (rest_of (stepped w)) i h.passed
    (subst (λ (tops : List ℤ). IsNext tops height (rest_of w) i (rest_of (stepped w))) h.tops m)

pub over_left : (old w : Walk) (height : ℤ) (i : ℕ) → IsOverIn height old w → w.place < w.end → i ≡ get_or w.grid.now.entries.items w.place 0
    → (lt_z height (top_at w.grid.now.tops.items i) && shows_in w i) ≡ false → IsOverIn height old (stepped w)
over_left old w height i h less e isn't = record {
  walk = step_walks w less h.walk;
  passed = passed_on old.grid.now.tops.items height (rest_of old) (rest_of w) (rest_of (stepped w)) h.passed
      (subst (λ (tops : List ℤ). ArePassed tops height (rest_of w) (rest_of (stepped w))) h.tops
      (over_no w height w.grid.now.tops.items h.walk less (subst (λ (j : ℕ). (lt_z height (top_at w.grid.now.tops.items j) && shows_in w j) ≡ false) e isn't)));
  entered = h.entered;
  cells = h.cells;
  tops = h.tops;
}

-- what a cell makes of it
pub next_over_found : (old w new : Walk) (height : ℤ) (i : ℕ) → IsOver height old w → IsNext w.grid.now.tops.items height (rest_of w) i (rest_of new)
    → IsNext old.grid.now.tops.items height (rest_of old) i (rest_of new)
next_over_found old w new height i h n =
    next_on old.grid.now.tops.items height (rest_of old) (rest_of w) (rest_of new) i h.passed (subst (λ (tops : List ℤ). IsNext tops height (rest_of w) i (rest_of new)) h.tops n)

pub next_over_none : (old w new : Walk) (height : ℤ) → IsOver height old w → ArePassed w.grid.now.tops.items height (rest_of w) (rest_of new) → rest_of new ≡ []
    → ArePassed old.grid.now.tops.items height (rest_of old) []
next_over_none old w new height h p none =
    passed_on old.grid.now.tops.items height (rest_of old) (rest_of w) [] h.passed
    (subst (λ (tops : List ℤ). ArePassed tops height (rest_of w) []) h.tops (subst (ArePassed w.grid.now.tops.items height (rest_of w)) none p))

pub over_on : (old w mid new : Walk) (height : ℤ) → IsOver height old w → ArePassed w.grid.now.tops.items height (rest_of w) (rest_of mid) → mid.grid.now.tops.items ≡ w.grid.now.tops.items
    → ArePassed mid.grid.now.tops.items height (rest_of mid) (rest_of new) → new.grid.now.tops.items ≡ mid.grid.now.tops.items → IsWalk new → IsOver height old new
over_on old w mid new height h p em q en walk =
    let tops = old.grid.now.tops.items in
    let p' = subst (λ (ts : List ℤ). ArePassed ts height (rest_of w) (rest_of mid)) h.tops p in
    let q' = subst (λ (ts : List ℤ). ArePassed ts height (rest_of mid) (rest_of new)) (em ∙ h.tops) q in
    record {
      walk = walk;
      passed = passed_on tops height (rest_of old) (rest_of mid) (rest_of new) (passed_on tops height (rest_of old) (rest_of w) (rest_of mid) h.passed p') q';
      tops = en ∙ (em ∙ h.tops);
    }

-- what is given in the next cell comes first
skip_splits : (w : Walk) (column row : ℕ) → w.entered < w.cells → w.place ≡ w.end → rest_of w ≡ given_in w.grid.now.frame w.grid.now.boxes.items w.area w.entered ++ rest_of (moved w column row)
skip_splits w column row less done =
    let n : w.cells - w.entered ≡ suc (w.cells - (w.entered + 1)) = omega arith in
    let none = part_none (shows_in w) w.grid.now.entries.items w.place w.end done in
    ap (λ (xs : List ℕ). xs ++ given_from w.grid.now.frame w.grid.now.boxes.items w.area w.entered (w.cells - w.entered)) none
    ∙ (ap (given_from w.grid.now.frame w.grid.now.boxes.items w.area w.entered) n
    ∙ ap (λ (xs : List ℕ). given_in w.grid.now.frame w.grid.now.boxes.items w.area w.entered ++ (xs ++ given_from w.grid.now.frame w.grid.now.boxes.items w.area (w.entered + 1) (w.cells - (w.entered + 1)))) (sym none))

-- no number of a cell is over its lid
under_lid : (w : Walk) (height : ℤ) (cell : ℕ) → IsWalk w → cell ≡ row_in (block_of w.grid.now.frame w.area) w.entered * w.grid.now.frame.columns + column_in (block_of w.grid.now.frame w.area) w.entered
    → cell < cell_count w.grid.now.frame → top_at w.grid.now.lids.items cell ≤ℤ height
    → AreUnder w.grid.now.tops.items height (given_in w.grid.now.frame w.grid.now.boxes.items w.area w.entered)
under_lid w height cell h e within low =
    let f = w.grid.now.frame in
    let boxes = w.grid.now.boxes.items in
    let tops = w.grid.now.tops.items in
    let column = column_in (block_of f w.area) w.entered in
    let row = row_in (block_of f w.area) w.entered in
    let at : AreUnder tops (top_at w.grid.now.lids.items cell) (numbers_in f boxes (row * f.columns + column)) =
    subst (λ (k : ℕ). AreUnder tops (top_at w.grid.now.lids.items cell) (numbers_in f boxes k)) e (h.grid.lids cell within) in
    All-members (λ i. top_at tops i ≤ℤ height) (given_in f boxes w.area w.entered)
    (λ i c.
    let k = Contains-filter (λ j. shows f w.area column row (box_at boxes j)) (numbers_in f boxes (row * f.columns + column)) i c in
    le_trans_ℤ (top_at tops i) (top_at w.grid.now.lids.items cell) height (All-contains (λ j. top_at tops j ≤ℤ top_at w.grid.now.lids.items cell) (numbers_in f boxes (row * f.columns + column)) i at k.0) low)

pub skip_passes : (w : Walk) (height : ℤ) (cell column row : ℕ) → IsWalk w → w.entered < w.cells → w.place ≡ w.end
    → cell ≡ w.next_row * w.grid.now.frame.columns + w.next_column → cell < cell_count w.grid.now.frame → top_at w.grid.now.lids.items cell ≤ℤ height
    → ArePassed w.grid.now.tops.items height (rest_of w) (rest_of (moved w column row))
skip_passes w height cell column row h less done e within low = record {
  passed = given_in w.grid.now.frame w.grid.now.boxes.items w.area w.entered;
  split = skip_splits w column row less done;
  under = under_lid w height cell h (e ∙ next_at w h) within low;
}
  where
    next_at : (w : Walk) → IsWalk w → w.next_row * w.grid.now.frame.columns + w.next_column
        ≡ row_in (block_of w.grid.now.frame w.area) w.entered * w.grid.now.frame.columns + column_in (block_of w.grid.now.frame w.area) w.entered
    next_at w h =
        rw (h.next_row, h.next_column) (ap (λ (b : Block). row_in b w.entered * w.grid.now.frame.columns + column_in b w.entered) h.block)

pub at_most : (a b : ℤ) → le_z a b ≡ true → a ≤ℤ b
at_most a b e = grind (arith, ints)
