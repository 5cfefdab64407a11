-- Placing the numbers of boxes in cells.
use Rattle.std.proofs.Common.{◌≡◌, ℕ, zero, suc, ◌+◌, ◌-◌, ◌*◌, ◌^◌, ◌<◌, ◌≤◌, true, false, List, [], ◌∷◌, length, set, replicate, add-one, refl, sym, subst, ap, ◌∙◌, inl, inr, arith}
use Rattle.std.specs.Prelude.{slice_index, slice_range}
use Rattle.std.proofs.lemmas.Bool.{cases_lt, cases_order}
use Rattle.std.proofs.lemmas.Grind.{same_number_lists}
use Rattle.std.proofs.lemmas.List.{length-set, get_or-set_same, get_or-set_other, get_or_append_left, get_or_push, length-replicate, get_or-replicate}
use Rattle.std.proofs.lemmas.List.Edits.{length-between, get_or-between}
use Rattle.std.proofs.lemmas.List.Elements.{All-set}
use Rattle.mill_base.specs.declared.points.Box2.{Box2}
use Rattle.mill_cells.specs.Boxes.{box_at}
use Rattle.mill_cells.specs.Frames.{covers, cell_count}
use Rattle.mill_cells.specs.Grids.{numbers, numbers_in, start_of}
use Rattle.mill_cells.specs.inner.Placing.{IsPlaced, IsPlacing}
use Rattle.mill_cells.specs.declared.frame.Frame.{Frame}
use Rattle.mill_cells.proofs.Passing.{passing_yes, passing_no, length-passing_yes, length-passing, length-passing_mono}
use Rattle.mill_cells.proofs.UpTo.{skip, next_box, one_cell}

-- where cells begin
pub start-suc : (f : Frame) (boxes : List Box2) (k : ℕ) → start_of f boxes (k + 1) ≡ start_of f boxes k + length (numbers_in f boxes k)
start-suc f boxes k = rw add-one refl

start_further : (f : Frame) (boxes : List Box2) (k d : ℕ) → start_of f boxes k ≤ start_of f boxes (k + d)
start_further f boxes k zero = let e : k + 0 ≡ k = omega arith in rw e (omega arith)
start_further f boxes k (suc d) =
    let before = start_further f boxes k d in
    let e : k + suc d ≡ (k + d) + 1 = omega arith in
    rw e (omega (arith, start-suc f boxes (k + d)))

pub start_mono : (f : Frame) (boxes : List Box2) (k l : ℕ) → k ≤ l → start_of f boxes k ≤ start_of f boxes l
start_mono f boxes k l le = let e : k + (l - k) ≡ l = omega arith in subst (λ t. start_of f boxes k ≤ start_of f boxes t) e (start_further f boxes k (l - k))

-- places of different cells differ
pub places_apart : (f : Frame) (boxes : List Box2) (k l q r : ℕ) → (k ≡ l → ⊥) → q < length (numbers_in f boxes k) → r < length (numbers_in f boxes l)
    → start_of f boxes k + q ≡ start_of f boxes l + r → ⊥
places_apart f boxes k l q r other inq inr' e = elim (cases_order k l) [
  | inl same ↦ other same
  | inr (inl less) ↦ omega (arith, start-suc f boxes k, start_mono f boxes (k + 1) l (omega arith))
  | inr (inr more) ↦ omega (arith, start-suc f boxes l, start_mono f boxes (l + 1) k (omega arith))
]

-- nothing is placed yet
start_none : (f : Frame) (k : ℕ) → start_of f [] k ≡ 0
start_none f zero = refl
start_none f (suc k) = omega (arith, start_none f k)

some_box : (f : Frame) (boxes : List Box2) (k : ℕ) → 0 < start_of f boxes k → 0 < length boxes
some_box f [] k h = omega (arith, start_none f k)
some_box f (b ∷ boxes) k h = omega arith

pub none_placed : (f : Frame) (boxes : List Box2) (starts : List ℕ) → length starts ≡ cell_count f + 1 → slice_index starts 0 ≡ 0
    → ((k : ℕ) → k < cell_count f → slice_index starts (k + 1) ≡ start_of f boxes k) → IsPlacing f boxes starts (replicate (start_of f boxes (cell_count f)) 0) 0 0
none_placed f boxes starts long first sums = record {
  long = long;
  first = first;
  size = length-replicate (start_of f boxes (cell_count f)) 0;
  known = λ k d within.
      let in' : k < start_of f boxes (cell_count f) = omega (arith, length-replicate {A = ℕ} (start_of f boxes (cell_count f)) 0) in
      rw (get_or-replicate (start_of f boxes (cell_count f)) k 0 d in') (some_box f boxes (cell_count f) (omega arith));
  upto = record {
    before = λ k less within. absurd (omega arith);
    after = λ k more within. record { free = omega (arith, sums k within); filled = λ q less. absurd (omega arith) };
  };
}

-- over cells that the box doesn't cover
pub place_skips : (f : Frame) (boxes : List Box2) (starts entries : List ℕ) (m t u : ℕ) → t ≤ u → ((k : ℕ) → t ≤ k → k < u → covers f (box_at boxes m) k ≡ false)
    → IsPlacing f boxes starts entries m t → IsPlacing f boxes starts entries m u
place_skips f boxes starts entries m t u le free h = record {
  long = h.long;
  first = h.first;
  size = h.size;
  known = h.known;
  upto = skip (cell_count f) (IsPlaced f boxes starts entries) m t u le
      (λ k more less within is. same k (sym (passing_no (λ i. covers f (box_at boxes i) k) m (free k more less))) is) h.upto;
}
  where
    same : (k : ℕ) → numbers f boxes k m ≡ numbers f boxes k (m + 1) → IsPlaced f boxes starts entries k m → IsPlaced f boxes starts entries k (m + 1)
    same k e is = record {
      free = subst (λ (xs : List ℕ). slice_index starts (k + 1) ≡ start_of f boxes k + length xs) e is.free;
      filled = subst (λ (xs : List ℕ). (q : ℕ) → q < length xs → slice_index entries (start_of f boxes k + q) ≡ slice_index xs q) e is.filled;
    }

pub place_ends : (f : Frame) (boxes : List Box2) (starts entries : List ℕ) (m : ℕ) → IsPlacing f boxes starts entries m (cell_count f) → IsPlacing f boxes starts entries (m + 1) 0
place_ends f boxes starts entries m h =
    record { long = h.long; first = h.first; size = h.size; known = h.known; upto = next_box (cell_count f) (IsPlaced f boxes starts entries) m h.upto }

-- the next place of a cell that the box covers is free
pub place_free : (f : Frame) (boxes : List Box2) (starts entries : List ℕ) (m t : ℕ) → t < cell_count f → m < length boxes → covers f (box_at boxes m) t ≡ true
    → IsPlacing f boxes starts entries m t → slice_index starts (t + 1) < length entries
place_free f boxes starts entries m t within in' covered h =
    let p = λ (i : ℕ). covers f (box_at boxes i) t in
    let here = (h.upto.after t (omega arith) within).free in
    omega (arith, h.size, length-passing_yes p m covered, length-passing_mono p (m + 1) (length boxes) (omega arith), start-suc f boxes t, start_mono f boxes (t + 1) (cell_count f) (omega arith))

-- another cell keeps its entries
others_kept : (f : Frame) (boxes : List Box2) (starts entries : List ℕ) (m t r : ℕ) → r < length (numbers_in f boxes t)
    → (k b : ℕ) → (k ≡ t → ⊥) → b ≤ length boxes → IsPlaced f boxes starts entries k b
    → IsPlaced f boxes (set starts (t + 1) ((start_of f boxes t + r) + 1)) (set entries (start_of f boxes t + r) m) k b
others_kept f boxes starts entries m t r room k b other le old = record {
  free = get_or-set_other starts (t + 1) (k + 1) ((start_of f boxes t + r) + 1) 0 (λ e. other (omega arith)) ∙ old.free;
  filled = λ q less.
      get_or-set_other entries (start_of f boxes t + r) (start_of f boxes k + q) m 0
      (λ e. places_apart f boxes k t q r other (omega (arith, length-passing_mono (λ i. covers f (box_at boxes i) k) b (length boxes) le)) room e)
      ∙ old.filled q less;
}

-- the cell itself gets one more
one_more : (f : Frame) (boxes : List Box2) (starts entries : List ℕ) (m t : ℕ) → t + 1 < length starts → start_of f boxes t + length (numbers f boxes t m) < length entries → covers f (box_at boxes m) t ≡ true
    → IsPlaced f boxes starts entries t m
    → IsPlaced f boxes (set starts (t + 1) ((start_of f boxes t + length (numbers f boxes t m)) + 1)) (set entries (start_of f boxes t + length (numbers f boxes t m)) m) t (m + 1)
one_more f boxes starts entries m t within room covered old =
    let p = λ (i : ℕ). covers f (box_at boxes i) t in
    let place = start_of f boxes t + length (numbers f boxes t m) in
    record {
      free = get_or-set_same starts (t + 1) (place + 1) 0 within ∙ omega (arith, length-passing_yes p m covered);
      filled = λ q less. elim (cases_lt q (length (numbers f boxes t m))) [
        | inl early ↦
            get_or-set_other entries place (start_of f boxes t + q) m 0 (λ e. omega arith)
            ∙ (old.filled q early ∙ sym (ap (λ (xs : List ℕ). slice_index xs q) (passing_yes p m covered) ∙ get_or_append_left (numbers f boxes t m) (m ∷ []) 0 q early))
        | inr late ↦ last q (omega (arith, length-passing_yes p m covered))
      ];
    }
  where
    last : (q : ℕ) → q ≡ length (numbers f boxes t m)
        → slice_index (set entries (start_of f boxes t + length (numbers f boxes t m)) m) (start_of f boxes t + q) ≡ slice_index (numbers f boxes t (m + 1)) q
    last q e =
        rw e (get_or-set_same entries (start_of f boxes t + length (numbers f boxes t m)) m 0 room
        ∙ sym (ap (λ (xs : List ℕ). slice_index xs (length (numbers f boxes t m))) (passing_yes (λ i. covers f (box_at boxes i) t) m covered) ∙ get_or_push (numbers f boxes t m) m 0 (length (numbers f boxes t m)) refl))

-- one more in a cell that the box covers
pub place_one : (f : Frame) (boxes : List Box2) (starts entries : List ℕ) (m t u place : ℕ) → t + 1 ≡ u → place ≡ slice_index starts (t + 1) → t < cell_count f → m < length boxes → covers f (box_at boxes m) t ≡ true
    → IsPlacing f boxes starts entries m t → IsPlacing f boxes (set starts (t + 1) (place + 1)) (set entries place m) m u
place_one f boxes starts entries m t u place next is within in' covered h =
    let p = λ (i : ℕ). covers f (box_at boxes i) t in
    let free = (h.upto.after t (omega arith) within).free in
    let at : place ≡ start_of f boxes t + length (numbers f boxes t m) = is ∙ free in
    let room : length (numbers f boxes t m) < length (numbers_in f boxes t) = omega (arith, length-passing_yes p m covered, length-passing_mono p (m + 1) (length boxes) (omega arith)) in
    let under : start_of f boxes t + length (numbers f boxes t m) < length entries = omega (arith, place_free f boxes starts entries m t within in' covered h) in
    subst (λ v. IsPlacing f boxes (set starts (t + 1) (place + 1)) (set entries place m) m v) next (rw at (record {
      long = length-set starts (t + 1) ((start_of f boxes t + length (numbers f boxes t m)) + 1) ∙ h.long;
      first = get_or-set_other starts (t + 1) 0 ((start_of f boxes t + length (numbers f boxes t m)) + 1) 0 (λ e. omega arith) ∙ h.first;
      size = length-set entries (start_of f boxes t + length (numbers f boxes t m)) m ∙ h.size;
      known = All-set (λ i. i < length boxes) entries (start_of f boxes t + length (numbers f boxes t m)) m in' h.known;
      upto = one_cell (cell_count f) (IsPlaced f boxes starts entries)
          (IsPlaced f boxes (set starts (t + 1) ((start_of f boxes t + length (numbers f boxes t m)) + 1)) (set entries (start_of f boxes t + length (numbers f boxes t m)) m)) m t
          (λ k b other within' le old. others_kept f boxes starts entries m t (length (numbers f boxes t m)) room k b other (omega arith) old)
          (λ within' old. one_more f boxes starts entries m t (omega (arith, h.long)) under covered old)
          h.upto;
    }))

-- when all boxes are placed, each cell's part of the entries is the list of its numbers
pub cells_placed : (f : Frame) (boxes : List Box2) (starts entries : List ℕ) → IsPlacing f boxes starts entries (length boxes) 0
    → (k : ℕ) → k < cell_count f → slice_range entries (start_of f boxes k) (start_of f boxes (k + 1)) ≡ numbers_in f boxes k
cells_placed f boxes starts entries h k within =
    let old = h.upto.after k (omega arith) within in
    let s = start_of f boxes k in
    let e = start-suc f boxes k in
    let end : start_of f boxes (k + 1) ≤ length entries = omega (arith, h.size, start_mono f boxes (k + 1) (cell_count f) (omega arith)) in
    let long : length (slice_range entries s (start_of f boxes (k + 1))) ≡ length (numbers_in f boxes k) = length-between entries s (start_of f boxes (k + 1)) end ∙ omega arith in
    same_number_lists _ _ long (λ q less. get_or-between entries s (start_of f boxes (k + 1)) q 0 (omega arith) ∙ old.filled q (omega arith))

pub starts_placed : (f : Frame) (boxes : List Box2) (starts entries : List ℕ) → IsPlacing f boxes starts entries (length boxes) 0
    → (k : ℕ) → k ≤ cell_count f → slice_index starts k ≡ start_of f boxes k
starts_placed f boxes starts entries h zero within = h.first
starts_placed f boxes starts entries h (suc k) within =
    let old = (h.upto.after k (omega arith) (omega arith)).free in
    rw add-one at old

-- where a cell begins is a small number
pub start_small : (f : Frame) (boxes : List Box2) (k : ℕ) → length boxes < 2 ^ 32 → start_of f boxes k ≤ k * 2 ^ 32
start_small f boxes zero few = omega arith
start_small f boxes (suc k) few =
    let before = start_small f boxes k few in
    let more = length-passing (λ i. covers f (box_at boxes i) k) (length boxes) in
    omega arith
