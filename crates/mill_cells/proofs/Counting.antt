-- Counting boxes in cells.
use Rattle.std.proofs.Common.{◌≡◌, ℕ, zero, suc, ◌+◌, ◌*◌, ◌^◌, ◌<◌, ◌≤◌, true, false, List, length, set, refl, sym, subst, ap, ◌∙◌, arith}
use Rattle.std.specs.Prelude.{slice_index}
use Rattle.std.proofs.lemmas.List.{length-set, get_or-set_same, get_or-set_other}
use Rattle.mill_base.specs.declared.points.Box2.{Box2}
use Rattle.mill_cells.specs.Boxes.{box_at}
use Rattle.mill_cells.specs.Frames.{covers, cell_count}
use Rattle.mill_cells.specs.Grids.{numbers_in, start_of}
use Rattle.mill_cells.specs.inner.Placing.{IsCounted, IsCounting, sum_before, AreSmall}
use Rattle.mill_cells.specs.declared.frame.Frame.{Frame}
use Rattle.mill_cells.proofs.Passing.{length-passing_yes, length-passing_no, length-passing}
use Rattle.mill_cells.proofs.UpTo.{skip, next_box, one_cell}

-- over cells that the box doesn't cover
pub count_skips : (f : Frame) (boxes : List Box2) (starts : List ℕ) (m t u : ℕ) → t ≤ u → ((k : ℕ) → t ≤ k → k < u → covers f (box_at boxes m) k ≡ false)
    → IsCounting f boxes starts m t → IsCounting f boxes starts m u
count_skips f boxes starts m t u le free h = record {
  long = h.long;
  first = h.first;
  upto = skip (cell_count f) (IsCounted f boxes starts) m t u le
      (λ k more less within is. is ∙ sym (length-passing_no (λ i. covers f (box_at boxes i) k) m (free k more less))) h.upto;
}

pub count_ends : (f : Frame) (boxes : List Box2) (starts : List ℕ) (m : ℕ) → IsCounting f boxes starts m (cell_count f) → IsCounting f boxes starts (m + 1) 0
count_ends f boxes starts m h = record { long = h.long; first = h.first; upto = next_box (cell_count f) (IsCounted f boxes starts) m h.upto }

-- one more in a cell that the box covers
pub count_one : (f : Frame) (boxes : List Box2) (starts : List ℕ) (m t u : ℕ) → t + 1 ≡ u → t < cell_count f → covers f (box_at boxes m) t ≡ true
    → IsCounting f boxes starts m t → IsCounting f boxes (set starts (t + 1) (slice_index starts (t + 1) + 1)) m u
count_one f boxes starts m t u next within covered h = subst (λ v. IsCounting f boxes (set starts (t + 1) (slice_index starts (t + 1) + 1)) m v) next (record {
  long = length-set starts (t + 1) (slice_index starts (t + 1) + 1) ∙ h.long;
  first = get_or-set_other starts (t + 1) 0 (slice_index starts (t + 1) + 1) 0 (λ e. omega arith) ∙ h.first;
  upto = one_cell (cell_count f) (IsCounted f boxes starts) (IsCounted f boxes (set starts (t + 1) (slice_index starts (t + 1) + 1))) m t
      (λ k b other in' le is. get_or-set_other starts (t + 1) (k + 1) (slice_index starts (t + 1) + 1) 0 (λ e. other (omega arith)) ∙ is)
      (λ in' is. get_or-set_same starts (t + 1) (slice_index starts (t + 1) + 1) 0 (omega (arith, h.long))
      ∙ (ap (λ n. n + 1) is ∙ sym (length-passing_yes (λ i. covers f (box_at boxes i) t) m covered)))
      h.upto;
})

-- a count stays small
pub count_small : (f : Frame) (boxes : List Box2) (starts : List ℕ) (m t k : ℕ) → t ≤ k → k < cell_count f → IsCounting f boxes starts m t → slice_index starts (k + 1) ≤ m
count_small f boxes starts m t k more within h = let e = h.upto.after k more within in omega (arith, length-passing (λ i. covers f (box_at boxes i) k) m)

pub counts_small : (f : Frame) (boxes : List Box2) (starts : List ℕ) → length boxes < 2 ^ 32 → IsCounting f boxes starts (length boxes) 0 → AreSmall starts
counts_small f boxes starts few h zero within = omega (arith, h.first)
counts_small f boxes starts few h (suc k) within =
    let e : suc k ≡ k + 1 = omega arith in
    rw e (omega (arith, count_small f boxes starts (length boxes) 0 k (omega arith) (omega (arith, h.long)) h))

-- the sums of the counts are where the cells begin
pub sums_are_starts : (f : Frame) (boxes : List Box2) (starts : List ℕ) (k : ℕ) → k ≤ cell_count f → IsCounting f boxes starts (length boxes) 0 → sum_before starts k ≡ start_of f boxes k
sums_are_starts f boxes starts zero within h = refl
sums_are_starts f boxes starts (suc k) within h =
    let before = sums_are_starts f boxes starts k (omega arith) h in
    let here : slice_index starts (k + 1) ≡ length (numbers_in f boxes k) = h.upto.after k (omega arith) (omega arith) in
    omega arith

-- a sum of small numbers
pub sum_small : (starts : List ℕ) (k : ℕ) → k + 1 ≤ length starts → AreSmall starts → sum_before starts k ≤ k * 2 ^ 32
sum_small starts zero within h = omega arith
sum_small starts (suc k) within h = let before = sum_small starts k (omega arith) h in let here = h (k + 1) (omega arith) in omega arith
