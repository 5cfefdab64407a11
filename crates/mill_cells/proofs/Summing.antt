-- Replacing counts by the sums of those before them.
use Rattle.std.proofs.Common.{◌≡◌, ℕ, ◌+◌, ◌<◌, ◌≤◌, List, ◌++◌, length, set, take, drop, take_all, append-nil, add-one, refl, ◌∙◌, inl, inr, arith}
use Rattle.std.specs.Prelude.{slice_index}
use Rattle.std.proofs.lemmas.Bool.{cases_lt}
use Rattle.std.proofs.lemmas.List.{drop_all, length-set, get_or-set_same, get_or-set_other}
use Rattle.mill_cells.specs.inner.Placing.{sum_before}

-- the places up to the cell hold sums, and the later ones are as they were
pub record IsSummed (old now : List ℕ) (cell sum : ℕ) : Type 0 where
  pub long : length now ≡ length old
  pub first : slice_index now 0 ≡ slice_index old 0
  pub total : sum ≡ sum_before old cell
  pub done : (k : ℕ) → k < cell → slice_index now (k + 1) ≡ sum_before old k
  pub rest : (k : ℕ) → cell ≤ k → slice_index now (k + 1) ≡ slice_index old (k + 1)

pub sum_starts : (old : List ℕ) → IsSummed old old 0 0
sum_starts old = record { long = refl; first = refl; total = refl; done = λ k less. absurd (omega arith); rest = λ k more. refl }

pub sum_goes_on : (old now : List ℕ) (cell sum count : ℕ) → cell + 1 < length old → count ≡ slice_index now (cell + 1) → IsSummed old now cell sum → IsSummed old (set now (cell + 1) sum) (cell + 1) (sum + count)
sum_goes_on old now cell sum count within is h = record {
  long = length-set now (cell + 1) sum ∙ h.long;
  first = get_or-set_other now (cell + 1) 0 sum 0 (λ e. omega arith) ∙ h.first;
  total = rw add-one (omega (arith, h.total, h.rest cell (omega arith)));
  done = λ k less. elim (cases_lt k cell) [
    | inl early ↦ get_or-set_other now (cell + 1) (k + 1) sum 0 (λ e. omega arith) ∙ h.done k early
    | inr late ↦ last k (omega arith)
  ];
  rest = λ k more. get_or-set_other now (cell + 1) (k + 1) sum 0 (λ e. omega arith) ∙ h.rest k (omega arith);
}
  where
    last : (k : ℕ) → k ≡ cell → slice_index (set now (cell + 1) sum) (k + 1) ≡ sum_before old k
    last k e = rw e (get_or-set_same now (cell + 1) sum 0 (omega (arith, h.long)) ∙ h.total)

-- a list that is written back whole
pub put_back : (xs ys : List ℕ) (n : ℕ) → length ys ≡ n → length xs ≡ n → take n (ys ++ drop (length ys) xs) ≡ ys
put_back xs ys n ey ex = rw (drop_all (length ys) xs (omega arith), append-nil ys, take_all n ys (omega arith)) refl
