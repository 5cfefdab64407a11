-- States of cells, box by box and cell by cell.
use Rattle.std.proofs.Common.{◌≡◌, ℕ, ◌+◌, ◌<◌, ◌≤◌, inl, inr, sym, subst, arith}
use Rattle.std.proofs.lemmas.Bool.{cases_lt}
use Rattle.mill_cells.specs.inner.Placing.{IsUpTo}

-- over cells that the box doesn't change
pub skip : (cells : ℕ) (State : ℕ → ℕ → Type 0) (m t u : ℕ) → t ≤ u → ((k : ℕ) → t ≤ k → k < u → k < cells → State k m → State k (m + 1)) → IsUpTo cells State m t → IsUpTo cells State m u
skip cells State m t u le same h = record {
  before = λ k less within. elim (cases_lt k t) [
    | inl early ↦ h.before k early within
    | inr late ↦ same k late less within (h.after k late within)
  ];
  after = λ k more within. h.after k (omega arith) within;
}

-- after the last cell comes the next box
pub next_box : (cells : ℕ) (State : ℕ → ℕ → Type 0) (m : ℕ) → IsUpTo cells State m cells → IsUpTo cells State (m + 1) 0
next_box cells State m h = record {
  before = λ k less within. absurd (omega arith);
  after = λ k more within. h.before k within within;
}

-- one cell on, where the others keep their states
pub one_cell : (cells : ℕ) (State Next : ℕ → ℕ → Type 0) (m t : ℕ) → ((k b : ℕ) → (k ≡ t → ⊥) → k < cells → b ≤ m + 1 → State k b → Next k b) → (t < cells → State t m → Next t (m + 1))
    → IsUpTo cells State m t → IsUpTo cells Next m (t + 1)
one_cell cells State Next m t keep here h = record {
  before = λ k less within. elim (cases_lt k t) [
    | inl early ↦ keep k (m + 1) (λ e. omega arith) within (omega arith) (h.before k early within)
    | inr late ↦ last k (omega arith) within
  ];
  after = λ k more within. keep k m (λ e. omega arith) within (omega arith) (h.after k (omega arith) within);
}
  where
    last : (k : ℕ) → k ≡ t → k < cells → Next k (m + 1)
    last k e within = subst (λ j. Next j (m + 1)) (sym e) (here (omega arith) (h.after t (omega arith) (omega arith)))
