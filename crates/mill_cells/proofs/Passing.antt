-- The numbers under a bound that pass a test.
use Rattle.std.proofs.Common.{◌≡◌, ◌⊎◌, ℕ, zero, suc, ◌+◌, ◌-◌, ◌<◌, ◌≤◌, Bool, true, false, cond, [], ◌∷◌, ◌++◌, length, append-nil, add-one, refl, sym, subst, ap, ◌∙◌, inl, inr, arith}
use Rattle.std.specs.Prelude.{nat_eq}
use Rattle.std.specs.List.{Contains, IsDistinct}
use Rattle.std.proofs.lemmas.List.{length-append}
use Rattle.std.proofs.lemmas.List.Elements.{Contains-append_cases, Contains-append_left, Contains-push}
use Rattle.mill_cells.specs.Grids.{passing}
use Rattle.mill_cells.proofs.Lists.{nothing_in_nil, cons_cases, distinct-append, distinct-nil, distinct-one}

-- one number more
pub passing_yes : (p : ℕ → Bool) (m : ℕ) → p m ≡ true → passing p (m + 1) ≡ passing p m ++ m ∷ []
passing_yes p m e = rw add-one (ap (λ b. passing p m ++ cond b (m ∷ []) []) e)

pub passing_no : (p : ℕ → Bool) (m : ℕ) → p m ≡ false → passing p (m + 1) ≡ passing p m
passing_no p m e = rw add-one (ap (λ b. passing p m ++ cond b (m ∷ []) []) e ∙ append-nil (passing p m))

pub length-passing_yes : (p : ℕ → Bool) (m : ℕ) → p m ≡ true → length (passing p (m + 1)) ≡ length (passing p m) + 1
length-passing_yes p m e = ap length (passing_yes p m e) ∙ length-append (passing p m) (m ∷ [])

pub length-passing_no : (p : ℕ → Bool) (m : ℕ) → p m ≡ false → length (passing p (m + 1)) ≡ length (passing p m)
length-passing_no p m e = ap length (passing_no p m e)

-- at most one more passes
step : (p : ℕ → Bool) (m : ℕ) (b : Bool) → p m ≡ b → (length (passing p m) ≤ length (passing p (m + 1))) × (length (passing p (m + 1)) ≤ length (passing p m) + 1)
step p m true e = let k = length-passing_yes p m e in (omega arith, omega arith)
step p m false e = let k = length-passing_no p m e in (omega arith, omega arith)

pub length-passing_step : (p : ℕ → Bool) (m : ℕ) → (length (passing p m) ≤ length (passing p (m + 1))) × (length (passing p (m + 1)) ≤ length (passing p m) + 1)
length-passing_step p m = step p m (p m) refl

pub length-passing : (p : ℕ → Bool) (m : ℕ) → length (passing p m) ≤ m
length-passing p zero = omega arith
length-passing p (suc m) = let before = length-passing p m in let more = rw add-one at (length-passing_step p m) in omega (arith, more.1)

pub length-passing_more : (p : ℕ → Bool) (m d : ℕ) → length (passing p m) ≤ length (passing p (m + d))
length-passing_more p m zero = let e : m + 0 ≡ m = omega arith in rw e (omega arith)
length-passing_more p m (suc d) =
    let before = length-passing_more p m d in
    let more = length-passing_step p (m + d) in
    let e : m + suc d ≡ (m + d) + 1 = omega arith in
    rw e (omega (arith, more.0))

-- fewer numbers have fewer that pass
pub length-passing_mono : (p : ℕ → Bool) (m n : ℕ) → m ≤ n → length (passing p m) ≤ length (passing p n)
length-passing_mono p m n le =
    let e : m + (n - m) ≡ n = omega arith in
    subst (λ t. length (passing p m) ≤ length (passing p t)) e (length-passing_more p m (n - m))

-- which they are
in_step : (p : ℕ → Bool) (m i : ℕ) (b : Bool) → p m ≡ b → (Contains (passing p m) i → (i < m) × (p i ≡ true))
    → Contains (passing p m ++ cond b (m ∷ []) []) i → (i < suc m) × (p i ≡ true)
in_step p m i true e before c = elim (Contains-append_cases (passing p m) (m ∷ []) i c) [
  | inl h ↦ let r = before h in (omega (arith, r.0), r.1)
  | inr last ↦ elim (cons_cases m [] i last) [
    | inl same ↦ (omega (arith, same), subst (λ t. p t ≡ true) same e)
    | inr none ↦ absurd (nothing_in_nil i none)
  ]
]
in_step p m i false e before c = elim (Contains-append_cases (passing p m) [] i c) [
  | inl h ↦ let r = before h in (omega (arith, r.0), r.1)
  | inr none ↦ absurd (nothing_in_nil i none)
]

pub in_passing : (p : ℕ → Bool) (m i : ℕ) → Contains (passing p m) i → (i < m) × (p i ≡ true)
in_passing p zero i h = absurd (nothing_in_nil i h)
in_passing p (suc m) i h = in_step p m i (p m) refl (λ c. in_passing p m i c) h

under_more : (m i : ℕ) → i < suc m → (i ≡ m) ⊎ (i < m)
under_more m i h = grind arith

has_last : (p : ℕ → Bool) (m : ℕ) → p m ≡ true → Contains (passing p (suc m)) m
has_last p m e = rw add-one at (subst (λ t. Contains t m) (sym (passing_yes p m e)) (Contains-push (passing p m) m))

pub passing_has : (p : ℕ → Bool) (m i : ℕ) → i < m → p i ≡ true → Contains (passing p m) i
passing_has p zero i h e = absurd (omega arith)
passing_has p (suc m) i h e = elim (under_more m i h) [
  | inl same ↦ subst (λ t. Contains (passing p (suc m)) t) (sym same) (has_last p m (subst (λ t. p t ≡ true) same e))
  | inr less ↦ Contains-append_left (passing p m) (cond (p m) (m ∷ []) []) i (passing_has p m i less e)
]

distinct_step : (p : ℕ → Bool) (m : ℕ) (b : Bool) → IsDistinct nat_eq (passing p m) → IsDistinct nat_eq (passing p m ++ cond b (m ∷ []) [])
distinct_step p m true d = distinct-append (passing p m) (m ∷ []) d (distinct-one m) (λ i h k. apart i h (cons_cases m [] i k))
  where
    apart : (i : ℕ) → Contains (passing p m) i → (m ≡ i) ⊎ Contains [] i → ⊥
    apart i h (inl same) = let r = in_passing p m i h in omega (arith, r.0, same)
    apart i h (inr none) = nothing_in_nil i none
distinct_step p m false d = subst (IsDistinct nat_eq) (sym (append-nil (passing p m))) d

pub passing_distinct : (p : ℕ → Bool) (m : ℕ) → IsDistinct nat_eq (passing p m)
passing_distinct p zero = distinct-nil
passing_distinct p (suc m) = distinct_step p m (p m) (passing_distinct p m)
