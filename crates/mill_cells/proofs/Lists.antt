-- Members of lists of numbers, and lists with no number twice.
use Rattle.std.proofs.Common.{◌≡◌, ◌⊎◌, ℕ, zero, suc, ◌<◌, Bool, true, false, cond, List, [], ◌∷◌, ◌++◌, length, get_or, refl, sym, subst, inl, inr, arith}
use Rattle.std.specs.Prelude.{nat_eq}
use Rattle.std.specs.List.{Contains, filter, IsDistinct}
use Rattle.std.proofs.lemmas.Bool.{cond_both, ne_eqb}
use Rattle.std.proofs.lemmas.List.Elements.{All-append, All-filter, All-from_recursion, recursion_from_All, Contains-get_or}

pub nothing_in_nil : (i : ℕ) → Contains [] i → ⊥
nothing_in_nil i h = omega (arith, h.1)

pub here : (x : ℕ) (xs : List ℕ) → Contains (x ∷ xs) x
here x xs = (0, omega arith, refl)

pub there : (x : ℕ) (xs : List ℕ) (i : ℕ) → Contains xs i → Contains (x ∷ xs) i
there x xs i h = (suc h.0, omega (arith, h.1), h.2)

pub cons_cases : (x : ℕ) (xs : List ℕ) (i : ℕ) → Contains (x ∷ xs) i → (x ≡ i) ⊎ Contains xs i
cons_cases x xs i h = by h.0 h.1 h.2
  where
    by : (k : ℕ) → k < length (x ∷ xs) → get_or (x ∷ xs) k i ≡ i → (x ≡ i) ⊎ Contains xs i
    by zero w e = inl e
    by (suc k) w e = inr (k, omega (arith, w), e)

-- what a filter keeps
in_kept : (p : ℕ → Bool) (x : ℕ) (xs : List ℕ) (i : ℕ) (b : Bool) → p x ≡ b → (Contains (filter p xs) i → Contains xs i × (p i ≡ true))
    → Contains (cond b (x ∷ filter p xs) (filter p xs)) i → Contains (x ∷ xs) i × (p i ≡ true)
in_kept p x xs i true e more m = elim (cons_cases x (filter p xs) i m) [
  | inl same ↦ (subst (Contains (x ∷ xs)) same (here x xs), subst (λ t. p t ≡ true) same e)
  | inr later ↦ let r = more later in (there x xs i r.0, r.1)
]
in_kept p x xs i false e more m = let r = more m in (there x xs i r.0, r.1)

pub Contains-filter : (p : ℕ → Bool) (xs : List ℕ) (i : ℕ) → Contains (filter p xs) i → Contains xs i × (p i ≡ true)
Contains-filter p [] i h = absurd (nothing_in_nil i h)
Contains-filter p (x ∷ xs) i h = in_kept p x xs i (p x) refl (λ m. Contains-filter p xs i m) h

clash : (b : Bool) → b ≡ false → b ≡ true → ⊥
clash b f t = cc

kept_in : (p : ℕ → Bool) (x : ℕ) (xs : List ℕ) (i : ℕ) (b : Bool) → p x ≡ b → p i ≡ true → (Contains xs i → Contains (filter p xs) i)
    → (x ≡ i) ⊎ Contains xs i → Contains (cond b (x ∷ filter p xs) (filter p xs)) i
kept_in p x xs i true q e more (inl same) = subst (Contains (x ∷ filter p xs)) same (here x (filter p xs))
kept_in p x xs i true q e more (inr later) = there x (filter p xs) i (more later)
kept_in p x xs i false q e more (inl same) = absurd (clash (p x) q (subst (λ t. p t ≡ true) (sym same) e))
kept_in p x xs i false q e more (inr later) = more later

pub filter_keeps : (p : ℕ → Bool) (xs : List ℕ) (i : ℕ) → p i ≡ true → Contains xs i → Contains (filter p xs) i
filter_keeps p [] i e h = absurd (nothing_in_nil i h)
filter_keeps p (x ∷ xs) i e h = kept_in p x xs i (p x) refl e (λ m. filter_keeps p xs i e m) (cons_cases x xs i h)

-- no number twice
pub distinct-append : (xs ys : List ℕ) → IsDistinct nat_eq xs → IsDistinct nat_eq ys → ((i : ℕ) → Contains xs i → Contains ys i → ⊥) → IsDistinct nat_eq (xs ++ ys)
unfolding IsDistinct
distinct-append [] ys dx dy apart = dy
distinct-append (x ∷ xs) ys dx dy apart = (
  recursion_from_All (λ y. nat_eq x y ≡ false) (xs ++ ys)
      (All-append (λ y. nat_eq x y ≡ false) xs ys (All-from_recursion (λ y. nat_eq x y ≡ false) xs dx.0)
      (λ k d h. ne_eqb x (get_or ys k d) (λ e. apart x (here x xs) (subst (Contains ys) (sym e) (Contains-get_or ys k d h))))),
  distinct-append xs ys dx.1 dy (λ i h k. apart i (there x xs i h) k),
)

pub distinct-filter : (p : ℕ → Bool) (xs : List ℕ) → IsDistinct nat_eq xs → IsDistinct nat_eq (filter p xs)
unfolding IsDistinct
distinct-filter p [] d = tt
distinct-filter p (x ∷ xs) d =
    cond_both (p x) (x ∷ filter p xs) (filter p xs) (IsDistinct nat_eq)
    (λ _. (recursion_from_All (λ y. nat_eq x y ≡ false) (filter p xs) (All-filter p (λ y. nat_eq x y ≡ false) xs (All-from_recursion (λ y. nat_eq x y ≡ false) xs d.0)), distinct-filter p xs d.1))
    (λ _. distinct-filter p xs d.1)

pub distinct-nil : IsDistinct nat_eq []
unfolding IsDistinct
distinct-nil = tt

pub distinct-one : (x : ℕ) → IsDistinct nat_eq (x ∷ [])
unfolding IsDistinct
distinct-one x = (tt, tt)
