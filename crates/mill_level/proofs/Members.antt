-- Which elements a list has, by recursion on the list, and how often.
use Rattle.std.proofs.Common.{◌≡◌, ◌⊎◌, inl, inr, ℕ, suc, ◌<◌, ◌≤◌, List, [], ◌∷◌, sum_by, Contains, refl, sym, ◌∙◌, ap, arith}
use Rattle.std.proofs.lemmas.Bool.{cases_lt}
use Rattle.std.proofs.lemmas.List.Sums.{sum_by-cons}

-- x is an element
abbrev pub IsIn : {X : Type 0} → X → List X → Type 0
IsIn x [] = ⊥
IsIn x (y ∷ ys) = (y ≡ x) ⊎ IsIn x ys

-- no element stands there twice
abbrev pub IsDistinct : {X : Type 0} → List X → Type 0
IsDistinct [] = Unit {0}
IsDistinct (x ∷ xs) = (¬ IsIn x xs) × IsDistinct xs

module _ {X : Type 0} where
  pub contains_in : (x : X) (xs : List X) → IsIn x xs → Contains xs x
  contains_in x [] h = absurd h
  contains_in x (y ∷ ys) (inl e) = (0, omega arith, e)
  contains_in x (y ∷ ys) (inr h) = let c = contains_in x ys h in let less = c.1 in (suc c.0, omega arith, c.2)

  -- of what a sum counts, there is one if the sum is not 0; each one counts; and one alone counts in a sum of at most 1
  pub member_of_sum : (f : X → ℕ) (xs : List X) → 0 < sum_by f xs → (x : X) × IsIn x xs × (0 < f x)
  member_of_sum f [] h = absurd (omega arith)
  member_of_sum f (x ∷ xs) h = elim (cases_lt 0 (f x)) [
    | inl some ↦ (x, inl refl, some)
    | inr none ↦ let rest = member_of_sum f xs (omega (arith, sum_by-cons f x xs)) in (rest.0, inr rest.1, rest.2)
  ]

  pub member_counts : (f : X → ℕ) (x : X) (xs : List X) → IsIn x xs → f x ≤ sum_by f xs
  member_counts f x [] h = absurd h
  member_counts f x (y ∷ ys) (inl e) = omega (arith, sum_by-cons f y ys, ap f e)
  member_counts f x (y ∷ ys) (inr h) = omega (arith, sum_by-cons f y ys, member_counts f x ys h)

  pub one_counts : (f : X → ℕ) (xs : List X) (x y : X) → sum_by f xs ≤ 1 → IsIn x xs → IsIn y xs → 0 < f x → 0 < f y → x ≡ y
  one_counts f [] x y most h g p q = absurd h
  one_counts f (z ∷ zs) x y most (inl e) (inl d) p q = sym e ∙ d
  one_counts f (z ∷ zs) x y most (inl e) (inr g) p q = absurd (omega (arith, sum_by-cons f z zs, ap f e, member_counts f y zs g))
  one_counts f (z ∷ zs) x y most (inr h) (inl d) p q = absurd (omega (arith, sum_by-cons f z zs, ap f d, member_counts f x zs h))
  one_counts f (z ∷ zs) x y most (inr h) (inr g) p q = one_counts f zs x y (omega (arith, sum_by-cons f z zs)) h g p q

  -- where what an element counts is at most 1 in all, it stands there once
  pub distinct_from_counts : (f : X → X → ℕ) → ((x : X) → 0 < f x x) → (xs : List X) → ((x : X) → IsIn x xs → sum_by (f x) xs ≤ 1) → IsDistinct xs
  distinct_from_counts f own [] most = tt
  distinct_from_counts f own (x ∷ xs) most = (
    λ h. let a = most x (inl refl) in let b = own x in omega (arith, sum_by-cons (f x) x xs, member_counts (f x) x xs h),
    distinct_from_counts f own xs (λ y h. let a = most y (inr h) in omega (arith, sum_by-cons (f y) x xs)),
  )
