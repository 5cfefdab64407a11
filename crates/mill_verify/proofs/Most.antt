-- The greatest of what is left over, so far.
use Rattle.std.specs.Prelude.{Bool, true, false, cond, int_lt, refl, ◌≡◌, ◌⊎◌, ℕ, zero, suc, ◌+◌, ◌<◌, ◌≤◌, ℤ, pos, ◌<ℤ◌, ◌≤ℤ◌}
use Rattle.std.specs.Int.{int_max}
use Rattle.std.specs.Ordering.{int_cmp, is_lt, ord_max}
use Rattle.std.specs.declared.cmp.Ordering.TheVariants.{Less, Equal, Greater}
use Rattle.std.proofs.Common.{subst, inl, inr, arith}
use Rattle.std.proofs.lemmas.Bool.{cases_lt}
use Rattle.std.proofs.lemmas.Int.{ints, clamps, by_lt_z}
use Rattle.mill_verify.specs.inner.Firsts.{IsMostOf}

pub most_none : (L : ℕ → ℤ → Type 0) (s : ℕ) (most : ℤ) → most ≡ pos 0 → IsMostOf L s s most
most_none L s most e = record { low = omega (e, arith, ints); none = λ _. e; there = λ h. absurd (omega (h, arith)); bound = λ i x h k l. absurd (omega (h, k, arith)) }

-- below the next number is below this one, or this one
pub below_suc : (n i : ℕ) → i < n + 1 → (i < n) ⊎ (i ≡ n)
below_suc zero zero h = inr (omega arith)
below_suc zero (suc i) h = absurd (omega (h, arith))
below_suc (suc n) zero h = inl (omega arith)
below_suc (suc n) (suc i) h = elim (below_suc n i (omega (h, arith))) [ inl k ↦ inl (omega (k, arith)) | inr k ↦ inr (omega (k, arith)) ]

-- an index alone, at which left is the greatest
most_one : (L : ℕ → ℤ → Type 0) (n : ℕ) (left : ℤ) → L n left → ((x : ℤ) → L n x → x ≤ℤ left) → (pos 0) ≤ℤ left → IsMostOf L n (n + 1) left
most_one L n left here best low = record {
  low = low;
  none = λ h. absurd (omega (h, arith));
  there = λ _. (n, omega arith, omega arith, here);
  bound = λ i x h k l. best x (subst (λ (v : ℕ). L v x) (only i h k) l);
}
  where
    only : (i : ℕ) → n ≤ i → i < n + 1 → i ≡ n
    only i h k = omega (h, k, arith)

-- two ranges that meet
pub most_both : (L : ℕ → ℤ → Type 0) (s m e : ℕ) (a b next : ℤ) → s ≤ m → m ≤ e → IsMostOf L s m a → IsMostOf L m e b → next ≡ int_max a b → IsMostOf L s e next
most_both L s m e a b next first second left right is = record {
  low = omega (is, left.low, arith, ints, clamps);
  none = λ h. neither (left.none (omega (h, second, arith))) (right.none (omega (h, first, arith)));
  there = λ h. by_lt_z {P = (i : ℕ) × (s ≤ i) × (i < e) × L i next} a b (at_right h) (at_left h);
  bound = λ i x h k l. elim (cases_lt i m) [ inl less ↦ under_left x (left.bound i x h less l) | inr rest ↦ under_right x (right.bound i x rest k l) ];
}
  where
    neither : a ≡ pos 0 → b ≡ pos 0 → next ≡ pos 0
    neither p q = omega (is, p, q, arith, ints, clamps)

    in_left : s < m → a ≡ next → (i : ℕ) × (s ≤ i) × (i < e) × L i next
    in_left some same = let found = left.there some in (found.0, found.1, omega (found.2, second, arith), subst (λ (v : ℤ). L found.0 v) same found.3)

    in_right : m < e → b ≡ next → (i : ℕ) × (s ≤ i) × (i < e) × L i next
    in_right some same = let found = right.there some in (found.0, omega (found.1, first, arith), found.2, subst (λ (v : ℤ). L found.0 v) same found.3)

    at_right : s < e → a <ℤ b → (i : ℕ) × (s ≤ i) × (i < e) × L i next
    at_right h over = elim (cases_lt m e) [
      | inl some ↦ in_right some (omega (is, over, arith, ints, clamps))
      | inr none ↦ absurd (nothing (right.none none))
    ]
      where
        nothing : b ≡ pos 0 → ⊥
        nothing q = omega (q, over, left.low, arith, ints)

    at_left : s < e → b ≤ℤ a → (i : ℕ) × (s ≤ i) × (i < e) × L i next
    at_left h under = elim (cases_lt s m) [
      | inl some ↦ in_left some (omega (is, under, arith, ints, clamps))
      | inr none ↦ in_right (omega (h, none, arith)) (same (left.none none))
    ]
      where
        same : a ≡ pos 0 → b ≡ next
        same p = omega (is, p, under, right.low, arith, ints, clamps)

    under_left : (x : ℤ) → x ≤ℤ a → x ≤ℤ next
    under_left x h = omega (is, h, arith, ints, clamps)

    under_right : (x : ℤ) → x ≤ℤ b → x ≤ℤ next
    under_right x h = omega (is, h, arith, ints, clamps)

-- one more index, at which left is the greatest
pub most_more : (L : ℕ → ℤ → Type 0) (s n : ℕ) (most left next : ℤ) → s ≤ n → IsMostOf L s n most → L n left → ((x : ℤ) → L n x → x ≤ℤ left) → (pos 0) ≤ℤ left → next ≡ int_max most left
    → IsMostOf L s (n + 1) next
most_more L s n most left next order so_far here best low e = most_both L s n (n + 1) most left next order (omega arith) so_far (most_one L n left here best low) e

-- one more index, at which nothing is greater than what there was before
pub most_stays : (L : ℕ → ℤ → Type 0) (s n : ℕ) (most : ℤ) → s ≤ n → IsMostOf L s n most → (pos 0) <ℤ most → ((x : ℤ) → L n x → x ≤ℤ most) → IsMostOf L s (n + 1) most
most_stays L s n most order so_far some best = record {
  low = so_far.low;
  none = λ h. absurd (omega (h, order, arith));
  there = λ _. elim (cases_lt s n) [ inl before ↦ earlier (so_far.there before) | inr none ↦ absurd (nothing (so_far.none none)) ];
  bound = λ i x h k l. elim (below_suc n i k) [ inl before ↦ so_far.bound i x h before l | inr same ↦ best x (subst (λ (v : ℕ). L v x) same l) ];
}
  where
    earlier : (i : ℕ) × (s ≤ i) × (i < n) × L i most → (i : ℕ) × (s ≤ i) × (i < n + 1) × L i most
    earlier found = (found.0, found.1, omega (found.2, arith), found.3)

    nothing : most ≡ pos 0 → ⊥
    nothing e = omega (e, some, arith, ints)

-- the greater by comparison is the greater
pub max_is : (a b : ℤ) → ord_max int_cmp a b ≡ int_max a b
max_is a b = by (int_lt b a) (int_lt a b)
  where
    by : (s t : Bool) → cond (is_lt (cond s Less (cond t Greater Equal))) a b ≡ cond s a b
    by true t = refl
    by false true = refl
    by false false = refl
