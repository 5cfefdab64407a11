-- The greatest number that has a property.
use Rattle.std.proofs.Common.{◌≡◌, ◌⊎◌, inl, inr, Bool, true, false, cond, refl, arith}
use Rattle.std.specs.Prelude.{Option, Some, None}
use Rattle.std.specs.Option.{option_cmp}
use Rattle.std.specs.Ordering.{int_cmp, is_lt, ord_max}
use Rattle.std.proofs.lemmas.Int.{ints}
use Rattle.mill_base.proofs.Cert.{by_opposite_le}
use Rattle.mill_part.specs.inner.Columns.{IsGreatest}
use Rattle.mill_part.proofs.TopLemmas.{less_is, other_is}
use lib.IntN.{ℤ}
use lib.Signed.{◌<ℤ◌, ◌≤ℤ◌}

-- another property that has the same numbers, the second way only not not
pub greatest_by : (P R : ℤ → Type 0) (o : Option ℤ) → IsGreatest P o → ((h : ℤ) → P h → R h) → ((h : ℤ) → R h → ¬ ¬ P h) → IsGreatest R o
greatest_by P R None g to from = λ h r. from h r (g h)
greatest_by P R (Some top) g to from =
    (to top g.0, λ h r. by_opposite_le h top (λ over. from h r (λ p. let under = g.1 h p in not_both h top under over)))
  where
    not_both : (h top : ℤ) → h ≤ℤ top → top <ℤ h → ⊥
    not_both h top under over = omega (arith, ints)

pub greatest_same : (P R : ℤ → Type 0) (o : Option ℤ) → IsGreatest P o → ((h : ℤ) → P h → R h) → ((h : ℤ) → R h → P h) → IsGreatest R o
greatest_same P R o g to from = greatest_by P R o g to (λ h r no. no (from h r))

-- the greater of two greatest numbers is the greatest that has one property or the other
pub greatest_max : (P Q : ℤ → Type 0) (x y : Option ℤ) → IsGreatest P x → IsGreatest Q y → IsGreatest (λ h. P h ⊎ Q h) (ord_max (option_cmp int_cmp) x y)
greatest_max P Q None None p q = λ h e. elim e [ inl l ↦ p h l | inr r ↦ q h r ]
greatest_max P Q None (Some b) p q = (inr q.0, λ h e. elim e [ inl l ↦ absurd (p h l) | inr r ↦ q.1 h r ])
greatest_max P Q (Some a) None p q = (inl p.0, λ h e. elim e [ inl l ↦ p.1 h l | inr r ↦ absurd (q h r) ])
greatest_max P Q (Some a) (Some b) p q = by (is_lt (int_cmp b a)) refl
  where
    under : (h x y : ℤ) → h ≤ℤ x → x ≤ℤ y → h ≤ℤ y
    under h x y k l = omega (arith, ints)

    by : (t : Bool) → is_lt (int_cmp b a) ≡ t → IsGreatest (λ h. P h ⊎ Q h) (cond t (Some a) (Some b))
    by true less = (inl p.0, λ h e. elim e [ inl l ↦ p.1 h l | inr r ↦ under h b a (q.1 h r) (less_is b a less) ])
    by false other = (inr q.0, λ h e. elim e [ inl l ↦ under h a b (p.1 h l) (other_is b a other) | inr r ↦ q.1 h r ])
