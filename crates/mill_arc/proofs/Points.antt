-- Each point of a chord's sector lies in the direction of the chord's point at some moment.
use Rattle.std.specs.Prelude.{◌≡◌, Bool, true, false, ℤ, pos, ◌+ℤ◌, ◌-ℤ◌, ◌<ℤ◌, ◌≤ℤ◌}
use Rattle.std.proofs.Common.{arith, ap₂, refl, ◌∙◌, subst, sym}
use Rattle.std.proofs.lemmas.Int.{ints}
use Rattle.mill_base.proofs.Integers.{mul_pos-ℤ}
use Rattle.mill_base.proofs.Cert.{by_opposite_lt}
use Rattle.mill_arc.proofs.Parted.{chord_short}
use Rattle.mill_arc.proofs.TurnCerts.{cramer_1_left, cramer_1_right, cramer_2_left, cramer_2_right, no_point}
use Rattle.mill_arc.proofs.RingCerts.{across_same, onward_same}
use Rattle.mill_arc.specs.Rings.{IsAlong, PointHasMoment, on_chord}
use Rattle.mill_arc.specs.Vectors.{ahead, dot, plus, times, vector}
use Rattle.mill_arc.specs.declared.vectors.Vector.{Vector}

-- the chord's point, at the moment that the two parts of the sector give, is a multiple of x
cramer : (t : Bool) (u v x : Vector) → plus (times (ahead t x v) u) (times (ahead t u x) v) ≡ times (ahead t u v) x
cramer true u v x = ap₂ (λ (p q : ℤ). vector p q) (cramer_1_left u.first u.second v.first v.second x.first x.second) (cramer_2_left u.first u.second v.first v.second x.first x.second)
cramer false u v x = ap₂ (λ (p q : ℤ). vector p q) (cramer_1_right u.first u.second v.first v.second x.first x.second) (cramer_2_right u.first u.second v.first v.second x.first x.second)

along : (a : ℤ) (x : Vector) → (pos 0) <ℤ a → (pos 0) <ℤ dot x x → IsAlong (times a x) x
along a x h k = record {
  across = across_same a x.first x.second;
  onward = subst (λ (t : ℤ). (pos 0) <ℤ t) (sym (onward_same a x.first x.second)) (mul_pos-ℤ a (dot x x) h k);
}

-- both parts are nothing only where x is
some_of : (k l : ℤ) → (pos 0) ≤ℤ k → (pos 0) ≤ℤ l → (k ≡ pos 0 → l ≡ pos 0 → ⊥) → (pos 0) <ℤ (k +ℤ l)
some_of k l h g f = by_opposite_lt (pos 0) (k +ℤ l) (λ o. f (none k l h g o) (other k l h g o))
  where
    none : (k l : ℤ) → (pos 0) ≤ℤ k → (pos 0) ≤ℤ l → (k +ℤ l) ≤ℤ (pos 0) → k ≡ pos 0
    none k l h g o = omega (arith, ints)

    other : (k l : ℤ) → (pos 0) ≤ℤ k → (pos 0) ≤ℤ l → (k +ℤ l) ≤ℤ (pos 0) → l ≡ pos 0
    other k l h g o = omega (arith, ints)

some_part : (t : Bool) (u v x : Vector) → (pos 0) <ℤ ahead t u v → (pos 0) <ℤ dot x x → (pos 0) ≤ℤ ahead t u x → (pos 0) ≤ℤ ahead t x v → (pos 0) <ℤ (ahead t u x +ℤ ahead t x v)
some_part true u v x h k p q = some_of (ahead true u x) (ahead true x v) p q
    (λ a b. no_point (ahead true u x) (ahead true x v) (ahead true u v) u.first u.second v.first v.second x.first x.second h k a b
    (cramer_1_left u.first u.second v.first v.second x.first x.second) (cramer_2_left u.first u.second v.first v.second x.first x.second))
some_part false u v x h k p q = some_of (ahead false u x) (ahead false x v) p q
    (λ a b. no_point (ahead false u x) (ahead false x v) (ahead false u v) u.first u.second v.first v.second x.first x.second h k a b
    (cramer_1_right u.first u.second v.first v.second x.first x.second) (cramer_2_right u.first u.second v.first v.second x.first x.second))

left_over : (a b : ℤ) → (a +ℤ b) -ℤ a ≡ b
left_over a b = omega (arith, ints)

pub point_has_moment : PointHasMoment
point_has_moment arc s x chord after before some =
    let t = arc.counterclockwise in
    let short = chord_short arc s chord in
    let k = ahead t s.from x in
    let n = ahead t s.from x +ℤ ahead t x s.to in
    record {
      k = k;
      n = n;
      moment = record { some = some_part t s.from s.to x short.forward some after before; after = after; before = at_most k (ahead t x s.to) before };
      along = subst (λ (l : Vector). IsAlong l x) (sym (same t)) (along (ahead t s.from s.to) x short.forward some);
    }
  where
    at_most : (a b : ℤ) → (pos 0) ≤ℤ b → a ≤ℤ (a +ℤ b)
    at_most a b h = omega (arith, ints)

    same : (t : Bool) → on_chord s (ahead t s.from x) (ahead t s.from x +ℤ ahead t x s.to) ≡ times (ahead t s.from s.to) x
    same t = ap₂ (λ (p q : ℤ). plus (times p s.from) (times q s.to)) (left_over (ahead t s.from x) (ahead t x s.to)) refl ∙ cramer t s.from s.to x
