-- The tests of what is inside a cutter, on what they computed.
use Rattle.std.specs.Prelude.{◌≡◌, ◌↔◌, Bool, true, false, IsTrue, ℤ, pos, ◌+ℤ◌, ◌-ℤ◌, ◌*ℤ◌, ◌<ℤ◌, ◌≤ℤ◌}
use Rattle.std.proofs.Common.{◌∙◌, inl, inr, refl, ap, arith}
use Rattle.std.proofs.lemmas.Int.{ints}
use Rattle.mill_base.specs.Numbers.{square}
use Rattle.mill_base.specs.Points.{point_at}
use Rattle.mill_base.specs.Cutters.{InBall, InCone}
use Rattle.mill_shape.proofs.InsideCerts.{scaled_square, in_sphere_near}

-- the square of the radius over n, as the definitions write it
pub reach_square : (reach r n : ℤ) → reach ≡ r *ℤ n → square reach ≡ square r *ℤ square n
reach_square reach r n e = ap square e ∙ scaled_square r n

-- a comparison of numbers is one of what they are equal to
pub less_is : (a b x y : ℤ) → a ≡ x → b ≡ y → a <ℤ b → x <ℤ y
less_is a b x y e f h = rw (← e, ← f) h

pub at_most_is : (a b x y : ℤ) → a ≡ x → b ≡ y → a ≤ℤ b → x ≤ℤ y
at_most_is a b x y e f h = rw (← e, ← f) h

not_less : (a b : ℤ) → a <ℤ b → b ≤ℤ a → ⊥
not_less a b h k = omega (arith, ints)

pub far_out : (s far : ℤ) → far ≤ℤ s → s <ℤ far → ⊥
far_out s far h k = not_less s far k h

-- at or over the centre, the ball is its cylinder
centre_under : (z q height : ℤ) → height ≡ z -ℤ q → (pos 0) ≤ℤ height → q ≤ℤ z
centre_under z q height e h = omega (arith, ints)

centre_over : (z q height : ℤ) → height ≡ z -ℤ q → height <ℤ (pos 0) → q ≤ℤ z → ⊥
centre_over z q height e h k = omega (arith, ints)

pub ball_high_yes : (r n x y z height : ℤ) → height ≡ z -ℤ r *ℤ n → (pos 0) ≤ℤ height → (square x +ℤ square y) <ℤ (square r *ℤ square n) → InBall r n (point_at x y z)
ball_high_yes r n x y z height e h near = record { near = near; over = inl (centre_under z (r *ℤ n) height e h) }

pub ball_high_no : (r n x y z : ℤ) → (square r *ℤ square n) ≤ℤ (square x +ℤ square y) → InBall r n (point_at x y z) → ⊥
ball_high_no r n x y z far i = far_out _ _ far i.near

-- under the centre it is the sphere, which is within the cylinder
pub ball_deep_yes : (r n x y z height : ℤ) → height ≡ z -ℤ r *ℤ n → ((square x +ℤ square y) +ℤ square height) <ℤ (square r *ℤ square n) → InBall r n (point_at x y z)
ball_deep_yes r n x y z height e h =
    let deep : ((square x +ℤ square y) +ℤ square (z -ℤ r *ℤ n)) <ℤ (square r *ℤ square n) = rw e at h in
    record { near = in_sphere_near x y z r n deep; over = inr deep }

pub ball_deep_no : (r n x y z height : ℤ) → height ≡ z -ℤ r *ℤ n → height <ℤ (pos 0) → (square r *ℤ square n) ≤ℤ ((square x +ℤ square y) +ℤ square height) → InBall r n (point_at x y z) → ⊥
ball_deep_no r n x y z height e h far i = elim i.over [
  | inl high ↦ centre_over z (r *ℤ n) height e h high
  | inr deep ↦ far_out _ _ far (rw e deep)
]

pub cone_no : (r a b n x y z : ℤ) → (square b *ℤ square z) ≤ℤ (square a *ℤ (square x +ℤ square y)) → InCone r a b n (point_at x y z) → ⊥
cone_no r a b n x y z far i = far_out _ _ far i.steep

-- a test that answers yes only where a fact holds and no only where it doesn't decides it
pub decides : (answer : Bool) (P : Type 0) → (IsTrue answer → P) → (answer ≡ false → P → ⊥) → IsTrue answer ↔ P
decides true P sound complete = (sound, λ _. refl)
decides false P sound complete = (λ h. absurd (by h), λ p. absurd (complete refl p))
  where
    by : false ≡ true → ⊥
    by e = cc
