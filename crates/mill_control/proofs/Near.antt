-- A rounded number is within half a unit of the number.
use Rattle.std.specs.Prelude.{◌≡◌, ℕ, suc, zero, ◌+◌, ◌*◌, ◌^◌, ◌<◌, ◌≤◌, ℤ, pos, neg_ℤ, nat_abs, ◌-ℤ◌, ◌*ℤ◌, Bool, true, false}
use Rattle.std.proofs.Common.{ap, arith, subst, sym}
use Rattle.std.proofs.Math.Nat.{one-le-pow}
use Rattle.std.proofs.lemmas.Int.{ints}
use Rattle.mill_base.proofs.Integers.{neg-mul-ℤ}
use Rattle.mill_words.specs.declared.word.Num.{Num}
use Rattle.mill_control.specs.Lengths.{nearest, rounded, signed}
use Rattle.mill_control.specs.Rounding.{RoundedIsNear}
use Rattle.mill_control.proofs.Nearest.{nearest-high, nearest-low}

half : (t a q : ℕ) → 2 * t ≤ 2 * a + q → 2 * a + q < 2 * t + 2 * q → 2 * nat_abs (pos t -ℤ pos a) ≤ q
half t a q low high = omega (arith, ints)

half-neg : (t a q : ℕ) → 2 * t ≤ 2 * a + q → 2 * a + q < 2 * t + 2 * q → 2 * nat_abs (neg_ℤ (pos t) -ℤ neg_ℤ (pos a)) ≤ q
half-neg t a q low high = omega (arith, ints)

by_sign : (neg : Bool) (w a q : ℕ) → 2 * (w * q) ≤ 2 * a + q → 2 * a + q < 2 * (w * q) + 2 * q → 2 * nat_abs (signed neg w *ℤ pos q -ℤ signed neg a) ≤ q
by_sign false w a q low high = half (w * q) a q low high
by_sign true w a q low high = subst (λ t. 2 * nat_abs (t -ℤ neg_ℤ (pos a)) ≤ q) (sym (neg-mul-ℤ (pos w) (pos q))) (half-neg (w * q) a q low high)

near : (neg : Bool) (a q : ℕ) → 0 < q → 2 * nat_abs (signed neg (nearest a q) *ℤ pos q -ℤ signed neg a) ≤ q
near neg a q some = by (nearest a q) (nearest-low a q) (nearest-high a q some)
  where
    by : (w : ℕ) → (2 * q) * w ≤ 2 * a + q → 2 * a + q < w * (2 * q) + 2 * q → 2 * nat_abs (signed neg w *ℤ pos q -ℤ signed neg a) ≤ q
    by w low high = by_sign neg w a q (omega arith) (omega arith)

pub rounded_is_near : RoundedIsNear
unfolding rounded
rounded_is_near n per = near n.neg (n.mant * per) (10 ^ n.scale) (omega (arith, one-le-pow n.scale 10 (omega arith)))
