-- At least half of the chord at which a row crosses a circle, as the code computes it.
use Rattle.std.proofs.Common.{◌≡◌, ◌⊎◌, inl, inr, ℕ, ◌+◌, ◌-◌, ◌*◌, ◌<◌, ◌≤◌, subst, sym, ap, ◌∙◌, arith}
use Rattle.std.specs.Prelude.{ℤ, pos, negsuc, nat_abs, ◌+ℤ◌, ◌-ℤ◌, ◌≤ℤ◌}
use Rattle.std.proofs.lemmas.Bool.{cases_lt}
use Rattle.std.proofs.lemmas.Int.{ints}
use Rattle.std.proofs.lemmas.Nat.{mul-lt}
use Rattle.std.proofs.Math.Nat.{mul-le-mul}
use Rattle.std.proofs.Math.IntN.{pos-*ℤ-pos}
use Rattle.mill_base.specs.Numbers.{square}
use Rattle.mill_dexel.specs.inner.Cuts.{IsHalfChord}

-- a lesser length has a lesser square
square_less : (d r : ℕ) → d < r → d * d < r * r
square_less d r h = mul-lt d d r r h h

-- what is taken from the radius, by a square under its own: less than the radius
pub taken_less : (q r d : ℕ) → d < r → q * (2 * r) ≤ d * d → q < r
taken_less q r d near h = by (cases_lt q r)
  where
    far : r ≤ q → r * (1 * r) ≤ q * (2 * r)
    far l = mul-le-mul l (twice r)
      where
        twice : (r : ℕ) → 1 * r ≤ 2 * r
        twice r = omega arith

    once : (r : ℕ) → 1 * r ≡ r
    once r = omega arith

    by : (q < r) ⊎ (r ≤ q) → q < r
    by (inl l) = l
    by (inr l) = absurd (let over = subst (λ (n : ℕ). r * n ≤ q * (2 * r)) (once r) (far l) in omega (arith, over, h, square_less d r near))

chord_wide : (s q d : ℕ) → q * (2 * (s + q)) ≤ d * d → (s + q) * (s + q) ≤ s * s + d * d
chord_wide s q d h = omega (arith, h)

pub rest_wide : (q r d : ℕ) → q ≤ r → q * (2 * r) ≤ d * d → r * r ≤ (r - q) * (r - q) + d * d
rest_wide q r d less h =
    let whole : r - q + q ≡ r = omega (arith, less) in
    subst (λ (n : ℕ). n * n ≤ (r - q) * (r - q) + d * d) whole (chord_wide (r - q) q d (subst (λ (n : ℕ). q * (2 * n) ≤ d * d) (sym whole) h))

-- the square of a whole number is that of its magnitude
square_pos : (r : ℕ) → square (pos r) ≡ pos (r * r)
square_pos r = pos-*ℤ-pos r r

square_of_magnitude : (z : ℤ) → square z ≡ pos (nat_abs z * nat_abs z)
square_of_magnitude (pos a) = omega (arith, ints)
square_of_magnitude (negsuc a) = omega (arith, ints)

pub half_is : (r y m chord : ℤ) (radius distance width : ℕ) → r ≡ pos radius → distance ≡ nat_abs (y -ℤ m) → chord ≡ pos width → 1 ≤ width → radius * radius ≤ width * width + distance * distance
    → IsHalfChord r (y -ℤ m) chord
half_is r y m chord radius distance width r_is distance_is chord_is least wide = record {
  least = omega (arith, ints, chord_is, least);
  wide = sum (square r) (square chord) (square (y -ℤ m)) (radius * radius) (width * width) (distance * distance) (ap square r_is ∙ square_pos radius) (ap square chord_is ∙ square_pos width)
      (square_of_magnitude (y -ℤ m) ∙ ap (λ (n : ℕ). pos (n * n)) (sym distance_is)) wide;
}
  where
    sum : (x y z : ℤ) (a b c : ℕ) → x ≡ pos a → y ≡ pos b → z ≡ pos c → a ≤ b + c → x ≤ℤ (y +ℤ z)
    sum x y z a b c p q r h = omega (arith, ints, p, q, r, h)
