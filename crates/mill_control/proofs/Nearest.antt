-- Numbers rounded to the nearest whole number: how near, in which order, and over which denominators.
use Rattle.std.specs.Prelude.{◌≡◌, ℕ, suc, zero, ◌+◌, ◌-◌, ◌*◌, ◌/◌, ◌^◌, ◌<◌, ◌≤◌, ℤ, pos, negsuc, neg_ℤ, nat_abs, ◌-ℤ◌, ◌*ℤ◌, ◌≤ℤ◌, Bool, true, false}
use Rattle.std.proofs.Common.{ap, arith, sym, refl, ◌∙◌, subst}
use Rattle.std.proofs.Math.Nat.{div-eq_of_lt, div-div-eq-div-mul, div-le_of_le-mul, lt-div-mul-add, mul-div-le, mul-div_cancel, mul-le-mul, mul-le-mul_right, one-le-pow}
use Rattle.std.proofs.lemmas.Int.{ints}
use Rattle.std.proofs.lemmas.Nat.{le-div, pow-add}
use Rattle.mill_words.specs.Words.{FitsNum}
use Rattle.mill_words.specs.declared.word.Num.{Num}
use Rattle.mill_control.specs.Lengths.{exact, is_below_zero, nearest, rounded, rounded_parts, signed}

-- ---- without signs

-- it lies within half a denominator of the number
pub nearest-low : (a n : ℕ) → (2 * n) * nearest a n ≤ 2 * a + n
nearest-low a n = mul-div-le (2 * a + n) (2 * n)

pub nearest-high : (a n : ℕ) → 0 < n → 2 * a + n < nearest a n * (2 * n) + 2 * n
nearest-high a n some = lt-div-mul-add {a = 2 * a + n} {b = 2 * n} (omega arith)

-- a greater number is rounded to one that isn't less
pub nearest-up : (a b n : ℕ) → 0 < n → a ≤ b → nearest a n ≤ nearest b n
nearest-up a b n some le = le-div (nearest a n) (2 * b + n) (2 * n) (omega arith) (omega (arith, nearest-low a n))

pub nearest-zero : (n : ℕ) → 0 < n → nearest 0 n ≡ 0
nearest-zero n some = div-eq_of_lt (omega arith)

nearest-none : (a n : ℕ) → a ≡ 0 → 0 < n → nearest a n ≡ 0
nearest-none a n none some = subst (λ (t : ℕ). nearest t n ≡ 0) (sym none) (nearest-zero n some)

-- over a denominator that is so many times as great, with the number, it is the same
pub nearest-wider : (a n c : ℕ) → 0 < n → 0 < c → nearest (a * c) (n * c) ≡ nearest a n
nearest-wider a n c some more =
    let over : 2 * (a * c) + n * c ≡ (2 * a + n) * c = omega arith in
    let under : 2 * (n * c) ≡ c * (2 * n) = omega arith in
    ap (λ t. t / (2 * (n * c))) over ∙ ap (λ t. ((2 * a + n) * c) / t) under ∙ sym (div-div-eq-div-mul ((2 * a + n) * c) c (2 * n))
    ∙ ap (λ t. t / (2 * n)) (mul-div_cancel (2 * a + n) {n = c} more)

-- it is hardly greater than the number
pub nearest_most : (a n : ℕ) → 1 ≤ n → nearest a n ≤ a + 1
nearest_most a n some = div-le_of_le-mul (2 * n) {m = 2 * a + n} {n = a + 1} (omega (arith, mul-le-mul_right {m = 1} {n = n} (2 * a) some))

-- what is rounded to a number has a magnitude of little more than it
pub nearest-within : (a n g : ℕ) → 0 < n → nearest a n ≤ g → a ≤ (g + 1) * n
nearest-within a n g some le = by (nearest a n) (nearest-high a n some) le
  where
    by : (q : ℕ) → 2 * a + n < q * (2 * n) + 2 * n → q ≤ g → a ≤ (g + 1) * n
    by q high most = omega (arith, mul-le-mul_right {m = q} {n = g} (2 * n) most)

-- ---- with signs

-- a sign goes over to the rounded number
turned : (neg : Bool) (k per q w : ℕ) → 0 < q → w ≡ nearest (k * per) q → signed neg w ≡ signed (is_below_zero (signed neg k)) (nearest (nat_abs (signed neg k) * per) q)
turned false k per q w some e = ap pos e
turned true zero per q w some e =
    let none : w ≡ 0 = e ∙ nearest-none (zero * per) q (omega arith) some in
    ap (λ t. neg_ℤ (pos t)) none ∙ ap pos (sym (nearest-none (zero * per) q (omega arith) some))
turned true (suc k) per q w some e = ap (λ t. neg_ℤ (pos t)) e

-- a number with decimals, and the same in parts of 10^18
tens : (s : ℕ) → 0 < 10 ^ s
tens s = omega (arith, one-le-pow s 10 (omega arith))

pub whole : (s : ℕ) → s ≤ 18 → 10 ^ s * 10 ^ (18 - s) ≡ 10 ^ 18
whole s le =
    let sum : s + (18 - s) ≡ 18 = omega arith in
    sym (pow-add 10 s (18 - s)) ∙ ap (λ t. 10 ^ t) sum

widened : (m per s : ℕ) → s ≤ 18 → nearest (m * per) (10 ^ s) ≡ nearest ((m * 10 ^ (18 - s)) * per) (10 ^ 18)
widened m per s le =
    sym (nearest-wider (m * per) (10 ^ s) (10 ^ (18 - s)) (tens s) (tens (18 - s)))
    ∙ ap (λ t. nearest ((m * per) * 10 ^ (18 - s)) t) (whole s le) ∙ ap (λ t. nearest t (10 ^ 18)) (swap m per (10 ^ (18 - s)))
  where
    swap : (a b c : ℕ) → (a * b) * c ≡ (a * c) * b
    swap a b c = omega arith

-- a number is rounded as its parts are
pub rounded-parts : (per : ℕ) (n : Num) → FitsNum 18 n → rounded per n ≡ rounded_parts per (exact n)
unfolding rounded rounded_parts
rounded-parts per n fits = turned n.neg (n.mant * 10 ^ (18 - n.scale)) per (10 ^ 18) (nearest (n.mant * per) (10 ^ n.scale)) (tens 18) (widened n.mant per n.scale fits.scale)

-- more parts are rounded to a number that isn't less
pub parts-up : (per : ℕ) (a b : ℤ) → a ≤ℤ b → rounded_parts per a ≤ℤ rounded_parts per b
unfolding rounded_parts
parts-up per (pos a) (pos b) le = let up = nearest-up (a * per) (b * per) (10 ^ 18) (tens 18) (mul-le-mul_right {m = a} {n = b} per (omega (arith, ints))) in by (nearest (a * per) (10 ^ 18)) (nearest (b * per) (10 ^ 18)) up
  where
    by : (x y : ℕ) → x ≤ y → pos x ≤ℤ pos y
    by x y h = omega (arith, ints)
parts-up per (pos a) (negsuc b) le = absurd (omega (arith, ints))
parts-up per (negsuc a) (pos b) le = by (nearest (suc a * per) (10 ^ 18)) (nearest (b * per) (10 ^ 18))
  where
    by : (x y : ℕ) → neg_ℤ (pos x) ≤ℤ pos y
    by x y = omega (arith, ints)
parts-up per (negsuc a) (negsuc b) le = let up = nearest-up (suc b * per) (suc a * per) (10 ^ 18) (tens 18) (mul-le-mul_right {m = suc b} {n = suc a} per (omega (arith, ints))) in by (nearest (suc a * per) (10 ^ 18)) (nearest (suc b * per) (10 ^ 18)) up
  where
    by : (x y : ℕ) → y ≤ x → neg_ℤ (pos x) ≤ℤ neg_ℤ (pos y)
    by x y h = omega (arith, ints)

-- parts that are rounded to a number within a bound are few
pub parts-within : (per : ℕ) (a : ℤ) (g : ℕ) → 1 ≤ per → nat_abs (rounded_parts per a) ≤ g → nat_abs a ≤ (g + 1) * 10 ^ 18
unfolding rounded_parts
parts-within per (pos a) g some le = few a (nearest-within (a * per) (10 ^ 18) g (tens 18) le)
  where
    few : (k : ℕ) → k * per ≤ (g + 1) * 10 ^ 18 → k ≤ (g + 1) * 10 ^ 18
    few k h = omega (arith, mul-le-mul {n₁ = k} {m₁ = 1} {n₂ = k} {m₂ = per} (omega arith) some)
parts-within per (negsuc a) g some le = few (suc a) (nearest-within (suc a * per) (10 ^ 18) g (tens 18) (by (nearest (suc a * per) (10 ^ 18)) le))
  where
    few : (k : ℕ) → k * per ≤ (g + 1) * 10 ^ 18 → k ≤ (g + 1) * 10 ^ 18
    few k h = omega (arith, mul-le-mul {n₁ = k} {m₁ = 1} {n₂ = k} {m₂ = per} (omega arith) some)

    by : (x : ℕ) → nat_abs (neg_ℤ (pos x)) ≤ g → x ≤ g
    by x h = omega (arith, ints)
