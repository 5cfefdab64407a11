-- Whole-number quotients, rounded down or to the nearest: between which multiples they lie.
use Rattle.std.specs.Prelude.{◌≡◌, ℕ, zero, suc, ◌+◌, ◌*◌, ◌/◌, ◌^◌, ◌<◌, ◌≤◌, nat_abs, ℤ, pos, negsuc, neg_ℤ, ◌+ℤ◌, ◌-ℤ◌, ◌*ℤ◌, ◌<ℤ◌, ◌≤ℤ◌}
use Rattle.std.proofs.Common.{ap, arith, sym, ◌∙◌}
use Rattle.std.specs.Int.{div_ceil}
use Rattle.std.proofs.Math.Nat.{div-eq_of_lt, div-eq_of_lt-le, pow-le-pow_right}
use Rattle.std.proofs.lemmas.Grind.{div_ceil_times}
use Rattle.std.proofs.lemmas.Int.{ints}
use lib.IntN.{*ℤ_comm}
use Rattle.mill_base.proofs.Integers.{neg-mul-ℤ}
use Rattle.mill_base.proofs.DivisionCerts.{half_most, half_least}
use Rattle.mill_base.specs.Numbers.{floor_div, ceil_div, round_half_up}

-- z lies from n times its quotient on, and under n times the next number
pub floor_div_low : (z : ℤ) (n : ℕ) → 0 < n → (pos n *ℤ floor_div z n) ≤ℤ z
floor_div_low (pos a) n h = omega (arith, ints)
floor_div_low (negsuc a) n h = omega (arith, ints)

pub floor_div_high : (z : ℤ) (n : ℕ) → 0 < n → z <ℤ (pos n *ℤ floor_div z n +ℤ pos n)
floor_div_high (pos a) n h = omega (arith, ints)
floor_div_high (negsuc a) n h = omega (arith, ints)

-- a number from 0 on and under n has the quotient 0
pub floor_div_small : (z : ℤ) (n : ℕ) → (pos 0) ≤ℤ z → z <ℤ pos n → floor_div z n ≡ pos 0
floor_div_small (pos a) n h k = ap pos (div-eq_of_lt {n = a} {m = n} (omega (arith, ints)))
floor_div_small (negsuc a) n h k = absurd (omega (arith, ints))

-- n times the quotient rounded up is at least z
pub ceil_div_high : (z : ℤ) (n : ℕ) → 0 < n → z ≤ℤ (pos n *ℤ ceil_div z n)
ceil_div_high z n h = by (floor_div (neg_ℤ z) n) (floor_div_low (neg_ℤ z) n h)
  where
    turned : (q : ℤ) → pos n *ℤ neg_ℤ q ≡ neg_ℤ (pos n *ℤ q)
    turned q = *ℤ_comm (pos n) (neg_ℤ q) ∙ neg-mul-ℤ q (pos n) ∙ ap neg_ℤ (*ℤ_comm q (pos n))

    by : (q : ℤ) → (pos n *ℤ q) ≤ℤ neg_ℤ z → z ≤ℤ (pos n *ℤ neg_ℤ q)
    by q l = rw (turned q) (omega (arith, ints))

-- without signs it is the kit's
pub ceil_div_is : (a n : ℕ) → 0 < n → ceil_div (pos a) n ≡ pos (div_ceil a n)
ceil_div_is zero n h = omega (arith, ints)
ceil_div_is (suc a) n h = by (div_ceil (suc a) n) (div_ceil_times (suc a) n h)
  where
    by : (d : ℕ) → (suc a ≤ d * n) × (d * n < suc a + n) → pos (suc (a / n)) ≡ pos d
    by zero p = absurd (let least = p.0 in omega arith)
    by (suc k) p = ap (λ t. pos (suc t)) (div-eq_of_lt-le {k = k} n {m = a} (let most = p.1 in omega arith) (let least = p.0 in omega arith))

twice : (n : ℕ) (q : ℤ) → pos (2 * n) *ℤ q ≡ pos 2 *ℤ (pos n *ℤ q)
twice n (pos a) = omega (arith, ints)
twice n (negsuc a) = omega (arith, ints)

-- the nearest whole number is at most a half over z/n, and less than a half under it or a half under it
pub half_low : (z : ℤ) (n : ℕ) → 0 < n → (pos 2 *ℤ (pos n *ℤ round_half_up z n)) ≤ℤ (pos 2 *ℤ z +ℤ pos n)
half_low z n h = rw (← twice n (round_half_up z n)) (floor_div_low (pos 2 *ℤ z +ℤ pos n) (2 * n) (omega arith))

pub half_high : (z : ℤ) (n : ℕ) → 0 < n → (pos 2 *ℤ z) <ℤ (pos 2 *ℤ (pos n *ℤ round_half_up z n) +ℤ pos n)
half_high z n h = by (pos 2 *ℤ (pos n *ℤ round_half_up z n)) (rw (twice n (round_half_up z n)) at (floor_div_high (pos 2 *ℤ z +ℤ pos n) (2 * n) (omega arith)))
  where
    by : (p : ℤ) → (pos 2 *ℤ z +ℤ pos n) <ℤ (p +ℤ pos (2 * n)) → (pos 2 *ℤ z) <ℤ (p +ℤ pos n)
    by p l = omega (arith, ints)

-- it is no further from 0 than a whole bound of z/n
pub half_within : (z : ℤ) (n g : ℕ) → 0 < n → nat_abs z ≤ n * g → nat_abs (round_half_up z n) ≤ g
half_within z n g h l =
    let most = half_most (pos n) (pos g) (round_half_up z n) z (omega (arith, ints)) (half_low z n h) (omega (arith, ints)) in
    let least = half_least (pos n) (pos g) (round_half_up z n) z (omega (arith, ints)) (half_high z n h) (omega (arith, ints)) in
    by (round_half_up z n) most least
  where
    by : (r : ℤ) → r ≤ℤ pos g → (pos 0 -ℤ r) ≤ℤ pos g → nat_abs r ≤ g
    by r p q = omega (arith, ints)

-- over a power past 64 bits a numerator within 62 bits is less than a half
pub half_of_small : (z : ℤ) (bits : ℕ) → nat_abs z ≤ 2 ^ 62 → 63 < bits → pos 0 ≡ round_half_up z (2 ^ bits)
half_of_small z bits h k = by (2 ^ bits) (pow-le-pow_right {n = 2} (omega arith) {i = 64} {j = bits} (omega arith))
  where
    by : (n : ℕ) → 2 ^ 64 ≤ n → pos 0 ≡ round_half_up z n
    by n l =
        let small : nat_abs z ≤ 4611686018427387904 = h in
        let large : 18446744073709551616 ≤ n = l in
        sym (floor_div_small (pos 2 *ℤ z +ℤ pos n) (2 * n) (omega (arith, ints)) (omega (arith, ints)))
