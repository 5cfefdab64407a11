-- What a number has beside its rounded units.
use Rattle.std.specs.Prelude.{◌≡◌, ℕ, zero, suc, ◌+◌, ◌-◌, ◌*◌, ◌/◌, ◌%◌, ◌^◌, ◌<◌, ◌≤◌, ℤ, pos, negsuc, neg_ℤ, nat_abs, ◌+ℤ◌, ◌-ℤ◌, ◌*ℤ◌, Bool, true, false, if◌then◌else◌}
use Rattle.std.proofs.Common.{ap, arith, sym, refl, ◌∙◌, subst, w64, FitsSigned}
use Rattle.std.proofs.Math.Nat.{div-add-mod, div-eq_of_lt-le, mod-lt, mul-le-mul_right}
use Rattle.std.proofs.lemmas.Int.{ints}
use Rattle.mill_base.proofs.Integers.{add-mul-ℤ, neg-mul-ℤ}
use Rattle.mill_base.specs.Numbers.{Within}
use Rattle.mill_words.specs.Words.{FitsNum}
use Rattle.mill_words.specs.declared.word.Num.{Num}
use Rattle.mill_control.specs.Lengths.{nearest, rounded, signed}
use Rattle.mill_control.specs.Unrounded.{finer}
use Rattle.mill_control.proofs.Nearest.{whole}

-- ---- a ratio

nearest-down : (q r p a : ℕ) → p * q + r ≡ a → 2 * r < p → nearest a p ≡ q
nearest-down q r p a e less = div-eq_of_lt-le {k = q} (2 * p) {m = 2 * a + p} (omega arith) (omega arith)

nearest-over : (q r p a : ℕ) → p * q + r ≡ a → r < p → p ≤ 2 * r → nearest a p ≡ q + 1
nearest-over q r p a e under most = div-eq_of_lt-le {k = q + 1} (2 * p) {m = 2 * a + p} (omega arith) (omega arith)

-- it is rounded down, and the rest is over
pub beside_down : (a p : ℕ) → 2 * (a % p) < p → pos (a % p) ≡ pos a -ℤ pos (p * nearest a p)
beside_down a p less = by (a / p) (a % p) (nearest a p) (div-add-mod a p) (nearest-down (a / p) (a % p) p a (div-add-mod a p) less)
  where
    by : (q r n : ℕ) → p * q + r ≡ a → n ≡ q → pos r ≡ pos a -ℤ pos (p * n)
    by q r n e same = let times : p * n ≡ p * q = ap (λ t. p * t) same in omega (arith, ints)

-- it is rounded up, and the rest is under it by what it lacks
pub beside_up : (a p : ℕ) → 0 < p → p ≤ 2 * (a % p) → pos (a % p) -ℤ pos p ≡ pos a -ℤ pos (p * nearest a p)
beside_up a p some most = by (a / p) (a % p) (nearest a p) (div-add-mod a p) (nearest-over (a / p) (a % p) p a (div-add-mod a p) (mod-lt a some) most)
  where
    by : (q r n : ℕ) → p * q + r ≡ a → n ≡ q + 1 → pos r -ℤ pos p ≡ pos a -ℤ pos (p * n)
    by q r n e same = let times : p * n ≡ p * (q + 1) = ap (λ t. p * t) same in omega (arith, ints)

-- ---- with decimals

times-abs : (z : ℤ) (c : ℕ) → nat_abs (z *ℤ pos c) ≡ nat_abs z * c
times-abs (pos a) c = refl
times-abs (negsuc a) c = omega (arith, ints)

-- half of one, in so many parts
pub half_within : (z : ℤ) (s : ℕ) → s ≤ 18 → 2 * nat_abs z ≤ 10 ^ s → Within (5 * 10 ^ 17) (z *ℤ pos (10 ^ (18 - s)))
half_within z s le half = record { within = subst (λ t. t ≤ 5 * 10 ^ 17) (sym (times-abs z (10 ^ (18 - s)))) (by (nat_abs z) (10 ^ s) (10 ^ (18 - s)) (whole s le) half) }
  where
    by : (n p c : ℕ) → p * c ≡ 10 ^ 18 → 2 * n ≤ p → n * c ≤ 5 * 10 ^ 17
    by n p c e half = omega (arith, mul-le-mul_right {m = 2 * n} {n = p} c half)

-- 64 bits hold it
pub within_fits : {z : ℤ} → Within (5 * 10 ^ 17) z → FitsSigned w64 z
within_fits h = omega (arith, ints, h.within)

-- ---- a number

less-times : (a b c : ℕ) → (pos a -ℤ pos b) *ℤ pos c ≡ pos (a * c) -ℤ pos (b * c)
less-times a b c = add-mul-ℤ (pos a) (neg_ℤ (pos b)) (pos c) ∙ ap (λ t. pos (a * c) +ℤ t) (neg-mul-ℤ (pos b) (pos c))

parts-of : (m per p c w : ℕ) → p * c ≡ 10 ^ 18 → (pos (m * per) -ℤ pos (p * w)) *ℤ pos c ≡ pos ((m * c) * per) -ℤ pos (10 ^ 18 * w)
parts-of m per p c w e = less-times (m * per) (p * w) c ∙ ap (λ t. pos t -ℤ pos ((p * w) * c)) (number m per c) ∙ ap (λ t. pos ((m * c) * per) -ℤ pos t) (units p w c ∙ ap (λ t. t * w) e)
  where
    number : (m per c : ℕ) → (m * per) * c ≡ (m * c) * per
    number m per c = omega arith

    units : (p w c : ℕ) → (p * w) * c ≡ (p * c) * w
    units p w c = omega arith

turned : (a b : ℕ) → neg_ℤ (pos a -ℤ pos b) ≡ neg_ℤ (pos a) -ℤ neg_ℤ (pos b)
turned a b = omega (arith, ints)

times-neg : (a b : ℕ) → pos a *ℤ neg_ℤ (pos b) ≡ neg_ℤ (pos (a * b))
times-neg a zero = omega (arith, ints)
times-neg a (suc b) = omega (arith, ints)

abbrev turned_by : Bool → ℤ → ℤ
turned_by neg z = if neg then neg_ℤ z else z

by-sign : (neg : Bool) (m per p c w : ℕ) → p * c ≡ 10 ^ 18 → turned_by neg ((pos (m * per) -ℤ pos (p * w)) *ℤ pos c) ≡ (signed neg (m * c) *ℤ pos per) -ℤ (pos (10 ^ 18) *ℤ signed neg w)
by-sign false m per p c w e = parts-of m per p c w e
by-sign true m per p c w e =
    ap (λ t. neg_ℤ t) (parts-of m per p c w e) ∙ turned ((m * c) * per) (10 ^ 18 * w)
    ∙ ap (λ t. t -ℤ neg_ℤ (pos (10 ^ 18 * w))) (sym (neg-mul-ℤ (pos (m * c)) (pos per)))
    ∙ ap (λ t. (neg_ℤ (pos (m * c)) *ℤ pos per) -ℤ t) (sym (times-neg (10 ^ 18) w))

finer-is : (per : ℕ) (n : Num) → FitsNum 18 n → turned_by n.neg ((pos (n.mant * per) -ℤ pos (10 ^ n.scale * nearest (n.mant * per) (10 ^ n.scale))) *ℤ pos (10 ^ (18 - n.scale))) ≡ finer per n
unfolding rounded
finer-is per n fits = by-sign n.neg n.mant per (10 ^ n.scale) (10 ^ (18 - n.scale)) (nearest (n.mant * per) (10 ^ n.scale)) (whole n.scale fits.scale)

-- step by step
pub finer_by : (per : ℕ) (n : Num) → FitsNum 18 n → (a p : ℕ) (over wide last : ℤ) → a ≡ n.mant * per → p ≡ 10 ^ n.scale → over ≡ pos a -ℤ pos (p * nearest a p) → wide ≡ over *ℤ pos (10 ^ (18 - n.scale))
    → last ≡ turned_by n.neg wide → last ≡ finer per n
finer_by per n fits a p over wide last number ten ratio decimals sign =
    let plain = ratio ∙ ap (λ t. pos t -ℤ pos (p * nearest t p)) number ∙ ap (λ t. pos (n.mant * per) -ℤ pos (t * nearest (n.mant * per) t)) ten in
    sign ∙ ap (λ z. turned_by n.neg z) (decimals ∙ ap (λ z. z *ℤ pos (10 ^ (18 - n.scale))) plain) ∙ finer-is per n fits
