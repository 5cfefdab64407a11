-- Powers of ten, and numbers times them.
use Rattle.std.proofs.Common.{◌≡◌, ℕ, ◌+◌, ◌*◌, ◌≤◌, ◌<◌, ◌^◌, suc, arith, refl, None, Some, true}
use Rattle.std.specs.Prelude.{◌/◌, ◌%◌, ◌==◌, ℤ, pos, negsuc, nat_abs, ◌<ℤ◌, ◌≤ℤ◌}
use Rattle.std.proofs.Math.Nat.{pow-le-pow_right, pow-succ', div-eq_of_lt, mod-eq_of_lt, mul-le-mul}
use Rattle.std.proofs.lemmas.Bool.{lt-leb}
use Rattle.std.proofs.lemmas.Bool.Decides.{nat_tests}
use Rattle.std.proofs.lemmas.Int.{ints}
use Rattle.mill_base.specs.Units.{greatest_of}
use Rattle.mill_base.specs.declared.unit.Unit.{Unit}
use Rattle.mill_base.proofs.Ranges.{greatest_of-le}
use Rattle.mill_decimal.specs.Decimals.{nearest, is_whole, in_range}

-- a power of ten is at most a greater one
pub ten : (k most : ℕ) → k ≤ most → 10 ^ k ≤ 10 ^ most
ten k most le = pow-le-pow_right {n = 10} (omega arith) {i = k} {j = most} le

-- one more digit multiplies the bound by ten
pub one_more : (j k v d : ℕ) → j ≡ suc k → v < 10 ^ k → d < 10 → 10 * v + d < 10 ^ j
one_more j k v d e lt digit = rw (e, pow-succ' 10 k) (omega arith)

-- a number of 24 digits is less than half of a power past 26
far : (m k : ℕ) → m < 10 ^ 24 → 26 < k → 2 * m + 10 ^ k < 2 * 10 ^ k
far m k lt past = omega (arith, ten 26 k (omega arith))

pub far_nearest : (m k : ℕ) → m < 10 ^ 24 → 26 < k → (2 * m + 10 ^ k) / (2 * 10 ^ k) ≡ 0
far_nearest m k lt past = div-eq_of_lt (far m k lt past)

pub far_rest : (m k : ℕ) → m < 10 ^ 24 → 26 < k → m % 10 ^ k ≡ m
far_rest m k lt past = mod-eq_of_lt (omega (arith, ten 26 k (omega arith)))

-- a number of units in range is taken
pub in_range-taken : (unit : Unit) (n : ℕ) → n ≤ greatest_of unit → in_range unit n ≡ Some n
in_range-taken unit n fits = grind (arith, nat_tests)

-- six zeros take any number but 0 out of range
pub too_high : (unit : Unit) (m k : ℕ) → 0 < m → 5 < k → None ≡ in_range unit (m * 10 ^ k)
too_high unit m k some past =
    let least : 1 * 10 ^ 6 ≤ m * 10 ^ k = mul-le-mul some (ten 6 k past) in
    rw (lt-leb (m * 10 ^ k) (greatest_of unit) (omega (arith, greatest_of-le unit))) refl

-- ---- the two cases of a power, by its magnitude

pub nearest_raised : (m : ℕ) (power : ℤ) → pos 0 ≤ℤ power → nearest m power ≡ m * 10 ^ nat_abs power
unfolding nearest
nearest_raised m (pos n) up = refl
nearest_raised m (negsuc n) up = absurd (omega (arith, ints))

pub nearest_lowered : (m : ℕ) (power : ℤ) → power <ℤ pos 0 → nearest m power ≡ (2 * m + 10 ^ nat_abs power) / (2 * 10 ^ nat_abs power)
unfolding nearest
nearest_lowered m (pos n) down = absurd (omega (arith, ints))
nearest_lowered m (negsuc n) down = refl

pub is_whole_raised : (m : ℕ) (power : ℤ) → pos 0 ≤ℤ power → is_whole m power ≡ true
unfolding is_whole
is_whole_raised m (pos n) up = refl
is_whole_raised m (negsuc n) up = absurd (omega (arith, ints))

pub is_whole_lowered : (m : ℕ) (power : ℤ) → power <ℤ pos 0 → is_whole m power ≡ (m % 10 ^ nat_abs power == 0)
unfolding is_whole
is_whole_lowered m (pos n) down = absurd (omega (arith, ints))
is_whole_lowered m (negsuc n) down = refl
