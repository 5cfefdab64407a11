-- What is written reads back.
use Rattle.std.proofs.Common.{◌≡◌, ℕ, ◌+◌, ◌≤◌, ◌<◌, ◌^◌, suc, List, [], ◌∷◌, ◌++◌, length, arith, Bool, true, false, refl}
use Rattle.std.specs.Prelude.{◌/◌, ◌==◌, nat_lt, ℤ, pos, negsuc, ◌+ℤ◌, ◌-ℤ◌, decimal, Some, Ok}
use Rattle.std.specs.Str.Parse.{AllDigits, digits_value}
use Rattle.std.proofs.lemmas.Bool.Decides.{nat_tests}
use Rattle.std.proofs.lemmas.Int.{ints}
use Rattle.std.proofs.lemmas.Fmt.{digits_decimal, digits_value-decimal, decimal_nonempty, length-decimal-le}
use Rattle.std.proofs.lemmas.Str.Parse.{IsNumeralModel, numerals_by_value, tells_digits}
use Rattle.mill_base.specs.Numbers.{Within}
use Rattle.mill_base.specs.Units.{places_of, greatest_of}
use Rattle.mill_base.specs.declared.unit.Unit.{Unit}
use Rattle.mill_base.specs.declared.unit.Unit.TheVariants.{Hundredth, Thousandth}
use Rattle.mill_decimal.specs.declared.scaled.Scaled.{Scaled}
use Rattle.mill_decimal.specs.declared.snap.Snap.{Snap}
use Rattle.mill_decimal.specs.declared.snap.Snap.TheVariants.{Nearest, Exact}
use Rattle.mill_decimal.specs.Spelling.{is_negative, after_sign, signed, scaled_by, scaled_unsigned, scaled_of}
use Rattle.mill_decimal.specs.Decimals.{nearest, is_whole, units_of, read_as, last_digits, unsigned, canonical}
use Rattle.mill_decimal.proofs.DigitRuns.{digits_of-append, after_digits-append, digits_of-all, after_digits-all, digits_value-append, length-last_digits, last_digits-all, value-places}
use Rattle.mill_decimal.proofs.Canonical.{canonical-pos, canonical-negsuc}
use Rattle.mill_decimal.proofs.Powers.{in_range-taken}

model : IsNumeralModel (AllDigits 10) (digits_value 10)
model = numerals_by_value (AllDigits 10) tells_digits

-- ---- the spelling

-- a coordinate has whole millimetres of at most four digits
pub millimetres-le : (unit : Unit) (n : ℕ) → n ≤ greatest_of unit → n / 10 ^ places_of unit < 10000
millimetres-le Hundredth n fits = omega arith
millimetres-le Thousandth n fits = omega arith

pub places_of-le : (unit : Unit) → places_of unit ≤ 3
places_of-le Hundredth = omega arith
places_of-le Thousandth = omega arith

-- n units, with a sign
abbrev whole_units : Bool → ℕ → Scaled
whole_units negative n = record { negative = negative; mantissa = n; power = pos 0 }

-- the digits before the point and behind it stand for the units
pub value-unsigned : (unit : Unit) (n : ℕ) → n ≤ greatest_of unit
    → digits_value 10 (decimal (n / 10 ^ places_of unit) ++ last_digits (places_of unit) n) ≡ n
value-unsigned unit n fits =
    let small : n / 10 ^ places_of unit < 2 ^ 64 = omega (arith, millimetres-le unit n fits) in
    rw (digits_value-append (decimal (n / 10 ^ places_of unit)) (last_digits (places_of unit) n), digits_value-decimal model (n / 10 ^ places_of unit) small) (value-places unit n)

power-places : (k : ℕ) → (pos 0 -ℤ pos k) +ℤ pos k ≡ pos 0
power-places k = omega (arith, ints)

scaled_by-unsigned : (unit : Unit) (negative : Bool) (n : ℕ) → n ≤ greatest_of unit
    → scaled_by unit negative (decimal (n / 10 ^ places_of unit)) (last_digits (places_of unit) n) (Some (pos 0)) ≡ Ok (whole_units negative n)
scaled_by-unsigned unit negative n fits =
    let whole = decimal (n / 10 ^ places_of unit) in
    let fraction = last_digits (places_of unit) n in
    let small = millimetres-le unit n fits in
    let some = decimal_nonempty (n / 10 ^ places_of unit) (omega arith) in
    let few = length-decimal-le 6 (n / 10 ^ places_of unit) (omega arith) (omega arith) (omega arith) in
    let places = length-last_digits (places_of unit) n in
    let few_places = places_of-le unit in
    let has_digits : (length whole + length fraction == 0) ≡ false = grind (arith, nat_tests) in
    let has_few : nat_lt 24 (length whole + length fraction) ≡ false = grind (arith, nat_tests) in
    rw (has_digits, has_few, value-unsigned unit n fits, places, power-places (places_of unit)) refl

scaled_unsigned-unsigned : (unit : Unit) (negative : Bool) (n : ℕ) → n ≤ greatest_of unit → scaled_unsigned unit negative (unsigned unit n) ≡ Ok (whole_units negative n)
scaled_unsigned-unsigned unit negative n fits =
    let digits = digits_decimal model (n / 10 ^ places_of unit) (omega (arith, millimetres-le unit n fits)) in
    let places = last_digits-all (places_of unit) n in
    rw (
      digits_of-append (decimal (n / 10 ^ places_of unit)) 46 (last_digits (places_of unit) n) digits refl,
      after_digits-append (decimal (n / 10 ^ places_of unit)) 46 (last_digits (places_of unit) n) digits refl,
      digits_of-all (last_digits (places_of unit) n) places,
      after_digits-all (last_digits (places_of unit) n) places,
    ) (scaled_by-unsigned unit negative n fits)

-- ---- the units

nearest-whole : (n : ℕ) → nearest n (pos 0) ≡ n
unfolding nearest
nearest-whole n = omega arith

units_of-whole : (snap : Snap) (unit : Unit) (negative : Bool) (n : ℕ) → n ≤ greatest_of unit → units_of snap unit (whole_units negative n) ≡ Ok (signed negative n)
unfolding is_whole
units_of-whole Nearest unit negative n fits = rw (nearest-whole n, in_range-taken unit n fits) refl
units_of-whole Exact unit negative n fits = rw (nearest-whole n, in_range-taken unit n fits) refl

-- a text that begins with a digit has no sign
no_sign : (ds rest : List ℕ) → 0 < length ds → AllDigits 10 ds → (is_negative (ds ++ rest) ≡ false) × (after_sign (ds ++ rest) ≡ ds ++ rest)
no_sign [] rest some all = absurd (omega arith)
no_sign (d ∷ ds) rest some all = (grind (arith, nat_tests), grind (arith, nat_tests))

read_positive : (snap : Snap) (unit : Unit) (n : ℕ) → n ≤ greatest_of unit → read_as snap unit (unsigned unit n) ≡ Ok (pos n)
unfolding read_as scaled_of
read_positive snap unit n fits =
    let small : n / 10 ^ places_of unit < 2 ^ 64 = omega (arith, millimetres-le unit n fits) in
    let plain = no_sign (decimal (n / 10 ^ places_of unit)) (46 ∷ last_digits (places_of unit) n) (decimal_nonempty (n / 10 ^ places_of unit) small) (digits_decimal model (n / 10 ^ places_of unit) small) in
    rw (plain.0, plain.1, scaled_unsigned-unsigned unit false n fits) (units_of-whole snap unit false n fits)

read_negative : (snap : Snap) (unit : Unit) (n : ℕ) → suc n ≤ greatest_of unit → read_as snap unit (45 ∷ unsigned unit (suc n)) ≡ Ok (negsuc n)
unfolding read_as scaled_of
read_negative snap unit n fits = rw (scaled_unsigned-unsigned unit true (suc n) fits) (units_of-whole snap unit true (suc n) fits)

-- what is written reads back
pub read_as-canonical : (snap : Snap) (unit : Unit) (z : ℤ) → Within (greatest_of unit) z → read_as snap unit (canonical unit z) ≡ Ok z
read_as-canonical snap unit (pos n) fits = rw (canonical-pos unit n) (read_positive snap unit n fits.within)
read_as-canonical snap unit (negsuc n) fits = rw (canonical-negsuc unit n) (read_negative snap unit n fits.within)
