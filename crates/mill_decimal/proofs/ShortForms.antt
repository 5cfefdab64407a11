-- A decimal of few digits with no exponent.
use Rattle.std.proofs.Common.{◌≡◌, ℕ, ◌+◌, ◌-◌, ◌*◌, ◌^◌, ◌<◌, ◌≤◌, List, length, arith, Bool, false, refl, Ok, suc, not}
use Rattle.std.specs.Prelude.{◌==◌, nat_lt, pos, ◌+ℤ◌, ◌-ℤ◌, Some, ◌/◌, ◌%◌, negsuc}
use Rattle.std.specs.Str.Parse.{digits_value, digits_value_after}
use Rattle.std.proofs.lemmas.Bool.Decides.{nat_tests}
use Rattle.std.proofs.lemmas.Int.{ints}
use Rattle.mill_base.specs.Units.{places_of}
use Rattle.mill_base.specs.declared.unit.Unit.{Unit}
use Rattle.mill_decimal.specs.declared.short.Short.{Short}
use Rattle.mill_decimal.specs.declared.snap.Snap.{Snap}
use Rattle.mill_decimal.specs.declared.snap.Snap.TheVariants.{Nearest, Exact}
use Rattle.mill_decimal.specs.Decimals.{is_whole, nearest, is_between, in_range, or_out_of_range, units_or_fault, units_of}
use Rattle.mill_decimal.specs.inner.Shorts.{scaled_from}
use Rattle.mill_decimal.specs.Spelling.{scaled_by}
use Rattle.mill_decimal.proofs.DigitRuns.{digits_value-append}

-- its mantissa is the number of the whole digits, and behind it of those behind the point
pub scaled_by_few : (unit : Unit) (negative : Bool) (whole fraction : List ℕ) (mantissa : ℕ) → 0 < length whole + length fraction → length whole + length fraction ≤ 24
    → mantissa ≡ digits_value_after 10 (digits_value 10 whole) fraction
    → scaled_by unit negative whole fraction (Some (pos 0)) ≡ Ok (record { negative = negative; mantissa = mantissa; power = (pos 0 -ℤ pos (length fraction)) +ℤ pos (places_of unit) })
scaled_by_few unit negative whole fraction mantissa some few e =
    let has_digits : (length whole + length fraction == 0) ≡ false = grind (arith, nat_tests) in
    let has_few : nat_lt 24 (length whole + length fraction) ≡ false = grind (arith, nat_tests) in
    rw (has_digits, has_few, e, digits_value-append whole fraction) refl

-- ---- no more places than the unit make whole units

power_whole : (unit : Unit) (s : Short) → s.places ≤ places_of unit → (pos 0 -ℤ pos s.places) +ℤ pos (places_of unit) ≡ pos (places_of unit - s.places)
power_whole unit s few = omega (arith, ints)

pub units_of_whole : (snap : Snap) (unit : Unit) (s : Short) → s.places ≤ places_of unit
    → units_of snap unit (scaled_from unit s) ≡ or_out_of_range s.negative (in_range unit (s.mantissa * 10 ^ (places_of unit - s.places)))
unfolding is_whole nearest
units_of_whole Nearest unit s few = rw (power_whole unit s few) refl
units_of_whole Exact unit s few = rw (power_whole unit s few) refl

pub is_between_whole : (unit : Unit) (s : Short) → s.places ≤ places_of unit → is_between (scaled_from unit s) ≡ false
unfolding is_whole
is_between_whole unit s few = rw (power_whole unit s few) refl

-- ---- more places divide the digits

power_divided : (unit : Unit) (s : Short) → places_of unit < s.places
    → (pos 0 -ℤ pos s.places) +ℤ pos (places_of unit) ≡ negsuc (s.places - suc (places_of unit))
power_divided unit s low = omega (arith, ints)

pub units_of_divided : (snap : Snap) (unit : Unit) (s : Short) → places_of unit < s.places
    → units_of snap unit (scaled_from unit s)
    ≡ units_or_fault snap s.negative (not (s.mantissa % 10 ^ (s.places - places_of unit) == 0))
    (in_range unit ((2 * s.mantissa + 10 ^ (s.places - places_of unit)) / (2 * 10 ^ (s.places - places_of unit))))
unfolding is_whole nearest
units_of_divided snap unit s low =
    let exponent : suc (s.places - suc (places_of unit)) ≡ s.places - places_of unit = omega arith in
    rw (power_divided unit s low, exponent) refl

pub is_between_divided : (unit : Unit) (s : Short) → places_of unit < s.places
    → is_between (scaled_from unit s) ≡ not (s.mantissa % 10 ^ (s.places - places_of unit) == 0)
unfolding is_whole
is_between_divided unit s low =
    let exponent : suc (s.places - suc (places_of unit)) ≡ s.places - places_of unit = omega arith in
    rw (power_divided unit s low, exponent) refl
