-- The canonical decimal of a coordinate: what its bytes are not, and what number it spells.
use Rattle.std.proofs.Common.{◌≡◌, ℕ, ◌≤◌, ◌<◌, ◌^◌, suc, List, [], ◌∷◌, arith, false, refl}
use Rattle.std.specs.Prelude.{◌/◌, ◌==◌, ℤ, pos, negsuc, nat_abs, int_lt, decimal, Some}
use Rattle.std.specs.Char.{digit_value}
use Rattle.std.specs.Str.Parse.{AllDigits, digits_value}
use Rattle.std.proofs.lemmas.Bool.Decides.{nat_tests}
use Rattle.std.proofs.lemmas.Fmt.{digits_decimal, decimal_nonempty, length-decimal-le}
use Rattle.std.proofs.lemmas.Str.Parse.{IsNumeralModel, numerals_by_value, tells_digits}
use Rattle.mill_base.specs.Numbers.{Within}
use Rattle.mill_base.specs.Units.{places_of, greatest_of}
use Rattle.mill_base.specs.declared.unit.Unit.{Unit}
use Rattle.mill_decimal.specs.Decimals.{last_digits, unsigned, canonical}
use Rattle.mill_decimal.proofs.DigitRuns.{length-last_digits, last_digits-all}
use Rattle.mill_decimal.proofs.Canonical.{canonical-pos, canonical-negsuc}
use Rattle.mill_decimal.proofs.RoundTrip.{millimetres-le, places_of-le, value-unsigned}
use Rattle.mill_words.proofs.Spelled.{Spelled, IsSpelled, word_of}
use Rattle.mill_ngc.proofs.MoveLines.{units_num}
use Rattle.mill_ngc.proofs.Cutting.{NoFeed, NoFeed-append}

pub model : IsNumeralModel (AllDigits 10) (digits_value 10)
model = numerals_by_value (AllDigits 10) tells_digits

-- ---- the bytes

not_feed : (d : ℕ) → digit_value d < 10 → (d == 10) ≡ false
not_feed d h = grind (arith, nat_tests)

NoFeed-digits : (ds : List ℕ) → AllDigits 10 ds → NoFeed ds
NoFeed-digits [] all = tt
NoFeed-digits (d ∷ ds) all = (not_feed d all.0, NoFeed-digits ds all.1)

-- the whole millimetres are written in digits
whole_digits : (unit : Unit) (n : ℕ) → n ≤ greatest_of unit → AllDigits 10 (decimal (n / 10 ^ places_of unit))
whole_digits unit n fits = digits_decimal model (n / 10 ^ places_of unit) (omega (arith, millimetres-le unit n fits))

NoFeed-unsigned : (unit : Unit) (n : ℕ) → n ≤ greatest_of unit → NoFeed (unsigned unit n)
NoFeed-unsigned unit n fits =
    NoFeed-append (decimal (n / 10 ^ places_of unit)) (46 ∷ last_digits (places_of unit) n)
    (NoFeed-digits (decimal (n / 10 ^ places_of unit)) (whole_digits unit n fits))
    (refl, NoFeed-digits (last_digits (places_of unit) n) (last_digits-all (places_of unit) n))

pub NoFeed-canonical : (unit : Unit) (z : ℤ) → Within (greatest_of unit) z → NoFeed (canonical unit z)
NoFeed-canonical unit (pos n) fits = rw (canonical-pos unit n) (NoFeed-unsigned unit n fits.within)
NoFeed-canonical unit (negsuc n) fits = rw (canonical-negsuc unit n) (refl, NoFeed-unsigned unit (suc n) fits.within)

-- ---- the number

-- the word of an axis, as it is spelled
abbrev pub axis_spelled : Unit → ℕ → ℤ → Spelled
axis_spelled unit letter z = record {
  letter = letter;
  neg = int_lt z (pos 0);
  whole = decimal (nat_abs z / 10 ^ places_of unit);
  part = Some (last_digits (places_of unit) (nat_abs z));
}

-- its digits stand for all the units, and as many stand behind the point as the unit has places
pub word_of-axis : (unit : Unit) (letter : ℕ) (z : ℤ) → Within (greatest_of unit) z
    → word_of (axis_spelled unit letter z) ≡ record { letter = letter; num = units_num unit z }
word_of-axis unit letter z fits = rw (value-unsigned unit (nat_abs z) fits.within, length-last_digits (places_of unit) (nat_abs z)) refl

pub IsSpelled-axis : (unit : Unit) (letter : ℕ) (z : ℤ) → 65 ≤ letter → letter ≤ 90 → (letter == 78) ≡ false → Within (greatest_of unit) z
    → IsSpelled (axis_spelled unit letter z)
IsSpelled-axis unit letter z least most other fits =
    let small = millimetres-le unit (nat_abs z) fits.within in
    let whole = decimal (nat_abs z / 10 ^ places_of unit) in
    let some = decimal_nonempty (nat_abs z / 10 ^ places_of unit) (omega arith) in
    let few = length-decimal-le 4 (nat_abs z / 10 ^ places_of unit) (omega arith) (omega arith) (omega arith) in
    let places = length-last_digits (places_of unit) (nat_abs z) in
    let few_places = places_of-le unit in
    record {
      least = least;
      most = most;
      no_line_number = other;
      whole = whole_digits unit (nat_abs z) fits.within;
      part = last_digits-all (places_of unit) (nat_abs z);
      some = omega arith;
      few = omega arith;
    }
