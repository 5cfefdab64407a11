-- The canonical form: its two cases, and how many bytes it has.
use Rattle.std.proofs.Common.{◌≡◌, ℕ, ◌+◌, ◌≤◌, ◌^◌, suc, ◌∷◌, length, arith, false, refl, length-append}
use Rattle.std.specs.Prelude.{◌/◌, ℤ, pos, negsuc, int_lt, decimal}
use Rattle.std.proofs.lemmas.Bool.Decides.{nat_tests}
use Rattle.std.proofs.lemmas.Fmt.{length-decimal-le}
use Rattle.mill_base.specs.Numbers.{Within}
use Rattle.mill_base.specs.Units.{places_of, greatest_of}
use Rattle.mill_base.specs.declared.unit.Unit.{Unit}
use Rattle.mill_base.specs.declared.unit.Unit.TheVariants.{Hundredth, Thousandth}
use Rattle.mill_decimal.specs.Decimals.{last_digits, unsigned, canonical}
use Rattle.mill_decimal.proofs.DigitRuns.{length-last_digits}

not_negative : (n : ℕ) → int_lt (pos n) (pos 0) ≡ false
not_negative n = grind (arith, nat_tests)

pub canonical-pos : (unit : Unit) (n : ℕ) → canonical unit (pos n) ≡ unsigned unit n
unfolding canonical
canonical-pos unit n = rw (not_negative n) refl

pub canonical-negsuc : (unit : Unit) (n : ℕ) → canonical unit (negsuc n) ≡ 45 ∷ unsigned unit (suc n)
unfolding canonical
canonical-negsuc unit n = refl

-- whole millimetres, a point and places of a coordinate are at most seven bytes
millimetres_and_places : (unit : Unit) (n : ℕ) → n ≤ greatest_of unit → length (decimal (n / 10 ^ places_of unit)) + places_of unit ≤ 6
millimetres_and_places Hundredth n fits = omega (arith, length-decimal-le 4 (n / 100) (omega arith) (omega arith) (omega arith))
millimetres_and_places Thousandth n fits = omega (arith, length-decimal-le 3 (n / 1000) (omega arith) (omega arith) (omega arith))

length-unsigned : (unit : Unit) (n : ℕ) → n ≤ greatest_of unit → length (unsigned unit n) ≤ 7
length-unsigned unit n fits =
    omega (
      arith,
      length-append (decimal (n / 10 ^ places_of unit)) (46 ∷ last_digits (places_of unit) n),
      length-last_digits (places_of unit) n,
      millimetres_and_places unit n fits,
    )

-- with a sign they are at most eight
pub length-canonical : (unit : Unit) (z : ℤ) → Within (greatest_of unit) z → length (canonical unit z) ≤ 8
length-canonical unit (pos n) fits = rw (canonical-pos unit n) (omega (arith, length-unsigned unit n fits.within))
length-canonical unit (negsuc n) fits = rw (canonical-negsuc unit n) (omega (arith, length-unsigned unit (suc n) fits.within))
