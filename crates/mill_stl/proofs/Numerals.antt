-- The canonical decimal of a coordinate as a word: no byte of it is white space, it isn't empty, and it is read without rounding.
use Rattle.std.proofs.Common.{◌≡◌, ℕ, ◌≤◌, ◌<◌, ◌^◌, suc, List, [], ◌∷◌, ◌++◌, length, Bool, true, false, Result, Ok, Err, refl, arith, length-append}
use Rattle.std.specs.Prelude.{◌/◌, ℤ, pos, negsuc, decimal, ⊤, if◌then◌else◌}
use Rattle.std.specs.Char.{digit_value}
use Rattle.std.specs.Str.Parse.{AllDigits, digits_value}
use Rattle.std.proofs.lemmas.Bool.Decides.{nat_tests}
use Rattle.std.proofs.lemmas.Fmt.{digits_decimal}
use Rattle.std.proofs.lemmas.Str.Parse.{IsNumeralModel, numerals_by_value, tells_digits}
use Rattle.mill_base.specs.Numbers.{Within}
use Rattle.mill_base.specs.Units.{places_of, greatest_of}
use Rattle.mill_base.specs.declared.unit.Unit.{Unit}
use Rattle.mill_decimal.specs.declared.fault.DecFault.{DecFault}
use Rattle.mill_decimal.specs.declared.fault.DecFault.TheVariants.{OffGrid}
use Rattle.mill_decimal.specs.declared.scaled.Scaled.{Scaled}
use Rattle.mill_decimal.specs.declared.snap.Snap.TheVariants.{Nearest, Exact}
use Rattle.mill_decimal.specs.Spelling.{scaled_of}
use Rattle.mill_decimal.specs.Decimals.{is_between, or_out_of_range, in_range, rounded, units_if_spelled, read_as, is_spelled_between, is_rounded, last_digits, unsigned, canonical}
use Rattle.mill_decimal.proofs.DigitRuns.{last_digits-all}
use Rattle.mill_decimal.proofs.Canonical.{canonical-pos, canonical-negsuc}
use Rattle.mill_decimal.proofs.RoundTrip.{millimetres-le, read_as-canonical}
use Rattle.mill_stl.specs.Parts.{is_space}

model : IsNumeralModel (AllDigits 10) (digits_value 10)
model = numerals_by_value (AllDigits 10) tells_digits

-- ---- the bytes

-- no byte is white space
abbrev pub NoSpace : List ℕ → Type 0
NoSpace [] = ⊤
NoSpace (b ∷ word) = (is_space b ≡ false) × NoSpace word

NoSpace-append : (xs ys : List ℕ) → NoSpace xs → NoSpace ys → NoSpace (xs ++ ys)
NoSpace-append [] ys none_x none_y = none_y
NoSpace-append (x ∷ xs) ys none_x none_y = (none_x.0, NoSpace-append xs ys none_x.1 none_y)

not_space : (d : ℕ) → digit_value d < 10 → is_space d ≡ false
not_space d h = grind (arith, nat_tests)

NoSpace-digits : (ds : List ℕ) → AllDigits 10 ds → NoSpace ds
NoSpace-digits [] all = tt
NoSpace-digits (d ∷ ds) all = (not_space d all.0, NoSpace-digits ds all.1)

NoSpace-unsigned : (unit : Unit) (n : ℕ) → n ≤ greatest_of unit → NoSpace (unsigned unit n)
NoSpace-unsigned unit n fits =
    NoSpace-append (decimal (n / 10 ^ places_of unit)) (46 ∷ last_digits (places_of unit) n)
    (NoSpace-digits (decimal (n / 10 ^ places_of unit)) (digits_decimal model (n / 10 ^ places_of unit) (omega (arith, millimetres-le unit n fits))))
    (refl, NoSpace-digits (last_digits (places_of unit) n) (last_digits-all (places_of unit) n))

pub NoSpace-canonical : (unit : Unit) (z : ℤ) → Within (greatest_of unit) z → NoSpace (canonical unit z)
NoSpace-canonical unit (pos n) fits = rw (canonical-pos unit n) (NoSpace-unsigned unit n fits.within)
NoSpace-canonical unit (negsuc n) fits = rw (canonical-negsuc unit n) (refl, NoSpace-unsigned unit (suc n) fits.within)

some_unsigned : (unit : Unit) (n : ℕ) → 0 < length (unsigned unit n)
some_unsigned unit n = omega (arith, length-append (decimal (n / 10 ^ places_of unit)) (46 ∷ last_digits (places_of unit) n))

pub some_canonical : (unit : Unit) (z : ℤ) → 0 < length (canonical unit z)
some_canonical unit (pos n) = rw (canonical-pos unit n) (some_unsigned unit n)
some_canonical unit (negsuc n) = rw (canonical-negsuc unit n) (omega (arith, some_unsigned unit (suc n)))

-- ---- no rounding

not_refused : (between : Bool) (units : Result ℤ DecFault) (z : ℤ) → (if between then Err OffGrid else units) ≡ Ok z → between ≡ false
not_refused true units z e = cc
not_refused false units z e = refl

-- what is read under Exact doesn't lie between two units
not_between : (unit : Unit) (z : ℤ) (s : Result Scaled DecFault) → units_if_spelled Exact unit s ≡ Ok z → is_spelled_between s ≡ false
not_between unit z (Err fault) e = refl
not_between unit z (Ok s) e = not_refused (is_between s) (or_out_of_range s.negative (in_range unit (rounded s))) z e

not_between-exact : (unit : Unit) (text : List ℕ) (z : ℤ) → read_as Exact unit text ≡ Ok z → is_spelled_between (scaled_of unit text) ≡ false
unfolding read_as
not_between-exact unit text z e = not_between unit z (scaled_of unit text) e

pub is_rounded-canonical : (unit : Unit) (z : ℤ) → Within (greatest_of unit) z → is_rounded unit (canonical unit z) ≡ false
unfolding is_rounded
is_rounded-canonical unit z fits =
    rw (read_as-canonical Nearest unit z fits, not_between-exact unit (canonical unit z) z (read_as-canonical Exact unit z fits)) refl
