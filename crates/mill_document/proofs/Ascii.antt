-- The text of a length is UTF-8.
use Rattle.std.proofs.Common.{ℕ, zero, suc, ◌+◌, ◌<◌, ◌^◌, ◌/◌, ◌%◌, ◌∷◌, List, arith}
use Rattle.std.proofs.lemmas.Fmt.{IsAscii-decimal}
use Rattle.std.proofs.lemmas.Str.{IsUtf8-from_ascii}
use Rattle.std.proofs.lemmas.Str.Ascii.{IsAscii-from_all}
use Rattle.std.proofs.lemmas.List.{get_or_default}
use Rattle.std.proofs.lemmas.List.Elements.{All-append, All-cons, All-nil}
use Rattle.std.proofs.lemmas.Int.{ints}
use Rattle.std.specs.Prelude.{All, ℤ, pos, negsuc, nat_abs, decimal, FitsSigned, IsUtf8}
use Rattle.std.specs.Int.{w32}
use Rattle.mill_base.specs.Units.{places_of}
use Rattle.mill_base.specs.declared.unit.Unit.{Unit}
use Rattle.mill_base.specs.declared.unit.Unit.TheVariants.{Hundredth, Thousandth}
use Rattle.mill_decimal.specs.Decimals.{canonical, last_digits, unsigned}
use Rattle.mill_decimal.proofs.Canonical.{canonical-pos, canonical-negsuc}

abbrev IsLow : List ℕ → Type 0
IsLow bytes = All (λ b. b < 128) bytes

low_last : (k n : ℕ) → IsLow (last_digits k n)
low_last zero n = All-nil (λ b. b < 128)
low_last (suc k) n = All-cons (λ b. b < 128) (48 + n / 10 ^ k % 10) (last_digits k n) (omega arith) (low_last k n)

low_decimal : (n : ℕ) → n < 2 ^ 64 → IsLow (decimal n)
low_decimal n fits = λ k d lt. rw (get_or_default (decimal n) k d 0 lt) (IsAscii-decimal n fits k)

few_millimetres : (unit : Unit) (n : ℕ) → n < 2 ^ 64 → n / 10 ^ places_of unit < 2 ^ 64
few_millimetres Hundredth n fits = omega arith
few_millimetres Thousandth n fits = omega arith

low_unsigned : (unit : Unit) (n : ℕ) → n < 2 ^ 64 → IsLow (unsigned unit n)
low_unsigned unit n fits =
    All-append (λ b. b < 128) (decimal (n / 10 ^ places_of unit)) (46 ∷ last_digits (places_of unit) n)
    (low_decimal (n / 10 ^ places_of unit) (few_millimetres unit n fits))
    (All-cons (λ b. b < 128) 46 (last_digits (places_of unit) n) (omega arith) (low_last (places_of unit) n))

low_canonical : (unit : Unit) (z : ℤ) → nat_abs z < 2 ^ 32 → IsLow (canonical unit z)
low_canonical unit (pos n) fits = rw (canonical-pos unit n) (low_unsigned unit n (omega arith))
low_canonical unit (negsuc n) fits =
    rw (canonical-negsuc unit n) (All-cons (λ b. b < 128) 45 (unsigned unit (suc n)) (omega arith) (low_unsigned unit (suc n) (omega arith)))

pub IsUtf8-canonical : (unit : Unit) (z : ℤ) → nat_abs z < 2 ^ 32 → IsUtf8 (canonical unit z)
IsUtf8-canonical unit z fits = IsUtf8-from_ascii (canonical unit z) (IsAscii-from_all (canonical unit z) (low_canonical unit z fits))

pub small_enough : (z : ℤ) → FitsSigned w32 z → nat_abs z < 2 ^ 32
small_enough z fits = omega (arith, ints)
