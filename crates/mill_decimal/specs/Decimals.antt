-- What a decimal text of millimetres means in a unit, and how a number of units is written.
use Rattle.std.specs.Prelude.{ℕ, zero, suc, ◌+◌, ◌*◌, ◌/◌, ◌%◌, ◌^◌, ◌==◌, nat_le, Bool, true, false, not, ◌&&◌, if◌then◌else◌, ℤ, pos, negsuc, nat_abs, int_lt, List, [], ◌∷◌, ◌++◌, Option, Some, None, Result, Ok, Err, is_ok, decimal}
use Rattle.mill_base.specs.declared.unit.Unit.{Unit}
use Rattle.mill_base.specs.Units.{places_of, greatest_of}
use Rattle.mill_decimal.specs.Spelling.{signed, scaled_of}
use Rattle.mill_decimal.specs.declared.snap.Snap.{Snap}
use Rattle.mill_decimal.specs.declared.snap.Snap.TheVariants.{Nearest, Exact}
use Rattle.mill_decimal.specs.declared.fault.DecFault.{DecFault}
use Rattle.mill_decimal.specs.declared.fault.DecFault.TheVariants.{OffGrid, OutOfRange}
use Rattle.mill_decimal.specs.declared.scaled.Scaled.{Scaled}

-- ---- the units

-- m times ten to a power, rounded to the nearest whole number, halves up
unfoldable pub nearest : ℕ → ℤ → ℕ
nearest m (pos n) = m * 10 ^ n
nearest m (negsuc n) = (2 * m + 10 ^ suc n) / (2 * 10 ^ suc n)

-- m times ten to a power is a whole number
unfoldable pub is_whole : ℕ → ℤ → Bool
is_whole m (pos n) = true
is_whole m (negsuc n) = m % 10 ^ suc n == 0

-- the units aren't whole
abbrev pub is_between : Scaled → Bool
is_between s = not (is_whole s.mantissa s.power)

-- units that aren't whole are refused under Exact
abbrev pub is_refused : Snap → Bool → Bool
is_refused Nearest between = false
is_refused Exact between = between

-- the units rounded to the nearest whole number, ties away from zero, without their sign
abbrev pub rounded : Scaled → ℕ
rounded s = nearest s.mantissa s.power

-- a number of units, if it is in range
abbrev pub in_range : Unit → ℕ → Option ℕ
in_range unit n = if nat_le n (greatest_of unit) then Some n else None

-- units with their sign, where they are in range
abbrev pub or_out_of_range : Bool → Option ℕ → Result ℤ DecFault
or_out_of_range negative None = Err OutOfRange
or_out_of_range negative (Some n) = Ok (signed negative n)

-- units without their sign, if they are in range, or the refusal of them, where the exact ones lie between or don't
abbrev pub units_or_fault : Snap → Bool → Bool → Option ℕ → Result ℤ DecFault
units_or_fault snap negative between units = if is_refused snap between then Err OffGrid else or_out_of_range negative units

-- the refusals of a text that is spelled well, in their order, and else its units
abbrev pub units_of : Snap → Unit → Scaled → Result ℤ DecFault
units_of snap unit s = if is_refused snap (is_between s) then Err OffGrid else or_out_of_range s.negative (in_range unit (rounded s))

-- the same, of a text that is spelled well or not
abbrev pub units_if_spelled : Snap → Unit → Result Scaled DecFault → Result ℤ DecFault
units_if_spelled snap unit (Err fault) = Err fault
units_if_spelled snap unit (Ok s) = units_of snap unit s

-- what a decimal text means: its units, or the first fault
unfoldable pub read_as : Snap → Unit → List ℕ → Result ℤ DecFault
read_as snap unit text = units_if_spelled snap unit (scaled_of unit text)

-- the text is spelled well, and its units aren't whole
abbrev pub is_spelled_between : Result Scaled DecFault → Bool
is_spelled_between (Err fault) = false
is_spelled_between (Ok s) = is_between s

-- the text reads under Nearest, and its units aren't whole
unfoldable pub is_rounded : Unit → List ℕ → Bool
is_rounded unit text = is_ok (read_as Nearest unit text) && is_spelled_between (scaled_of unit text)

-- ---- the canonical form; 45 is `-`, 46 is the point, 48 is `0`

-- so many of a number's last digits, zeros too
abbrev pub last_digits : ℕ → ℕ → List ℕ
last_digits zero n = []
last_digits (suc k) n = (48 + n / 10 ^ k % 10) ∷ last_digits k n

-- the whole millimetres of so many units, without leading zeros, a point, and as many digits as the unit has places
abbrev pub unsigned : Unit → ℕ → List ℕ
unsigned unit n = decimal (n / 10 ^ places_of unit) ++ 46 ∷ last_digits (places_of unit) n

-- the same behind `-` where the number is negative
unfoldable pub canonical : Unit → ℤ → List ℕ
canonical unit z = (if int_lt z (pos 0) then 45 ∷ [] else []) ++ unsigned unit (nat_abs z)
