-- The values of a word's number.
use Rattle.std.specs.Prelude.{ℕ, ℤ, pos, neg_ℤ, ◌*ℤ◌, int_le, ◌-◌, ◌*◌, ◌/◌, ◌%◌, ◌^◌, Option, Some, None, Result, Ok, Err, Bool, true, ◌&&◌, ◌==◌, nat_lt, nat_le, not, if◌then◌else◌}
use Rattle.mill_base.specs.declared.unit.Unit.{Unit}
use Rattle.mill_base.specs.Units.{places_of, greatest_of}
use Rattle.mill_words.specs.declared.word.Num.{Num}
use Rattle.mill_said.specs.declared.fault.NgcFault.{NgcFault}
use Rattle.mill_said.specs.declared.fault.NgcFault.TheVariants as fault

-- the whole number that a number is, if it is one and isn't less than 0
unfoldable pub whole_of : Num → Option ℕ
whole_of n =
    if not (n.mant % 10 ^ n.scale == 0) then None else
    (if n.neg && nat_lt 0 n.mant then None else Some (n.mant / 10 ^ n.scale))

-- a number is over 0
abbrev pub is_over_zero : Num → Bool
is_over_zero n = not n.neg && nat_lt 0 n.mant

-- no number but 0, or none
abbrev pub is_nought : Option Num → Bool
is_nought None = true
is_nought (Some n) = n.mant == 0

abbrev pub signed : Bool → ℕ → ℤ
signed neg n = if neg then neg_ℤ (pos n) else pos n

-- a number of millimetres, all of its digits taken, is at or over a height of so many units: both are compared in parts of a unit of 10^scale
abbrev pub is_at_or_over : Unit → ℤ → Num → Bool
is_at_or_over unit height n = int_le (height *ℤ pos (10 ^ n.scale)) (signed n.neg (n.mant * 10 ^ places_of unit))

-- no digit but 0 stands past the unit's places
abbrev pub is_on_grid : Unit → Num → Bool
is_on_grid unit n = if nat_le n.scale (places_of unit) then true else n.mant % 10 ^ (n.scale - places_of unit) == 0

-- the number's magnitude in units, without the digits past the unit's places
abbrev pub whole_units : Unit → Num → ℕ
whole_units unit n = if nat_le n.scale (places_of unit) then n.mant * 10 ^ (places_of unit - n.scale) else n.mant / 10 ^ (n.scale - places_of unit)

-- the units of an axis number, on this line
unfoldable pub axis_units : Unit → ℕ → Num → Result ℤ NgcFault
axis_units unit line n =
    if not (is_on_grid unit n) then Err (fault.OffGrid line) else
    (if nat_lt (greatest_of unit) (whole_units unit n) then Err (fault.OutOfRange line) else Ok (signed n.neg (whole_units unit n)))
