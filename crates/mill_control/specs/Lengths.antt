-- What a program's number is in units of the grid.
use Rattle.std.specs.Prelude.{ℕ, ℤ, pos, negsuc, neg_ℤ, nat_abs, ◌+◌, ◌-◌, ◌*◌, ◌/◌, ◌%◌, ◌^◌, ◌==◌, Bool, true, false, if◌then◌else◌}
use Rattle.mill_base.specs.declared.unit.Unit.{Unit}
use Rattle.mill_base.specs.Units.{places_of}
use Rattle.mill_words.specs.declared.word.Num.{Num}
use Rattle.mill_control.specs.declared.lengths.LengthUnit.{LengthUnit}
use Rattle.mill_control.specs.declared.lengths.LengthUnit.TheVariants.{Millimetres, Inches}

-- so many units of the grid is a length of 1: an inch is 25.4 mm
abbrev pub per : LengthUnit → Unit → ℕ
per Millimetres unit = 10 ^ places_of unit
per Inches unit = 254 * 10 ^ (places_of unit - 1)

abbrev pub signed : Bool → ℕ → ℤ
signed neg n = if neg then neg_ℤ (pos n) else pos n

-- a/n rounded to the nearest whole number, halves up; n is at least 1
abbrev pub nearest : ℕ → ℕ → ℕ
nearest a n = (2 * a + n) / (2 * n)

-- a number of lengths in units, rounded to the nearest, halves away from zero
unfoldable pub rounded : ℕ → Num → ℤ
rounded per n = signed n.neg (nearest (n.mant * per) (10 ^ n.scale))

-- it is a whole number of units
unfoldable pub is_whole : ℕ → Num → Bool
is_whole per n = (n.mant * per) % 10 ^ n.scale == 0

-- a number that has at most 18 decimals, in parts of 10^18
abbrev pub exact : Num → ℤ
exact n = signed n.neg (n.mant * 10 ^ (18 - n.scale))

abbrev pub is_below_zero : ℤ → Bool
is_below_zero (pos n) = false
is_below_zero (negsuc n) = true

-- so many parts of 10^18 of lengths in units, rounded in the same way
unfoldable pub rounded_parts : ℕ → ℤ → ℤ
rounded_parts per parts = signed (is_below_zero parts) (nearest (nat_abs parts * per) (10 ^ 18))
