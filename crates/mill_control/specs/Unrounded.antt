-- A program's own numbers, before they are rounded: in parts of 10^18 of a unit, in which each of them is whole.
use Rattle.std.specs.Prelude.{ℕ, ℤ, pos, nat_abs, ◌/◌, ◌%◌, ◌^◌, ◌==◌, ◌+ℤ◌, ◌-ℤ◌, ◌*ℤ◌, Bool}
use Rattle.mill_base.specs.declared.unit.Unit.{Unit}
use Rattle.mill_base.specs.declared.unit.Unit.TheVariants.{Hundredth, Thousandth}
use Rattle.mill_words.specs.declared.word.Num.{Num}
use Rattle.mill_control.specs.declared.unrounded.Coordinate.{Coordinate}
use Rattle.mill_control.specs.Lengths.{exact, is_below_zero, rounded, signed}

-- so many parts has a unit
abbrev pub parts : ℤ
parts = pos (10 ^ 18)

-- a number of lengths, in parts of a unit
abbrev pub text_units : ℕ → Num → ℤ
text_units per n = exact n *ℤ pos per

-- what it has beside its rounded units
abbrev pub finer : ℕ → Num → ℤ
finer per n = text_units per n -ℤ (parts *ℤ rounded per n)

-- a coordinate, in parts of a unit
abbrev pub text_of : Coordinate → ℤ
text_of c = (parts *ℤ c.units) +ℤ c.finer

-- ---- nanometres

-- so many parts is one of them
abbrev pub nano_parts : Unit → ℕ
nano_parts Hundredth = 10 ^ 14
nano_parts Thousandth = 10 ^ 15

-- so many of them has a unit
abbrev pub nano_units : Unit → ℕ
nano_units Hundredth = 10 ^ 4
nano_units Thousandth = 10 ^ 3

-- so many parts are a whole number of them
abbrev pub is_nano : Unit → ℤ → Bool
is_nano unit t = nat_abs t % nano_parts unit == 0

-- so many parts in nanometres
abbrev pub nano_of : Unit → ℤ → ℤ
nano_of unit t = signed (is_below_zero t) (nat_abs t / nano_parts unit)
