-- How near a rounded number is.
use Rattle.std.specs.Prelude.{ℕ, ◌*◌, ◌^◌, ◌≤◌, pos, nat_abs, ◌-ℤ◌, ◌*ℤ◌}
use Rattle.mill_words.specs.declared.word.Num.{Num}
use Rattle.mill_control.specs.Lengths.{rounded, signed}

-- a rounded number of lengths is within half a unit of the number itself, whatever the unit
abbrev pub RoundedIsNear : Type 0
RoundedIsNear = (n : Num) (per : ℕ) → 2 * nat_abs (rounded per n *ℤ pos (10 ^ n.scale) -ℤ signed n.neg (n.mant * per)) ≤ 10 ^ n.scale
