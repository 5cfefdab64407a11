-- Numbers rounded to whole units, as a control's reader rounds them.
use Rattle.std.specs.Prelude.{◌≡◌, ℕ, suc, ◌+◌, ◌-◌, ◌*◌, ◌/◌, ◌^◌, ℤ, pos, negsuc, neg_ℤ, nat_abs, ◌+ℤ◌, ◌*ℤ◌}
use Rattle.mill_base.specs.declared.unit.Unit.{Unit}
use Rattle.mill_arc.specs.Arcs.{nanometres_of}

-- a/n rounded to the nearest whole number, halves up; n is at least 1
abbrev pub nearest_up : ℕ → ℕ → ℕ
nearest_up a n = (2 * a + n) / (2 * n)

-- z/n rounded to the nearest whole number, halves away from zero
unfoldable pub nearest : ℤ → ℕ → ℤ
nearest (pos a) n = pos (nearest_up a n)
nearest (negsuc a) n = neg_ℤ (pos (nearest_up (suc a) n))

-- where a coordinate of a node of an arc is, in units; both are in nanometres
abbrev pub place_of : Unit → ℤ → ℤ → ℤ
place_of unit centre node = nearest (centre +ℤ node) (nat_abs (nanometres_of unit))

-- the height, times 2^depth and in nanometres, of the part of the way between two heights
abbrev pub height_at : ℤ → ℤ → ℕ → ℕ → ℤ
height_at from to part depth = from *ℤ pos (2 ^ depth - part) +ℤ to *ℤ pos part

-- the same in units
abbrev pub height_of : Unit → ℤ → ℤ → ℕ → ℕ → ℤ
height_of unit from to part depth = nearest (height_at from to part depth) (2 ^ depth * nat_abs (nanometres_of unit))

-- at the end of the turn the height is that of the end, rounded
abbrev pub LastHeightIsEnd : Type 0
LastHeightIsEnd = (unit : Unit) (from to : ℤ) (depth : ℕ) → height_of unit from to (2 ^ depth) depth ≡ nearest to (nat_abs (nanometres_of unit))
