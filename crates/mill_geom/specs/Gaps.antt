-- How far the points of a triangle are at least from the vertical axis through the origin, and how high they are at most, by the box of its corners.
use Rattle.std.specs.Prelude.{ℤ, pos, ◌+ℤ◌, ◌-ℤ◌, ◌*ℤ◌, ◌≤ℤ◌}
use Rattle.mill_base.specs.Numbers.{square, lesser, greater}
use Rattle.mill_base.specs.Cutters.{apart}
use Rattle.mill_geom.specs.declared.offset.Offset.{Offset}
use Rattle.mill_geom.specs.Offsets.{mean3}

-- how far 0 is from the numbers between the least and the greatest of three; 0 where it is one of them
abbrev pub gap_of : ℤ → ℤ → ℤ → ℤ
gap_of a b c = greater (greater (lesser a (lesser b c)) (pos 0 -ℤ greater a (greater b c))) (pos 0)

-- the square of the axis's distance in x and y from the upright box of three offsets
abbrev pub box_gap_of : Offset → Offset → Offset → ℤ
box_gap_of a b c = square (gap_of a.x b.x c.x) +ℤ square (gap_of a.y b.y c.y)

-- the greatest of the heights of three offsets
abbrev pub highest_of : Offset → Offset → Offset → ℤ
highest_of a b c = greater a.z (greater b.z c.z)

-- of each point of the triangle the square of the distance from the axis is at least gap
abbrev pub AllApart : ℤ → Offset → Offset → Offset → Type 0
AllApart gap a b c = (u v w : ℤ) → (pos 0) ≤ℤ u → (pos 0) ≤ℤ v → (pos 0) ≤ℤ w → (gap *ℤ square ((u +ℤ v) +ℤ w)) ≤ℤ apart (mean3 u v w a b c)

-- no point of the triangle is higher than top
abbrev pub AllUpTo : ℤ → Offset → Offset → Offset → Type 0
AllUpTo top a b c = (u v w : ℤ) → (pos 0) ≤ℤ u → (pos 0) ≤ℤ v → (pos 0) ≤ℤ w → (mean3 u v w a b c).z ≤ℤ (top *ℤ ((u +ℤ v) +ℤ w))
