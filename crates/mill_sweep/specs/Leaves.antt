-- The leaf (d, k) of a move is its moments from k/2^d to (k+1)/2^d.
use Rattle.std.specs.Prelude.{ℕ, ◌+◌, ◌*◌, ◌^◌, max, nat_le, nat_abs, ℤ, pos, ◌+ℤ◌, ◌-ℤ◌, ◌*ℤ◌, ◌≤ℤ◌, ◌<ℤ◌, ◌&&◌}
use Rattle.std.specs.Int.{div_ceil}
use Rattle.mill_base.specs.Numbers.{floor_div, round_half_up, least_from, ceil_root_of, lesser}
use Rattle.mill_base.specs.Points.{point_at}
use Rattle.mill_base.specs.Sizes.{shift}
use Rattle.mill_base.specs.declared.points.Pt3.{Pt3}
use Rattle.mill_base.specs.declared.motion.Move.{Move}
use Rattle.mill_base.specs.declared.cutter.Cutter.{Cutter}
use Rattle.mill_sweep.specs.declared.leaf.Span.{Span}

-- a move's length along each axis
abbrev pub length_x : Move → ℕ
length_x m = nat_abs (m.to.x -ℤ m.from.x)

abbrev pub length_y : Move → ℕ
length_y m = nat_abs (m.to.y -ℤ m.from.y)

abbrev pub length_z : Move → ℕ
length_z m = nat_abs (m.to.z -ℤ m.from.z)

-- the least d, up to 64, with a length of at most 2^d along each axis
abbrev pub depth_of : Move → ℕ
depth_of m = least_from (λ d. nat_le (length_x m) (2 ^ d) && nat_le (length_y m) (2 ^ d) && nat_le (length_z m) (2 ^ d)) 64 0

-- one coordinate of the tip at k/2^d, over the denominator 2^d
abbrev pub end_of : ℤ → ℤ → ℕ → ℕ → ℤ
end_of from to d k = (pos (2 ^ d) -ℤ pos k) *ℤ from +ℤ pos k *ℤ to

-- the mean of a leaf's two ends along one axis, rounded to the nearest whole number, halves up
abbrev pub middle_of : ℤ → ℤ → ℕ → ℕ → ℤ
middle_of from to d k = round_half_up (end_of from to d k +ℤ end_of from to d (k + 1)) (2 ^ (d + 1))

-- the distance of the farther end from the middle along one axis, rounded up
abbrev pub farther_of : ℤ → ℤ → ℕ → ℕ → ℕ
farther_of from to d k = div_ceil (max (nat_abs (end_of from to d k -ℤ pos (2 ^ d) *ℤ middle_of from to d k)) (nat_abs (end_of from to d (k + 1) -ℤ pos (2 ^ d) *ℤ middle_of from to d k))) (2 ^ d)

-- the lower end along one axis, rounded down
abbrev pub lower_of : ℤ → ℤ → ℕ → ℕ → ℤ
lower_of from to d k = floor_div (lesser (end_of from to d k) (end_of from to d (k + 1))) (2 ^ d)

-- the least whole number whose square is at least ex*ex + ey*ey
abbrev pub diagonal_of : ℕ → ℕ → ℕ
diagonal_of ex ey = ceil_root_of (ex * ex + ey * ey)

-- how far, rounded up, the tip comes from the leaf's middle in x and y
abbrev pub reach_of : Move → ℕ → ℕ → ℕ
reach_of m d k = diagonal_of (farther_of m.from.x m.to.x d k) (farther_of m.from.y m.to.y d k)

-- the lower end's height, rounded down
abbrev pub zlow_of : Move → ℕ → ℕ → ℤ
zlow_of m d k = lower_of m.from.z m.to.z d k

-- all of them together
abbrev pub span_of : Move → ℕ → ℕ → Span
span_of m d k = record { x = middle_of m.from.x m.to.x d k; y = middle_of m.from.y m.to.y d k; reach = pos (reach_of m d k); zlow = zlow_of m d k }

-- where the outer cutter of a span stands: at its middle, at zlow, lowered by the cutter's shift
abbrev pub outer_tip : Cutter → Span → Pt3
outer_tip cutter s = point_at s.x s.y (s.zlow -ℤ shift cutter s.reach)

-- the moment k/n is one of the leaf (d, j)
pub record IsMomentOf (d j : ℕ) (k n : ℤ) : Type 0 where
  pub some : (pos 0) <ℤ n
  pub after : (pos j *ℤ n) ≤ℤ (k *ℤ pos (2 ^ d))
  pub before : (k *ℤ pos (2 ^ d)) ≤ℤ (pos (j + 1) *ℤ n)
