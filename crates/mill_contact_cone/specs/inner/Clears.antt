-- The numbers that show cheaply that no point of a triangle is inside a cone cutter, or that a corner is.
use Rattle.std.specs.Prelude.{ℤ, pos, ◌+ℤ◌, ◌*ℤ◌, ◌<ℤ◌}
use Rattle.mill_base.specs.Numbers.{square}
use Rattle.mill_contact_cone.specs.declared.corner.Cone.{Cone}
use Rattle.mill_contact_cone.specs.declared.corner.Corner.{Corner}

-- the square of the corner's distance from the axis
abbrev pub apart_of : Corner → ℤ
apart_of p = square p.x +ℤ square p.y

-- a square of a distance from the axis times that of the rise
abbrev pub across_of : Cone → ℤ → ℤ
across_of k gap = (k.rise *ℤ k.rise) *ℤ gap

-- the square of a height times that of the run: a point over the tip is over the wall where the square of its distance from the axis, times that of the rise, is less
abbrev pub upward_of : Cone → ℤ → ℤ
upward_of k z = (k.run *ℤ k.run) *ℤ (z *ℤ z)

-- the corner is strictly inside the cone cutter
pub record HoldsCorner (k : Cone) (p : Corner) : Type 0 where
  pub over : (pos 0) <ℤ p.z
  pub near : apart_of p <ℤ (k.radius *ℤ k.radius)
  pub steep : across_of k (apart_of p) <ℤ upward_of k p.z

-- no corner is strictly inside the cone cutter
pub record HoldsNone (k : Cone) (a b c : Corner) : Type 0 where
  pub a_out : ¬ HoldsCorner k a
  pub b_out : ¬ HoldsCorner k b
  pub c_out : ¬ HoldsCorner k c
