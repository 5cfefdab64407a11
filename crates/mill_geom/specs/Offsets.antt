-- Offsets of a triangle's corners from a centre, and their weighted sums.
use Rattle.std.specs.Prelude.{◌≡◌, ℤ, pos, ◌+ℤ◌, ◌-ℤ◌, ◌*ℤ◌, ◌≤ℤ◌}
use Rattle.mill_base.specs.Numbers.{Within}
use Rattle.mill_base.specs.declared.limits.TheConstants.{MAX_COORDINATE, LOWEST_TIP}
use Rattle.mill_base.specs.declared.points.Pt3.{Pt3}
use Rattle.mill_geom.specs.Widths.{farthest, most_lift}
use Rattle.mill_geom.specs.declared.offset.Offset.{Offset}

-- each coordinate of the offset is within the greatest magnitude of one
pub record OffsetInRange (p : Offset) : Type 0 where
  pub x_ok : Within farthest p.x
  pub y_ok : Within farthest p.y
  pub z_ok : Within farthest p.z

-- x and y of the offset are within the greatest magnitude of a coordinate; its height may be any
pub record PlanInRange (p : Offset) : Type 0 where
  pub x_ok : Within farthest p.x
  pub y_ok : Within farthest p.y

-- x and y of the offset are within the greatest magnitude of a coordinate, and its height within that of a scaled one
pub record LiftedInRange (p : Offset) : Type 0 where
  pub x_ok : Within farthest p.x
  pub y_ok : Within farthest p.y
  pub z_ok : Within most_lift p.z

-- the weighted sum u*p + v*q of two offsets, and u*a + v*b + w*c of three
abbrev pub mean2 : ℤ → ℤ → Offset → Offset → Pt3
mean2 u v p q = record { x = u *ℤ p.x +ℤ v *ℤ q.x; y = u *ℤ p.y +ℤ v *ℤ q.y; z = u *ℤ p.z +ℤ v *ℤ q.z }

abbrev pub mean3 : ℤ → ℤ → ℤ → Offset → Offset → Offset → Pt3
mean3 u v w a b c = record {
  x = (u *ℤ a.x +ℤ v *ℤ b.x) +ℤ w *ℤ c.x;
  y = (u *ℤ a.y +ℤ v *ℤ b.y) +ℤ w *ℤ c.y;
  z = (u *ℤ a.z +ℤ v *ℤ b.z) +ℤ w *ℤ c.z;
}

-- the offset of a point from a centre
pub record IsOffset (d : Offset) (point centre : Pt3) : Type 0 where
  pub x_is : d.x ≡ point.x -ℤ centre.x
  pub y_is : d.y ≡ point.y -ℤ centre.y
  pub z_is : d.z ≡ point.z -ℤ centre.z

-- three numbers are all at least a bound, or all at most
pub record AllFrom (bound a b c : ℤ) : Type 0 where
  pub first : bound ≤ℤ a
  pub second : bound ≤ℤ b
  pub third : bound ≤ℤ c

pub record AllTo (bound a b c : ℤ) : Type 0 where
  pub first : a ≤ℤ bound
  pub second : b ≤ℤ bound
  pub third : c ≤ℤ bound

-- each coordinate of the centre is one that calls take, save that its height may go down to the lowest tip
pub record IsCentre (p : Pt3) : Type 0 where
  pub x_ok : Within MAX_COORDINATE p.x
  pub y_ok : Within MAX_COORDINATE p.y
  pub z_from : LOWEST_TIP ≤ℤ p.z
  pub z_to : p.z ≤ℤ pos MAX_COORDINATE
