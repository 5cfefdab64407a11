-- Points of segments and triangles strictly inside a cone cutter with its tip at the origin.
use Rattle.std.specs.Prelude.{◌≡◌, ℤ, pos, ◌+ℤ◌, ◌-ℤ◌, ◌*ℤ◌, ◌<ℤ◌, ◌≤ℤ◌}
use Rattle.mill_base.specs.Numbers.{Within, square}
use Rattle.mill_base.specs.Cutters.{InCone, apart}
use Rattle.mill_base.specs.Sizes.{HasRadius, IsSlope}
use Rattle.mill_base.specs.declared.limits.TheConstants.{MAX_WIDE_RADIUS}
use Rattle.mill_base.specs.declared.cutter.Cutter.{Cutter}
use Rattle.mill_base.specs.declared.cutter.Cutter.TheVariants.{Flat, Ball, Cone as ConeCutter}
use Rattle.mill_geom.specs.declared.offset.Offset.{Offset}
use Rattle.mill_geom.specs.Offsets.{mean2, mean3}
use Rattle.mill_geom.specs.Widths.{farthest, most_lift}
use Rattle.mill_contact_cone.specs.declared.corner.Cone.{Cone}
use Rattle.mill_contact_cone.specs.declared.corner.Corner.{Corner}

-- the cutter is a cone
abbrev pub IsConical : Cutter → Type 0
IsConical (Flat r) = ⊥
IsConical (Ball r) = ⊥
IsConical (ConeCutter r a b) = Unit {0}

-- the radius and the slope are in the ranges of a contact test
pub record IsCone (k : Cone) : Type 0 where
  pub radius_ok : HasRadius k.radius MAX_WIDE_RADIUS
  pub slope_ok : IsSlope k.rise k.run

-- run*z - rise*radius: not negative from the height of the rim on, at which the cone reaches its radius
abbrev pub over_of : Cone → ℤ → ℤ
over_of k z = k.run *ℤ z -ℤ k.rise *ℤ k.radius

-- the corner's last number is that of its height
abbrev pub IsCornerOf : Cone → Corner → Type 0
IsCornerOf k p = p.over ≡ over_of k p.z

-- x, y and z are within the greatest magnitude of an offset
pub record CornerInRange (p : Corner) : Type 0 where
  pub x_ok : Within farthest p.x
  pub y_ok : Within farthest p.y
  pub z_ok : Within farthest p.z
  pub over_ok : Within most_lift p.over

-- the corner as an offset from the tip
abbrev pub plain : Corner → Offset
plain p = record { x = p.x; y = p.y; z = p.z }

-- the corner as an offset with its last number for its height
abbrev pub lifted : Corner → Offset
lifted p = record { x = p.x; y = p.y; z = p.over }

-- some point of the segment from p to q is strictly inside the cone cutter
pub record TouchesEdge (k : Cone) (p q : Corner) : Type 0 where
  pub u : ℤ
  pub v : ℤ
  pub u_ok : (pos 0) ≤ℤ u
  pub v_ok : (pos 0) ≤ℤ v
  pub some : (pos 0) <ℤ (u +ℤ v)
  pub inside : InCone k.radius k.rise k.run (u +ℤ v) (mean2 u v (plain p) (plain q))

-- some point of the triangle is strictly inside the cone cutter
pub record TouchesCone (k : Cone) (a b c : Corner) : Type 0 where
  pub u : ℤ
  pub v : ℤ
  pub w : ℤ
  pub u_ok : (pos 0) ≤ℤ u
  pub v_ok : (pos 0) ≤ℤ v
  pub w_ok : (pos 0) ≤ℤ w
  pub some : (pos 0) <ℤ ((u +ℤ v) +ℤ w)
  pub inside : InCone k.radius k.rise k.run ((u +ℤ v) +ℤ w) (mean3 u v w (plain a) (plain b) (plain c))

-- some point of the segment, at or over the height of the rim, is nearer to the axis than the radius
pub record HitsUpper (k : Cone) (p q : Corner) : Type 0 where
  pub u : ℤ
  pub v : ℤ
  pub u_ok : (pos 0) ≤ℤ u
  pub v_ok : (pos 0) ≤ℤ v
  pub near : apart (mean2 u v (plain p) (plain q)) <ℤ (square k.radius *ℤ square (u +ℤ v))
  pub level : (pos 0) ≤ℤ (u *ℤ p.over +ℤ v *ℤ q.over)

-- some point of the segment, at or under the height of the rim, is over the cone
pub record HitsLower (k : Cone) (p q : Corner) : Type 0 where
  pub u : ℤ
  pub v : ℤ
  pub u_ok : (pos 0) ≤ℤ u
  pub v_ok : (pos 0) ≤ℤ v
  pub steep : (square k.rise *ℤ apart (mean2 u v (plain p) (plain q))) <ℤ (square k.run *ℤ square (mean2 u v (plain p) (plain q)).z)
  pub height : (pos 0) ≤ℤ (mean2 u v (plain p) (plain q)).z
  pub level : (u *ℤ p.over +ℤ v *ℤ q.over) ≤ℤ pos 0

-- no edge has a point strictly inside the cone cutter
pub record EdgesFree (k : Cone) (a b c : Corner) : Type 0 where
  pub ab : ¬ TouchesEdge k a b
  pub bc : ¬ TouchesEdge k b c
  pub ca : ¬ TouchesEdge k c a
