-- Corners of a triangle for other positions of the tip along x, and as the cutter sees them along x.
use Rattle.std.specs.Prelude.{◌⊎◌, ℤ, pos, ◌+ℤ◌, ◌-ℤ◌, ◌*ℤ◌, ◌<ℤ◌, ◌≤ℤ◌}
use Rattle.mill_base.specs.declared.points.Pt3.{Pt3}
use Rattle.mill_geom.specs.declared.touch.Axis.{Axis}
use Rattle.mill_geom.specs.declared.touch.Axis.TheVariants.{X, Y}
use Rattle.mill_geom.specs.Offsets.{IsOffset}
use Rattle.mill_geom.specs.declared.touch.Side.{Side}
use Rattle.mill_geom.specs.declared.touch.Side.TheVariants.{Less, More, Never}
use Rattle.mill_contact_cone.specs.declared.corner.Cone.{Cone}
use Rattle.mill_contact_cone.specs.declared.corner.Corner.{Corner}
use Rattle.mill_contact_cone.specs.Cones.{TouchesEdge, TouchesCone}

-- the corner is the offset of a point from the tip, with the axis for x
abbrev pub IsAlong : Axis → Corner → Pt3 → Pt3 → Type 0
IsAlong X d p tip = IsOffset (record { x = d.x; y = d.y; z = d.z }) p tip
IsAlong Y d p tip = IsOffset (record { x = d.y; y = d.x; z = d.z }) p tip

-- the corner from a tip that is t further along x
abbrev pub slid : ℤ → Corner → Corner
slid t p = record { x = p.x -ℤ t; y = p.y; z = p.z; over = p.over }

-- with the tip t further along x, some point of the triangle is strictly inside the cone cutter
abbrev pub ConeAt : Cone → Corner → Corner → Corner → ℤ → Type 0
ConeAt k a b c t = TouchesCone k (slid t a) (slid t b) (slid t c)

-- the corner brought to the tip's x
abbrev pub flattened : Corner → Corner
flattened p = record { x = pos 0; y = p.y; z = p.z; over = p.over }

-- some point of the segment comes into the cutter at some position along x, and is before the tip
pub record SeenLess (k : Cone) (p q : Corner) : Type 0 where
  pub seen : TouchesEdge k (flattened p) (flattened q)
  pub less : (seen.u *ℤ p.x +ℤ seen.v *ℤ q.x) <ℤ pos 0

-- some point of the segment comes into the cutter at some position along x, and is behind the tip
pub record SeenMore (k : Cone) (p q : Corner) : Type 0 where
  pub seen : TouchesEdge k (flattened p) (flattened q)
  pub more : (pos 0) <ℤ (seen.u *ℤ p.x +ℤ seen.v *ℤ q.x)

-- some point of the segment comes into the cutter at some position along x, and is on this side of the tip
abbrev pub IsSeenOn : Side → Cone → Corner → Corner → Type 0
IsSeenOn Less k p q = SeenLess k p q
IsSeenOn More k p q = SeenMore k p q
IsSeenOn Never k p q = ⊥

-- a quantity that is f at the end at x and g at the end at w, with x < 0 < w, is positive at the first end, and isn't at the point between them at 0
pub record HoldsBefore (f g x w : ℤ) : Type 0 where
  pub first : (pos 0) <ℤ f
  pub middle : (w *ℤ f -ℤ x *ℤ g) ≤ℤ pos 0

-- one of the four quantities that are positive exactly on what comes into the cutter is positive at the first end, and not between the ends at the tip's x
abbrev pub IsBefore : Cone → Corner → Corner → Type 0
IsBefore k p q = (HoldsBefore (k.radius -ℤ p.y) (k.radius -ℤ q.y) p.x q.x ⊎ HoldsBefore (k.radius +ℤ p.y) (k.radius +ℤ q.y) p.x q.x)
    ⊎ (HoldsBefore (k.run *ℤ p.z -ℤ k.rise *ℤ p.y) (k.run *ℤ q.z -ℤ k.rise *ℤ q.y) p.x q.x ⊎ HoldsBefore (k.run *ℤ p.z +ℤ k.rise *ℤ p.y) (k.run *ℤ q.z +ℤ k.rise *ℤ q.y) p.x q.x)
