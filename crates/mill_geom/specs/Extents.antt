-- How far what a triangle has over a height extends along an axis.
use Rattle.std.specs.Prelude.{ℤ, ◌*ℤ◌, ◌<ℤ◌, ◌≤ℤ◌}
use Rattle.mill_base.specs.Numbers.{Within}
use Rattle.mill_base.specs.Points.{IsPointOf}
use Rattle.mill_base.specs.declared.limits.TheConstants.{MAX_COORDINATE}
use Rattle.mill_base.specs.declared.points.Pt3.{Pt3}
use Rattle.mill_base.specs.declared.points.Tri.{Tri}
use Rattle.mill_geom.specs.declared.touch.Axis.{Axis}
use Rattle.mill_geom.specs.declared.touch.Axis.TheVariants.{X, Y}
use Rattle.mill_geom.specs.declared.extent.Extent.{Extent}

-- a point's coordinate along an axis
abbrev pub place_along : Axis → Pt3 → ℤ
place_along X p = p.x
place_along Y p = p.y

-- the place over n is from the extent's first coordinate to its last one
pub record IsPlaceIn (extent : Extent) (n place : ℤ) : Type 0 where
  pub after : (n *ℤ extent.first) ≤ℤ place
  pub before : place ≤ℤ (n *ℤ extent.last)

-- the extent holds the coordinate along the axis of each point of the triangle that is over the height z
abbrev pub IsExtentOver : Axis → ℤ → Tri → Extent → Type 0
IsExtentOver axis z tri extent = (n : ℤ) (p : Pt3) → IsPointOf tri n p → (n *ℤ z) <ℤ p.z → IsPlaceIn extent n (place_along axis p)

-- both ends of an extent are in range
pub record IsExtentInRange (extent : Extent) : Type 0 where
  pub first_ok : Within MAX_COORDINATE extent.first
  pub last_ok : Within MAX_COORDINATE extent.last
