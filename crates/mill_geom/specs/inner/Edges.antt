-- What an edge of a triangle has over a height, along an axis.
use Rattle.std.specs.Prelude.{◌*◌, ℤ, pos, ◌-ℤ◌, ◌*ℤ◌, ◌<ℤ◌, ◌≤ℤ◌}
use Rattle.mill_base.specs.Numbers.{Within}
use Rattle.mill_base.specs.declared.limits.TheConstants.{MAX_COORDINATE}
use Rattle.mill_base.specs.declared.points.Pt3.{Pt3}
use Rattle.mill_geom.specs.declared.touch.Axis.{Axis}
use Rattle.mill_geom.specs.declared.extent.Corner.{Corner}
use Rattle.mill_geom.specs.declared.extent.Extent.{Extent}
use Rattle.mill_geom.specs.Extents.{IsExtentInRange, IsPlaceIn, place_along}

-- a corner as it is seen along the axis and from the height z
abbrev pub corner_of : Axis → ℤ → Pt3 → Corner
corner_of axis z p = record { place = place_along axis p; height = p.z -ℤ z }

-- its place is in range, and its height is that of one coordinate over another
pub record IsCornerInRange (corner : Corner) : Type 0 where
  pub place_ok : Within MAX_COORDINATE corner.place
  pub height_ok : Within (2 * MAX_COORDINATE) corner.height

-- the whole place is from the extent's first coordinate to its last one
pub record IsAt (extent : Extent) (v : ℤ) : Type 0 where
  pub first : extent.first ≤ℤ v
  pub last : v ≤ℤ extent.last

-- where an edge crosses the height: this place, over the difference of its corners' heights
abbrev pub crossing : Corner → Corner → ℤ
crossing over under = under.place *ℤ over.height -ℤ over.place *ℤ under.height

-- the extent holds what the edge between two corners has over the height: each corner that is over it, and where it crosses the height
pub record IsPartOver (a b : Corner) (extent : Extent) : Type 0 where
  pub first : (pos 0) <ℤ a.height → IsAt extent a.place
  pub second : (pos 0) <ℤ b.height → IsAt extent b.place
  pub falls : (pos 0) <ℤ a.height → b.height ≤ℤ pos 0 → IsPlaceIn extent (a.height -ℤ b.height) (crossing a b)
  pub rises : a.height ≤ℤ pos 0 → (pos 0) <ℤ b.height → IsPlaceIn extent (b.height -ℤ a.height) (crossing b a)

-- the extent holds the edge from its corner over the height to the crossing, and is in range
pub record IsUpperPart (over under : Corner) (extent : Extent) : Type 0 where
  pub end : IsAt extent over.place
  pub cross : IsPlaceIn extent (over.height -ℤ under.height) (crossing over under)
  pub in_range : IsExtentInRange extent

-- the one extent is in the other
pub record IsIn (part whole : Extent) : Type 0 where
  pub after : whole.first ≤ℤ part.first
  pub before : part.last ≤ℤ whole.last
