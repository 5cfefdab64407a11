-- A cutter over a place.
use Rattle.std.specs.Prelude.{ℤ, pos, ◌-ℤ◌, ◌<ℤ◌, ◌≤ℤ◌}
use Rattle.mill_base.specs.Numbers.{Within}
use Rattle.mill_base.specs.declared.limits.TheConstants.{LOWEST_LIFT, MAX_COORDINATE}
use Rattle.mill_base.specs.Sizes.{IsCutter}
use Rattle.mill_base.specs.declared.points.Tri.{Tri}
use Rattle.mill_drop.specs.inner.Solids.{TouchesAt}
use Rattle.mill_drop.specs.declared.search.Spindle.{Spindle}

-- the cutter is one of a job, and the place is in range
pub record IsSpindle (s : Spindle) : Type 0 where
  pub cutter_ok : IsCutter s.cutter
  pub x_ok : Within MAX_COORDINATE s.x
  pub y_ok : Within MAX_COORDINATE s.y

-- a height of a solid's tip that is tried: it is no lower than a coordinate and the lowest lift may be, and no higher than a coordinate
pub record IsTipHeight (z : ℤ) : Type 0 where
  pub least : (LOWEST_LIFT -ℤ pos MAX_COORDINATE) ≤ℤ z
  pub most : z ≤ℤ pos MAX_COORDINATE

-- the cutter holds some of the triangle at low, and none at top, which is higher; both may be tried
pub record IsBracket (s : Spindle) (tri : Tri) (low top : ℤ) : Type 0 where
  pub low_ok : IsTipHeight low
  pub top_ok : IsTipHeight top
  pub order : low <ℤ top
  pub held : TouchesAt s.cutter tri s.x s.y low
  pub free : ¬ TouchesAt s.cutter tri s.x s.y top
