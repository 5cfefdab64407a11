-- Moves of a solid's tip, which is over the tool's or under it: so its moves may leave the range of coordinates.
use Rattle.std.specs.Prelude.{◌≤◌, ℤ, nat_abs, pos, ◌-ℤ◌, ◌≤ℤ◌}
use Rattle.mill_base.specs.Numbers.{Within}
use Rattle.mill_base.specs.declared.limits.TheConstants.{LOWEST_LIFT, MAX_COORDINATE}
use Rattle.mill_base.specs.declared.points.Pt3.{Pt3}
use Rattle.mill_base.specs.declared.motion.Move.{Move}
use Rattle.mill_sweep.specs.Leaves.{length_z}
use Rattle.mill_sweep.specs.Widths.{longest, highest_tip}

-- a height is no lower than a coordinate may be and the lowest lift, and at most twice as high as a coordinate
pub record IsTipHeight (z : ℤ) : Type 0 where
  pub least : (LOWEST_LIFT -ℤ pos MAX_COORDINATE) ≤ℤ z
  pub within : nat_abs z ≤ highest_tip

-- so is a point's, which is in range in x and in y
pub record IsTipPlace (p : Pt3) : Type 0 where
  pub x_ok : Within MAX_COORDINATE p.x
  pub y_ok : Within MAX_COORDINATE p.y
  pub z_ok : IsTipHeight p.z

-- so are a move's two ends, which are no further apart in z than two coordinates
pub record IsLiftedMove (m : Move) : Type 0 where
  pub from_ok : IsTipPlace m.from
  pub to_ok : IsTipPlace m.to
  pub rise_ok : length_z m ≤ longest
