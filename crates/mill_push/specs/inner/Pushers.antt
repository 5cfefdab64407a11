-- A cutter that is pushed along a fiber.
use Rattle.std.specs.Prelude.{pos, ◌-ℤ◌, ◌≤ℤ◌}
use Rattle.mill_base.specs.Numbers.{Within}
use Rattle.mill_base.specs.Sizes.{IsCutter, radius_of}
use Rattle.mill_base.specs.declared.limits.TheConstants.{LOWEST_LIFT, MAX_COORDINATE}
use Rattle.mill_push.specs.declared.fiber.Fiber.{Fiber}
use Rattle.mill_push.specs.declared.stretch.Pusher.{Pusher}

-- a fiber of a solid's tip: it is no lower than a coordinate and the lowest lift may be, and no higher than a coordinate
pub record IsTipFiber (fiber : Fiber) : Type 0 where
  pub at_ok : Within MAX_COORDINATE fiber.at
  pub z_least : (LOWEST_LIFT -ℤ pos MAX_COORDINATE) ≤ℤ fiber.z
  pub z_most : fiber.z ≤ℤ pos MAX_COORDINATE

-- the cutter is one of a job, the fiber is one of a tip, and the reach is from 1 to the radius
pub record IsPusher (p : Pusher) : Type 0 where
  pub cutter_ok : IsCutter p.cutter
  pub fiber_ok : IsTipFiber p.fiber
  pub reach_least : (pos 1) ≤ℤ p.reach
  pub reach_most : p.reach ≤ℤ radius_of p.cutter
