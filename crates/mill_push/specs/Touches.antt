-- How many touches a push may take.
use Rattle.std.specs.Prelude.{◌≡◌, ℕ, ◌+◌, ◌*◌, ◌^◌, ◌<◌, ◌≤◌, nat_abs, nat_eq, ℤ, pos, ◌+ℤ◌, ◌-ℤ◌, ◌<ℤ◌, List, length, Contains, MatchOption}
use Rattle.std.specs.Option.{option_map_or}
use Rattle.std.specs.List.{IsDistinct}
use Rattle.mill_base.specs.Numbers.{Within}
use Rattle.mill_base.specs.Points.{highest, tri_at}
use Rattle.mill_base.specs.Sizes.{radius_of}
use Rattle.mill_base.specs.Solids.{Solid, higher}
use Rattle.mill_base.specs.declared.limits.TheConstants.{MAX_COORDINATE}
use Rattle.mill_base.specs.declared.points.Tri.{Tri}
use Rattle.mill_base.specs.declared.points.Box2.{Box2}
use Rattle.mill_base.specs.declared.cutter.Cutter.{Cutter}
use Rattle.mill_base.specs.declared.tool.Tool.{Tool}
use Rattle.mill_geom.specs.declared.touch.Axis.{Axis}
use Rattle.mill_geom.specs.declared.touch.Axis.TheVariants.{X, Y}
use Rattle.mill_cells.specs.Boxes.{Meet, box_of}
use Rattle.mill_push.specs.declared.fiber.Fiber.{Fiber}

-- the rectangle that the cutter may come over: the fiber from `from` to `to`, and a radius more on every side
abbrev pub strip_along : Axis → ℤ → ℤ → ℤ → ℤ → Box2
strip_along X at r from to = record { x0 = from -ℤ r; y0 = at -ℤ r; x1 = to +ℤ r; y1 = at +ℤ r }
strip_along Y at r from to = record { x0 = at -ℤ r; y0 = from -ℤ r; x1 = at +ℤ r; y1 = to +ℤ r }

abbrev pub strip_of : Cutter → Fiber → ℤ → ℤ → Box2
strip_of cutter fiber from to = strip_along fiber.axis fiber.at (radius_of cutter) from to

-- the fiber's coordinates are in range
pub record IsFiber (fiber : Fiber) : Type 0 where
  pub at_ok : Within MAX_COORDINATE fiber.at
  pub z_ok : Within MAX_COORDINATE fiber.z

-- the triangle's box meets the strip, and some corner of it is over the fiber's height
pub record IsNearFiber (cutter : Cutter) (fiber : Fiber) (from to : ℤ) (tri : Tri) : Type 0 where
  pub meets : Meet (box_of tri) (strip_of cutter fiber from to)
  pub over : fiber.z <ℤ highest tri

-- how many positions lie from a to b
abbrev pub position_count : ℤ → ℤ → ℕ
position_count a b = nat_abs (b -ℤ a) + 1

-- the part has a triangle of number i, and it is near the fiber
pub record IsTried (cutter : Cutter) (part : List Tri) (fiber : Fiber) (from to : ℤ) (i : ℕ) : Type 0 where
  pub within : i < length part
  pub near : IsNearFiber cutter fiber from to (tri_at part i)

-- the counter rose from the first number to the second: for some of the triangles that are near the fiber, each taken once, by at most twice as many touches as the count of positions has binary digits
pub record TouchesFew (cutter : Cutter) (part : List Tri) (fiber : Fiber) (from to : ℤ) (old new : ℕ) : Type 0 where
  pub numbers : List ℕ
  pub once : IsDistinct nat_eq numbers
  pub tried : (i : ℕ) → Contains numbers i → IsTried cutter part fiber from to i
  pub bound : (n : ℕ) → position_count from to < 2 ^ n → new ≤ old + 2 * n * length numbers

-- the fiber of the solid's own tip, with the tool's on this one: higher by the lift
abbrev pub lifted : Solid → Fiber → Fiber
lifted solid fiber = record { axis = fiber.axis; at = fiber.at; z = higher (pos 1) fiber.z solid.lift }

-- so the counter rose by touches of this solid of the tool
abbrev pub SolidTouchesFew : Solid → List Tri → Fiber → ℤ → ℤ → ℕ → ℕ → Type 0
SolidTouchesFew solid part fiber from to old new = TouchesFew solid.cutter part (lifted solid fiber) from to old new

-- the counter rose first by touches of the cutter, to `middle`, and then by touches of the holder, where there is one
pub record ToolTouchesFew (tool : Tool) (part : List Tri) (fiber : Fiber) (from to : ℤ) (old new : ℕ) : Type 0 where
  pub middle : ℕ
  pub cutter : SolidTouchesFew tool.cutter part fiber from to old middle
  pub holder : MatchOption tool.holder (new ≡ middle) (λ holder. SolidTouchesFew holder part fiber from to middle new)

-- how many touches each triangle may take: 40 by the cutter, and 40 by the holder
abbrev pub most_touches : Tool → ℕ
most_touches tool = option_map_or (λ _. 80) tool.holder 40
