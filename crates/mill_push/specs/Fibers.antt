-- A tool, and a cutter alone, at the positions of a fiber.
use Rattle.std.specs.Prelude.{ℤ, pos, List}
use Rattle.mill_base.specs.Points.{point_at}
use Rattle.mill_base.specs.Contact.{Touches}
use Rattle.mill_base.specs.Tools.{ToolGouges}
use Rattle.mill_base.specs.declared.points.Pt3.{Pt3}
use Rattle.mill_base.specs.declared.points.Tri.{Tri}
use Rattle.mill_base.specs.declared.cutter.Cutter.{Cutter}
use Rattle.mill_base.specs.declared.tool.Tool.{Tool}
use Rattle.mill_geom.specs.declared.touch.Axis.{Axis}
use Rattle.mill_geom.specs.declared.touch.Axis.TheVariants.{X, Y}
use Rattle.mill_push.specs.declared.fiber.Fiber.{Fiber}

-- the point at v along the axis, at the other coordinate across, and at the height z
abbrev pub place_on : Axis → ℤ → ℤ → ℤ → Pt3
place_on X across z v = point_at v across z
place_on Y across z v = point_at across v z

-- the tip at the position v of a fiber
abbrev pub tip_on : Fiber → ℤ → Pt3
tip_on fiber v = place_on fiber.axis fiber.at fiber.z v

-- some point of the triangle is strictly inside the cutter at the position v
abbrev pub IsTouched : Cutter → Tri → Fiber → ℤ → Type 0
IsTouched cutter tri fiber v = Touches cutter (pos 1) (tip_on fiber v) tri

-- the tool gouges the part at the position v
abbrev pub IsBlocked : Tool → List Tri → Fiber → ℤ → Type 0
IsBlocked tool part fiber v = ToolGouges tool (pos 1) (tip_on fiber v) part
