-- A cutter alone, and a solid of a tool, at the positions of a fiber.
use Rattle.std.specs.Prelude.{ℤ, pos, List}
use Rattle.mill_base.specs.Contact.{Gouges}
use Rattle.mill_base.specs.Solids.{Solid, SolidGouges}
use Rattle.mill_base.specs.declared.points.Tri.{Tri}
use Rattle.mill_base.specs.declared.cutter.Cutter.{Cutter}
use Rattle.mill_push.specs.declared.fiber.Fiber.{Fiber}
use Rattle.mill_push.specs.Fibers.{tip_on}

-- the cutter gouges the part at the position v
abbrev pub IsCutterBlocked : Cutter → List Tri → Fiber → ℤ → Type 0
IsCutterBlocked cutter part fiber v = Gouges cutter (pos 1) (tip_on fiber v) part

-- with the tool's tip at the position v, the solid gouges the part
abbrev pub IsSolidBlocked : Solid → List Tri → Fiber → ℤ → Type 0
IsSolidBlocked solid part fiber v = SolidGouges solid (pos 1) (tip_on fiber v) part
