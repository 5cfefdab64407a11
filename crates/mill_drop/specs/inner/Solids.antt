-- How far one solid of a tool can go down over a place.
use Rattle.std.specs.Prelude.{◌≡◌, ◌⊎◌, ℤ, pos, ◌-ℤ◌, ◌<ℤ◌, ◌≤ℤ◌, List}
use Rattle.mill_base.specs.Points.{point_at}
use Rattle.mill_base.specs.Contact.{Touches, Gouges}
use Rattle.mill_base.specs.Solids.{Solid, SolidGouges}
use Rattle.mill_base.specs.declared.points.Tri.{Tri}
use Rattle.mill_base.specs.declared.cutter.Cutter.{Cutter}

-- some point of the triangle is strictly inside the cutter with its tip at (x, y, z)
abbrev pub TouchesAt : Cutter → Tri → ℤ → ℤ → ℤ → Type 0
TouchesAt cutter tri x y z = Touches cutter (pos 1) (point_at x y z) tri

-- some part point is strictly inside the cutter with its tip at (x, y, z)
abbrev pub CutterGougesAt : Cutter → List Tri → ℤ → ℤ → ℤ → Type 0
CutterGougesAt cutter part x y z = Gouges cutter (pos 1) (point_at x y z) part

-- with the tool's tip at (x, y, z), some part point is strictly inside the solid
abbrev pub SolidGougesAt : Solid → List Tri → ℤ → ℤ → ℤ → Type 0
SolidGougesAt solid part x y z = SolidGouges solid (pos 1) (point_at x y z) part

-- z is the least whole height of the tool's tip, from the floor on, at which the solid over (x, y) doesn't gouge; nor does it at any greater height
pub record IsSolidDrop (solid : Solid) (part : List Tri) (x y floor z : ℤ) : Type 0 where
  pub kept : floor ≤ℤ z
  pub free : (higher : ℤ) → z ≤ℤ higher → ¬ SolidGougesAt solid part x y higher
  pub least : (lower : ℤ) → floor ≤ℤ lower → lower <ℤ z → SolidGougesAt solid part x y lower

-- the height was raised from the first to the second no more than some part point makes it: one unit lower it is strictly inside the cutter
pub record IsRaised (cutter : Cutter) (part : List Tri) (x y from to : ℤ) : Type 0 where
  pub kept : from ≤ℤ to
  pub reached : (to ≡ from) ⊎ CutterGougesAt cutter part x y (to -ℤ pos 1)
