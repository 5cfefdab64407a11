-- The triangles near a place.
use Rattle.std.specs.Prelude.{ℤ, ◌+ℤ◌, ◌-ℤ◌, List, Contains}
use Rattle.mill_base.specs.Sizes.{radius_of}
use Rattle.mill_base.specs.declared.points.Tri.{Tri}
use Rattle.mill_base.specs.declared.points.Box2.{Box2}
use Rattle.mill_base.specs.declared.cutter.Cutter.{Cutter}
use Rattle.mill_cells.specs.Boxes.{Meet, box_of}
use Rattle.mill_drop.specs.inner.Solids.{TouchesAt}

-- the square about (x, y) that is two radii wide, in which a cutter over it is
abbrev pub square_about : Cutter → ℤ → ℤ → Box2
square_about cutter x y = record { x0 = x -ℤ radius_of cutter; y0 = y -ℤ radius_of cutter; x1 = x +ℤ radius_of cutter; y1 = y +ℤ radius_of cutter }

-- the place (x, y) alone
abbrev pub point_box : ℤ → ℤ → Box2
point_box x y = record { x0 = x; y0 = y; x1 = x; y1 = y }

-- no point of the triangles whose boxes meet the area is strictly inside the cutter with its tip at (x, y, z)
abbrev pub AreFree : Cutter → List Tri → Box2 → ℤ → ℤ → ℤ → Type 0
AreFree cutter part area x y z = (tri : Tri) → Contains part tri → Meet (box_of tri) area → ¬ TouchesAt cutter tri x y z
