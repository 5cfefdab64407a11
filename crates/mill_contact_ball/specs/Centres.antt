-- A ball cutter and the centre of its sphere.
use Rattle.std.specs.Prelude.{ℤ, ◌+ℤ◌}
use Rattle.mill_base.specs.declared.points.Pt3.{Pt3}
use Rattle.mill_base.specs.declared.cutter.Cutter.{Cutter}
use Rattle.mill_base.specs.declared.cutter.Cutter.TheVariants.{Flat, Ball, Cone}

-- the cutter is a ball
abbrev pub IsBall : Cutter → Type 0
IsBall (Flat r) = ⊥
IsBall (Ball r) = Unit {0}
IsBall (Cone r a b) = ⊥

-- the centre is straight over the tip, by the radius
abbrev pub sphere_centre : ℤ → Pt3 → Pt3
sphere_centre r tip = record { x = tip.x; y = tip.y; z = tip.z +ℤ r }
