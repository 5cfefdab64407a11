-- Flat cutters, and the corners strictly inside one.
use Rattle.std.specs.Prelude.{ℤ, pos, ◌+ℤ◌, ◌*ℤ◌, ◌<ℤ◌}
use Rattle.mill_base.specs.declared.cutter.Cutter.{Cutter}
use Rattle.mill_base.specs.declared.cutter.Cutter.TheVariants.{Flat, Ball, Cone}
use Rattle.mill_geom.specs.declared.offset.Offset.{Offset}

-- the cutter is a flat
abbrev pub IsFlat : Cutter → Type 0
IsFlat (Flat r) = Unit {0}
IsFlat (Ball r) = ⊥
IsFlat (Cone r a b) = ⊥

-- the corner is nearer to the axis than r, and over the level
pub record IsCornerInside (r : ℤ) (p : Offset) : Type 0 where
  pub near : (p.x *ℤ p.x +ℤ p.y *ℤ p.y) <ℤ (r *ℤ r)
  pub over : (pos 0) <ℤ p.z
