-- Solids with a margin around them, or taken off them, for a machine whose tip isn't exactly where it should be.
use Rattle.std.specs.Prelude.{ℤ, pos, nat_abs, ◌+ℤ◌, ◌-ℤ◌, ◌*ℤ◌, ◌≤ℤ◌}
use Rattle.mill_base.specs.Numbers.{ceil_div, ceil_root_of, square}
use Rattle.mill_base.specs.Points.{minus, times}
use Rattle.mill_base.specs.Sizes.{radius_of, with_radius}
use Rattle.mill_base.specs.Solids.{Solid}
use Rattle.mill_base.specs.declared.cutter.Cutter.{Cutter}
use Rattle.mill_base.specs.declared.cutter.Cutter.TheVariants.{Flat, Ball, Cone}
use Rattle.mill_base.specs.declared.points.Pt3.{Pt3}
use Rattle.mill_margin.specs.declared.margin.TheConstants.{MAX_MARGIN}

-- a margin that a solid can be given
pub record IsMargin (s : ℤ) : Type 0 where
  pub least : (pos 0) ≤ℤ s
  pub most : s ≤ℤ pos MAX_MARGIN

-- the least whole q with (q*run)^2 >= s^2*(rise^2 + run^2). It unfolds only where a proof says so, since its root computes to a term of very many parts
unfoldable pub cone_offset_of : ℤ → ℤ → ℤ → ℤ
cone_offset_of rise run s = ceil_div (pos (ceil_root_of (nat_abs (square s *ℤ (square rise +ℤ square run))))) (nat_abs run)

-- how far the tip of a cutter goes down where its surface goes outward by s, or up where it goes inward
abbrev pub offset_of : Cutter → ℤ → ℤ
offset_of (Flat r) s = s
offset_of (Ball r) s = s
offset_of (Cone r a b) s = cone_offset_of a b s

-- the solid with a margin of s around it
abbrev pub grown : Solid → ℤ → Solid
grown solid s = record { cutter = with_radius solid.cutter (radius_of solid.cutter +ℤ s); lift = solid.lift -ℤ offset_of solid.cutter s }

-- the solid with a margin of s taken off
abbrev pub shrunk : Solid → ℤ → Solid
shrunk solid s = record { cutter = with_radius solid.cutter (radius_of solid.cutter -ℤ s); lift = solid.lift +ℤ offset_of solid.cutter s }

-- the square of a point's distance from nothing
abbrev pub length_square : Pt3 → ℤ
length_square p = (square p.x +ℤ square p.y) +ℤ square p.z

-- the point q over n is at a distance of at most s from the point p over m
pub record IsWithin (s m : ℤ) (p : Pt3) (n : ℤ) (q : Pt3) : Type 0 where
  pub near : length_square (minus (times n p) (times m q)) ≤ℤ square (m *ℤ (n *ℤ s))
