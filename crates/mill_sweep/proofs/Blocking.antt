-- A triangle that the outer cutter of a span touches blocks it, and a span of great reach, under a corner, is not free.
use Rattle.std.specs.Prelude.{ℕ, ◌<◌, ◌≤◌, max, ℤ, pos, ◌<ℤ◌, ◌≤ℤ◌}
use Rattle.std.proofs.Common.{inl, inr, arith}
use Rattle.std.proofs.lemmas.Int.{ints}
use Rattle.mill_base.specs.Points.{highest}
use Rattle.mill_base.specs.Contact.{Touches}
use Rattle.mill_base.specs.Sizes.{outer}
use Rattle.mill_base.specs.declared.points.Tri.{Tri}
use Rattle.mill_base.specs.declared.cutter.Cutter.{Cutter}
use Rattle.mill_base.specs.declared.limits.TheConstants.{MAX_REACH}
use Rattle.mill_sweep.specs.Leaves.{outer_tip, diagonal_of}
use Rattle.mill_sweep.specs.Halving.{Blocks, IsFreeSpan}
use Rattle.mill_sweep.specs.declared.leaf.Span.{Span}
use Rattle.mill_sweep.proofs.Besides.{side_most}
use Rattle.mill_sweep.specs.Widths.{longest}

pub touched_blocks : (cutter : Cutter) (s : Span) (tri : Tri) → s.zlow <ℤ highest tri → Touches (outer cutter s.reach) (pos 1) (outer_tip cutter s) tri → Blocks cutter s tri
touched_blocks cutter s tri over touches = record { over = over; touches = touches }

-- a length of over 1,024 along an axis makes the reach as great
pub reach_is_great : (ex ey : ℕ) → ex ≤ longest → ey ≤ longest → MAX_REACH < max ex ey → pos (diagonal_of ex ey) ≤ℤ pos MAX_REACH → ⊥
reach_is_great ex ey hx hy far near = by (diagonal_of ex ey) (side_most ex ey hx hy).0 (side_most ex ey hx hy).1 near
  where
    by : (q : ℕ) → ex ≤ q → ey ≤ q → pos q ≤ℤ pos MAX_REACH → ⊥
    by q p r h = omega (arith, ints)

pub not_free : (cutter : Cutter) (s : Span) (tri : Tri) → (s.reach ≤ℤ pos MAX_REACH → ⊥) → s.zlow <ℤ highest tri → IsFreeSpan cutter s tri → ⊥
not_free cutter s tri great over (inl free) = great free.0
not_free cutter s tri great over (inr under) = by s.zlow (highest tri) over under
  where
    by : (z h : ℤ) → z <ℤ h → h ≤ℤ z → ⊥
    by z h p q = omega (arith, ints)
