-- A cutter and a move of it, with what is worked out once for all triangles that are tried against them, and a leaf along one axis.
use Rattle.std.specs.Prelude.{◌≡◌, ℕ, ◌+◌, ◌≤◌, ℤ, pos}
use Rattle.mill_base.specs.Numbers.{Within}
use Rattle.mill_base.specs.declared.limits.TheConstants.{MAX_COORDINATE}
use Rattle.mill_base.specs.Sizes.{IsCutter}
use Rattle.mill_base.specs.declared.points.Tri.{Tri}
use Rattle.mill_base.specs.declared.motion.Move.{Move}
use Rattle.mill_base.specs.declared.cutter.Cutter.{Cutter}
use Rattle.mill_sweep.specs.Leaves.{depth_of, span_of, middle_of, farther_of, diagonal_of}
use Rattle.mill_sweep.specs.Halving.{LeafPasses}
use Rattle.mill_sweep.specs.Lifted.{IsLiftedMove}
use Rattle.mill_sweep.specs.declared.leaf.Span.{Span}
use Rattle.mill_sweep.specs.declared.leaf_span.Stretch.{Stretch}
use Rattle.mill_sweep.specs.declared.sweep.Prepared.{Prepared}
use Rattle.mill_sweep.specs.Widths.{longest}

-- a solid's cutter, on the move of its own tip
pub record Swept : Type 0 where
  pub cutter : Cutter
  pub move : Move

-- a solid's cutter and a move of its tip, with the move's depth and where the whole of it lies
pub record IsPrepared (p : Prepared) : Type 0 where
  pub cutter_ok : IsCutter p.cutter
  pub move_ok : IsLiftedMove p.step
  pub depth_is : p.depth ≡ depth_of p.step
  pub whole_is : p.whole ≡ span_of p.step 0 0

-- a stretch is in range
pub record IsStretch (s : Stretch) : Type 0 where
  pub middle_ok : Within MAX_COORDINATE s.middle
  pub farther_ok : s.farther ≤ longest

-- it is that of the leaf (d, k) along an axis on which the move goes from here to there
pub record IsStretchOf (from to : ℤ) (d k : ℕ) (s : Stretch) : Type 0 where
  pub middle : s.middle ≡ middle_of from to d k
  pub farther : s.farther ≡ farther_of from to d k

-- the span of a leaf with these stretches in x and in y and this lower end
abbrev pub span_at : Stretch → Stretch → ℤ → Span
span_at x y zlow = record { x = x.middle; y = y.middle; reach = pos (diagonal_of x.farther y.farther); zlow = zlow }

-- the leaf (d, k) passes, with as many further halvings as the move has
abbrev pub PassesDown : Cutter → Move → Tri → ℕ → ℕ → Type 0
PassesDown cutter m tri d k = (more : ℕ) → d + more ≡ depth_of m → LeafPasses cutter m tri more d k
