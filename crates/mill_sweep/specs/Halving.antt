-- Which straight moves pass a triangle at every moment, by halving.
use Rattle.std.specs.Prelude.{◌≡◌, ◌⊎◌, ℕ, zero, suc, ◌+◌, ◌*◌, ◌≤◌, ℤ, pos, ◌<ℤ◌, ◌≤ℤ◌}
use Rattle.mill_base.specs.Numbers.{Within}
use Rattle.mill_base.specs.declared.limits.TheConstants.{MAX_COORDINATE, MAX_REACH}
use Rattle.mill_base.specs.Points.{highest, point_at}
use Rattle.mill_base.specs.Contact.{Touches}
use Rattle.mill_base.specs.Sizes.{outer}
use Rattle.mill_base.specs.declared.points.Pt3.{Pt3}
use Rattle.mill_base.specs.declared.points.Tri.{Tri}
use Rattle.mill_base.specs.declared.motion.Move.{Move}
use Rattle.mill_base.specs.declared.cutter.Cutter.{Cutter}
use Rattle.mill_sweep.specs.Leaves.{depth_of, span_of, reach_of, zlow_of, outer_tip}
use Rattle.mill_sweep.specs.Lifted.{IsTipHeight}
use Rattle.mill_sweep.specs.declared.leaf.Leaf.{Leaf}
use Rattle.mill_sweep.specs.declared.leaf.Span.{Span}

-- a triangle blocks a span: its highest point is over zlow, and some point of it is strictly inside the outer cutter
pub record Blocks (cutter : Cutter) (s : Span) (tri : Tri) : Type 0 where
  pub over : s.zlow <ℤ highest tri
  pub touches : Touches (outer cutter s.reach) (pos 1) (outer_tip cutter s) tri

-- a leaf passes by itself: its reach is at most 1,024 and it isn't blocked, or it lies no lower than the triangle's highest point
abbrev pub IsFree : Cutter → Move → Tri → ℕ → ℕ → Type 0
IsFree cutter m tri d k = ((reach_of m d k ≤ MAX_REACH) × (¬ Blocks cutter (span_of m d k) tri)) ⊎ (highest tri ≤ℤ zlow_of m d k)

-- the leaf (d, k) passes, with more further halvings: by itself, or both its halves do
abbrev pub LeafPasses : Cutter → Move → Tri → ℕ → ℕ → ℕ → Type 0
LeafPasses cutter m tri zero d k = IsFree cutter m tri d k
LeafPasses cutter m tri (suc more) d k = IsFree cutter m tri d k ⊎ (LeafPasses cutter m tri more (d + 1) (2 * k) × LeafPasses cutter m tri more (d + 1) (2 * k + 1))

-- the whole move passes
abbrev pub HalvingPasses : Cutter → Move → Tri → Type 0
HalvingPasses cutter m tri = LeafPasses cutter m tri (depth_of m) 0 0

-- from the leaf (d, k), which doesn't pass, the way to the left half if that fails, else to the right half, ends at this leaf
abbrev pub LeadsTo : Cutter → Move → Tri → ℕ → ℕ → ℕ → Leaf → Type 0
LeadsTo cutter m tri zero d k leaf = (leaf.d ≡ d) × (leaf.k ≡ k)
LeadsTo cutter m tri (suc more) d k leaf =
    ((¬ LeafPasses cutter m tri more (d + 1) (2 * k)) × LeadsTo cutter m tri more (d + 1) (2 * k) leaf)
    ⊎ (LeafPasses cutter m tri more (d + 1) (2 * k) × LeadsTo cutter m tri more (d + 1) (2 * k + 1) leaf)

-- the move doesn't pass the triangle, and this is its failing leaf
pub record HalvingFailsAt (cutter : Cutter) (m : Move) (tri : Tri) (leaf : Leaf) : Type 0 where
  pub fails : ¬ HalvingPasses cutter m tri
  pub leads : LeadsTo cutter m tri (depth_of m) 0 0 leaf

-- the leaf (d, k), with more further halvings, doesn't pass, and this is its failing leaf, which is blocked
pub record FailsUnder (cutter : Cutter) (m : Move) (tri : Tri) (more d k : ℕ) (leaf : Leaf) : Type 0 where
  pub fails : ¬ LeafPasses cutter m tri more d k
  pub leads : LeadsTo cutter m tri more d k leaf
  pub blocked : Blocks cutter (span_of m leaf.d leaf.k) tri

-- a span of a leaf of a tip's move: its numbers are in range, and its lower end as high as a tip may be
pub record IsSpan (s : Span) : Type 0 where
  pub x_ok : Within MAX_COORDINATE s.x
  pub y_ok : Within MAX_COORDINATE s.y
  pub low_ok : IsTipHeight s.zlow
  pub reach_least : (pos 0) ≤ℤ s.reach

-- a leaf of this span passes by itself
abbrev pub IsFreeSpan : Cutter → Span → Tri → Type 0
IsFreeSpan cutter s tri = ((s.reach ≤ℤ pos MAX_REACH) × (¬ Blocks cutter s tri)) ⊎ (highest tri ≤ℤ s.zlow)

-- the middle of a leaf, at its lower end
abbrev pub middle_point : Span → Pt3
middle_point s = point_at s.x s.y s.zlow
