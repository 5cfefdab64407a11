-- Which moves pass a triangle, whatever their kind: straight ones by halving, and a dogleg, whose tip may be anywhere in the box of its two ends, by that box.
use Rattle.std.specs.Prelude.{◌≡◌, ◌⊎◌, ◌<ℤ◌, ◌≤ℤ◌}
use Rattle.mill_base.specs.Points.{highest, point_tri}
use Rattle.mill_base.specs.Sizes.{radius_of}
use Rattle.mill_base.specs.declared.cutter.Cutter.{Cutter}
use Rattle.mill_base.specs.declared.motion.Kind.{Kind}
use Rattle.mill_base.specs.declared.motion.Kind.TheVariants.{Rapid, Feed, Dogleg}
use Rattle.mill_base.specs.declared.motion.Move.{Move}
use Rattle.mill_base.specs.declared.points.Pt3.{Pt3}
use Rattle.mill_base.specs.declared.points.Tri.{Tri}
use Rattle.mill_sweep.specs.Apart.{LiesBeside, low_end_of}
use Rattle.mill_sweep.specs.Halving.{Blocks, HalvingPasses, LeadsTo}
use Rattle.mill_sweep.specs.Leaves.{depth_of, span_of}
use Rattle.mill_sweep.specs.declared.leaf.Leaf.{Leaf}

-- ---- doglegs

-- a dogleg passes a triangle: no corner is higher than the lower end, or in x or in y it lies at least the radius away from the box of the two ends
abbrev pub BoxPasses : Cutter → Move → Tri → Type 0
BoxPasses cutter m tri = (highest tri ≤ℤ low_end_of m) ⊎ LiesBeside (radius_of cutter) m.from m.to tri

-- the triangle blocks the dogleg: a corner is higher than the lower end, and it lies nearer than the radius to the box in x and in y
pub record BoxBlocks (cutter : Cutter) (m : Move) (tri : Tri) : Type 0 where
  pub over : low_end_of m <ℤ highest tri
  pub near : ¬ LiesBeside (radius_of cutter) m.from m.to tri

-- the leaf is the whole move
pub record IsWhole (leaf : Leaf) : Type 0 where
  pub d : leaf.d ≡ 0
  pub k : leaf.k ≡ 0

-- ---- moves of every kind

abbrev pub PassesBy : Kind → Cutter → Move → Tri → Type 0
PassesBy Rapid cutter m tri = HalvingPasses cutter m tri
PassesBy Feed cutter m tri = HalvingPasses cutter m tri
PassesBy Dogleg cutter m tri = BoxPasses cutter m tri

-- the failing leaf of a move that doesn't pass: the one that halving leads to, or the whole of a dogleg
abbrev pub LeadsBy : Kind → Cutter → Move → Tri → Leaf → Type 0
LeadsBy Rapid cutter m tri leaf = LeadsTo cutter m tri (depth_of m) 0 0 leaf
LeadsBy Feed cutter m tri leaf = LeadsTo cutter m tri (depth_of m) 0 0 leaf
LeadsBy Dogleg cutter m tri leaf = IsWhole leaf

abbrev pub BlocksBy : Kind → Cutter → Move → Tri → Leaf → Type 0
BlocksBy Rapid cutter m tri leaf = Blocks cutter (span_of m leaf.d leaf.k) tri
BlocksBy Feed cutter m tri leaf = Blocks cutter (span_of m leaf.d leaf.k) tri
BlocksBy Dogleg cutter m tri leaf = BoxBlocks cutter m tri

-- the move passes the triangle
abbrev pub Passes : Cutter → Move → Tri → Type 0
Passes cutter m tri = PassesBy m.kind cutter m tri

-- it doesn't, and this is its failing leaf
pub record FailsAt (cutter : Cutter) (m : Move) (tri : Tri) (leaf : Leaf) : Type 0 where
  pub fails : ¬ Passes cutter m tri
  pub leads : LeadsBy m.kind cutter m tri leaf

-- the triangle blocks this leaf of the move
abbrev pub IsBlocked : Cutter → Move → Tri → Leaf → Type 0
IsBlocked cutter m tri leaf = BlocksBy m.kind cutter m tri leaf

-- a point is passed as a triangle of three equal corners
abbrev pub PassesPoint : Cutter → Move → Pt3 → Type 0
PassesPoint cutter m p = Passes cutter m (point_tri p)
