-- What passing implies wherever the tip may be on a move.
use Rattle.std.specs.Prelude.{◌⊎◌, ℕ, ◌≤◌, ◌<◌, ◌^◌, ℤ, pos, ◌+ℤ◌, ◌<ℤ◌, ◌≤ℤ◌}
use Rattle.mill_base.specs.Points.{point_at}
use Rattle.mill_base.specs.Motion.{IsStraight, IsTipOf, tip_at}
use Rattle.mill_base.specs.Contact.{Holds, Touches}
use Rattle.mill_base.specs.Sizes.{outer, radius_of, IsWideCutter}
use Rattle.mill_base.specs.Solids.{IsSolid, Solid, SolidHolds, lifted, solid_tip}
use Rattle.mill_base.specs.Ranges.{IsInRange, MoveInRange}
use Rattle.mill_base.specs.declared.points.Pt3.{Pt3}
use Rattle.mill_base.specs.declared.points.Tri.{Tri}
use Rattle.mill_base.specs.declared.motion.Move.{Move}
use Rattle.mill_base.specs.declared.cutter.Cutter.{Cutter}
use Rattle.mill_base.specs.declared.limits.TheConstants.{MAX_LAST_REACH}
use Rattle.mill_sweep.specs.Leaves.{depth_of, span_of, reach_of, IsMomentOf, outer_tip}
use Rattle.mill_sweep.specs.Solids.{SolidFailsAt, SolidIsBlocked, SolidPasses, SolidPassesPoint}
use Rattle.mill_sweep.specs.Apart.{IsUnderMove, LieApart}
use Rattle.mill_sweep.specs.declared.leaf.Leaf.{Leaf}

-- every point inside the cutter at a moment of a leaf is inside the leaf's outer cutter
abbrev pub OuterHolds : Type 0
OuterHolds = (cutter : Cutter) (move : Move) (d j : ℕ) (k m n : ℤ) (p : Pt3) → IsWideCutter cutter → MoveInRange move → d ≤ depth_of move → j < 2 ^ d
    → IsMomentOf d j k m → (pos 0) <ℤ n → Holds cutter m (tip_at move k m) n p
    → Holds (outer cutter (pos (reach_of move d j))) (pos 1) (outer_tip cutter (span_of move d j)) n p

-- if a solid passes a triangle on a move, no point of it is inside the solid wherever the tip may be on the move
abbrev pub PassingIsClear : Type 0
PassingIsClear = (solid : Solid) (move : Move) (tri : Tri) (m : ℤ) (tip : Pt3) → IsSolid solid → MoveInRange move
    → SolidPasses solid move tri → IsTipOf move m tip → ¬ Touches solid.cutter m (solid_tip solid m tip) tri

-- if it passes a point, no whole point at or under it is inside the solid wherever the tip may be
abbrev pub PassingKeepsPoint : Type 0
PassingKeepsPoint = (solid : Solid) (move : Move) (x y t h m : ℤ) (tip : Pt3) → IsSolid solid → MoveInRange move → IsInRange (point_at x y t)
    → SolidPassesPoint solid move (point_at x y t) → h ≤ℤ t → IsTipOf move m tip → ¬ SolidHolds solid m tip (pos 1) (point_at x y h)

-- the triangle is no higher than both ends of the move, or lies at least the cutter's radius and the last reach away from the whole move in x or in y
abbrev pub IsFar : Cutter → Move → Tri → Type 0
IsFar cutter m tri =
    IsUnderMove m tri
    ⊎ (LieApart (radius_of cutter +ℤ pos MAX_LAST_REACH) m.from.x m.to.x tri.a.x tri.b.x tri.c.x
    ⊎ LieApart (radius_of cutter +ℤ pos MAX_LAST_REACH) m.from.y m.to.y tri.a.y tri.b.y tri.c.y)

-- a solid passes each triangle that is far from the move of its own tip, so such a triangle needs no halving
abbrev pub FarPasses : Type 0
FarPasses = (solid : Solid) (move : Move) (tri : Tri) → IsSolid solid → MoveInRange move → IsFar solid.cutter (lifted solid move) tri → SolidPasses solid move tri

-- a straight move's failing leaf has no more than the last reach, and of every move it isn't so that it isn't blocked; that it is, is for the calls to say that decide it
abbrev pub FailingIsBlocked : Type 0
FailingIsBlocked = (solid : Solid) (move : Move) (tri : Tri) (leaf : Leaf) → IsSolid solid → MoveInRange move
    → SolidFailsAt solid move tri leaf → (IsStraight move → reach_of move leaf.d leaf.k ≤ MAX_LAST_REACH) × (¬ (¬ SolidIsBlocked solid move tri leaf))
