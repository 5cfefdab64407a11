-- What is so of straight moves by halving, and of doglegs by their box, is so of moves of every kind.
use Rattle.std.specs.Prelude.{◌≡◌, ◌≤◌, ℤ, pos, ◌+ℤ◌, ◌≤ℤ◌, Option, None, Some, MatchOption}
use Rattle.std.proofs.Common.{inl, inr, refl, subst, sym}
use Rattle.mill_base.specs.Contact.{Touches}
use Rattle.mill_base.specs.Motion.{IsOnWay, IsStraight, IsTipBy, IsTipOf}
use Rattle.mill_base.specs.Points.{highest, point_at, point_tri}
use Rattle.mill_base.specs.Sizes.{IsCutter, radius_of}
use Rattle.mill_base.specs.declared.cutter.Cutter.{Cutter}
use Rattle.mill_base.specs.declared.limits.TheConstants.{MAX_LAST_REACH}
use Rattle.mill_base.specs.declared.motion.Kind.{Kind}
use Rattle.mill_base.specs.declared.motion.Kind.TheVariants.{Rapid, Feed, Dogleg}
use Rattle.mill_base.specs.declared.motion.Move.{Move}
use Rattle.mill_base.specs.declared.points.Pt3.{Pt3}
use Rattle.mill_base.specs.declared.points.Tri.{Tri}
use Rattle.mill_sweep.specs.Apart.{LiesBeside}
use Rattle.mill_sweep.specs.Halving.{HalvingFailsAt, HalvingPasses}
use Rattle.mill_sweep.specs.Leaves.{depth_of, reach_of}
use Rattle.mill_sweep.specs.Lifted.{IsLiftedMove}
use Rattle.mill_sweep.specs.Moments.{IsFar}
use Rattle.mill_sweep.specs.Passing.{BlocksBy, BoxPasses, FailsAt, IsBlocked, LeadsBy, Passes, PassesBy, PassesPoint}
use Rattle.mill_sweep.specs.inner.Boxes.{BoxFailsAt}
use Rattle.mill_sweep.specs.declared.leaf.Leaf.{Leaf}
use Rattle.mill_sweep.proofs.Boxes.{box_is_blocked, box_is_clear, box_passes_lower, far_box_passes, low_box_passes}
use Rattle.mill_sweep.proofs.Far.{beside_passes, least_top, top_passes}
use Rattle.mill_sweep.proofs.Halves.{lifted_is_clear}
use Rattle.mill_sweep.proofs.Lower.{passes_lower}
use Rattle.mill_sweep.proofs.Narrow.{lifted_is_blocked}

-- a move passes what it would pass by halving, and by its box
pub both_pass : (cutter : Cutter) (move : Move) (tri : Tri) → HalvingPasses cutter move tri → BoxPasses cutter move tri → Passes cutter move tri
both_pass cutter move tri halving box = by move.kind
  where
    by : (kind : Kind) → PassesBy kind cutter move tri
    by Rapid = halving
    by Feed = halving
    by Dogleg = box

-- a straight move passes by halving
pub straight_passes : (cutter : Cutter) (move : Move) (tri : Tri) → IsStraight move → HalvingPasses cutter move tri → Passes cutter move tri
straight_passes cutter move tri straight passes = by move.kind refl
  where
    by : (kind : Kind) → move.kind ≡ kind → PassesBy kind cutter move tri
    by Rapid e = passes
    by Feed e = passes
    by Dogleg e = absurd (straight e)

-- ---- what lies far from a move

pub low_passes_all : (cutter : Cutter) (move : Move) (tri : Tri) → highest tri ≤ℤ move.from.z → highest tri ≤ℤ move.to.z → Passes cutter move tri
low_passes_all cutter move tri from to = both_pass cutter move tri (top_passes cutter move tri from to) (low_box_passes cutter move tri from to)

pub beside_passes_all : (cutter : Cutter) (move : Move) (tri : Tri) → IsCutter cutter → IsLiftedMove move → LiesBeside (radius_of cutter +ℤ pos MAX_LAST_REACH) move.from move.to tri → Passes cutter move tri
beside_passes_all cutter move tri ok range far = both_pass cutter move tri (beside_passes cutter move tri ok range far) (far_box_passes cutter move tri far)

pub lifted_far_passes : (cutter : Cutter) (move : Move) (tri : Tri) → IsCutter cutter → IsLiftedMove move → IsFar cutter move tri → Passes cutter move tri
lifted_far_passes cutter move tri ok range (inl under) =
    low_passes_all cutter move tri (least_top _ _ _ _ under.from.a under.from.b under.from.c) (least_top _ _ _ _ under.to.a under.to.b under.to.c)
lifted_far_passes cutter move tri ok range (inr beside) = beside_passes_all cutter move tri ok range beside

-- ---- what passing implies

-- wherever the tip may be, no point of a triangle that is passed is inside the cutter
pub tip_is_clear : (cutter : Cutter) (move : Move) (tri : Tri) (m : ℤ) (t : Pt3) → IsCutter cutter → IsLiftedMove move → Passes cutter move tri → IsTipOf move m t → ¬ Touches cutter m t tri
tip_is_clear cutter move tri m t ok range = by move.kind
  where
    on_way : HalvingPasses cutter move tri → IsOnWay move m t → ¬ Touches cutter m t tri
    on_way passes way = subst (λ (p : Pt3). ¬ Touches cutter m p tri) (sym way.place) (lifted_is_clear cutter move tri way.k m ok range passes way.moment)

    by : (kind : Kind) → PassesBy kind cutter move tri → IsTipBy kind move m t → ¬ Touches cutter m t tri
    by Rapid passes way = on_way passes way
    by Feed passes way = on_way passes way
    by Dogleg passes box = box_is_clear cutter move tri m t ok passes box

-- a move that passes a point passes each lower one of its column
pub lower_passes : (x y t h : ℤ) → h ≤ℤ t → (cutter : Cutter) (move : Move) → PassesPoint cutter move (point_at x y t) → PassesPoint cutter move (point_at x y h)
lower_passes x y t h low cutter move = by move.kind
  where
    halved : HalvingPasses cutter move (point_tri (point_at x y t)) → HalvingPasses cutter move (point_tri (point_at x y h))
    halved passes = passes_lower x y t h low cutter move (depth_of move) 0 0 passes

    by : (kind : Kind) → PassesBy kind cutter move (point_tri (point_at x y t)) → PassesBy kind cutter move (point_tri (point_at x y h))
    by Rapid passes = halved passes
    by Feed passes = halved passes
    by Dogleg passes = box_passes_lower x y t h low cutter move passes

-- ---- failing

abbrev pub FailsBy : Kind → Cutter → Move → Tri → Leaf → Type 0
FailsBy Rapid cutter m tri leaf = HalvingFailsAt cutter m tri leaf
FailsBy Feed cutter m tri leaf = HalvingFailsAt cutter m tri leaf
FailsBy Dogleg cutter m tri leaf = BoxFailsAt cutter m tri leaf

-- what fails by its kind fails, and the other way round
fails_by : (cutter : Cutter) (move : Move) (tri : Tri) (leaf : Leaf) → FailsBy move.kind cutter move tri leaf → FailsAt cutter move tri leaf
fails_by cutter move tri leaf h = record { fails = fails move.kind h; leads = leads move.kind h }
  where
    fails : (kind : Kind) → FailsBy kind cutter move tri leaf → ¬ PassesBy kind cutter move tri
    fails Rapid h = h.fails
    fails Feed h = h.fails
    fails Dogleg h = h.fails

    leads : (kind : Kind) → FailsBy kind cutter move tri leaf → LeadsBy kind cutter move tri leaf
    leads Rapid h = h.leads
    leads Feed h = h.leads
    leads Dogleg h = h.leads

pub by_fails : (cutter : Cutter) (move : Move) (tri : Tri) (leaf : Leaf) → FailsAt cutter move tri leaf → FailsBy move.kind cutter move tri leaf
by_fails cutter move tri leaf h = by move.kind h.fails h.leads
  where
    by : (kind : Kind) → ¬ PassesBy kind cutter move tri → LeadsBy kind cutter move tri leaf → FailsBy kind cutter move tri leaf
    by Rapid fails leads = record { fails = fails; leads = leads }
    by Feed fails leads = record { fails = fails; leads = leads }
    by Dogleg fails leads = record { fails = fails; leads = leads }

-- a straight move's failing leaf has no more than the last reach
pub failing_reach : (cutter : Cutter) (move : Move) (tri : Tri) (leaf : Leaf) → IsLiftedMove move → IsStraight move → FailsAt cutter move tri leaf → reach_of move leaf.d leaf.k ≤ MAX_LAST_REACH
failing_reach cutter move tri leaf range straight h = by move.kind refl (by_fails cutter move tri leaf h)
  where
    by : (kind : Kind) → move.kind ≡ kind → FailsBy kind cutter move tri leaf → reach_of move leaf.d leaf.k ≤ MAX_LAST_REACH
    by Rapid e fails = (lifted_is_blocked cutter move tri leaf range fails).0
    by Feed e fails = (lifted_is_blocked cutter move tri leaf range fails).0
    by Dogleg e fails = absurd (straight e)

-- and of every move it isn't so that it isn't blocked
pub failing_blocks : (cutter : Cutter) (move : Move) (tri : Tri) (leaf : Leaf) → IsLiftedMove move → FailsAt cutter move tri leaf → ¬ (¬ IsBlocked cutter move tri leaf)
failing_blocks cutter move tri leaf range h = by move.kind (by_fails cutter move tri leaf h)
  where
    by : (kind : Kind) → FailsBy kind cutter move tri leaf → ¬ (¬ BlocksBy kind cutter move tri leaf)
    by Rapid fails = (lifted_is_blocked cutter move tri leaf range fails).1
    by Feed fails = (lifted_is_blocked cutter move tri leaf range fails).1
    by Dogleg fails = box_is_blocked cutter move tri fails.fails

-- ---- what the code decides

abbrev pub Decides : Kind → Cutter → Move → Tri → Option Leaf → Type 0
Decides kind cutter move tri r = MatchOption r (PassesBy kind cutter move tri) (λ leaf. FailsBy kind cutter move tri leaf × BlocksBy kind cutter move tri leaf)

-- what decides for its kind decides for the move
pub kind_decides : (kind : Kind) (cutter : Cutter) (move : Move) (tri : Tri) (r : Option Leaf) → move.kind ≡ kind → Decides kind cutter move tri r
    → MatchOption r (Passes cutter move tri) (λ leaf. FailsAt cutter move tri leaf × IsBlocked cutter move tri leaf)
kind_decides kind cutter move tri r e h = by r (subst (λ (k : Kind). Decides k cutter move tri r) (sym e) h)
  where
    by : (r : Option Leaf) → Decides move.kind cutter move tri r → MatchOption r (Passes cutter move tri) (λ leaf. FailsAt cutter move tri leaf × IsBlocked cutter move tri leaf)
    by None passes = passes
    by (Some leaf) h = (fails_by cutter move tri leaf h.0, h.1)
