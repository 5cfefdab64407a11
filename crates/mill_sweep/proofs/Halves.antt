-- A move that passes a triangle is clear of it at each of its moments.
use Rattle.std.specs.Prelude.{◌≡◌, ◌⊎◌, ℕ, zero, suc, ◌+◌, ◌*◌, ◌^◌, ◌<◌, ◌≤◌, ℤ, pos, ◌*ℤ◌, ◌<ℤ◌, ◌≤ℤ◌, int_lt, Bool, true, false, cond}
use Rattle.std.proofs.Common.{inl, inr, refl, subst, sym, arith}
use Rattle.std.proofs.lemmas.Int.{ints}
use Rattle.mill_base.proofs.Exit.{split_lt}
use Rattle.mill_base.specs.Numbers.{greater}
use Rattle.mill_base.specs.Points.{IsPointOf, highest, plus, times}
use Rattle.mill_base.specs.Motion.{IsMoment, tip_at}
use Rattle.mill_base.specs.Contact.{Touches}
use Rattle.mill_base.specs.Sizes.{IsCutter}
use Rattle.mill_base.specs.declared.points.Pt3.{Pt3}
use Rattle.mill_base.specs.declared.points.Tri.{Tri}
use Rattle.mill_base.specs.declared.motion.Move.{Move}
use Rattle.mill_base.specs.declared.cutter.Cutter.{Cutter}
use Rattle.mill_base.specs.declared.limits.TheConstants.{MAX_RADIUS}
use Rattle.mill_shape.proofs.CutHeights.{cutter_is_wide}
use Rattle.mill_shape.proofs.Holding.{holds_over_tip}
use Rattle.mill_sweep.specs.Lifted.{IsLiftedMove}
use Rattle.mill_sweep.specs.Leaves.{depth_of, zlow_of, IsMomentOf}
use Rattle.mill_sweep.specs.Halving.{IsFree, LeafPasses, HalvingPasses}
use Rattle.mill_sweep.proofs.LeafCerts.{half_from, half_to, point_under, over_low}
use Rattle.mill_sweep.proofs.Outer.{low_over, lifted_outer_holds}
use Rattle.mill_sweep.proofs.Passing.{radius_least}
use Rattle.mill_sweep.proofs.Spans.{parts_twice}

-- a moment of a leaf is one of its left half or one of its right half
pub halves : (d j : ℕ) (k n : ℤ) → IsMomentOf d j k n → IsMomentOf (d + 1) (2 * j) k n ⊎ IsMomentOf (d + 1) (2 * j + 1) k n
halves d j k n l = elim (split_lt (k *ℤ pos (2 * 2 ^ d)) (pos (2 * j + 1) *ℤ n)) [
  | inl before ↦ inl (record {
    some = l.some;
    after = rw (parts_twice d) (half_from (pos j) n k (pos (2 ^ d)) l.after);
    before = rw (parts_twice d) (at_most _ _ before);
  })
  | inr after ↦ inr (record {
    some = l.some;
    after = rw (parts_twice d) after;
    before = rw (parts_twice d) (half_to (pos j) n k (pos (2 ^ d)) l.before);
  })
]
  where
    at_most : (x y : ℤ) → x <ℤ y → x ≤ℤ y
    at_most x y h = omega (arith, ints)

-- each moment of a move is one of its whole leaf
pub whole : (k n : ℤ) → IsMoment k n → IsMomentOf 0 0 k n
whole k n h = let after = h.after in let before = h.before in record { some = h.some; after = omega (arith, ints); before = omega (arith, ints) }

-- the greater of two numbers is at least each
most_of : (a b : ℤ) → (a ≤ℤ greater a b) × (b ≤ℤ greater a b)
most_of a b = by (int_lt a b) refl
  where
    by : (t : Bool) → int_lt a b ≡ t → (a ≤ℤ cond t b a) × (b ≤ℤ cond t b a)
    by true e = (omega (arith, ints), omega (arith, ints))
    by false e = (omega (arith, ints), omega (arith, ints))

up_to : {a b c : ℤ} → a ≤ℤ b → b ≤ℤ c → a ≤ℤ c
up_to p q = omega (arith, ints)

-- no point of a triangle is over its highest corner
pub under_highest : (tri : Tri) (n : ℤ) (p : Pt3) → IsPointOf tri n p → p.z ≤ℤ (n *ℤ highest tri)
under_highest tri n p h =
    let first = most_of tri.a.z (greater tri.b.z tri.c.z) in
    let others = most_of tri.b.z tri.c.z in
    subst (λ q. Pt3.z q ≤ℤ (n *ℤ highest tri)) (sym h.place)
    (subst (λ s. (plus (plus (times h.u tri.a) (times h.v tri.b)) (times h.w tri.c)).z ≤ℤ (s *ℤ highest tri)) (sym h.weights)
    (point_under h.u h.v h.w tri.a.z tri.b.z tri.c.z (highest tri) h.u_ok h.v_ok h.w_ok first.0 (up_to others.0 first.1) (up_to others.1 first.1)))

-- what is touched at a moment of a leaf is over its zlow
pub touched_over : (cutter : Cutter) (move : Move) (tri : Tri) (d j : ℕ) (k m : ℤ) → IsCutter cutter → IsMomentOf d j k m → Touches cutter m (tip_at move k m) tri
    → zlow_of move d j <ℤ highest tri
touched_over cutter move tri d j k m cutter_ok l touches =
    over_low m touches.n (tip_at move k m).z touches.p.z (zlow_of move d j) (highest tri) l.some touches.point.some
    (holds_over_tip cutter m (tip_at move k m) touches.n touches.p (radius_least cutter cutter_ok) l.some touches.point.some touches.inside)
    (low_over move.from.z move.to.z d j k m l)
    (under_highest tri touches.n touches.p touches.point)

-- a leaf that passes by itself is clear at each of its moments
free_is_clear : (cutter : Cutter) (move : Move) (tri : Tri) (d j : ℕ) (k m : ℤ) → IsCutter cutter → IsLiftedMove move → d ≤ depth_of move → j < 2 ^ d
    → IsFree cutter move tri d j → IsMomentOf d j k m → Touches cutter m (tip_at move k m) tri → ⊥
free_is_clear cutter move tri d j k m cutter_ok range deep less (inl free) l touches =
    free.1 (record {
      over = touched_over cutter move tri d j k m cutter_ok l touches;
      touches = record {
        n = touches.n;
        p = touches.p;
        point = touches.point;
        inside = lifted_outer_holds cutter move d j k m touches.n touches.p (cutter_is_wide cutter MAX_RADIUS (omega (arith, ints)) cutter_ok) range deep less l touches.point.some touches.inside;
      };
    })
free_is_clear cutter move tri d j k m cutter_ok range deep less (inr under) l touches =
    no (zlow_of move d j) (highest tri) (touched_over cutter move tri d j k m cutter_ok l touches) under
  where
    no : (a b : ℤ) → a <ℤ b → b ≤ℤ a → ⊥
    no a b p q = absurd (omega (arith, ints))

-- the places of a leaf's halves
pub left_place : (d j : ℕ) → j < 2 ^ d → 2 * j < 2 ^ (d + 1)
left_place d j h = rw (parts_twice d) (omega arith)

pub right_place : (d j : ℕ) → j < 2 ^ d → 2 * j + 1 < 2 ^ (d + 1)
right_place d j h = rw (parts_twice d) (omega arith)

-- so is a leaf whose halves both pass
leaf_is_clear : (cutter : Cutter) (move : Move) (tri : Tri) (more d j : ℕ) (k m : ℤ) → IsCutter cutter → IsLiftedMove move → d + more ≤ depth_of move → j < 2 ^ d
    → LeafPasses cutter move tri more d j → IsMomentOf d j k m → Touches cutter m (tip_at move k m) tri → ⊥
leaf_is_clear cutter move tri zero d j k m cutter_ok range deep less free l touches =
    free_is_clear cutter move tri d j k m cutter_ok range (omega arith) less free l touches
leaf_is_clear cutter move tri (suc more) d j k m cutter_ok range deep less (inl free) l touches =
    free_is_clear cutter move tri d j k m cutter_ok range (omega arith) less free l touches
leaf_is_clear cutter move tri (suc more) d j k m cutter_ok range deep less (inr both) l touches =
    elim (halves d j k m l) [
      | inl left ↦ leaf_is_clear cutter move tri more (d + 1) (2 * j) k m cutter_ok range (omega arith) (left_place d j less) both.0 left touches
      | inr right ↦ leaf_is_clear cutter move tri more (d + 1) (2 * j + 1) k m cutter_ok range (omega arith) (right_place d j less) both.1 right touches
    ]

pub lifted_is_clear : (cutter : Cutter) (move : Move) (tri : Tri) (k m : ℤ) → IsCutter cutter → IsLiftedMove move → HalvingPasses cutter move tri → IsMoment k m → ¬ Touches cutter m (tip_at move k m) tri
lifted_is_clear cutter move tri k m cutter_ok range passes moment touches =
    leaf_is_clear cutter move tri (depth_of move) 0 0 k m cutter_ok range (omega arith) (omega arith) passes (whole k m moment) touches
