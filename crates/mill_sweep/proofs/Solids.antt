-- What a solid passes, wherever its tool's tip may be on a move.
use Rattle.std.specs.Prelude.{◌≡◌, ◌≤◌, ℤ, pos, ◌+ℤ◌, ◌-ℤ◌, ◌*ℤ◌, ◌≤ℤ◌, int_lt, Bool, true, false, cond}
use Rattle.std.proofs.Common.{[], ◌∷◌, ◌∙◌, refl, ap, sym, arith}
use Rattle.std.proofs.lemmas.Int.{ints}
use Rattle.mill_base.proofs.Cert.{Le, Hyp, Plus, prove_le_by}
use Rattle.mill_base.proofs.Ring.{Var, Add, Sub, Mul, ring}
use Rattle.mill_base.proofs.SolidLemmas.{higher_is, higher_once}
use Rattle.mill_base.specs.Motion.{IsBetween, IsOnWay, IsStraight, IsTipBy, IsTipOf, tip_at}
use Rattle.mill_base.specs.Numbers.{lesser, greater}
use Rattle.mill_base.specs.Points.{point_at, point_tri}
use Rattle.mill_base.specs.Solids.{Solid, higher, lifted, solid_tip}
use Rattle.mill_base.specs.declared.limits.TheConstants.{MAX_LAST_REACH}
use Rattle.mill_base.specs.declared.motion.Kind.{Kind}
use Rattle.mill_base.specs.declared.motion.Kind.TheVariants.{Rapid, Feed, Dogleg}
use Rattle.mill_base.specs.declared.motion.Move.{Move}
use Rattle.mill_base.specs.declared.points.Pt3.{Pt3}
use Rattle.mill_sweep.specs.Leaves.{reach_of}
use Rattle.mill_sweep.specs.Lifted.{IsLiftedMove}
use Rattle.mill_sweep.specs.Moments.{FailingIsBlocked, FarPasses, PassingIsClear, PassingKeepsPoint}
use Rattle.mill_sweep.specs.Apart.{low_end_of}
use Rattle.mill_sweep.specs.Reach.{OutOfReachPasses}
use Rattle.mill_sweep.proofs.ByKind.{failing_blocks, failing_reach, lifted_far_passes, lower_passes, tip_is_clear}
use Rattle.mill_sweep.proofs.Lifting.{lifted_in_lift}
use Rattle.mill_sweep.proofs.OutOfReach.{lifted_out_of_reach}
use Rattle.mill_sweep.proofs.Passing.{itself}

-- the height of the lifted move's tip at the moment k/n, over n, is the tool's and n times the lift
lifted_sum : (k n a b s : ℤ) → (((n -ℤ k) *ℤ (a +ℤ s)) +ℤ (k *ℤ (b +ℤ s))) ≡ ((((n -ℤ k) *ℤ a) +ℤ (k *ℤ b)) +ℤ (n *ℤ s))
lifted_sum k n a b s =
    ring (k ∷ n ∷ a ∷ b ∷ s ∷ [])
    (Add (Mul (Sub (Var 1) (Var 0)) (Add (Var 2) (Var 4))) (Mul (Var 0) (Add (Var 3) (Var 4))))
    (Add (Add (Mul (Sub (Var 1) (Var 0)) (Var 2)) (Mul (Var 0) (Var 3))) (Mul (Var 1) (Var 4))) refl

lifted_height : (k n a b s : ℤ) → (((n -ℤ k) *ℤ higher (pos 1) a s) +ℤ (k *ℤ higher (pos 1) b s)) ≡ higher n (((n -ℤ k) *ℤ a) +ℤ (k *ℤ b)) s
lifted_height k n a b s = rw (higher_once a s, higher_once b s, higher_is n (((n -ℤ k) *ℤ a) +ℤ (k *ℤ b)) s) (lifted_sum k n a b s)

-- so the tip of the lifted move is the solid's
pub lifted_tip : (solid : Solid) (m : Move) (k n : ℤ) → tip_at (lifted solid m) k n ≡ solid_tip solid n (tip_at m k n)
lifted_tip solid m k n = ap (λ (z : ℤ). point_at (tip_at m k n).x (tip_at m k n).y z) (lifted_height k n m.from.z m.to.z solid.lift)

-- the lower and the higher end of the lifted move
lesser_lifted : (a b s : ℤ) → lesser (a +ℤ s) (b +ℤ s) ≡ lesser a b +ℤ s
lesser_lifted a b s = by (int_lt (b +ℤ s) (a +ℤ s)) refl (int_lt b a) refl
  where
    by : (p : Bool) → int_lt (b +ℤ s) (a +ℤ s) ≡ p → (q : Bool) → int_lt b a ≡ q → cond p (b +ℤ s) (a +ℤ s) ≡ cond q b a +ℤ s
    by true e true f = refl
    by true e false f = absurd (omega (arith, ints))
    by false e true f = absurd (omega (arith, ints))
    by false e false f = refl

greater_lifted : (a b s : ℤ) → greater (a +ℤ s) (b +ℤ s) ≡ greater a b +ℤ s
greater_lifted a b s = by (int_lt (a +ℤ s) (b +ℤ s)) refl (int_lt a b) refl
  where
    by : (p : Bool) → int_lt (a +ℤ s) (b +ℤ s) ≡ p → (q : Bool) → int_lt a b ≡ q → cond p (b +ℤ s) (a +ℤ s) ≡ cond q b a +ℤ s
    by true e true f = refl
    by true e false f = absurd (omega (arith, ints))
    by false e true f = absurd (omega (arith, ints))
    by false e false f = refl

pub low_end_lifted : (solid : Solid) (m : Move) → low_end_of (lifted solid m) ≡ low_end_of m +ℤ solid.lift
low_end_lifted solid m = rw (higher_once m.from.z solid.lift, higher_once m.to.z solid.lift) (lesser_lifted m.from.z m.to.z solid.lift)

-- a height between two others stays so where all are lifted
least_up : (m g t s : ℤ) → (m *ℤ g) ≤ℤ t → (m *ℤ (g +ℤ s)) ≤ℤ (t +ℤ (m *ℤ s))
least_up m g t s h =
    prove_le_by (m ∷ g ∷ t ∷ s ∷ []) (Le (Mul (Var 0) (Var 1)) (Var 2) ∷ []) (Mul (Var 0) (Add (Var 1) (Var 3))) (Add (Var 2) (Mul (Var 0) (Var 3))) (Plus (Hyp 0) (Hyp 1)) 0 (h, tt) refl

most_up : (m g t s : ℤ) → t ≤ℤ (m *ℤ g) → (t +ℤ (m *ℤ s)) ≤ℤ (m *ℤ (g +ℤ s))
most_up m g t s h =
    prove_le_by (m ∷ g ∷ t ∷ s ∷ []) (Le (Var 2) (Mul (Var 0) (Var 1)) ∷ []) (Add (Var 2) (Mul (Var 0) (Var 3))) (Mul (Var 0) (Add (Var 1) (Var 3))) (Plus (Hyp 0) (Hyp 1)) 0 (h, tt) refl

between_up : (f t m z s : ℤ) → IsBetween f t m z → IsBetween (higher (pos 1) f s) (higher (pos 1) t s) m (higher m z s)
between_up f t m z s h = rw (higher_once f s, higher_once t s, higher_is m z s) (record {
  least = rw (lesser_lifted f t s) (least_up m (lesser f t) z s h.least);
  most = rw (greater_lifted f t s) (most_up m (greater f t) z s h.most);
})

-- where the tool's tip may be, the solid's may be so much over it
pub lifted_tip_of : (solid : Solid) (move : Move) (m : ℤ) (tip : Pt3) → IsTipOf move m tip → IsTipOf (lifted solid move) m (solid_tip solid m tip)
lifted_tip_of solid move m tip = by move.kind
  where
    on_way : IsOnWay move m tip → IsOnWay (lifted solid move) m (solid_tip solid m tip)
    on_way way = record { k = way.k; moment = way.moment; place = ap (λ (t : Pt3). solid_tip solid m t) way.place ∙ sym (lifted_tip solid move way.k m) }

    by : (kind : Kind) → IsTipBy kind move m tip → IsTipBy kind (lifted solid move) m (solid_tip solid m tip)
    by Rapid way = on_way way
    by Feed way = on_way way
    by Dogleg box = record { some = box.some; x = box.x; y = box.y; z = between_up move.from.z move.to.z m tip.z solid.lift box.z }

pub passing_is_clear : PassingIsClear
passing_is_clear solid move tri m tip ok range passes is =
    tip_is_clear solid.cutter (lifted solid move) tri m (solid_tip solid m tip) ok.cutter_ok (lifted_in_lift solid move ok.lift_ok range) passes (lifted_tip_of solid move m tip is)

pub passing_keeps_point : PassingKeepsPoint
passing_keeps_point solid move x y t h m tip ok range point_ok passes low is inside =
    passing_is_clear solid move (point_tri (point_at x y h)) m tip ok range
    (lower_passes x y t h low solid.cutter (lifted solid move) passes)
    is
    (record { n = pos 1; p = point_at x y h; point = itself (point_at x y h); inside = inside })

pub far_passes : FarPasses
far_passes solid move tri ok range = lifted_far_passes solid.cutter (lifted solid move) tri ok.cutter_ok (lifted_in_lift solid move ok.lift_ok range)

pub out_of_reach_passes : OutOfReachPasses
out_of_reach_passes solid move tri ok range = lifted_out_of_reach solid.cutter (lifted solid move) tri ok.cutter_ok (lifted_in_lift solid move ok.lift_ok range)

pub failing_is_blocked : FailingIsBlocked
failing_is_blocked solid move tri leaf ok range h = (λ straight. reach straight, failing_blocks solid.cutter (lifted solid move) tri leaf lift h)
  where
    lift : IsLiftedMove (lifted solid move)
    lift = lifted_in_lift solid move ok.lift_ok range

    -- as its way is its tool's but for the height, its leaves reach as far
    reach : IsStraight move → reach_of move leaf.d leaf.k ≤ MAX_LAST_REACH
    reach straight = failing_reach solid.cutter (lifted solid move) tri leaf lift straight h
