-- Where the tip may be on a move.
use Rattle.std.specs.Prelude.{ℤ, pos, ◌+ℤ◌, ◌-ℤ◌, ◌*ℤ◌, ◌<ℤ◌, ◌≤ℤ◌}
use Rattle.std.proofs.Common.{[], ◌∷◌, refl}
use Rattle.mill_base.proofs.Ring.{Var, Num, Add, Sub, Mul}
use Rattle.mill_base.proofs.Cert.{Le, Hyp, Plus, Times, prove_le_by}
use Rattle.mill_base.proofs.Extremes.{greater_left, greater_right, lesser_left, lesser_right}
use Rattle.mill_base.specs.Motion.{IsBetween, IsInBox, IsMoment, IsOnWay, IsSure, IsSureBy, IsTipBy, IsTipOf, tip_at}
use Rattle.mill_base.specs.Numbers.{lesser, greater}
use Rattle.mill_base.specs.declared.motion.Kind.{Kind}
use Rattle.mill_base.specs.declared.motion.Kind.TheVariants.{Rapid, Feed, Dogleg}
use Rattle.mill_base.specs.declared.motion.Move.{Move}
use Rattle.mill_base.specs.declared.points.Pt3.{Pt3}

-- a mean of two numbers is no less than what neither is less than
mean_least : (n k f t g : ℤ) → (pos 0) ≤ℤ k → k ≤ℤ n → g ≤ℤ f → g ≤ℤ t → (n *ℤ g) ≤ℤ (((n -ℤ k) *ℤ f) +ℤ (k *ℤ t))
mean_least n k f t g h0 h1 hf ht =
    prove_le_by (n ∷ k ∷ f ∷ t ∷ g ∷ []) (Le (Num (pos 0)) (Var 1) ∷ Le (Var 1) (Var 0) ∷ Le (Var 4) (Var 2) ∷ Le (Var 4) (Var 3) ∷ []) (Mul (Var 0) (Var 4)) (Add (Mul (Sub (Var 0) (Var 1)) (Var 2)) (Mul (Var 1) (Var 3)))
    (Plus (Hyp 0) (Plus (Times (Hyp 1) (Hyp 4)) (Times (Hyp 2) (Hyp 3)))) 0 (h0, (h1, (hf, (ht, tt)))) refl

-- and no greater than what neither is greater than
mean_most : (n k f t g : ℤ) → (pos 0) ≤ℤ k → k ≤ℤ n → f ≤ℤ g → t ≤ℤ g → (((n -ℤ k) *ℤ f) +ℤ (k *ℤ t)) ≤ℤ (n *ℤ g)
mean_most n k f t g h0 h1 hf ht =
    prove_le_by (n ∷ k ∷ f ∷ t ∷ g ∷ []) (Le (Num (pos 0)) (Var 1) ∷ Le (Var 1) (Var 0) ∷ Le (Var 2) (Var 4) ∷ Le (Var 3) (Var 4) ∷ []) (Add (Mul (Sub (Var 0) (Var 1)) (Var 2)) (Mul (Var 1) (Var 3))) (Mul (Var 0) (Var 4))
    (Plus (Hyp 0) (Plus (Times (Hyp 1) (Hyp 4)) (Times (Hyp 2) (Hyp 3)))) 0 (h0, (h1, (hf, (ht, tt)))) refl

mean_between : (n k f t : ℤ) → IsMoment k n → IsBetween f t n (((n -ℤ k) *ℤ f) +ℤ (k *ℤ t))
mean_between n k f t moment = record {
  least = mean_least n k f t (lesser f t) moment.after moment.before (lesser_left f t) (lesser_right f t);
  most = mean_most n k f t (greater f t) moment.after moment.before (greater_left f t) (greater_right f t);
}

-- the tip of each moment is in the box of the move's two ends
pub moment_in_box : (m : Move) (k n : ℤ) → IsMoment k n → IsInBox m n (tip_at m k n)
moment_in_box m k n moment = record {
  some = moment.some;
  x = mean_between n k m.from.x m.to.x moment;
  y = mean_between n k m.from.y m.to.y moment;
  z = mean_between n k m.from.z m.to.z moment;
}

-- so whatever kind of move it is, the tip may be there
pub moment_is_tip : (m : Move) (k n : ℤ) → IsMoment k n → IsTipOf m n (tip_at m k n)
moment_is_tip m k n moment = by m.kind
  where
    on_way : IsOnWay m n (tip_at m k n)
    on_way = record { k = k; moment = moment; place = refl }

    by : (kind : Kind) → IsTipBy kind m n (tip_at m k n)
    by Rapid = on_way
    by Feed = on_way
    by Dogleg = moment_in_box m k n moment

-- a moment at which the tip's place is sure is a moment
pub sure_is_moment : (m : Move) (k n : ℤ) → IsSure m k n → IsMoment k n
sure_is_moment m k n = by m.kind
  where
    by : (kind : Kind) → IsSureBy kind k n → IsMoment k n
    by Rapid sure = sure
    by Feed sure = sure
    by Dogleg sure = sure.0

pub sure_is_tip : (m : Move) (k n : ℤ) → IsSure m k n → IsTipOf m n (tip_at m k n)
sure_is_tip m k n sure = moment_is_tip m k n (sure_is_moment m k n sure)

-- a place at which the tip may be has a denominator
pub tip_some : (m : Move) (n : ℤ) (t : Pt3) → IsTipOf m n t → (pos 0) <ℤ n
tip_some m n t = by m.kind
  where
    by : (kind : Kind) → IsTipBy kind m n t → (pos 0) <ℤ n
    by Rapid h = h.moment.some
    by Feed h = h.moment.some
    by Dogleg h = h.some
