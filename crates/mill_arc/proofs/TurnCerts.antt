-- Polynomial facts behind the sectors of a turn.
-- Written by tools/certificates.py from tools/certificates/mill_arc_turns.spec.
use Rattle.std.proofs.Common.{◌≡◌, [], ◌∷◌, refl}
use lib.IntN.{ℤ, pos, negsuc, neg_ℤ, ◌+ℤ◌, ◌-ℤ◌, ◌*ℤ◌}
use lib.Signed.{◌<ℤ◌, ◌≤ℤ◌}
use Rattle.mill_base.proofs.Ring.{Var, Num, Add, Sub, Mul, Neg, ring}
use Rattle.mill_base.proofs.Cert.{Le, Lt, Eq, Hyp, TimesEq, Sq, Lit, Plus, Times, refute, prove_le_by, prove_lt_by}

pub three_left : (u1 u2 m1 m2 v1 v2 x1 x2 : ℤ) → ((((u1 *ℤ m2) -ℤ (u2 *ℤ m1)) *ℤ ((v1 *ℤ x2) -ℤ (v2 *ℤ x1))) +ℤ (((m1 *ℤ v2) -ℤ (m2 *ℤ v1)) *ℤ ((u1 *ℤ x2) -ℤ (u2 *ℤ x1)))) ≡ (((u1 *ℤ v2) -ℤ (u2 *ℤ v1)) *ℤ ((m1 *ℤ x2) -ℤ (m2 *ℤ x1)))
three_left u1 u2 m1 m2 v1 v2 x1 x2 = ring (u1 ∷ u2 ∷ m1 ∷ m2 ∷ v1 ∷ v2 ∷ x1 ∷ x2 ∷ []) (Add (Mul (Sub (Mul (Var 0) (Var 3)) (Mul (Var 1) (Var 2))) (Sub (Mul (Var 4) (Var 7)) (Mul (Var 5) (Var 6)))) (Mul (Sub (Mul (Var 2) (Var 5)) (Mul (Var 3) (Var 4))) (Sub (Mul (Var 0) (Var 7)) (Mul (Var 1) (Var 6))))) (Mul (Sub (Mul (Var 0) (Var 5)) (Mul (Var 1) (Var 4))) (Sub (Mul (Var 2) (Var 7)) (Mul (Var 3) (Var 6)))) refl

pub sine_left : (o1 o2 p1 p2 q1 q2 : ℤ) → (((o1 *ℤ o1) +ℤ (o2 *ℤ o2)) *ℤ ((p1 *ℤ q2) -ℤ (p2 *ℤ q1))) ≡ ((((o1 *ℤ p1) +ℤ (o2 *ℤ p2)) *ℤ ((o1 *ℤ q2) -ℤ (o2 *ℤ q1))) -ℤ (((o1 *ℤ p2) -ℤ (o2 *ℤ p1)) *ℤ ((o1 *ℤ q1) +ℤ (o2 *ℤ q2))))
sine_left o1 o2 p1 p2 q1 q2 = ring (o1 ∷ o2 ∷ p1 ∷ p2 ∷ q1 ∷ q2 ∷ []) (Mul (Add (Mul (Var 0) (Var 0)) (Mul (Var 1) (Var 1))) (Sub (Mul (Var 2) (Var 5)) (Mul (Var 3) (Var 4)))) (Sub (Mul (Add (Mul (Var 0) (Var 2)) (Mul (Var 1) (Var 3))) (Sub (Mul (Var 0) (Var 5)) (Mul (Var 1) (Var 4)))) (Mul (Sub (Mul (Var 0) (Var 3)) (Mul (Var 1) (Var 2))) (Add (Mul (Var 0) (Var 4)) (Mul (Var 1) (Var 5))))) refl

pub cosine_left : (o1 o2 p1 p2 q1 q2 : ℤ) → (((o1 *ℤ o1) +ℤ (o2 *ℤ o2)) *ℤ ((p1 *ℤ q1) +ℤ (p2 *ℤ q2))) ≡ ((((o1 *ℤ p1) +ℤ (o2 *ℤ p2)) *ℤ ((o1 *ℤ q1) +ℤ (o2 *ℤ q2))) +ℤ (((o1 *ℤ p2) -ℤ (o2 *ℤ p1)) *ℤ ((o1 *ℤ q2) -ℤ (o2 *ℤ q1))))
cosine_left o1 o2 p1 p2 q1 q2 = ring (o1 ∷ o2 ∷ p1 ∷ p2 ∷ q1 ∷ q2 ∷ []) (Mul (Add (Mul (Var 0) (Var 0)) (Mul (Var 1) (Var 1))) (Add (Mul (Var 2) (Var 4)) (Mul (Var 3) (Var 5)))) (Add (Mul (Add (Mul (Var 0) (Var 2)) (Mul (Var 1) (Var 3))) (Add (Mul (Var 0) (Var 4)) (Mul (Var 1) (Var 5)))) (Mul (Sub (Mul (Var 0) (Var 3)) (Mul (Var 1) (Var 2))) (Sub (Mul (Var 0) (Var 5)) (Mul (Var 1) (Var 4))))) refl

pub back_sine_left : (u1 u2 m1 m2 x1 x2 : ℤ) → (((m1 *ℤ m1) +ℤ (m2 *ℤ m2)) *ℤ ((u1 *ℤ x2) -ℤ (u2 *ℤ x1))) ≡ ((((u1 *ℤ m1) +ℤ (u2 *ℤ m2)) *ℤ ((m1 *ℤ x2) -ℤ (m2 *ℤ x1))) +ℤ (((u1 *ℤ m2) -ℤ (u2 *ℤ m1)) *ℤ ((m1 *ℤ x1) +ℤ (m2 *ℤ x2))))
back_sine_left u1 u2 m1 m2 x1 x2 = ring (u1 ∷ u2 ∷ m1 ∷ m2 ∷ x1 ∷ x2 ∷ []) (Mul (Add (Mul (Var 2) (Var 2)) (Mul (Var 3) (Var 3))) (Sub (Mul (Var 0) (Var 5)) (Mul (Var 1) (Var 4)))) (Add (Mul (Add (Mul (Var 0) (Var 2)) (Mul (Var 1) (Var 3))) (Sub (Mul (Var 2) (Var 5)) (Mul (Var 3) (Var 4)))) (Mul (Sub (Mul (Var 0) (Var 3)) (Mul (Var 1) (Var 2))) (Add (Mul (Var 2) (Var 4)) (Mul (Var 3) (Var 5))))) refl

pub across_from_left : (u1 u2 n1 n2 : ℤ) → ((((pos 0) -ℤ u2) *ℤ n1) +ℤ (u1 *ℤ n2)) ≡ ((u1 *ℤ n2) -ℤ (u2 *ℤ n1))
across_from_left u1 u2 n1 n2 = ring (u1 ∷ u2 ∷ n1 ∷ n2 ∷ []) (Add (Mul (Sub (Num (pos 0)) (Var 1)) (Var 2)) (Mul (Var 0) (Var 3))) (Sub (Mul (Var 0) (Var 3)) (Mul (Var 1) (Var 2))) refl

pub across_to_left : (v1 v2 n1 n2 : ℤ) → ((v2 *ℤ n1) +ℤ (((pos 0) -ℤ v1) *ℤ n2)) ≡ ((n1 *ℤ v2) -ℤ (n2 *ℤ v1))
across_to_left v1 v2 n1 n2 = ring (v1 ∷ v2 ∷ n1 ∷ n2 ∷ []) (Add (Mul (Var 1) (Var 2)) (Mul (Sub (Num (pos 0)) (Var 0)) (Var 3))) (Sub (Mul (Var 2) (Var 1)) (Mul (Var 3) (Var 0))) refl

pub across_length_left : (u1 u2 : ℤ) → ((((pos 0) -ℤ u2) *ℤ ((pos 0) -ℤ u2)) +ℤ (u1 *ℤ u1)) ≡ ((u1 *ℤ u1) +ℤ (u2 *ℤ u2))
across_length_left u1 u2 = ring (u1 ∷ u2 ∷ []) (Add (Mul (Sub (Num (pos 0)) (Var 1)) (Sub (Num (pos 0)) (Var 1))) (Mul (Var 0) (Var 0))) (Add (Mul (Var 0) (Var 0)) (Mul (Var 1) (Var 1))) refl

pub across_end_left : (v1 v2 : ℤ) → ((v2 *ℤ v2) +ℤ (((pos 0) -ℤ v1) *ℤ ((pos 0) -ℤ v1))) ≡ ((v1 *ℤ v1) +ℤ (v2 *ℤ v2))
across_end_left v1 v2 = ring (v1 ∷ v2 ∷ []) (Add (Mul (Var 1) (Var 1)) (Mul (Sub (Num (pos 0)) (Var 0)) (Sub (Num (pos 0)) (Var 0)))) (Add (Mul (Var 0) (Var 0)) (Mul (Var 1) (Var 1))) refl

pub way_from_left : (u1 u2 v1 v2 : ℤ) → ((u1 *ℤ (u1 -ℤ v1)) -ℤ (u2 *ℤ (v2 -ℤ u2))) ≡ (((u1 *ℤ u1) +ℤ (u2 *ℤ u2)) -ℤ ((u1 *ℤ v1) +ℤ (u2 *ℤ v2)))
way_from_left u1 u2 v1 v2 = ring (u1 ∷ u2 ∷ v1 ∷ v2 ∷ []) (Sub (Mul (Var 0) (Sub (Var 0) (Var 2))) (Mul (Var 1) (Sub (Var 3) (Var 1)))) (Sub (Add (Mul (Var 0) (Var 0)) (Mul (Var 1) (Var 1))) (Add (Mul (Var 0) (Var 2)) (Mul (Var 1) (Var 3)))) refl

pub way_to_left : (u1 u2 v1 v2 : ℤ) → (((v2 -ℤ u2) *ℤ v2) -ℤ ((u1 -ℤ v1) *ℤ v1)) ≡ (((v1 *ℤ v1) +ℤ (v2 *ℤ v2)) -ℤ ((u1 *ℤ v1) +ℤ (u2 *ℤ v2)))
way_to_left u1 u2 v1 v2 = ring (u1 ∷ u2 ∷ v1 ∷ v2 ∷ []) (Sub (Mul (Sub (Var 3) (Var 1)) (Var 3)) (Mul (Sub (Var 0) (Var 2)) (Var 2))) (Sub (Add (Mul (Var 2) (Var 2)) (Mul (Var 3) (Var 3))) (Add (Mul (Var 0) (Var 2)) (Mul (Var 1) (Var 3)))) refl

pub sum_from_left : (u1 u2 v1 v2 : ℤ) → ((u1 *ℤ (u2 +ℤ v2)) -ℤ (u2 *ℤ (u1 +ℤ v1))) ≡ ((u1 *ℤ v2) -ℤ (u2 *ℤ v1))
sum_from_left u1 u2 v1 v2 = ring (u1 ∷ u2 ∷ v1 ∷ v2 ∷ []) (Sub (Mul (Var 0) (Add (Var 1) (Var 3))) (Mul (Var 1) (Add (Var 0) (Var 2)))) (Sub (Mul (Var 0) (Var 3)) (Mul (Var 1) (Var 2))) refl

pub sum_to_left : (u1 u2 v1 v2 : ℤ) → (((u1 +ℤ v1) *ℤ v2) -ℤ ((u2 +ℤ v2) *ℤ v1)) ≡ ((u1 *ℤ v2) -ℤ (u2 *ℤ v1))
sum_to_left u1 u2 v1 v2 = ring (u1 ∷ u2 ∷ v1 ∷ v2 ∷ []) (Sub (Mul (Add (Var 0) (Var 2)) (Var 3)) (Mul (Add (Var 1) (Var 3)) (Var 2))) (Sub (Mul (Var 0) (Var 3)) (Mul (Var 1) (Var 2))) refl

pub back_left : (p1 p2 q1 q2 : ℤ) → ((q1 *ℤ p2) -ℤ (q2 *ℤ p1)) ≡ ((pos 0) -ℤ ((p1 *ℤ q2) -ℤ (p2 *ℤ q1)))
back_left p1 p2 q1 q2 = ring (p1 ∷ p2 ∷ q1 ∷ q2 ∷ []) (Sub (Mul (Var 2) (Var 1)) (Mul (Var 3) (Var 0))) (Sub (Num (pos 0)) (Sub (Mul (Var 0) (Var 3)) (Mul (Var 1) (Var 2)))) refl

pub cramer_1_left : (u1 u2 v1 v2 x1 x2 : ℤ) → ((((x1 *ℤ v2) -ℤ (x2 *ℤ v1)) *ℤ u1) +ℤ (((u1 *ℤ x2) -ℤ (u2 *ℤ x1)) *ℤ v1)) ≡ (((u1 *ℤ v2) -ℤ (u2 *ℤ v1)) *ℤ x1)
cramer_1_left u1 u2 v1 v2 x1 x2 = ring (u1 ∷ u2 ∷ v1 ∷ v2 ∷ x1 ∷ x2 ∷ []) (Add (Mul (Sub (Mul (Var 4) (Var 3)) (Mul (Var 5) (Var 2))) (Var 0)) (Mul (Sub (Mul (Var 0) (Var 5)) (Mul (Var 1) (Var 4))) (Var 2))) (Mul (Sub (Mul (Var 0) (Var 3)) (Mul (Var 1) (Var 2))) (Var 4)) refl

pub cramer_2_left : (u1 u2 v1 v2 x1 x2 : ℤ) → ((((x1 *ℤ v2) -ℤ (x2 *ℤ v1)) *ℤ u2) +ℤ (((u1 *ℤ x2) -ℤ (u2 *ℤ x1)) *ℤ v2)) ≡ (((u1 *ℤ v2) -ℤ (u2 *ℤ v1)) *ℤ x2)
cramer_2_left u1 u2 v1 v2 x1 x2 = ring (u1 ∷ u2 ∷ v1 ∷ v2 ∷ x1 ∷ x2 ∷ []) (Add (Mul (Sub (Mul (Var 4) (Var 3)) (Mul (Var 5) (Var 2))) (Var 1)) (Mul (Sub (Mul (Var 0) (Var 5)) (Mul (Var 1) (Var 4))) (Var 3))) (Mul (Sub (Mul (Var 0) (Var 3)) (Mul (Var 1) (Var 2))) (Var 5)) refl

pub three_right : (u1 u2 m1 m2 v1 v2 x1 x2 : ℤ) → ((((u2 *ℤ m1) -ℤ (u1 *ℤ m2)) *ℤ ((v2 *ℤ x1) -ℤ (v1 *ℤ x2))) +ℤ (((m2 *ℤ v1) -ℤ (m1 *ℤ v2)) *ℤ ((u2 *ℤ x1) -ℤ (u1 *ℤ x2)))) ≡ (((u2 *ℤ v1) -ℤ (u1 *ℤ v2)) *ℤ ((m2 *ℤ x1) -ℤ (m1 *ℤ x2)))
three_right u1 u2 m1 m2 v1 v2 x1 x2 = ring (u1 ∷ u2 ∷ m1 ∷ m2 ∷ v1 ∷ v2 ∷ x1 ∷ x2 ∷ []) (Add (Mul (Sub (Mul (Var 1) (Var 2)) (Mul (Var 0) (Var 3))) (Sub (Mul (Var 5) (Var 6)) (Mul (Var 4) (Var 7)))) (Mul (Sub (Mul (Var 3) (Var 4)) (Mul (Var 2) (Var 5))) (Sub (Mul (Var 1) (Var 6)) (Mul (Var 0) (Var 7))))) (Mul (Sub (Mul (Var 1) (Var 4)) (Mul (Var 0) (Var 5))) (Sub (Mul (Var 3) (Var 6)) (Mul (Var 2) (Var 7)))) refl

pub sine_right : (o1 o2 p1 p2 q1 q2 : ℤ) → (((o1 *ℤ o1) +ℤ (o2 *ℤ o2)) *ℤ ((p2 *ℤ q1) -ℤ (p1 *ℤ q2))) ≡ ((((o1 *ℤ p1) +ℤ (o2 *ℤ p2)) *ℤ ((o2 *ℤ q1) -ℤ (o1 *ℤ q2))) -ℤ (((o2 *ℤ p1) -ℤ (o1 *ℤ p2)) *ℤ ((o1 *ℤ q1) +ℤ (o2 *ℤ q2))))
sine_right o1 o2 p1 p2 q1 q2 = ring (o1 ∷ o2 ∷ p1 ∷ p2 ∷ q1 ∷ q2 ∷ []) (Mul (Add (Mul (Var 0) (Var 0)) (Mul (Var 1) (Var 1))) (Sub (Mul (Var 3) (Var 4)) (Mul (Var 2) (Var 5)))) (Sub (Mul (Add (Mul (Var 0) (Var 2)) (Mul (Var 1) (Var 3))) (Sub (Mul (Var 1) (Var 4)) (Mul (Var 0) (Var 5)))) (Mul (Sub (Mul (Var 1) (Var 2)) (Mul (Var 0) (Var 3))) (Add (Mul (Var 0) (Var 4)) (Mul (Var 1) (Var 5))))) refl

pub cosine_right : (o1 o2 p1 p2 q1 q2 : ℤ) → (((o1 *ℤ o1) +ℤ (o2 *ℤ o2)) *ℤ ((p1 *ℤ q1) +ℤ (p2 *ℤ q2))) ≡ ((((o1 *ℤ p1) +ℤ (o2 *ℤ p2)) *ℤ ((o1 *ℤ q1) +ℤ (o2 *ℤ q2))) +ℤ (((o2 *ℤ p1) -ℤ (o1 *ℤ p2)) *ℤ ((o2 *ℤ q1) -ℤ (o1 *ℤ q2))))
cosine_right o1 o2 p1 p2 q1 q2 = ring (o1 ∷ o2 ∷ p1 ∷ p2 ∷ q1 ∷ q2 ∷ []) (Mul (Add (Mul (Var 0) (Var 0)) (Mul (Var 1) (Var 1))) (Add (Mul (Var 2) (Var 4)) (Mul (Var 3) (Var 5)))) (Add (Mul (Add (Mul (Var 0) (Var 2)) (Mul (Var 1) (Var 3))) (Add (Mul (Var 0) (Var 4)) (Mul (Var 1) (Var 5)))) (Mul (Sub (Mul (Var 1) (Var 2)) (Mul (Var 0) (Var 3))) (Sub (Mul (Var 1) (Var 4)) (Mul (Var 0) (Var 5))))) refl

pub back_sine_right : (u1 u2 m1 m2 x1 x2 : ℤ) → (((m1 *ℤ m1) +ℤ (m2 *ℤ m2)) *ℤ ((u2 *ℤ x1) -ℤ (u1 *ℤ x2))) ≡ ((((u1 *ℤ m1) +ℤ (u2 *ℤ m2)) *ℤ ((m2 *ℤ x1) -ℤ (m1 *ℤ x2))) +ℤ (((u2 *ℤ m1) -ℤ (u1 *ℤ m2)) *ℤ ((m1 *ℤ x1) +ℤ (m2 *ℤ x2))))
back_sine_right u1 u2 m1 m2 x1 x2 = ring (u1 ∷ u2 ∷ m1 ∷ m2 ∷ x1 ∷ x2 ∷ []) (Mul (Add (Mul (Var 2) (Var 2)) (Mul (Var 3) (Var 3))) (Sub (Mul (Var 1) (Var 4)) (Mul (Var 0) (Var 5)))) (Add (Mul (Add (Mul (Var 0) (Var 2)) (Mul (Var 1) (Var 3))) (Sub (Mul (Var 3) (Var 4)) (Mul (Var 2) (Var 5)))) (Mul (Sub (Mul (Var 1) (Var 2)) (Mul (Var 0) (Var 3))) (Add (Mul (Var 2) (Var 4)) (Mul (Var 3) (Var 5))))) refl

pub across_from_right : (u1 u2 n1 n2 : ℤ) → ((u2 *ℤ n1) +ℤ (((pos 0) -ℤ u1) *ℤ n2)) ≡ ((u2 *ℤ n1) -ℤ (u1 *ℤ n2))
across_from_right u1 u2 n1 n2 = ring (u1 ∷ u2 ∷ n1 ∷ n2 ∷ []) (Add (Mul (Var 1) (Var 2)) (Mul (Sub (Num (pos 0)) (Var 0)) (Var 3))) (Sub (Mul (Var 1) (Var 2)) (Mul (Var 0) (Var 3))) refl

pub across_to_right : (v1 v2 n1 n2 : ℤ) → ((((pos 0) -ℤ v2) *ℤ n1) +ℤ (v1 *ℤ n2)) ≡ ((n2 *ℤ v1) -ℤ (n1 *ℤ v2))
across_to_right v1 v2 n1 n2 = ring (v1 ∷ v2 ∷ n1 ∷ n2 ∷ []) (Add (Mul (Sub (Num (pos 0)) (Var 1)) (Var 2)) (Mul (Var 0) (Var 3))) (Sub (Mul (Var 3) (Var 0)) (Mul (Var 2) (Var 1))) refl

pub across_length_right : (u1 u2 : ℤ) → ((u2 *ℤ u2) +ℤ (((pos 0) -ℤ u1) *ℤ ((pos 0) -ℤ u1))) ≡ ((u1 *ℤ u1) +ℤ (u2 *ℤ u2))
across_length_right u1 u2 = ring (u1 ∷ u2 ∷ []) (Add (Mul (Var 1) (Var 1)) (Mul (Sub (Num (pos 0)) (Var 0)) (Sub (Num (pos 0)) (Var 0)))) (Add (Mul (Var 0) (Var 0)) (Mul (Var 1) (Var 1))) refl

pub across_end_right : (v1 v2 : ℤ) → ((((pos 0) -ℤ v2) *ℤ ((pos 0) -ℤ v2)) +ℤ (v1 *ℤ v1)) ≡ ((v1 *ℤ v1) +ℤ (v2 *ℤ v2))
across_end_right v1 v2 = ring (v1 ∷ v2 ∷ []) (Add (Mul (Sub (Num (pos 0)) (Var 1)) (Sub (Num (pos 0)) (Var 1))) (Mul (Var 0) (Var 0))) (Add (Mul (Var 0) (Var 0)) (Mul (Var 1) (Var 1))) refl

pub way_from_right : (u1 u2 v1 v2 : ℤ) → ((u2 *ℤ (u2 -ℤ v2)) -ℤ (u1 *ℤ (v1 -ℤ u1))) ≡ (((u1 *ℤ u1) +ℤ (u2 *ℤ u2)) -ℤ ((u1 *ℤ v1) +ℤ (u2 *ℤ v2)))
way_from_right u1 u2 v1 v2 = ring (u1 ∷ u2 ∷ v1 ∷ v2 ∷ []) (Sub (Mul (Var 1) (Sub (Var 1) (Var 3))) (Mul (Var 0) (Sub (Var 2) (Var 0)))) (Sub (Add (Mul (Var 0) (Var 0)) (Mul (Var 1) (Var 1))) (Add (Mul (Var 0) (Var 2)) (Mul (Var 1) (Var 3)))) refl

pub way_to_right : (u1 u2 v1 v2 : ℤ) → (((v1 -ℤ u1) *ℤ v1) -ℤ ((u2 -ℤ v2) *ℤ v2)) ≡ (((v1 *ℤ v1) +ℤ (v2 *ℤ v2)) -ℤ ((u1 *ℤ v1) +ℤ (u2 *ℤ v2)))
way_to_right u1 u2 v1 v2 = ring (u1 ∷ u2 ∷ v1 ∷ v2 ∷ []) (Sub (Mul (Sub (Var 2) (Var 0)) (Var 2)) (Mul (Sub (Var 1) (Var 3)) (Var 3))) (Sub (Add (Mul (Var 2) (Var 2)) (Mul (Var 3) (Var 3))) (Add (Mul (Var 0) (Var 2)) (Mul (Var 1) (Var 3)))) refl

pub sum_from_right : (u1 u2 v1 v2 : ℤ) → ((u2 *ℤ (u1 +ℤ v1)) -ℤ (u1 *ℤ (u2 +ℤ v2))) ≡ ((u2 *ℤ v1) -ℤ (u1 *ℤ v2))
sum_from_right u1 u2 v1 v2 = ring (u1 ∷ u2 ∷ v1 ∷ v2 ∷ []) (Sub (Mul (Var 1) (Add (Var 0) (Var 2))) (Mul (Var 0) (Add (Var 1) (Var 3)))) (Sub (Mul (Var 1) (Var 2)) (Mul (Var 0) (Var 3))) refl

pub sum_to_right : (u1 u2 v1 v2 : ℤ) → (((u2 +ℤ v2) *ℤ v1) -ℤ ((u1 +ℤ v1) *ℤ v2)) ≡ ((u2 *ℤ v1) -ℤ (u1 *ℤ v2))
sum_to_right u1 u2 v1 v2 = ring (u1 ∷ u2 ∷ v1 ∷ v2 ∷ []) (Sub (Mul (Add (Var 1) (Var 3)) (Var 2)) (Mul (Add (Var 0) (Var 2)) (Var 3))) (Sub (Mul (Var 1) (Var 2)) (Mul (Var 0) (Var 3))) refl

pub back_right : (p1 p2 q1 q2 : ℤ) → ((q2 *ℤ p1) -ℤ (q1 *ℤ p2)) ≡ ((pos 0) -ℤ ((p2 *ℤ q1) -ℤ (p1 *ℤ q2)))
back_right p1 p2 q1 q2 = ring (p1 ∷ p2 ∷ q1 ∷ q2 ∷ []) (Sub (Mul (Var 3) (Var 0)) (Mul (Var 2) (Var 1))) (Sub (Num (pos 0)) (Sub (Mul (Var 1) (Var 2)) (Mul (Var 0) (Var 3)))) refl

pub cramer_1_right : (u1 u2 v1 v2 x1 x2 : ℤ) → ((((x2 *ℤ v1) -ℤ (x1 *ℤ v2)) *ℤ u1) +ℤ (((u2 *ℤ x1) -ℤ (u1 *ℤ x2)) *ℤ v1)) ≡ (((u2 *ℤ v1) -ℤ (u1 *ℤ v2)) *ℤ x1)
cramer_1_right u1 u2 v1 v2 x1 x2 = ring (u1 ∷ u2 ∷ v1 ∷ v2 ∷ x1 ∷ x2 ∷ []) (Add (Mul (Sub (Mul (Var 5) (Var 2)) (Mul (Var 4) (Var 3))) (Var 0)) (Mul (Sub (Mul (Var 1) (Var 4)) (Mul (Var 0) (Var 5))) (Var 2))) (Mul (Sub (Mul (Var 1) (Var 2)) (Mul (Var 0) (Var 3))) (Var 4)) refl

pub cramer_2_right : (u1 u2 v1 v2 x1 x2 : ℤ) → ((((x2 *ℤ v1) -ℤ (x1 *ℤ v2)) *ℤ u2) +ℤ (((u2 *ℤ x1) -ℤ (u1 *ℤ x2)) *ℤ v2)) ≡ (((u2 *ℤ v1) -ℤ (u1 *ℤ v2)) *ℤ x2)
cramer_2_right u1 u2 v1 v2 x1 x2 = ring (u1 ∷ u2 ∷ v1 ∷ v2 ∷ x1 ∷ x2 ∷ []) (Add (Mul (Sub (Mul (Var 5) (Var 2)) (Mul (Var 4) (Var 3))) (Var 1)) (Mul (Sub (Mul (Var 1) (Var 4)) (Mul (Var 0) (Var 5))) (Var 3))) (Mul (Sub (Mul (Var 1) (Var 2)) (Mul (Var 0) (Var 3))) (Var 5)) refl

pub back_from : (u1 u2 v1 v2 : ℤ) → ((u1 *ℤ (neg_ℤ (u1 +ℤ v1))) +ℤ (u2 *ℤ (neg_ℤ (u2 +ℤ v2)))) ≡ ((pos 0) -ℤ (((u1 *ℤ u1) +ℤ (u2 *ℤ u2)) +ℤ ((u1 *ℤ v1) +ℤ (u2 *ℤ v2))))
back_from u1 u2 v1 v2 = ring (u1 ∷ u2 ∷ v1 ∷ v2 ∷ []) (Add (Mul (Var 0) (Neg (Add (Var 0) (Var 2)))) (Mul (Var 1) (Neg (Add (Var 1) (Var 3))))) (Sub (Num (pos 0)) (Add (Add (Mul (Var 0) (Var 0)) (Mul (Var 1) (Var 1))) (Add (Mul (Var 0) (Var 2)) (Mul (Var 1) (Var 3))))) refl

pub back_to : (u1 u2 v1 v2 : ℤ) → ((v1 *ℤ (neg_ℤ (u1 +ℤ v1))) +ℤ (v2 *ℤ (neg_ℤ (u2 +ℤ v2)))) ≡ ((pos 0) -ℤ (((v1 *ℤ v1) +ℤ (v2 *ℤ v2)) +ℤ ((u1 *ℤ v1) +ℤ (u2 *ℤ v2))))
back_to u1 u2 v1 v2 = ring (u1 ∷ u2 ∷ v1 ∷ v2 ∷ []) (Add (Mul (Var 2) (Neg (Add (Var 0) (Var 2)))) (Mul (Var 3) (Neg (Add (Var 1) (Var 3))))) (Sub (Num (pos 0)) (Add (Add (Mul (Var 2) (Var 2)) (Mul (Var 3) (Var 3))) (Add (Mul (Var 0) (Var 2)) (Mul (Var 1) (Var 3))))) refl

pub minus_dot : (a1 a2 n1 n2 : ℤ) → ((((pos 0) -ℤ a1) *ℤ n1) +ℤ (((pos 0) -ℤ a2) *ℤ n2)) ≡ ((pos 0) -ℤ ((a1 *ℤ n1) +ℤ (a2 *ℤ n2)))
minus_dot a1 a2 n1 n2 = ring (a1 ∷ a2 ∷ n1 ∷ n2 ∷ []) (Add (Mul (Sub (Num (pos 0)) (Var 0)) (Var 2)) (Mul (Sub (Num (pos 0)) (Var 1)) (Var 3))) (Sub (Num (pos 0)) (Add (Mul (Var 0) (Var 2)) (Mul (Var 1) (Var 3)))) refl

pub minus_length : (a1 a2 : ℤ) → ((((pos 0) -ℤ a1) *ℤ ((pos 0) -ℤ a1)) +ℤ (((pos 0) -ℤ a2) *ℤ ((pos 0) -ℤ a2))) ≡ ((a1 *ℤ a1) +ℤ (a2 *ℤ a2))
minus_length a1 a2 = ring (a1 ∷ a2 ∷ []) (Add (Mul (Sub (Num (pos 0)) (Var 0)) (Sub (Num (pos 0)) (Var 0))) (Mul (Sub (Num (pos 0)) (Var 1)) (Sub (Num (pos 0)) (Var 1)))) (Add (Mul (Var 0) (Var 0)) (Mul (Var 1) (Var 1))) refl

pub dot_turned : (n1 n2 v1 v2 : ℤ) → ((n1 *ℤ v1) +ℤ (n2 *ℤ v2)) ≡ ((v1 *ℤ n1) +ℤ (v2 *ℤ n2))
dot_turned n1 n2 v1 v2 = ring (n1 ∷ n2 ∷ v1 ∷ v2 ∷ []) (Add (Mul (Var 0) (Var 2)) (Mul (Var 1) (Var 3))) (Add (Mul (Var 2) (Var 0)) (Mul (Var 3) (Var 1))) refl

-- vars m p q w; hyp hp: p <= (2*(m+1))*(2*(m+1)); hyp hq: q <= (2*(m+1))*(2*(m+1)); hyp hw: w <= 2*(p+q); goal w <= (4*(m+1))*(4*(m+1))
pub way_double : (m p q w : ℤ) → p ≤ℤ (((pos 2) *ℤ (m +ℤ (pos 1))) *ℤ ((pos 2) *ℤ (m +ℤ (pos 1)))) → q ≤ℤ (((pos 2) *ℤ (m +ℤ (pos 1))) *ℤ ((pos 2) *ℤ (m +ℤ (pos 1)))) → w ≤ℤ ((pos 2) *ℤ (p +ℤ q)) → w ≤ℤ (((pos 4) *ℤ (m +ℤ (pos 1))) *ℤ ((pos 4) *ℤ (m +ℤ (pos 1))))
way_double m p q w hp hq hw = prove_le_by (m ∷ p ∷ q ∷ w ∷ []) (Le (Var 1) (Mul (Mul (Num (pos 2)) (Add (Var 0) (Num (pos 1)))) (Mul (Num (pos 2)) (Add (Var 0) (Num (pos 1))))) ∷ Le (Var 2) (Mul (Mul (Num (pos 2)) (Add (Var 0) (Num (pos 1)))) (Mul (Num (pos 2)) (Add (Var 0) (Num (pos 1))))) ∷ Le (Var 3) (Mul (Num (pos 2)) (Add (Var 1) (Var 2))) ∷ []) (Var 3) (Mul (Mul (Num (pos 4)) (Add (Var 0) (Num (pos 1)))) (Mul (Num (pos 4)) (Add (Var 0) (Num (pos 1))))) (Plus (Hyp 0) (Plus (Times (Lit 2) (Hyp 1)) (Plus (Times (Lit 2) (Hyp 2)) (Hyp 3)))) 0 (hp, (hq, (hw, tt))) refl

-- vars m; hyp hm: 1000 <= m; goal 7*m <= (m-1)*(m-1); mul hm * hm
pub seven_least : (m : ℤ) → (pos 1000) ≤ℤ m → ((pos 7) *ℤ m) ≤ℤ ((m -ℤ (pos 1)) *ℤ (m -ℤ (pos 1)))
seven_least m hm = prove_le_by (m ∷ []) (Le (Num (pos 1000)) (Var 0) ∷ []) (Mul (Num (pos 7)) (Var 0)) (Mul (Sub (Var 0) (Num (pos 1))) (Sub (Var 0) (Num (pos 1)))) (Plus (Hyp 0) (Plus (Times (Lit 1991) (Hyp 1)) (Times (Hyp 1) (Hyp 1)))) 991001 (hm, tt) refl

-- vars m k; hyp hm: 1000 <= m; hyp hk: 1000 <= k; goal 7*m <= 4*(m*(k-1)); mul hm * hk
pub seven_sine : (m k : ℤ) → (pos 1000) ≤ℤ m → (pos 1000) ≤ℤ k → ((pos 7) *ℤ m) ≤ℤ ((pos 4) *ℤ (m *ℤ (k -ℤ (pos 1))))
seven_sine m k hm hk = prove_le_by (m ∷ k ∷ []) (Le (Num (pos 1000)) (Var 0) ∷ Le (Num (pos 1000)) (Var 1) ∷ []) (Mul (Num (pos 7)) (Var 0)) (Mul (Num (pos 4)) (Mul (Var 0) (Sub (Var 1) (Num (pos 1))))) (Plus (Hyp 0) (Plus (Times (Lit 3989) (Hyp 1)) (Plus (Times (Lit 4000) (Hyp 2)) (Times (Lit 4) (Times (Hyp 1) (Hyp 2)))))) 3989000 (hm, (hk, tt)) refl

-- vars f s q; hyp h: 2*(f*f) <= (s*s)*(q*q); goal (7*f)*(7*f) <= (5*(s*q))*(5*(s*q)); square s*q
pub seven_parts : (f s q : ℤ) → ((pos 2) *ℤ (f *ℤ f)) ≤ℤ ((s *ℤ s) *ℤ (q *ℤ q)) → (((pos 7) *ℤ f) *ℤ ((pos 7) *ℤ f)) ≤ℤ (((pos 5) *ℤ (s *ℤ q)) *ℤ ((pos 5) *ℤ (s *ℤ q)))
seven_parts f s q h = prove_le_by (f ∷ s ∷ q ∷ []) (Le (Mul (Num (pos 2)) (Mul (Var 0) (Var 0))) (Mul (Mul (Var 1) (Var 1)) (Mul (Var 2) (Var 2))) ∷ []) (Mul (Mul (Num (pos 7)) (Var 0)) (Mul (Num (pos 7)) (Var 0))) (Mul (Mul (Num (pos 5)) (Mul (Var 1) (Var 2))) (Mul (Num (pos 5)) (Mul (Var 1) (Var 2)))) (Plus (Times (Lit 2) (Hyp 0)) (Plus (Times (Lit 49) (Hyp 1)) (Sq (Mul (Var 1) (Var 2))))) 1 (h, tt) refl

-- vars q r s n m f; hyp hm: 1000 <= m; hyp hq: 0 < q; hyp hqm: q <= 4*(m+1); hyp hr: m <= r; hyp hs: 7*m <= s; hyp hn: q*n == r*s + f; hyp hf: 7*(0-f) <= 5*((2*(m+1))*q); goal 0 < n; mul goal * hq+; mul hqm * hm; mul hs * hr; mul hs * hm; mul hr * hm; mul hm * hm
pub side_most : (q r s n m f : ℤ) → (pos 1000) ≤ℤ m → (pos 0) <ℤ q → q ≤ℤ ((pos 4) *ℤ (m +ℤ (pos 1))) → m ≤ℤ r → ((pos 7) *ℤ m) ≤ℤ s → (q *ℤ n) ≡ ((r *ℤ s) +ℤ f) → ((pos 7) *ℤ ((pos 0) -ℤ f)) ≤ℤ ((pos 5) *ℤ (((pos 2) *ℤ (m +ℤ (pos 1))) *ℤ q)) → (pos 0) <ℤ n
side_most q r s n m f hm hq hqm hr hs hn hf = prove_lt_by (q ∷ r ∷ s ∷ n ∷ m ∷ f ∷ []) (Le (Num (pos 1000)) (Var 4) ∷ Lt (Num (pos 0)) (Var 0) ∷ Le (Var 0) (Mul (Num (pos 4)) (Add (Var 4) (Num (pos 1)))) ∷ Le (Var 4) (Var 1) ∷ Le (Mul (Num (pos 7)) (Var 4)) (Var 2) ∷ Eq (Mul (Var 0) (Var 3)) (Add (Mul (Var 1) (Var 2)) (Var 5)) ∷ Le (Mul (Num (pos 7)) (Sub (Num (pos 0)) (Var 5))) (Mul (Num (pos 5)) (Mul (Mul (Num (pos 2)) (Add (Var 4) (Num (pos 1)))) (Var 0))) ∷ []) (Num (pos 0)) (Var 3) (Plus (Times (Lit 17920) (Hyp 1)) (Plus (Times (Lit 10010) (Hyp 3)) (Plus (Times (Lit 49000) (Hyp 4)) (Plus (Times (Lit 7000) (Hyp 5)) (Plus (Times (Lit 7) (TimesEq 6 (Num (negsuc 0)))) (Plus (Hyp 7) (Plus (Times (Lit 7) (Times (Hyp 0) (Plus (Hyp 2) (Lit 1)))) (Plus (Times (Lit 10) (Times (Hyp 3) (Hyp 1))) (Plus (Times (Lit 7) (Times (Hyp 5) (Hyp 4))) (Plus (Times (Lit 7) (Times (Hyp 5) (Hyp 1))) (Plus (Times (Lit 49) (Times (Hyp 4) (Hyp 1))) (Times (Lit 9) (Times (Hyp 1) (Hyp 1)))))))))))))) 8919959 (hm, (hq, (hqm, (hr, (hs, (hn, (hf, tt))))))) refl

pub side_sum : (q r w1 w2 n1 n2 a1 a2 : ℤ) → (q *ℤ ((a1 *ℤ n1) +ℤ (a2 *ℤ n2))) ≡ ((r *ℤ ((a1 *ℤ w1) +ℤ (a2 *ℤ w2))) +ℤ ((a1 *ℤ ((q *ℤ n1) -ℤ (r *ℤ w1))) +ℤ (a2 *ℤ ((q *ℤ n2) -ℤ (r *ℤ w2)))))
side_sum q r w1 w2 n1 n2 a1 a2 = ring (q ∷ r ∷ w1 ∷ w2 ∷ n1 ∷ n2 ∷ a1 ∷ a2 ∷ []) (Mul (Var 0) (Add (Mul (Var 6) (Var 4)) (Mul (Var 7) (Var 5)))) (Add (Mul (Var 1) (Add (Mul (Var 6) (Var 2)) (Mul (Var 7) (Var 3)))) (Add (Mul (Var 6) (Sub (Mul (Var 0) (Var 4)) (Mul (Var 1) (Var 2)))) (Mul (Var 7) (Sub (Mul (Var 0) (Var 5)) (Mul (Var 1) (Var 3)))))) refl

-- vars s d r m k; hyp hm: 0 <= m; hyp hk: 1 <= k; hyp hd: 0 <= d; hyp hb: 4*(m*k) < r - d; hyp h: (r-4*m)*(r-4*m) <= s*s + d*d; goal (4*(m*(k-1)))*(4*(m*(k-1))) <= s*s; mul hb * hd; mul hb * hb; mul hm * hk * hd; mul hm * hk * hb; mul hm * hk
pub sine_least : (s d r m k : ℤ) → (pos 0) ≤ℤ m → (pos 1) ≤ℤ k → (pos 0) ≤ℤ d → ((pos 4) *ℤ (m *ℤ k)) <ℤ (r -ℤ d) → ((r -ℤ ((pos 4) *ℤ m)) *ℤ (r -ℤ ((pos 4) *ℤ m))) ≤ℤ ((s *ℤ s) +ℤ (d *ℤ d)) → (((pos 4) *ℤ (m *ℤ (k -ℤ (pos 1)))) *ℤ ((pos 4) *ℤ (m *ℤ (k -ℤ (pos 1))))) ≤ℤ (s *ℤ s)
sine_least s d r m k hm hk hd hb h = prove_le_by (s ∷ d ∷ r ∷ m ∷ k ∷ []) (Le (Num (pos 0)) (Var 3) ∷ Le (Num (pos 1)) (Var 4) ∷ Le (Num (pos 0)) (Var 1) ∷ Lt (Mul (Num (pos 4)) (Mul (Var 3) (Var 4))) (Sub (Var 2) (Var 1)) ∷ Le (Mul (Sub (Var 2) (Mul (Num (pos 4)) (Var 3))) (Sub (Var 2) (Mul (Num (pos 4)) (Var 3)))) (Add (Mul (Var 0) (Var 0)) (Mul (Var 1) (Var 1))) ∷ []) (Mul (Mul (Num (pos 4)) (Mul (Var 3) (Sub (Var 4) (Num (pos 1))))) (Mul (Num (pos 4)) (Mul (Var 3) (Sub (Var 4) (Num (pos 1)))))) (Mul (Var 0) (Var 0)) (Plus (Hyp 0) (Plus (Times (Lit 2) (Hyp 3)) (Plus (Times (Lit 2) (Hyp 4)) (Plus (Hyp 5) (Plus (Times (Lit 2) (Times (Hyp 4) (Hyp 3))) (Plus (Times (Hyp 4) (Hyp 4)) (Plus (Times (Lit 8) (Times (Times (Hyp 1) (Hyp 2)) (Hyp 3))) (Plus (Times (Lit 8) (Times (Times (Hyp 1) (Hyp 2)) (Hyp 4))) (Times (Lit 8) (Times (Hyp 1) (Hyp 2))))))))))) 1 (hm, (hk, (hd, (hb, (h, tt))))) refl

-- vars p q a b; hyp ha: 0 <= a; hyp hb: 0 <= b; hyp hp: a*a <= p; hyp hq: b*b <= q; goal (a*b)*(a*b) <= p*q; mul hp * sq(b); mul hp * hq; mul hq * sq(a)
pub radii_product : (p q a b : ℤ) → (pos 0) ≤ℤ a → (pos 0) ≤ℤ b → (a *ℤ a) ≤ℤ p → (b *ℤ b) ≤ℤ q → ((a *ℤ b) *ℤ (a *ℤ b)) ≤ℤ (p *ℤ q)
radii_product p q a b ha hb hp hq = prove_le_by (p ∷ q ∷ a ∷ b ∷ []) (Le (Num (pos 0)) (Var 2) ∷ Le (Num (pos 0)) (Var 3) ∷ Le (Mul (Var 2) (Var 2)) (Var 0) ∷ Le (Mul (Var 3) (Var 3)) (Var 1) ∷ []) (Mul (Mul (Var 2) (Var 3)) (Mul (Var 2) (Var 3))) (Mul (Var 0) (Var 1)) (Plus (Hyp 0) (Plus (Times (Hyp 3) (Sq (Var 3))) (Plus (Times (Hyp 3) (Hyp 4)) (Times (Hyp 4) (Sq (Var 2)))))) 0 (ha, (hb, (hp, (hq, tt)))) refl

-- vars a b m k d; hyp hm: 1000 <= m; hyp hk: 1000 <= k; hyp hd: 0 <= d; hyp hb: 4*(m*k) < a*b - d; goal 0 <= a*b - 4*m; mul hm * hk
pub radii_some : (a b m k d : ℤ) → (pos 1000) ≤ℤ m → (pos 1000) ≤ℤ k → (pos 0) ≤ℤ d → ((pos 4) *ℤ (m *ℤ k)) <ℤ ((a *ℤ b) -ℤ d) → (pos 0) ≤ℤ ((a *ℤ b) -ℤ ((pos 4) *ℤ m))
radii_some a b m k d hm hk hd hb = prove_le_by (a ∷ b ∷ m ∷ k ∷ d ∷ []) (Le (Num (pos 1000)) (Var 2) ∷ Le (Num (pos 1000)) (Var 3) ∷ Le (Num (pos 0)) (Var 4) ∷ Lt (Mul (Num (pos 4)) (Mul (Var 2) (Var 3))) (Sub (Mul (Var 0) (Var 1)) (Var 4)) ∷ []) (Num (pos 0)) (Sub (Mul (Var 0) (Var 1)) (Mul (Num (pos 4)) (Var 2))) (Plus (Hyp 0) (Plus (Times (Lit 3996) (Hyp 1)) (Plus (Times (Lit 4000) (Hyp 2)) (Plus (Hyp 3) (Plus (Hyp 4) (Times (Lit 4) (Times (Hyp 1) (Hyp 2)))))))) 3996001 (hm, (hk, (hd, (hb, tt)))) refl

-- vars a b m; hyp ha: a <= 2*m; hyp hb: b <= 2*m; goal a*b - 4*m <= (a-1)*(b-1)
pub radii_less : (a b m : ℤ) → a ≤ℤ ((pos 2) *ℤ m) → b ≤ℤ ((pos 2) *ℤ m) → ((a *ℤ b) -ℤ ((pos 4) *ℤ m)) ≤ℤ ((a -ℤ (pos 1)) *ℤ (b -ℤ (pos 1)))
radii_less a b m ha hb = prove_le_by (a ∷ b ∷ m ∷ []) (Le (Var 0) (Mul (Num (pos 2)) (Var 2)) ∷ Le (Var 1) (Mul (Num (pos 2)) (Var 2)) ∷ []) (Sub (Mul (Var 0) (Var 1)) (Mul (Num (pos 4)) (Var 2))) (Mul (Sub (Var 0) (Num (pos 1))) (Sub (Var 1) (Num (pos 1)))) (Plus (Hyp 0) (Plus (Hyp 1) (Hyp 2))) 1 (ha, (hb, tt)) refl

-- vars k1 k2 k3 x y z; hyp h1: 0 < k1; hyp h2: 0 < k2; hyp h3: 0 < k3; hyp hx: 0 < x; hyp hy: 0 < y; hyp h: k1*x + k2*y == k3*z; goal 0 < z; mul goal * h3+; mul h1+ * hx+; mul h2+ * hy+; mul h1 * hx; mul h1 * h1; mul h1+ * hx
pub comb_pos : (k1 k2 k3 x y z : ℤ) → (pos 0) <ℤ k1 → (pos 0) <ℤ k2 → (pos 0) <ℤ k3 → (pos 0) <ℤ x → (pos 0) <ℤ y → ((k1 *ℤ x) +ℤ (k2 *ℤ y)) ≡ (k3 *ℤ z) → (pos 0) <ℤ z
comb_pos k1 k2 k3 x y z h1 h2 h3 hx hy h = prove_lt_by (k1 ∷ k2 ∷ k3 ∷ x ∷ y ∷ z ∷ []) (Lt (Num (pos 0)) (Var 0) ∷ Lt (Num (pos 0)) (Var 1) ∷ Lt (Num (pos 0)) (Var 2) ∷ Lt (Num (pos 0)) (Var 3) ∷ Lt (Num (pos 0)) (Var 4) ∷ Eq (Add (Mul (Var 0) (Var 3)) (Mul (Var 1) (Var 4))) (Mul (Var 2) (Var 5)) ∷ []) (Num (pos 0)) (Var 5) (Plus (Hyp 1) (Plus (Hyp 4) (Plus (TimesEq 6 (Num (pos 1))) (Plus (Times (Hyp 0) (Plus (Hyp 3) (Lit 1))) (Plus (Times (Plus (Hyp 2) (Lit 1)) (Plus (Hyp 5) (Lit 1))) (Times (Hyp 1) (Hyp 4))))))) 0 (h1, (h2, (h3, (hx, (hy, (h, tt)))))) refl

-- vars k1 k2 k3 x y z; hyp h1: 0 < k1; hyp h2: 0 < k2; hyp h3: 0 < k3; hyp hx: x <= 0; hyp hy: y <= 0; hyp h: k1*x + k2*y == k3*z; goal z <= 0; mul goal * h3; mul goal * h3+; mul h1+ * hx; mul h2+ * hy
pub comb_neg : (k1 k2 k3 x y z : ℤ) → (pos 0) <ℤ k1 → (pos 0) <ℤ k2 → (pos 0) <ℤ k3 → x ≤ℤ (pos 0) → y ≤ℤ (pos 0) → ((k1 *ℤ x) +ℤ (k2 *ℤ y)) ≡ (k3 *ℤ z) → z ≤ℤ (pos 0)
comb_neg k1 k2 k3 x y z h1 h2 h3 hx hy h = prove_le_by (k1 ∷ k2 ∷ k3 ∷ x ∷ y ∷ z ∷ []) (Lt (Num (pos 0)) (Var 0) ∷ Lt (Num (pos 0)) (Var 1) ∷ Lt (Num (pos 0)) (Var 2) ∷ Le (Var 3) (Num (pos 0)) ∷ Le (Var 4) (Num (pos 0)) ∷ Eq (Add (Mul (Var 0) (Var 3)) (Mul (Var 1) (Var 4))) (Mul (Var 2) (Var 5)) ∷ []) (Var 5) (Num (pos 0)) (Plus (Hyp 0) (Plus (Hyp 3) (Plus (TimesEq 6 (Num (negsuc 0))) (Plus (Times (Hyp 0) (Hyp 3)) (Plus (Times (Plus (Hyp 1) (Lit 1)) (Hyp 4)) (Times (Plus (Hyp 2) (Lit 1)) (Hyp 5))))))) 0 (h1, (h2, (h3, (hx, (hy, (h, tt)))))) refl

-- vars f g n a b c; hyp hf: 0 < f; hyp hg: 0 < g; hyp hn: n < 0; hyp hb: b <= 0; hyp hc: c <= 0; hyp h: f*c + g*a == n*b; goal 0 <= a; mul goal * hg+; mul hf+ * hc; mul hn+ * hb; mul goal * hg
pub more_none_a : (f g n a b c : ℤ) → (pos 0) <ℤ f → (pos 0) <ℤ g → n <ℤ (pos 0) → b ≤ℤ (pos 0) → c ≤ℤ (pos 0) → ((f *ℤ c) +ℤ (g *ℤ a)) ≡ (n *ℤ b) → (pos 0) ≤ℤ a
more_none_a f g n a b c hf hg hn hb hc h = prove_le_by (f ∷ g ∷ n ∷ a ∷ b ∷ c ∷ []) (Lt (Num (pos 0)) (Var 0) ∷ Lt (Num (pos 0)) (Var 1) ∷ Lt (Var 2) (Num (pos 0)) ∷ Le (Var 4) (Num (pos 0)) ∷ Le (Var 5) (Num (pos 0)) ∷ Eq (Add (Mul (Var 0) (Var 5)) (Mul (Var 1) (Var 3))) (Mul (Var 2) (Var 4)) ∷ []) (Num (pos 0)) (Var 3) (Plus (Hyp 2) (Plus (TimesEq 6 (Num (negsuc 0))) (Plus (Times (Hyp 0) (Plus (Hyp 2) (Lit 1))) (Plus (Times (Plus (Hyp 1) (Lit 1)) (Hyp 5)) (Times (Plus (Hyp 3) (Lit 1)) (Hyp 4)))))) 0 (hf, (hg, (hn, (hb, (hc, (h, tt)))))) refl

-- vars f g n a b c; hyp hf: 0 < f; hyp hg: 0 < g; hyp hn: n < 0; hyp ha: a <= 0; hyp hc: c <= 0; hyp h: f*c + g*a == n*b; goal 0 <= b; mul goal * hn+; mul hf+ * hc; mul hg+ * ha; mul goal * hn
pub more_none_b : (f g n a b c : ℤ) → (pos 0) <ℤ f → (pos 0) <ℤ g → n <ℤ (pos 0) → a ≤ℤ (pos 0) → c ≤ℤ (pos 0) → ((f *ℤ c) +ℤ (g *ℤ a)) ≡ (n *ℤ b) → (pos 0) ≤ℤ b
more_none_b f g n a b c hf hg hn ha hc h = prove_le_by (f ∷ g ∷ n ∷ a ∷ b ∷ c ∷ []) (Lt (Num (pos 0)) (Var 0) ∷ Lt (Num (pos 0)) (Var 1) ∷ Lt (Var 2) (Num (pos 0)) ∷ Le (Var 3) (Num (pos 0)) ∷ Le (Var 5) (Num (pos 0)) ∷ Eq (Add (Mul (Var 0) (Var 5)) (Mul (Var 1) (Var 3))) (Mul (Var 2) (Var 4)) ∷ []) (Num (pos 0)) (Var 4) (Plus (Hyp 3) (Plus (TimesEq 6 (Num (negsuc 0))) (Plus (Times (Hyp 0) (Plus (Hyp 3) (Lit 1))) (Plus (Times (Plus (Hyp 1) (Lit 1)) (Hyp 5)) (Times (Plus (Hyp 2) (Lit 1)) (Hyp 4)))))) 0 (hf, (hg, (hn, (ha, (hc, (h, tt)))))) refl

-- vars f g n a b c; hyp hf: 0 < f; hyp hg: 0 < g; hyp hn: n < 0; hyp ha: 0 < a; hyp hb: 0 < b; hyp hc: 0 < c; hyp h: f*c + g*a == n*b; goal false; mul hn+ * hb+; mul hf+ * hc+; mul hg+ * ha+; mul hf * hc; mul hf+ * hc
pub more_all : (f g n a b c : ℤ) → (pos 0) <ℤ f → (pos 0) <ℤ g → n <ℤ (pos 0) → (pos 0) <ℤ a → (pos 0) <ℤ b → (pos 0) <ℤ c → ((f *ℤ c) +ℤ (g *ℤ a)) ≡ (n *ℤ b) → ⊥
more_all f g n a b c hf hg hn ha hb hc h = refute (f ∷ g ∷ n ∷ a ∷ b ∷ c ∷ []) (Lt (Num (pos 0)) (Var 0) ∷ Lt (Num (pos 0)) (Var 1) ∷ Lt (Var 2) (Num (pos 0)) ∷ Lt (Num (pos 0)) (Var 3) ∷ Lt (Num (pos 0)) (Var 4) ∷ Lt (Num (pos 0)) (Var 5) ∷ Eq (Add (Mul (Var 0) (Var 5)) (Mul (Var 1) (Var 3))) (Mul (Var 2) (Var 4)) ∷ []) (Plus (Hyp 0) (Plus (Hyp 5) (Plus (TimesEq 6 (Num (pos 1))) (Plus (Times (Plus (Hyp 2) (Lit 1)) (Plus (Hyp 4) (Lit 1))) (Plus (Times (Plus (Hyp 1) (Lit 1)) (Plus (Hyp 3) (Lit 1))) (Times (Hyp 0) (Hyp 5))))))) 0 (hf, (hg, (hn, (ha, (hb, (hc, (h, tt))))))) refl

-- vars p f m a b o; hyp hf: 0 < f; hyp ha: a == 0; hyp hb: b == 0; hyp h: p*b == m*a - f*o; goal 0 <= o; mul goal * hf+; mul goal * hf; eqmul ha * (m); eqmul hb * (p)
pub off_least : (p f m a b o : ℤ) → (pos 0) <ℤ f → a ≡ (pos 0) → b ≡ (pos 0) → (p *ℤ b) ≡ ((m *ℤ a) -ℤ (f *ℤ o)) → (pos 0) ≤ℤ o
off_least p f m a b o hf ha hb h = prove_le_by (p ∷ f ∷ m ∷ a ∷ b ∷ o ∷ []) (Lt (Num (pos 0)) (Var 1) ∷ Eq (Var 3) (Num (pos 0)) ∷ Eq (Var 4) (Num (pos 0)) ∷ Eq (Mul (Var 0) (Var 4)) (Sub (Mul (Var 2) (Var 3)) (Mul (Var 1) (Var 5))) ∷ []) (Num (pos 0)) (Var 5) (Plus (Hyp 1) (Plus (TimesEq 4 (Num (negsuc 0))) (Plus (Times (Hyp 0) (Plus (Hyp 1) (Lit 1))) (Plus (TimesEq 2 (Neg (Var 2))) (TimesEq 3 (Var 0)))))) 0 (hf, (ha, (hb, (h, tt)))) refl

-- vars p f m a b o; hyp hf: 0 < f; hyp ha: a == 0; hyp hb: b == 0; hyp h: p*b == m*a - f*o; goal o <= 0; mul goal * hf+; mul goal * hf; eqmul ha * (m); eqmul hb * (p)
pub off_most : (p f m a b o : ℤ) → (pos 0) <ℤ f → a ≡ (pos 0) → b ≡ (pos 0) → (p *ℤ b) ≡ ((m *ℤ a) -ℤ (f *ℤ o)) → o ≤ℤ (pos 0)
off_most p f m a b o hf ha hb h = prove_le_by (p ∷ f ∷ m ∷ a ∷ b ∷ o ∷ []) (Lt (Num (pos 0)) (Var 1) ∷ Eq (Var 3) (Num (pos 0)) ∷ Eq (Var 4) (Num (pos 0)) ∷ Eq (Mul (Var 0) (Var 4)) (Sub (Mul (Var 2) (Var 3)) (Mul (Var 1) (Var 5))) ∷ []) (Var 5) (Num (pos 0)) (Plus (Hyp 1) (Plus (TimesEq 4 (Num (pos 1))) (Plus (Times (Hyp 0) (Plus (Hyp 1) (Lit 1))) (Plus (TimesEq 2 (Var 2)) (TimesEq 3 (Neg (Var 0))))))) 0 (hf, (ha, (hb, (h, tt)))) refl

-- vars p x d n; hyp hp: 0 < p; hyp hx: 0 < x; hyp hd: d == 0; hyp hn: n == 0; hyp h: p*x == d*d + n*n; goal false; mul hp * hx; mul hp+ * hx+; eqmul hd * (d); eqmul hn * (n)
pub all_none : (p x d n : ℤ) → (pos 0) <ℤ p → (pos 0) <ℤ x → d ≡ (pos 0) → n ≡ (pos 0) → (p *ℤ x) ≡ ((d *ℤ d) +ℤ (n *ℤ n)) → ⊥
all_none p x d n hp hx hd hn h = refute (p ∷ x ∷ d ∷ n ∷ []) (Lt (Num (pos 0)) (Var 0) ∷ Lt (Num (pos 0)) (Var 1) ∷ Eq (Var 2) (Num (pos 0)) ∷ Eq (Var 3) (Num (pos 0)) ∷ Eq (Mul (Var 0) (Var 1)) (Add (Mul (Var 2) (Var 2)) (Mul (Var 3) (Var 3))) ∷ []) (Plus (Hyp 0) (Plus (Hyp 1) (Plus (TimesEq 4 (Num (pos 1))) (Plus (Times (Hyp 0) (Hyp 1)) (Plus (TimesEq 2 (Var 2)) (TimesEq 3 (Var 3))))))) 0 (hp, (hx, (hd, (hn, (h, tt))))) refl

-- vars k l a u1 u2 v1 v2 x1 x2; hyp ha: 0 < a; hyp hx: 0 < x1*x1 + x2*x2; hyp hk: k == 0; hyp hl: l == 0; hyp h1: l*u1 + k*v1 == a*x1; hyp h2: l*u2 + k*v2 == a*x2; goal false; mul ha+ * hx+; mul ha * hx; eqmul h1 * (x1); eqmul h2 * (x2); eqmul hk * (v1*x1+v2*x2); eqmul hl * (u1*x1+u2*x2)
pub no_point : (k l a u1 u2 v1 v2 x1 x2 : ℤ) → (pos 0) <ℤ a → (pos 0) <ℤ ((x1 *ℤ x1) +ℤ (x2 *ℤ x2)) → k ≡ (pos 0) → l ≡ (pos 0) → ((l *ℤ u1) +ℤ (k *ℤ v1)) ≡ (a *ℤ x1) → ((l *ℤ u2) +ℤ (k *ℤ v2)) ≡ (a *ℤ x2) → ⊥
no_point k l a u1 u2 v1 v2 x1 x2 ha hx hk hl h1 h2 = refute (k ∷ l ∷ a ∷ u1 ∷ u2 ∷ v1 ∷ v2 ∷ x1 ∷ x2 ∷ []) (Lt (Num (pos 0)) (Var 2) ∷ Lt (Num (pos 0)) (Add (Mul (Var 7) (Var 7)) (Mul (Var 8) (Var 8))) ∷ Eq (Var 0) (Num (pos 0)) ∷ Eq (Var 1) (Num (pos 0)) ∷ Eq (Add (Mul (Var 1) (Var 3)) (Mul (Var 0) (Var 5))) (Mul (Var 2) (Var 7)) ∷ Eq (Add (Mul (Var 1) (Var 4)) (Mul (Var 0) (Var 6))) (Mul (Var 2) (Var 8)) ∷ []) (Plus (Hyp 0) (Plus (Hyp 1) (Plus (Times (Hyp 0) (Hyp 1)) (Plus (TimesEq 4 (Neg (Var 7))) (Plus (TimesEq 5 (Neg (Var 8))) (Plus (TimesEq 2 (Add (Mul (Var 5) (Var 7)) (Mul (Var 6) (Var 8)))) (TimesEq 3 (Add (Mul (Var 3) (Var 7)) (Mul (Var 4) (Var 8)))))))))) 0 (ha, (hx, (hk, (hl, (h1, (h2, tt)))))) refl
