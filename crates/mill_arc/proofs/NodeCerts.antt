-- Polynomial facts behind the nodes of an arc.
-- Written by tools/certificates.py from tools/certificates/mill_arc_nodes.spec.
use Rattle.std.proofs.Common.{◌≡◌, [], ◌∷◌, refl}
use lib.IntN.{ℤ, pos, neg_ℤ, ◌+ℤ◌, ◌-ℤ◌, ◌*ℤ◌}
use lib.Signed.{◌<ℤ◌, ◌≤ℤ◌}
use Rattle.mill_base.proofs.Ring.{Var, Num, Add, Sub, Mul, Neg, ring}
use Rattle.mill_base.proofs.Cert.{Le, Lt, Hyp, Sq, Lit, Plus, Times, prove_le_by, prove_lt_by}

-- vars a b; hyp hb: 0 <= b; hyp h: a*a <= b*b; goal a <= b; mul goal * goal; mul goal * hb
pub root_most : (a b : ℤ) → (pos 0) ≤ℤ b → (a *ℤ a) ≤ℤ (b *ℤ b) → a ≤ℤ b
root_most a b hb h = prove_le_by (a ∷ b ∷ []) (Le (Num (pos 0)) (Var 1) ∷ Le (Mul (Var 0) (Var 0)) (Mul (Var 1) (Var 1)) ∷ []) (Var 0) (Var 1) (Plus (Times (Lit 2) (Hyp 0)) (Plus (Times (Lit 2) (Hyp 1)) (Plus (Hyp 2) (Plus (Times (Hyp 0) (Hyp 0)) (Times (Lit 2) (Times (Hyp 0) (Hyp 1))))))) 0 (hb, (h, tt)) refl

-- vars w1 w2 e1 e2 s q; hyp h1: w1*w1+w2*w2 <= s; hyp he1: 4*(e1*e1) <= q*q; hyp he2: 4*(e2*e2) <= q*q; goal 2*((w1*e1+w2*e2)*(w1*e1+w2*e2)) <= s*(q*q); square w1*e2-w2*e1; mul he1 * sq(w1); mul he1 * sq(w2); mul he2 * sq(w1); mul he2 * sq(w2); mul h1 * sq(q)
pub error_square : (w1 w2 e1 e2 s q : ℤ) → ((w1 *ℤ w1) +ℤ (w2 *ℤ w2)) ≤ℤ s → ((pos 4) *ℤ (e1 *ℤ e1)) ≤ℤ (q *ℤ q) → ((pos 4) *ℤ (e2 *ℤ e2)) ≤ℤ (q *ℤ q) → ((pos 2) *ℤ (((w1 *ℤ e1) +ℤ (w2 *ℤ e2)) *ℤ ((w1 *ℤ e1) +ℤ (w2 *ℤ e2)))) ≤ℤ (s *ℤ (q *ℤ q))
error_square w1 w2 e1 e2 s q h1 he1 he2 = prove_le_by (w1 ∷ w2 ∷ e1 ∷ e2 ∷ s ∷ q ∷ []) (Le (Add (Mul (Var 0) (Var 0)) (Mul (Var 1) (Var 1))) (Var 4) ∷ Le (Mul (Num (pos 4)) (Mul (Var 2) (Var 2))) (Mul (Var 5) (Var 5)) ∷ Le (Mul (Num (pos 4)) (Mul (Var 3) (Var 3))) (Mul (Var 5) (Var 5)) ∷ []) (Mul (Num (pos 2)) (Mul (Add (Mul (Var 0) (Var 2)) (Mul (Var 1) (Var 3))) (Add (Mul (Var 0) (Var 2)) (Mul (Var 1) (Var 3))))) (Mul (Var 4) (Mul (Var 5) (Var 5))) (Plus (Times (Lit 2) (Hyp 0)) (Plus (Times (Lit 4) (Sq (Sub (Mul (Var 0) (Var 3)) (Mul (Var 1) (Var 2))))) (Plus (Times (Hyp 2) (Sq (Var 0))) (Plus (Times (Hyp 2) (Sq (Var 1))) (Plus (Times (Hyp 3) (Sq (Var 0))) (Plus (Times (Hyp 3) (Sq (Var 1))) (Times (Lit 2) (Times (Hyp 1) (Sq (Var 5)))))))))) 1 (h1, (he1, (he2, tt))) refl

-- vars f q; hyp h: 2*(f*f) <= ((q+1)*(q+1))*(q*q); goal (7*f)*(7*f) <= (5*(q*(q+1)))*(5*(q*(q+1))); square q*(q+1)
pub seven_errors : (f q : ℤ) → ((pos 2) *ℤ (f *ℤ f)) ≤ℤ (((q +ℤ (pos 1)) *ℤ (q +ℤ (pos 1))) *ℤ (q *ℤ q)) → (((pos 7) *ℤ f) *ℤ ((pos 7) *ℤ f)) ≤ℤ (((pos 5) *ℤ (q *ℤ (q +ℤ (pos 1)))) *ℤ ((pos 5) *ℤ (q *ℤ (q +ℤ (pos 1)))))
seven_errors f q h = prove_le_by (f ∷ q ∷ []) (Le (Mul (Num (pos 2)) (Mul (Var 0) (Var 0))) (Mul (Mul (Add (Var 1) (Num (pos 1))) (Add (Var 1) (Num (pos 1)))) (Mul (Var 1) (Var 1))) ∷ []) (Mul (Mul (Num (pos 7)) (Var 0)) (Mul (Num (pos 7)) (Var 0))) (Mul (Mul (Num (pos 5)) (Mul (Var 1) (Add (Var 1) (Num (pos 1))))) (Mul (Num (pos 5)) (Mul (Var 1) (Add (Var 1) (Num (pos 1)))))) (Plus (Times (Lit 2) (Hyp 0)) (Plus (Times (Lit 49) (Hyp 1)) (Sq (Mul (Var 1) (Add (Var 1) (Num (pos 1))))))) 1 (h, tt) refl

-- vars q e; hyp h1: 2*e <= q; hyp h2: 0 - q <= 2*e; goal 4*(e*e) <= q*q; mul h1 * h2
pub half_square : (q e : ℤ) → ((pos 2) *ℤ e) ≤ℤ q → ((pos 0) -ℤ q) ≤ℤ ((pos 2) *ℤ e) → ((pos 4) *ℤ (e *ℤ e)) ≤ℤ (q *ℤ q)
half_square q e h1 h2 = prove_le_by (q ∷ e ∷ []) (Le (Mul (Num (pos 2)) (Var 1)) (Var 0) ∷ Le (Sub (Num (pos 0)) (Var 0)) (Mul (Num (pos 2)) (Var 1)) ∷ []) (Mul (Num (pos 4)) (Mul (Var 1) (Var 1))) (Mul (Var 0) (Var 0)) (Plus (Hyp 0) (Times (Hyp 1) (Hyp 2))) 0 (h1, (h2, tt)) refl

-- vars u1 u2 v1 v2; hyp h: 0 <= u1*v1+u2*v2; goal (u1*u1+u2*u2)+(v1*v1+v2*v2) <= (u1+v1)*(u1+v1)+(u2+v2)*(u2+v2)
pub plus_least : (u1 u2 v1 v2 : ℤ) → (pos 0) ≤ℤ ((u1 *ℤ v1) +ℤ (u2 *ℤ v2)) → (((u1 *ℤ u1) +ℤ (u2 *ℤ u2)) +ℤ ((v1 *ℤ v1) +ℤ (v2 *ℤ v2))) ≤ℤ (((u1 +ℤ v1) *ℤ (u1 +ℤ v1)) +ℤ ((u2 +ℤ v2) *ℤ (u2 +ℤ v2)))
plus_least u1 u2 v1 v2 h = prove_le_by (u1 ∷ u2 ∷ v1 ∷ v2 ∷ []) (Le (Num (pos 0)) (Add (Mul (Var 0) (Var 2)) (Mul (Var 1) (Var 3))) ∷ []) (Add (Add (Mul (Var 0) (Var 0)) (Mul (Var 1) (Var 1))) (Add (Mul (Var 2) (Var 2)) (Mul (Var 3) (Var 3)))) (Add (Mul (Add (Var 0) (Var 2)) (Add (Var 0) (Var 2))) (Mul (Add (Var 1) (Var 3)) (Add (Var 1) (Var 3)))) (Plus (Hyp 0) (Times (Lit 2) (Hyp 1))) 0 (h, tt) refl

-- vars u1 u2 v1 v2; goal (u1+v1)*(u1+v1)+(u2+v2)*(u2+v2) <= 2*((u1*u1+u2*u2)+(v1*v1+v2*v2)); square u1-v1; square u2-v2
pub plus_most : (u1 u2 v1 v2 : ℤ) → (((u1 +ℤ v1) *ℤ (u1 +ℤ v1)) +ℤ ((u2 +ℤ v2) *ℤ (u2 +ℤ v2))) ≤ℤ ((pos 2) *ℤ (((u1 *ℤ u1) +ℤ (u2 *ℤ u2)) +ℤ ((v1 *ℤ v1) +ℤ (v2 *ℤ v2))))
plus_most u1 u2 v1 v2 = prove_le_by (u1 ∷ u2 ∷ v1 ∷ v2 ∷ []) ([]) (Add (Mul (Add (Var 0) (Var 2)) (Add (Var 0) (Var 2))) (Mul (Add (Var 1) (Var 3)) (Add (Var 1) (Var 3)))) (Mul (Num (pos 2)) (Add (Add (Mul (Var 0) (Var 0)) (Mul (Var 1) (Var 1))) (Add (Mul (Var 2) (Var 2)) (Mul (Var 3) (Var 3))))) (Plus (Hyp 0) (Plus (Sq (Sub (Var 0) (Var 2))) (Sq (Sub (Var 1) (Var 3))))) 0 tt refl

-- vars u1 u2 v1 v2; hyp h: 0 <= u1*v1+u2*v2; goal (u1*u1+u2*u2)+(v1*v1+v2*v2) <= (-(u1+v1))*(-(u1+v1))+(-(u2+v2))*(-(u2+v2))
pub back_least : (u1 u2 v1 v2 : ℤ) → (pos 0) ≤ℤ ((u1 *ℤ v1) +ℤ (u2 *ℤ v2)) → (((u1 *ℤ u1) +ℤ (u2 *ℤ u2)) +ℤ ((v1 *ℤ v1) +ℤ (v2 *ℤ v2))) ≤ℤ (((neg_ℤ (u1 +ℤ v1)) *ℤ (neg_ℤ (u1 +ℤ v1))) +ℤ ((neg_ℤ (u2 +ℤ v2)) *ℤ (neg_ℤ (u2 +ℤ v2))))
back_least u1 u2 v1 v2 h = prove_le_by (u1 ∷ u2 ∷ v1 ∷ v2 ∷ []) (Le (Num (pos 0)) (Add (Mul (Var 0) (Var 2)) (Mul (Var 1) (Var 3))) ∷ []) (Add (Add (Mul (Var 0) (Var 0)) (Mul (Var 1) (Var 1))) (Add (Mul (Var 2) (Var 2)) (Mul (Var 3) (Var 3)))) (Add (Mul (Neg (Add (Var 0) (Var 2))) (Neg (Add (Var 0) (Var 2)))) (Mul (Neg (Add (Var 1) (Var 3))) (Neg (Add (Var 1) (Var 3))))) (Plus (Hyp 0) (Times (Lit 2) (Hyp 1))) 0 (h, tt) refl

-- vars u1 u2 v1 v2; goal (-(u1+v1))*(-(u1+v1))+(-(u2+v2))*(-(u2+v2)) <= 2*((u1*u1+u2*u2)+(v1*v1+v2*v2)); square u1-v1; square u2-v2
pub back_most : (u1 u2 v1 v2 : ℤ) → (((neg_ℤ (u1 +ℤ v1)) *ℤ (neg_ℤ (u1 +ℤ v1))) +ℤ ((neg_ℤ (u2 +ℤ v2)) *ℤ (neg_ℤ (u2 +ℤ v2)))) ≤ℤ ((pos 2) *ℤ (((u1 *ℤ u1) +ℤ (u2 *ℤ u2)) +ℤ ((v1 *ℤ v1) +ℤ (v2 *ℤ v2))))
back_most u1 u2 v1 v2 = prove_le_by (u1 ∷ u2 ∷ v1 ∷ v2 ∷ []) ([]) (Add (Mul (Neg (Add (Var 0) (Var 2))) (Neg (Add (Var 0) (Var 2)))) (Mul (Neg (Add (Var 1) (Var 3))) (Neg (Add (Var 1) (Var 3))))) (Mul (Num (pos 2)) (Add (Add (Mul (Var 0) (Var 0)) (Mul (Var 1) (Var 1))) (Add (Mul (Var 2) (Var 2)) (Mul (Var 3) (Var 3))))) (Plus (Hyp 0) (Plus (Sq (Sub (Var 0) (Var 2))) (Sq (Sub (Var 1) (Var 3))))) 0 tt refl

-- vars u1 u2 v1 v2; hyp h: u1*v1+u2*v2 <= 0; goal (u1*u1+u2*u2)+(v1*v1+v2*v2) <= (v2-u2)*(v2-u2)+(u1-v1)*(u1-v1)
pub left_least : (u1 u2 v1 v2 : ℤ) → ((u1 *ℤ v1) +ℤ (u2 *ℤ v2)) ≤ℤ (pos 0) → (((u1 *ℤ u1) +ℤ (u2 *ℤ u2)) +ℤ ((v1 *ℤ v1) +ℤ (v2 *ℤ v2))) ≤ℤ (((v2 -ℤ u2) *ℤ (v2 -ℤ u2)) +ℤ ((u1 -ℤ v1) *ℤ (u1 -ℤ v1)))
left_least u1 u2 v1 v2 h = prove_le_by (u1 ∷ u2 ∷ v1 ∷ v2 ∷ []) (Le (Add (Mul (Var 0) (Var 2)) (Mul (Var 1) (Var 3))) (Num (pos 0)) ∷ []) (Add (Add (Mul (Var 0) (Var 0)) (Mul (Var 1) (Var 1))) (Add (Mul (Var 2) (Var 2)) (Mul (Var 3) (Var 3)))) (Add (Mul (Sub (Var 3) (Var 1)) (Sub (Var 3) (Var 1))) (Mul (Sub (Var 0) (Var 2)) (Sub (Var 0) (Var 2)))) (Plus (Hyp 0) (Times (Lit 2) (Hyp 1))) 0 (h, tt) refl

-- vars u1 u2 v1 v2; goal (v2-u2)*(v2-u2)+(u1-v1)*(u1-v1) <= 2*((u1*u1+u2*u2)+(v1*v1+v2*v2)); square u1+v1; square u2+v2
pub left_most : (u1 u2 v1 v2 : ℤ) → (((v2 -ℤ u2) *ℤ (v2 -ℤ u2)) +ℤ ((u1 -ℤ v1) *ℤ (u1 -ℤ v1))) ≤ℤ ((pos 2) *ℤ (((u1 *ℤ u1) +ℤ (u2 *ℤ u2)) +ℤ ((v1 *ℤ v1) +ℤ (v2 *ℤ v2))))
left_most u1 u2 v1 v2 = prove_le_by (u1 ∷ u2 ∷ v1 ∷ v2 ∷ []) ([]) (Add (Mul (Sub (Var 3) (Var 1)) (Sub (Var 3) (Var 1))) (Mul (Sub (Var 0) (Var 2)) (Sub (Var 0) (Var 2)))) (Mul (Num (pos 2)) (Add (Add (Mul (Var 0) (Var 0)) (Mul (Var 1) (Var 1))) (Add (Mul (Var 2) (Var 2)) (Mul (Var 3) (Var 3))))) (Plus (Hyp 0) (Plus (Sq (Add (Var 0) (Var 2))) (Sq (Add (Var 1) (Var 3))))) 0 tt refl

-- vars u1 u2 v1 v2; hyp h: u1*v1+u2*v2 <= 0; goal (u1*u1+u2*u2)+(v1*v1+v2*v2) <= (u2-v2)*(u2-v2)+(v1-u1)*(v1-u1)
pub right_least : (u1 u2 v1 v2 : ℤ) → ((u1 *ℤ v1) +ℤ (u2 *ℤ v2)) ≤ℤ (pos 0) → (((u1 *ℤ u1) +ℤ (u2 *ℤ u2)) +ℤ ((v1 *ℤ v1) +ℤ (v2 *ℤ v2))) ≤ℤ (((u2 -ℤ v2) *ℤ (u2 -ℤ v2)) +ℤ ((v1 -ℤ u1) *ℤ (v1 -ℤ u1)))
right_least u1 u2 v1 v2 h = prove_le_by (u1 ∷ u2 ∷ v1 ∷ v2 ∷ []) (Le (Add (Mul (Var 0) (Var 2)) (Mul (Var 1) (Var 3))) (Num (pos 0)) ∷ []) (Add (Add (Mul (Var 0) (Var 0)) (Mul (Var 1) (Var 1))) (Add (Mul (Var 2) (Var 2)) (Mul (Var 3) (Var 3)))) (Add (Mul (Sub (Var 1) (Var 3)) (Sub (Var 1) (Var 3))) (Mul (Sub (Var 2) (Var 0)) (Sub (Var 2) (Var 0)))) (Plus (Hyp 0) (Times (Lit 2) (Hyp 1))) 0 (h, tt) refl

-- vars u1 u2 v1 v2; goal (u2-v2)*(u2-v2)+(v1-u1)*(v1-u1) <= 2*((u1*u1+u2*u2)+(v1*v1+v2*v2)); square u1+v1; square u2+v2
pub right_most : (u1 u2 v1 v2 : ℤ) → (((u2 -ℤ v2) *ℤ (u2 -ℤ v2)) +ℤ ((v1 -ℤ u1) *ℤ (v1 -ℤ u1))) ≤ℤ ((pos 2) *ℤ (((u1 *ℤ u1) +ℤ (u2 *ℤ u2)) +ℤ ((v1 *ℤ v1) +ℤ (v2 *ℤ v2))))
right_most u1 u2 v1 v2 = prove_le_by (u1 ∷ u2 ∷ v1 ∷ v2 ∷ []) ([]) (Add (Mul (Sub (Var 1) (Var 3)) (Sub (Var 1) (Var 3))) (Mul (Sub (Var 2) (Var 0)) (Sub (Var 2) (Var 0)))) (Mul (Num (pos 2)) (Add (Add (Mul (Var 0) (Var 0)) (Mul (Var 1) (Var 1))) (Add (Mul (Var 2) (Var 2)) (Mul (Var 3) (Var 3))))) (Plus (Hyp 0) (Plus (Sq (Add (Var 0) (Var 2))) (Sq (Add (Var 1) (Var 3))))) 0 tt refl

-- vars m q s; hyp hm: 1000 <= m; hyp hs: 2*((m-1)*(m-1)) <= s; hyp hq: s < (q+1)*(q+1); hyp hq0: 0 <= q; goal 150*m <= 107*q; mul goal * goal; mul goal * hm; mul goal * hq0; mul hm * hm
pub mean_square : (m q s : ℤ) → (pos 1000) ≤ℤ m → ((pos 2) *ℤ ((m -ℤ (pos 1)) *ℤ (m -ℤ (pos 1)))) ≤ℤ s → s <ℤ ((q +ℤ (pos 1)) *ℤ (q +ℤ (pos 1))) → (pos 0) ≤ℤ q → ((pos 150) *ℤ m) ≤ℤ ((pos 107) *ℤ q)
mean_square m q s hm hs hq hq0 = prove_le_by (m ∷ q ∷ s ∷ []) (Le (Num (pos 1000)) (Var 0) ∷ Le (Mul (Num (pos 2)) (Mul (Sub (Var 0) (Num (pos 1))) (Sub (Var 0) (Num (pos 1))))) (Var 2) ∷ Lt (Var 2) (Mul (Add (Var 1) (Num (pos 1))) (Add (Var 1) (Num (pos 1)))) ∷ Le (Num (pos 0)) (Var 1) ∷ []) (Mul (Num (pos 150)) (Var 0)) (Mul (Num (pos 107)) (Var 1)) (Plus (Times (Lit 214) (Hyp 0)) (Plus (Times (Lit 718404) (Hyp 1)) (Plus (Times (Lit 11449) (Hyp 2)) (Plus (Times (Lit 11449) (Hyp 3)) (Plus (Times (Hyp 0) (Hyp 0)) (Plus (Times (Lit 214) (Times (Hyp 0) (Hyp 4))) (Times (Lit 398) (Times (Hyp 1) (Hyp 1))))))))) 320427110 (hm, (hs, (hq, (hq0, tt)))) refl

-- vars q r w1 w2 n1 n2; hyp hq: 3 <= q; hyp hr: 1 <= r; hyp hs: q*q <= w1*w1+w2*w2; hyp hf: 7*(0 - (w1*(q*n1-r*w1)+w2*(q*n2-r*w2))) <= 5*(q*(q+1)); goal (r-1)*(r-1) <= n1*n1+n2*n2; mul goal * sq(q); mul hs * sq(r); mul hf * hr; square q*n1-r*w1; square q*n2-r*w2; mul hr * hq * hq; mul hr * hq; mul hq * hq
pub middle_least : (q r w1 w2 n1 n2 : ℤ) → (pos 3) ≤ℤ q → (pos 1) ≤ℤ r → (q *ℤ q) ≤ℤ ((w1 *ℤ w1) +ℤ (w2 *ℤ w2)) → ((pos 7) *ℤ ((pos 0) -ℤ ((w1 *ℤ ((q *ℤ n1) -ℤ (r *ℤ w1))) +ℤ (w2 *ℤ ((q *ℤ n2) -ℤ (r *ℤ w2)))))) ≤ℤ ((pos 5) *ℤ (q *ℤ (q +ℤ (pos 1)))) → ((r -ℤ (pos 1)) *ℤ (r -ℤ (pos 1))) ≤ℤ ((n1 *ℤ n1) +ℤ (n2 *ℤ n2))
middle_least q r w1 w2 n1 n2 hq hr hs hf = prove_le_by (q ∷ r ∷ w1 ∷ w2 ∷ n1 ∷ n2 ∷ []) (Le (Num (pos 3)) (Var 0) ∷ Le (Num (pos 1)) (Var 1) ∷ Le (Mul (Var 0) (Var 0)) (Add (Mul (Var 2) (Var 2)) (Mul (Var 3) (Var 3))) ∷ Le (Mul (Num (pos 7)) (Sub (Num (pos 0)) (Add (Mul (Var 2) (Sub (Mul (Var 0) (Var 4)) (Mul (Var 1) (Var 2)))) (Mul (Var 3) (Sub (Mul (Var 0) (Var 5)) (Mul (Var 1) (Var 3))))))) (Mul (Num (pos 5)) (Mul (Var 0) (Add (Var 0) (Num (pos 1))))) ∷ []) (Mul (Sub (Var 1) (Num (pos 1))) (Sub (Var 1) (Num (pos 1)))) (Add (Mul (Var 4) (Var 4)) (Mul (Var 5) (Var 5))) (Plus (Times (Lit 14) (Hyp 1)) (Plus (Times (Lit 6) (Hyp 2)) (Plus (Times (Lit 2) (Hyp 4)) (Plus (Times (Lit 7) (Times (Hyp 0) (Sq (Var 0)))) (Plus (Times (Lit 7) (Times (Hyp 3) (Sq (Var 1)))) (Plus (Times (Lit 2) (Times (Hyp 4) (Hyp 2))) (Plus (Times (Lit 7) (Sq (Sub (Mul (Var 0) (Var 4)) (Mul (Var 1) (Var 2))))) (Plus (Times (Lit 7) (Sq (Sub (Mul (Var 0) (Var 5)) (Mul (Var 1) (Var 3))))) (Plus (Times (Lit 4) (Times (Times (Hyp 2) (Hyp 1)) (Hyp 1))) (Plus (Times (Lit 14) (Times (Hyp 2) (Hyp 1))) (Times (Lit 4) (Times (Hyp 1) (Hyp 1))))))))))))) 5 (hq, (hr, (hs, (hf, tt)))) refl

-- vars q r w1 w2 n1 n2; hyp hq: 3 <= q; hyp hr: 1 <= r; hyp hm: 100*r <= 107*q; hyp hs: w1*w1+w2*w2 < (q+1)*(q+1); hyp hf: 7*(w1*(q*n1-r*w1)+w2*(q*n2-r*w2)) <= 5*(q*(q+1)); hyp h1: 4*((q*n1-r*w1)*(q*n1-r*w1)) <= q*q; hyp h2: 4*((q*n2-r*w2)*(q*n2-r*w2)) <= q*q; goal n1*n1+n2*n2 <= (r+2)*(r+2); mul goal * sq(q); mul hs * sq(r); mul hf * hr; mul hm * hr * hq; mul hm * hr; mul hm * hq * hq; mul hm * hq; mul hr * hq * hq; mul hr * hq; mul hq * hq; mul hm * hr * hr
pub middle_most : (q r w1 w2 n1 n2 : ℤ) → (pos 3) ≤ℤ q → (pos 1) ≤ℤ r → ((pos 100) *ℤ r) ≤ℤ ((pos 107) *ℤ q) → ((w1 *ℤ w1) +ℤ (w2 *ℤ w2)) <ℤ ((q +ℤ (pos 1)) *ℤ (q +ℤ (pos 1))) → ((pos 7) *ℤ ((w1 *ℤ ((q *ℤ n1) -ℤ (r *ℤ w1))) +ℤ (w2 *ℤ ((q *ℤ n2) -ℤ (r *ℤ w2))))) ≤ℤ ((pos 5) *ℤ (q *ℤ (q +ℤ (pos 1)))) → ((pos 4) *ℤ (((q *ℤ n1) -ℤ (r *ℤ w1)) *ℤ ((q *ℤ n1) -ℤ (r *ℤ w1)))) ≤ℤ (q *ℤ q) → ((pos 4) *ℤ (((q *ℤ n2) -ℤ (r *ℤ w2)) *ℤ ((q *ℤ n2) -ℤ (r *ℤ w2)))) ≤ℤ (q *ℤ q) → ((n1 *ℤ n1) +ℤ (n2 *ℤ n2)) ≤ℤ ((r +ℤ (pos 2)) *ℤ (r +ℤ (pos 2)))
middle_most q r w1 w2 n1 n2 hq hr hm hs hf h1 h2 = prove_le_by (q ∷ r ∷ w1 ∷ w2 ∷ n1 ∷ n2 ∷ []) (Le (Num (pos 3)) (Var 0) ∷ Le (Num (pos 1)) (Var 1) ∷ Le (Mul (Num (pos 100)) (Var 1)) (Mul (Num (pos 107)) (Var 0)) ∷ Lt (Add (Mul (Var 2) (Var 2)) (Mul (Var 3) (Var 3))) (Mul (Add (Var 0) (Num (pos 1))) (Add (Var 0) (Num (pos 1)))) ∷ Le (Mul (Num (pos 7)) (Add (Mul (Var 2) (Sub (Mul (Var 0) (Var 4)) (Mul (Var 1) (Var 2)))) (Mul (Var 3) (Sub (Mul (Var 0) (Var 5)) (Mul (Var 1) (Var 3)))))) (Mul (Num (pos 5)) (Mul (Var 0) (Add (Var 0) (Num (pos 1))))) ∷ Le (Mul (Num (pos 4)) (Mul (Sub (Mul (Var 0) (Var 4)) (Mul (Var 1) (Var 2))) (Sub (Mul (Var 0) (Var 4)) (Mul (Var 1) (Var 2))))) (Mul (Var 0) (Var 0)) ∷ Le (Mul (Num (pos 4)) (Mul (Sub (Mul (Var 0) (Var 5)) (Mul (Var 1) (Var 3))) (Sub (Mul (Var 0) (Var 5)) (Mul (Var 1) (Var 3))))) (Mul (Var 0) (Var 0)) ∷ []) (Add (Mul (Var 4) (Var 4)) (Mul (Var 5) (Var 5))) (Mul (Add (Var 1) (Num (pos 2))) (Add (Var 1) (Num (pos 2)))) (Plus (Times (Lit 65700291) (Hyp 1)) (Plus (Times (Lit 239787) (Hyp 3)) (Plus (Times (Lit 1070000) (Hyp 5)) (Plus (Times (Lit 936250) (Hyp 6)) (Plus (Times (Lit 936250) (Hyp 7)) (Plus (Times (Lit 3745000) (Times (Hyp 0) (Sq (Var 0)))) (Plus (Times (Lit 3745000) (Times (Hyp 4) (Sq (Var 1)))) (Plus (Times (Lit 1070000) (Times (Hyp 5) (Hyp 2))) (Plus (Times (Lit 74900) (Times (Times (Hyp 3) (Hyp 2)) (Hyp 1))) (Plus (Times (Lit 224700) (Times (Hyp 3) (Hyp 2))) (Plus (Times (Lit 247500) (Times (Hyp 3) (Hyp 1))) (Plus (Times (Lit 1615700) (Times (Times (Hyp 2) (Hyp 1)) (Hyp 1))) (Times (Lit 21604200) (Times (Hyp 2) (Hyp 1))))))))))))))) 146829572 (hq, (hr, (hm, (hs, (hf, (h1, (h2, tt))))))) refl

-- vars a b; hyp ha: 0 <= a; hyp h: a <= b; goal a*a <= b*b; mul h * h; mul h * ha
pub square_order : (a b : ℤ) → (pos 0) ≤ℤ a → a ≤ℤ b → (a *ℤ a) ≤ℤ (b *ℤ b)
square_order a b ha h = prove_le_by (a ∷ b ∷ []) (Le (Num (pos 0)) (Var 0) ∷ Le (Var 0) (Var 1) ∷ []) (Mul (Var 0) (Var 0)) (Mul (Var 1) (Var 1)) (Plus (Hyp 0) (Plus (Times (Hyp 2) (Hyp 2)) (Times (Lit 2) (Times (Hyp 2) (Hyp 1))))) 0 (ha, (h, tt)) refl

pub minus_square : (f : ℤ) → (f *ℤ f) ≡ (((pos 0) -ℤ f) *ℤ ((pos 0) -ℤ f))
minus_square f = ring (f ∷ []) (Mul (Var 0) (Var 0)) (Mul (Sub (Num (pos 0)) (Var 0)) (Sub (Num (pos 0)) (Var 0))) refl

-- vars a b; hyp hb: 0 <= b; hyp h: a*a < b*b; goal a < b; mul goal * goal; mul goal * hb
pub root_less : (a b : ℤ) → (pos 0) ≤ℤ b → (a *ℤ a) <ℤ (b *ℤ b) → a <ℤ b
root_less a b hb h = prove_lt_by (a ∷ b ∷ []) (Le (Num (pos 0)) (Var 1) ∷ Lt (Mul (Var 0) (Var 0)) (Mul (Var 1) (Var 1)) ∷ []) (Var 0) (Var 1) (Plus (Hyp 2) (Plus (Times (Hyp 0) (Hyp 0)) (Times (Lit 2) (Times (Hyp 0) (Hyp 1))))) 0 (hb, (h, tt)) refl
