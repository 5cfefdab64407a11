-- Polynomial facts behind moving the weights of a point along a direction.
-- Written by tools/certificates.py from tools/certificates/mill_geom_descend.spec.
use Rattle.std.proofs.Common.{◌≡◌, [], ◌∷◌, refl}
use lib.IntN.{ℤ, pos, ◌+ℤ◌, ◌*ℤ◌}
use lib.Signed.{◌<ℤ◌, ◌≤ℤ◌}
use Rattle.mill_base.proofs.Ring.{Var, Num, Add, Mul, Neg, ring}
use Rattle.mill_base.proofs.Cert.{Le, Lt, Eq, Hyp, TimesEq, Sq, Lit, Plus, Times, prove_le_by, prove_lt_by}

pub lin : (q p u v w a b g x y z : ℤ) → (((((q *ℤ u) +ℤ (p *ℤ a)) *ℤ x) +ℤ (((q *ℤ v) +ℤ (p *ℤ b)) *ℤ y)) +ℤ (((q *ℤ w) +ℤ (p *ℤ g)) *ℤ z)) ≡ ((q *ℤ (((u *ℤ x) +ℤ (v *ℤ y)) +ℤ (w *ℤ z))) +ℤ (p *ℤ (((a *ℤ x) +ℤ (b *ℤ y)) +ℤ (g *ℤ z))))
lin q p u v w a b g x y z = ring (q ∷ p ∷ u ∷ v ∷ w ∷ a ∷ b ∷ g ∷ x ∷ y ∷ z ∷ []) (Add (Add (Mul (Add (Mul (Var 0) (Var 2)) (Mul (Var 1) (Var 5))) (Var 8)) (Mul (Add (Mul (Var 0) (Var 3)) (Mul (Var 1) (Var 6))) (Var 9))) (Mul (Add (Mul (Var 0) (Var 4)) (Mul (Var 1) (Var 7))) (Var 10))) (Add (Mul (Var 0) (Add (Add (Mul (Var 2) (Var 8)) (Mul (Var 3) (Var 9))) (Mul (Var 4) (Var 10)))) (Mul (Var 1) (Add (Add (Mul (Var 5) (Var 8)) (Mul (Var 6) (Var 9))) (Mul (Var 7) (Var 10))))) refl

-- vars X Y N D p q; hyp hs: X*X+Y*Y < N*N; hyp hN: 0 <= N; hyp hD: 0 <= D; hyp hp: 0 <= p; hyp hq: 0 < q; goal (q*X)*(q*X)+(q*Y)*(q*Y) < (q*N+p*D)*(q*N+p*D); mul hs * sq(q); mul hq * hN * hp * hD; mul hN * hp * hD; mul sq(p) * sq(D); mul hq * hq; mul hs * hq+ * hq+
pub later_near0 : (X Y N D p q : ℤ) → ((X *ℤ X) +ℤ (Y *ℤ Y)) <ℤ (N *ℤ N) → (pos 0) ≤ℤ N → (pos 0) ≤ℤ D → (pos 0) ≤ℤ p → (pos 0) <ℤ q → (((q *ℤ X) *ℤ (q *ℤ X)) +ℤ ((q *ℤ Y) *ℤ (q *ℤ Y))) <ℤ (((q *ℤ N) +ℤ (p *ℤ D)) *ℤ ((q *ℤ N) +ℤ (p *ℤ D)))
later_near0 X Y N D p q hs hN hD hp hq = prove_lt_by (X ∷ Y ∷ N ∷ D ∷ p ∷ q ∷ []) (Lt (Add (Mul (Var 0) (Var 0)) (Mul (Var 1) (Var 1))) (Mul (Var 2) (Var 2)) ∷ Le (Num (pos 0)) (Var 2) ∷ Le (Num (pos 0)) (Var 3) ∷ Le (Num (pos 0)) (Var 4) ∷ Lt (Num (pos 0)) (Var 5) ∷ []) (Add (Mul (Mul (Var 5) (Var 0)) (Mul (Var 5) (Var 0))) (Mul (Mul (Var 5) (Var 1)) (Mul (Var 5) (Var 1)))) (Mul (Add (Mul (Var 5) (Var 2)) (Mul (Var 4) (Var 3))) (Add (Mul (Var 5) (Var 2)) (Mul (Var 4) (Var 3)))) (Plus (Hyp 0) (Plus (Times (Lit 2) (Hyp 5)) (Plus (Times (Hyp 1) (Sq (Var 5))) (Plus (Times (Lit 2) (Times (Times (Times (Hyp 5) (Hyp 2)) (Hyp 4)) (Hyp 3))) (Plus (Times (Lit 2) (Times (Times (Hyp 2) (Hyp 4)) (Hyp 3))) (Plus (Times (Sq (Var 4)) (Sq (Var 3))) (Times (Hyp 5) (Hyp 5)))))))) 0 (hs, (hN, (hD, (hp, (hq, tt))))) refl

-- vars N D p q; hyp hN: 0 <= N; hyp hD: 0 <= D; hyp hp: 0 <= p; hyp hq: 0 < q; goal 0 <= q*N+p*D; mul hq+ * hN; mul hp * hD
pub later_time : (N D p q : ℤ) → (pos 0) ≤ℤ N → (pos 0) ≤ℤ D → (pos 0) ≤ℤ p → (pos 0) <ℤ q → (pos 0) ≤ℤ ((q *ℤ N) +ℤ (p *ℤ D))
later_time N D p q hN hD hp hq = prove_le_by (N ∷ D ∷ p ∷ q ∷ []) (Le (Num (pos 0)) (Var 0) ∷ Le (Num (pos 0)) (Var 1) ∷ Le (Num (pos 0)) (Var 2) ∷ Lt (Num (pos 0)) (Var 3) ∷ []) (Num (pos 0)) (Add (Mul (Var 3) (Var 0)) (Mul (Var 2) (Var 1))) (Plus (Hyp 0) (Plus (Times (Plus (Hyp 4) (Lit 1)) (Hyp 1)) (Times (Hyp 3) (Hyp 2)))) 0 (hN, (hD, (hp, (hq, tt)))) refl

-- vars X Y N x y n; hyp ex: x == X; hyp ey: y == Y; hyp en: n == N; hyp h: X*X+Y*Y < N*N; goal x*x+y*y < n*n; eqmul ex * (x+X); eqmul ey * (y+Y); eqmul en * (n+N)
pub later_near : (X Y N x y n : ℤ) → x ≡ X → y ≡ Y → n ≡ N → ((X *ℤ X) +ℤ (Y *ℤ Y)) <ℤ (N *ℤ N) → ((x *ℤ x) +ℤ (y *ℤ y)) <ℤ (n *ℤ n)
later_near X Y N x y n ex ey en h = prove_lt_by (X ∷ Y ∷ N ∷ x ∷ y ∷ n ∷ []) (Eq (Var 3) (Var 0) ∷ Eq (Var 4) (Var 1) ∷ Eq (Var 5) (Var 2) ∷ Lt (Add (Mul (Var 0) (Var 0)) (Mul (Var 1) (Var 1))) (Mul (Var 2) (Var 2)) ∷ []) (Add (Mul (Var 3) (Var 3)) (Mul (Var 4) (Var 4))) (Mul (Var 5) (Var 5)) (Plus (Hyp 0) (Plus (Hyp 4) (Plus (TimesEq 1 (Add (Var 3) (Var 0))) (Plus (TimesEq 2 (Add (Var 4) (Var 1))) (TimesEq 3 (Neg (Add (Var 5) (Var 2)))))))) 0 (ex, (ey, (en, (h, tt)))) refl
