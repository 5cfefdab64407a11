-- Polynomial facts behind points of a triangle on the level.
-- Written by tools/certificates.py from tools/certificates/mill_geom_cut.spec.
use Rattle.std.proofs.Common.{◌≡◌, [], ◌∷◌, refl}
use lib.IntN.{ℤ, pos, negsuc, ◌+ℤ◌, ◌-ℤ◌, ◌*ℤ◌}
use lib.Signed.{◌<ℤ◌, ◌≤ℤ◌}
use Rattle.mill_base.proofs.Ring.{Var, Num, Add, Sub, Mul, Neg, ring}
use Rattle.mill_base.proofs.Cert.{Le, Lt, Eq, Hyp, TimesEq, Lit, Plus, Times, refute, prove_le_by, prove_lt_by}

-- vars P b c u v w p q s; hyp e: u*P == v*b+w*c; goal P*((u*p+v*q)+w*s) <= v*(b*p+P*q)+w*(c*p+P*s); eqmul e * p
pub cut_lin : (P b c u v w p q s : ℤ) → (u *ℤ P) ≡ ((v *ℤ b) +ℤ (w *ℤ c)) → (P *ℤ (((u *ℤ p) +ℤ (v *ℤ q)) +ℤ (w *ℤ s))) ≤ℤ ((v *ℤ ((b *ℤ p) +ℤ (P *ℤ q))) +ℤ (w *ℤ ((c *ℤ p) +ℤ (P *ℤ s))))
cut_lin P b c u v w p q s e = prove_le_by (P ∷ b ∷ c ∷ u ∷ v ∷ w ∷ p ∷ q ∷ s ∷ []) (Eq (Mul (Var 3) (Var 0)) (Add (Mul (Var 4) (Var 1)) (Mul (Var 5) (Var 2))) ∷ []) (Mul (Var 0) (Add (Add (Mul (Var 3) (Var 6)) (Mul (Var 4) (Var 7))) (Mul (Var 5) (Var 8)))) (Add (Mul (Var 4) (Add (Mul (Var 1) (Var 6)) (Mul (Var 0) (Var 7)))) (Mul (Var 5) (Add (Mul (Var 2) (Var 6)) (Mul (Var 0) (Var 8))))) (Plus (Hyp 0) (TimesEq 1 (Var 6))) 0 (e, tt) refl

-- vars P b c u v w p q s; hyp e: u*P == v*b+w*c; goal v*(b*p+P*q)+w*(c*p+P*s) <= P*((u*p+v*q)+w*s); eqmul e * p
pub cut_lin2 : (P b c u v w p q s : ℤ) → (u *ℤ P) ≡ ((v *ℤ b) +ℤ (w *ℤ c)) → ((v *ℤ ((b *ℤ p) +ℤ (P *ℤ q))) +ℤ (w *ℤ ((c *ℤ p) +ℤ (P *ℤ s)))) ≤ℤ (P *ℤ (((u *ℤ p) +ℤ (v *ℤ q)) +ℤ (w *ℤ s)))
cut_lin2 P b c u v w p q s e = prove_le_by (P ∷ b ∷ c ∷ u ∷ v ∷ w ∷ p ∷ q ∷ s ∷ []) (Eq (Mul (Var 3) (Var 0)) (Add (Mul (Var 4) (Var 1)) (Mul (Var 5) (Var 2))) ∷ []) (Add (Mul (Var 4) (Add (Mul (Var 1) (Var 6)) (Mul (Var 0) (Var 7)))) (Mul (Var 5) (Add (Mul (Var 2) (Var 6)) (Mul (Var 0) (Var 8))))) (Mul (Var 0) (Add (Add (Mul (Var 3) (Var 6)) (Mul (Var 4) (Var 7))) (Mul (Var 5) (Var 8)))) (Plus (Hyp 0) (TimesEq 1 (Neg (Var 6)))) 0 (e, tt) refl

pub cut_back : (P b c v w p q s : ℤ) → (((((v *ℤ b) +ℤ (w *ℤ c)) *ℤ p) +ℤ ((P *ℤ v) *ℤ q)) +ℤ ((P *ℤ w) *ℤ s)) ≡ ((v *ℤ ((b *ℤ p) +ℤ (P *ℤ q))) +ℤ (w *ℤ ((c *ℤ p) +ℤ (P *ℤ s))))
cut_back P b c v w p q s = ring (P ∷ b ∷ c ∷ v ∷ w ∷ p ∷ q ∷ s ∷ []) (Add (Add (Mul (Add (Mul (Var 3) (Var 1)) (Mul (Var 4) (Var 2))) (Var 5)) (Mul (Mul (Var 0) (Var 3)) (Var 6))) (Mul (Mul (Var 0) (Var 4)) (Var 7))) (Add (Mul (Var 3) (Add (Mul (Var 1) (Var 5)) (Mul (Var 0) (Var 6)))) (Mul (Var 4) (Add (Mul (Var 2) (Var 5)) (Mul (Var 0) (Var 7))))) refl

-- vars P b c v w q s; hyp eq: q == 0-b; hyp es: s == 0-c; goal ((v*b+w*c)*P+(P*v)*q)+(P*w)*s <= 0; eqmul eq * (P*v); eqmul es * (P*w)
pub cut_level : (P b c v w q s : ℤ) → q ≡ ((pos 0) -ℤ b) → s ≡ ((pos 0) -ℤ c) → (((((v *ℤ b) +ℤ (w *ℤ c)) *ℤ P) +ℤ ((P *ℤ v) *ℤ q)) +ℤ ((P *ℤ w) *ℤ s)) ≤ℤ (pos 0)
cut_level P b c v w q s eq es = prove_le_by (P ∷ b ∷ c ∷ v ∷ w ∷ q ∷ s ∷ []) (Eq (Var 5) (Sub (Num (pos 0)) (Var 1)) ∷ Eq (Var 6) (Sub (Num (pos 0)) (Var 2)) ∷ []) (Add (Add (Mul (Add (Mul (Var 3) (Var 1)) (Mul (Var 4) (Var 2))) (Var 0)) (Mul (Mul (Var 0) (Var 3)) (Var 5))) (Mul (Mul (Var 0) (Var 4)) (Var 6))) (Num (pos 0)) (Plus (Hyp 0) (Plus (TimesEq 1 (Mul (Var 0) (Var 3))) (TimesEq 2 (Mul (Var 0) (Var 4))))) 0 (eq, (es, tt)) refl

-- vars P X Y N x y n; hyp ex: P*X == x; hyp ey: P*Y == y; hyp en: P*N == n; hyp hP: 0 < P; hyp h: X*X+Y*Y < N*N; goal x*x+y*y < n*n; mul h+ * hP+ * hP+; mul h * hP+ * hP+; mul hP+ * hP+; mul hP * hP; mul h * hP * hP; mul h * hP; eqmul ex * (x+P*X); eqmul ey * (y+P*Y); eqmul en * (n+P*N)
pub scaled_form : (P X Y N x y n : ℤ) → (P *ℤ X) ≡ x → (P *ℤ Y) ≡ y → (P *ℤ N) ≡ n → (pos 0) <ℤ P → ((X *ℤ X) +ℤ (Y *ℤ Y)) <ℤ (N *ℤ N) → ((x *ℤ x) +ℤ (y *ℤ y)) <ℤ (n *ℤ n)
scaled_form P X Y N x y n ex ey en hP h = prove_lt_by (P ∷ X ∷ Y ∷ N ∷ x ∷ y ∷ n ∷ []) (Eq (Mul (Var 0) (Var 1)) (Var 4) ∷ Eq (Mul (Var 0) (Var 2)) (Var 5) ∷ Eq (Mul (Var 0) (Var 3)) (Var 6) ∷ Lt (Num (pos 0)) (Var 0) ∷ Lt (Add (Mul (Var 1) (Var 1)) (Mul (Var 2) (Var 2))) (Mul (Var 3) (Var 3)) ∷ []) (Add (Mul (Var 4) (Var 4)) (Mul (Var 5) (Var 5))) (Mul (Var 6) (Var 6)) (Plus (Hyp 0) (Plus (Times (Lit 2) (Hyp 4)) (Plus (Times (Times (Hyp 5) (Plus (Hyp 4) (Lit 1))) (Plus (Hyp 4) (Lit 1))) (Plus (Times (Hyp 4) (Hyp 4)) (Plus (TimesEq 1 (Neg (Add (Var 4) (Mul (Var 0) (Var 1))))) (Plus (TimesEq 2 (Neg (Add (Var 5) (Mul (Var 0) (Var 2))))) (TimesEq 3 (Add (Var 6) (Mul (Var 0) (Var 3)))))))))) 0 (ex, (ey, (en, (hP, (h, tt))))) refl

-- vars v w x1 y1 n1 x2 y2 n2; hyp h: (v*x1+w*x2)*(v*x1+w*x2)+(v*y1+w*y2)*(v*y1+w*y2) < (v*n1+w*n2)*(v*n1+w*n2); hyp g: 0 <= (x1*x1+y1*y1-n1*n1)*(v*v)+2*((x1*x2+y1*y2-n1*n2)*(v*w))+(x2*x2+y2*y2-n2*n2)*(w*w); goal false
pub quad_form : (v w x1 y1 n1 x2 y2 n2 : ℤ) → ((((v *ℤ x1) +ℤ (w *ℤ x2)) *ℤ ((v *ℤ x1) +ℤ (w *ℤ x2))) +ℤ (((v *ℤ y1) +ℤ (w *ℤ y2)) *ℤ ((v *ℤ y1) +ℤ (w *ℤ y2)))) <ℤ (((v *ℤ n1) +ℤ (w *ℤ n2)) *ℤ ((v *ℤ n1) +ℤ (w *ℤ n2))) → (pos 0) ≤ℤ ((((((x1 *ℤ x1) +ℤ (y1 *ℤ y1)) -ℤ (n1 *ℤ n1)) *ℤ (v *ℤ v)) +ℤ ((pos 2) *ℤ ((((x1 *ℤ x2) +ℤ (y1 *ℤ y2)) -ℤ (n1 *ℤ n2)) *ℤ (v *ℤ w)))) +ℤ ((((x2 *ℤ x2) +ℤ (y2 *ℤ y2)) -ℤ (n2 *ℤ n2)) *ℤ (w *ℤ w))) → ⊥
quad_form v w x1 y1 n1 x2 y2 n2 h g = refute (v ∷ w ∷ x1 ∷ y1 ∷ n1 ∷ x2 ∷ y2 ∷ n2 ∷ []) (Lt (Add (Mul (Add (Mul (Var 0) (Var 2)) (Mul (Var 1) (Var 5))) (Add (Mul (Var 0) (Var 2)) (Mul (Var 1) (Var 5)))) (Mul (Add (Mul (Var 0) (Var 3)) (Mul (Var 1) (Var 6))) (Add (Mul (Var 0) (Var 3)) (Mul (Var 1) (Var 6))))) (Mul (Add (Mul (Var 0) (Var 4)) (Mul (Var 1) (Var 7))) (Add (Mul (Var 0) (Var 4)) (Mul (Var 1) (Var 7)))) ∷ Le (Num (pos 0)) (Add (Add (Mul (Sub (Add (Mul (Var 2) (Var 2)) (Mul (Var 3) (Var 3))) (Mul (Var 4) (Var 4))) (Mul (Var 0) (Var 0))) (Mul (Num (pos 2)) (Mul (Sub (Add (Mul (Var 2) (Var 5)) (Mul (Var 3) (Var 6))) (Mul (Var 4) (Var 7))) (Mul (Var 0) (Var 1))))) (Mul (Sub (Add (Mul (Var 5) (Var 5)) (Mul (Var 6) (Var 6))) (Mul (Var 7) (Var 7))) (Mul (Var 1) (Var 1)))) ∷ []) (Plus (Hyp 0) (Hyp 1)) 0 (h, (g, tt)) refl

-- vars v w x1 y1 n1 x2 y2 n2; hyp g: (x1*x1+y1*y1-n1*n1)*(v*v)+2*((x1*x2+y1*y2-n1*n2)*(v*w))+(x2*x2+y2*y2-n2*n2)*(w*w) < 0; goal (v*x1+w*x2)*(v*x1+w*x2)+(v*y1+w*y2)*(v*y1+w*y2) < (v*n1+w*n2)*(v*n1+w*n2)
pub quad_near : (v w x1 y1 n1 x2 y2 n2 : ℤ) → ((((((x1 *ℤ x1) +ℤ (y1 *ℤ y1)) -ℤ (n1 *ℤ n1)) *ℤ (v *ℤ v)) +ℤ ((pos 2) *ℤ ((((x1 *ℤ x2) +ℤ (y1 *ℤ y2)) -ℤ (n1 *ℤ n2)) *ℤ (v *ℤ w)))) +ℤ ((((x2 *ℤ x2) +ℤ (y2 *ℤ y2)) -ℤ (n2 *ℤ n2)) *ℤ (w *ℤ w))) <ℤ (pos 0) → ((((v *ℤ x1) +ℤ (w *ℤ x2)) *ℤ ((v *ℤ x1) +ℤ (w *ℤ x2))) +ℤ (((v *ℤ y1) +ℤ (w *ℤ y2)) *ℤ ((v *ℤ y1) +ℤ (w *ℤ y2)))) <ℤ (((v *ℤ n1) +ℤ (w *ℤ n2)) *ℤ ((v *ℤ n1) +ℤ (w *ℤ n2)))
quad_near v w x1 y1 n1 x2 y2 n2 g = prove_lt_by (v ∷ w ∷ x1 ∷ y1 ∷ n1 ∷ x2 ∷ y2 ∷ n2 ∷ []) (Lt (Add (Add (Mul (Sub (Add (Mul (Var 2) (Var 2)) (Mul (Var 3) (Var 3))) (Mul (Var 4) (Var 4))) (Mul (Var 0) (Var 0))) (Mul (Num (pos 2)) (Mul (Sub (Add (Mul (Var 2) (Var 5)) (Mul (Var 3) (Var 6))) (Mul (Var 4) (Var 7))) (Mul (Var 0) (Var 1))))) (Mul (Sub (Add (Mul (Var 5) (Var 5)) (Mul (Var 6) (Var 6))) (Mul (Var 7) (Var 7))) (Mul (Var 1) (Var 1)))) (Num (pos 0)) ∷ []) (Add (Mul (Add (Mul (Var 0) (Var 2)) (Mul (Var 1) (Var 5))) (Add (Mul (Var 0) (Var 2)) (Mul (Var 1) (Var 5)))) (Mul (Add (Mul (Var 0) (Var 3)) (Mul (Var 1) (Var 6))) (Add (Mul (Var 0) (Var 3)) (Mul (Var 1) (Var 6))))) (Mul (Add (Mul (Var 0) (Var 4)) (Mul (Var 1) (Var 7))) (Add (Mul (Var 0) (Var 4)) (Mul (Var 1) (Var 7)))) (Plus (Hyp 0) (Hyp 1)) 0 (g, tt) refl

-- vars v b w c; hyp hv: 0 <= v; hyp hb: 0 <= b; hyp hw: 0 <= w; hyp hc: 0 <= c; goal 0 <= v*b+w*c; mul hv * hb; mul hw * hc
pub nonneg_sum : (v b w c : ℤ) → (pos 0) ≤ℤ v → (pos 0) ≤ℤ b → (pos 0) ≤ℤ w → (pos 0) ≤ℤ c → (pos 0) ≤ℤ ((v *ℤ b) +ℤ (w *ℤ c))
nonneg_sum v b w c hv hb hw hc = prove_le_by (v ∷ b ∷ w ∷ c ∷ []) (Le (Num (pos 0)) (Var 0) ∷ Le (Num (pos 0)) (Var 1) ∷ Le (Num (pos 0)) (Var 2) ∷ Le (Num (pos 0)) (Var 3) ∷ []) (Num (pos 0)) (Add (Mul (Var 0) (Var 1)) (Mul (Var 2) (Var 3))) (Plus (Hyp 0) (Plus (Times (Hyp 1) (Hyp 2)) (Times (Hyp 3) (Hyp 4)))) 0 (hv, (hb, (hw, (hc, tt)))) refl

-- vars x y n X Y N; hyp ex: x == X; hyp ey: y == Y; hyp en: n == N; hyp h: X*X+Y*Y < N*N; goal x*x+y*y < n*n; eqmul ex * (x+X); eqmul ey * (y+Y); eqmul en * (n+N)
pub near_of : (x y n X Y N : ℤ) → x ≡ X → y ≡ Y → n ≡ N → ((X *ℤ X) +ℤ (Y *ℤ Y)) <ℤ (N *ℤ N) → ((x *ℤ x) +ℤ (y *ℤ y)) <ℤ (n *ℤ n)
near_of x y n X Y N ex ey en h = prove_lt_by (x ∷ y ∷ n ∷ X ∷ Y ∷ N ∷ []) (Eq (Var 0) (Var 3) ∷ Eq (Var 1) (Var 4) ∷ Eq (Var 2) (Var 5) ∷ Lt (Add (Mul (Var 3) (Var 3)) (Mul (Var 4) (Var 4))) (Mul (Var 5) (Var 5)) ∷ []) (Add (Mul (Var 0) (Var 0)) (Mul (Var 1) (Var 1))) (Mul (Var 2) (Var 2)) (Plus (Hyp 0) (Plus (Hyp 4) (Plus (TimesEq 1 (Add (Var 0) (Var 3))) (Plus (TimesEq 2 (Add (Var 1) (Var 4))) (TimesEq 3 (Neg (Add (Var 2) (Var 5)))))))) 0 (ex, (ey, (en, (h, tt)))) refl

-- vars u v w ax ay an X Y N k; hyp h: (ax*ax+ay*ay-an*an)*(1*1)+2*((ax*X+ay*Y-an*N)*(1*k))+(X*X+Y*Y-N*N)*(k*k) < 0; goal (k*X+1*ax)*(k*X+1*ax)+(k*Y+1*ay)*(k*Y+1*ay) < (k*N+1*an)*(k*N+1*an)
pub open_near : (u v w ax ay an X Y N k : ℤ) → ((((((ax *ℤ ax) +ℤ (ay *ℤ ay)) -ℤ (an *ℤ an)) *ℤ ((pos 1) *ℤ (pos 1))) +ℤ ((pos 2) *ℤ ((((ax *ℤ X) +ℤ (ay *ℤ Y)) -ℤ (an *ℤ N)) *ℤ ((pos 1) *ℤ k)))) +ℤ ((((X *ℤ X) +ℤ (Y *ℤ Y)) -ℤ (N *ℤ N)) *ℤ (k *ℤ k))) <ℤ (pos 0) → ((((k *ℤ X) +ℤ ((pos 1) *ℤ ax)) *ℤ ((k *ℤ X) +ℤ ((pos 1) *ℤ ax))) +ℤ (((k *ℤ Y) +ℤ ((pos 1) *ℤ ay)) *ℤ ((k *ℤ Y) +ℤ ((pos 1) *ℤ ay)))) <ℤ (((k *ℤ N) +ℤ ((pos 1) *ℤ an)) *ℤ ((k *ℤ N) +ℤ ((pos 1) *ℤ an)))
open_near u v w ax ay an X Y N k h = prove_lt_by (u ∷ v ∷ w ∷ ax ∷ ay ∷ an ∷ X ∷ Y ∷ N ∷ k ∷ []) (Lt (Add (Add (Mul (Sub (Add (Mul (Var 3) (Var 3)) (Mul (Var 4) (Var 4))) (Mul (Var 5) (Var 5))) (Mul (Num (pos 1)) (Num (pos 1)))) (Mul (Num (pos 2)) (Mul (Sub (Add (Mul (Var 3) (Var 6)) (Mul (Var 4) (Var 7))) (Mul (Var 5) (Var 8))) (Mul (Num (pos 1)) (Var 9))))) (Mul (Sub (Add (Mul (Var 6) (Var 6)) (Mul (Var 7) (Var 7))) (Mul (Var 8) (Var 8))) (Mul (Var 9) (Var 9)))) (Num (pos 0)) ∷ []) (Add (Mul (Add (Mul (Var 9) (Var 6)) (Mul (Num (pos 1)) (Var 3))) (Add (Mul (Var 9) (Var 6)) (Mul (Num (pos 1)) (Var 3)))) (Mul (Add (Mul (Var 9) (Var 7)) (Mul (Num (pos 1)) (Var 4))) (Add (Mul (Var 9) (Var 7)) (Mul (Num (pos 1)) (Var 4))))) (Mul (Add (Mul (Var 9) (Var 8)) (Mul (Num (pos 1)) (Var 5))) (Add (Mul (Var 9) (Var 8)) (Mul (Num (pos 1)) (Var 5)))) (Plus (Hyp 0) (Hyp 1)) 0 (h, tt) refl

-- vars k N a; hyp hk: 0 <= k; hyp hN: 0 <= N; hyp ha: 0 <= a; goal 0 <= k*N+1*a; mul hk * hN
pub open_time : (k N a : ℤ) → (pos 0) ≤ℤ k → (pos 0) ≤ℤ N → (pos 0) ≤ℤ a → (pos 0) ≤ℤ ((k *ℤ N) +ℤ ((pos 1) *ℤ a))
open_time k N a hk hN ha = prove_le_by (k ∷ N ∷ a ∷ []) (Le (Num (pos 0)) (Var 0) ∷ Le (Num (pos 0)) (Var 1) ∷ Le (Num (pos 0)) (Var 2) ∷ []) (Num (pos 0)) (Add (Mul (Var 0) (Var 1)) (Mul (Num (pos 1)) (Var 2))) (Plus (Hyp 0) (Plus (Hyp 3) (Times (Hyp 1) (Hyp 2)))) 0 (hk, (hN, (ha, tt))) refl

-- vars k L a; hyp hk: 0 <= k; hyp hL: 0 <= L; hyp ha: 0 < a; goal 0 < k*L+1*a; mul hk * hL
pub open_over : (k L a : ℤ) → (pos 0) ≤ℤ k → (pos 0) ≤ℤ L → (pos 0) <ℤ a → (pos 0) <ℤ ((k *ℤ L) +ℤ ((pos 1) *ℤ a))
open_over k L a hk hL ha = prove_lt_by (k ∷ L ∷ a ∷ []) (Le (Num (pos 0)) (Var 0) ∷ Le (Num (pos 0)) (Var 1) ∷ Lt (Num (pos 0)) (Var 2) ∷ []) (Num (pos 0)) (Add (Mul (Var 0) (Var 1)) (Mul (Num (pos 1)) (Var 2))) (Plus (Hyp 0) (Plus (Hyp 3) (Times (Hyp 1) (Hyp 2)))) 0 (hk, (hL, (ha, tt))) refl

-- vars X Y N; hyp h: X*X+Y*Y < N*N; goal X*X+Y*Y-N*N < 0
pub form_neg : (X Y N : ℤ) → ((X *ℤ X) +ℤ (Y *ℤ Y)) <ℤ (N *ℤ N) → (((X *ℤ X) +ℤ (Y *ℤ Y)) -ℤ (N *ℤ N)) <ℤ (pos 0)
form_neg X Y N h = prove_lt_by (X ∷ Y ∷ N ∷ []) (Lt (Add (Mul (Var 0) (Var 0)) (Mul (Var 1) (Var 1))) (Mul (Var 2) (Var 2)) ∷ []) (Sub (Add (Mul (Var 0) (Var 0)) (Mul (Var 1) (Var 1))) (Mul (Var 2) (Var 2))) (Num (pos 0)) (Plus (Hyp 0) (Hyp 1)) 0 (h, tt) refl

-- vars u v w a x y b c; hyp ex: x == 0-b; hyp ey: y == 0-c; hyp h: (u*a+v*x)+w*y == 0; goal u*a <= v*b+w*c; eqmul ex * v; eqmul ey * w
pub bal_le : (u v w a x y b c : ℤ) → x ≡ ((pos 0) -ℤ b) → y ≡ ((pos 0) -ℤ c) → (((u *ℤ a) +ℤ (v *ℤ x)) +ℤ (w *ℤ y)) ≡ (pos 0) → (u *ℤ a) ≤ℤ ((v *ℤ b) +ℤ (w *ℤ c))
bal_le u v w a x y b c ex ey h = prove_le_by (u ∷ v ∷ w ∷ a ∷ x ∷ y ∷ b ∷ c ∷ []) (Eq (Var 4) (Sub (Num (pos 0)) (Var 6)) ∷ Eq (Var 5) (Sub (Num (pos 0)) (Var 7)) ∷ Eq (Add (Add (Mul (Var 0) (Var 3)) (Mul (Var 1) (Var 4))) (Mul (Var 2) (Var 5))) (Num (pos 0)) ∷ []) (Mul (Var 0) (Var 3)) (Add (Mul (Var 1) (Var 6)) (Mul (Var 2) (Var 7))) (Plus (Hyp 0) (Plus (TimesEq 3 (Num (pos 1))) (Plus (TimesEq 1 (Neg (Var 1))) (TimesEq 2 (Neg (Var 2)))))) 0 (ex, (ey, (h, tt))) refl

-- vars u v w a x y b c; hyp ex: x == 0-b; hyp ey: y == 0-c; hyp h: (u*a+v*x)+w*y == 0; goal v*b+w*c <= u*a; eqmul ex * v; eqmul ey * w
pub bal_ge : (u v w a x y b c : ℤ) → x ≡ ((pos 0) -ℤ b) → y ≡ ((pos 0) -ℤ c) → (((u *ℤ a) +ℤ (v *ℤ x)) +ℤ (w *ℤ y)) ≡ (pos 0) → ((v *ℤ b) +ℤ (w *ℤ c)) ≤ℤ (u *ℤ a)
bal_ge u v w a x y b c ex ey h = prove_le_by (u ∷ v ∷ w ∷ a ∷ x ∷ y ∷ b ∷ c ∷ []) (Eq (Var 4) (Sub (Num (pos 0)) (Var 6)) ∷ Eq (Var 5) (Sub (Num (pos 0)) (Var 7)) ∷ Eq (Add (Add (Mul (Var 0) (Var 3)) (Mul (Var 1) (Var 4))) (Mul (Var 2) (Var 5))) (Num (pos 0)) ∷ []) (Add (Mul (Var 1) (Var 6)) (Mul (Var 2) (Var 7))) (Mul (Var 0) (Var 3)) (Plus (Hyp 0) (Plus (TimesEq 3 (Num (negsuc 0))) (Plus (TimesEq 1 (Var 1)) (TimesEq 2 (Var 2))))) 0 (ex, (ey, (h, tt))) refl

-- vars P b c v w q s; hyp eq: q == 0-b; hyp es: s == 0-c; goal 0 <= ((v*b+w*c)*P+(P*v)*q)+(P*w)*s; eqmul eq * (P*v); eqmul es * (P*w)
pub cut_level2 : (P b c v w q s : ℤ) → q ≡ ((pos 0) -ℤ b) → s ≡ ((pos 0) -ℤ c) → (pos 0) ≤ℤ (((((v *ℤ b) +ℤ (w *ℤ c)) *ℤ P) +ℤ ((P *ℤ v) *ℤ q)) +ℤ ((P *ℤ w) *ℤ s))
cut_level2 P b c v w q s eq es = prove_le_by (P ∷ b ∷ c ∷ v ∷ w ∷ q ∷ s ∷ []) (Eq (Var 5) (Sub (Num (pos 0)) (Var 1)) ∷ Eq (Var 6) (Sub (Num (pos 0)) (Var 2)) ∷ []) (Num (pos 0)) (Add (Add (Mul (Add (Mul (Var 3) (Var 1)) (Mul (Var 4) (Var 2))) (Var 0)) (Mul (Mul (Var 0) (Var 3)) (Var 5))) (Mul (Mul (Var 0) (Var 4)) (Var 6))) (Plus (Hyp 0) (Plus (TimesEq 1 (Neg (Mul (Var 0) (Var 3)))) (TimesEq 2 (Neg (Mul (Var 0) (Var 4)))))) 0 (eq, (es, tt)) refl
