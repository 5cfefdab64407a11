-- Polynomial facts behind what the cutter passes on its way along x.
-- Written by tools/certificates.py from tools/certificates/mill_contact_ball_shadow.spec.
use Rattle.std.proofs.Common.{◌≡◌, [], ◌∷◌, refl}
use lib.IntN.{ℤ, pos, ◌+ℤ◌, ◌*ℤ◌}
use lib.Signed.{◌<ℤ◌, ◌≤ℤ◌}
use Rattle.mill_base.proofs.Ring.{Var, Num, Add, Sub, Mul}
use Rattle.mill_base.proofs.Cert.{Le, Lt, Eq, Hyp, TimesEq, Sq, Lit, Plus, Times, prove_le_by, prove_lt_by}

-- vars D Y y z r n q; hyp h1: D*D+Y*Y < (r*r)*(n*n); hyp h2: y*y+z*z < (r*r)*(q*q); hyp hr: 0 <= r; hyp hn: 0 <= n; hyp hq: 0 <= q; goal y*Y <= (r*q)*(r*n); mul goal * goal; mul goal * hr * hq * hr * hn; mul h1 * sq(y); mul h1 * sq(r*q); mul h2 * sq(r*n); mul h2 * sq(D); mul h2 * sq(Y); mul h2; mul h1; square D*y; square z*Y; square D*z; square y; square z; square r*q; square r*n; square Y; square D; mul hr * hr * hq * hn
pub dot_flat : (D Y y z r n q : ℤ) → ((D *ℤ D) +ℤ (Y *ℤ Y)) <ℤ ((r *ℤ r) *ℤ (n *ℤ n)) → ((y *ℤ y) +ℤ (z *ℤ z)) <ℤ ((r *ℤ r) *ℤ (q *ℤ q)) → (pos 0) ≤ℤ r → (pos 0) ≤ℤ n → (pos 0) ≤ℤ q → (y *ℤ Y) ≤ℤ ((r *ℤ q) *ℤ (r *ℤ n))
dot_flat D Y y z r n q h1 h2 hr hn hq = prove_le_by (D ∷ Y ∷ y ∷ z ∷ r ∷ n ∷ q ∷ []) (Lt (Add (Mul (Var 0) (Var 0)) (Mul (Var 1) (Var 1))) (Mul (Mul (Var 4) (Var 4)) (Mul (Var 5) (Var 5))) ∷ Lt (Add (Mul (Var 2) (Var 2)) (Mul (Var 3) (Var 3))) (Mul (Mul (Var 4) (Var 4)) (Mul (Var 6) (Var 6))) ∷ Le (Num (pos 0)) (Var 4) ∷ Le (Num (pos 0)) (Var 5) ∷ Le (Num (pos 0)) (Var 6) ∷ []) (Mul (Var 2) (Var 1)) (Mul (Mul (Var 4) (Var 6)) (Mul (Var 4) (Var 5))) (Plus (Times (Lit 2) (Hyp 0)) (Plus (Hyp 2) (Plus (Times (Hyp 0) (Hyp 0)) (Plus (Times (Lit 2) (Times (Times (Times (Times (Hyp 0) (Hyp 3)) (Hyp 5)) (Hyp 3)) (Hyp 4))) (Plus (Times (Hyp 1) (Sq (Mul (Var 4) (Var 6)))) (Plus (Times (Hyp 2) (Sq (Var 0))) (Plus (Times (Hyp 2) (Sq (Var 1))) (Plus (Sq (Mul (Var 0) (Var 2))) (Plus (Sq (Mul (Var 3) (Var 1))) (Plus (Sq (Mul (Var 0) (Var 3))) (Plus (Sq (Var 2)) (Plus (Sq (Var 3)) (Plus (Sq (Var 1)) (Plus (Sq (Var 0)) (Times (Lit 2) (Times (Times (Times (Hyp 3) (Hyp 3)) (Hyp 5)) (Hyp 4))))))))))))))))) 1 (h1, (h2, (hr, (hn, (hq, tt))))) refl

-- vars D Y Z y z r n q; hyp h1: (D*D+Y*Y)+Z*Z < (r*r)*(n*n); hyp h2: y*y+z*z < (r*r)*(q*q); hyp hr: 0 <= r; hyp hn: 0 <= n; hyp hq: 0 <= q; goal y*Y+z*Z <= (r*q)*(r*n); mul goal * goal; mul goal * hr * hq * hr * hn; mul h1 * sq(y); mul h1 * sq(z); mul h1 * sq(r*q); mul h2 * sq(r*n); mul h2; mul h1; square y*Z-z*Y; square D*y; square D*z; square y; square z; square r*q; square r*n; square Y; square Z; square D; mul hr * hr * hq * hn
pub dot_round : (D Y Z y z r n q : ℤ) → (((D *ℤ D) +ℤ (Y *ℤ Y)) +ℤ (Z *ℤ Z)) <ℤ ((r *ℤ r) *ℤ (n *ℤ n)) → ((y *ℤ y) +ℤ (z *ℤ z)) <ℤ ((r *ℤ r) *ℤ (q *ℤ q)) → (pos 0) ≤ℤ r → (pos 0) ≤ℤ n → (pos 0) ≤ℤ q → ((y *ℤ Y) +ℤ (z *ℤ Z)) ≤ℤ ((r *ℤ q) *ℤ (r *ℤ n))
dot_round D Y Z y z r n q h1 h2 hr hn hq = prove_le_by (D ∷ Y ∷ Z ∷ y ∷ z ∷ r ∷ n ∷ q ∷ []) (Lt (Add (Add (Mul (Var 0) (Var 0)) (Mul (Var 1) (Var 1))) (Mul (Var 2) (Var 2))) (Mul (Mul (Var 5) (Var 5)) (Mul (Var 6) (Var 6))) ∷ Lt (Add (Mul (Var 3) (Var 3)) (Mul (Var 4) (Var 4))) (Mul (Mul (Var 5) (Var 5)) (Mul (Var 7) (Var 7))) ∷ Le (Num (pos 0)) (Var 5) ∷ Le (Num (pos 0)) (Var 6) ∷ Le (Num (pos 0)) (Var 7) ∷ []) (Add (Mul (Var 3) (Var 1)) (Mul (Var 4) (Var 2))) (Mul (Mul (Var 5) (Var 7)) (Mul (Var 5) (Var 6))) (Plus (Times (Lit 2) (Hyp 0)) (Plus (Hyp 1) (Plus (Times (Hyp 0) (Hyp 0)) (Plus (Times (Lit 2) (Times (Times (Times (Times (Hyp 0) (Hyp 3)) (Hyp 5)) (Hyp 3)) (Hyp 4))) (Plus (Times (Hyp 1) (Sq (Var 3))) (Plus (Times (Hyp 1) (Sq (Var 4))) (Plus (Times (Hyp 2) (Sq (Mul (Var 5) (Var 6)))) (Plus (Sq (Sub (Mul (Var 3) (Var 2)) (Mul (Var 4) (Var 1)))) (Plus (Sq (Mul (Var 0) (Var 3))) (Plus (Sq (Mul (Var 0) (Var 4))) (Plus (Sq (Var 3)) (Plus (Sq (Var 4)) (Plus (Sq (Var 1)) (Plus (Sq (Var 2)) (Plus (Sq (Var 0)) (Times (Lit 2) (Times (Times (Times (Hyp 3) (Hyp 3)) (Hyp 5)) (Hyp 4)))))))))))))))))) 1 (h1, (h2, (hr, (hn, (hq, tt))))) refl

-- vars D Y Z y z k m n q r; hyp h1: (D*D+Y*Y)+Z*Z < (r*r)*(n*n); hyp h2: y*y+z*z < (r*r)*(q*q); hyp hd: y*Y+z*Z <= (r*q)*(r*n); hyp hm: 0 < m; hyp hk: 0 <= k; goal ((m*D)*(m*D)+(k*y+m*Y)*(k*y+m*Y))+(k*z+m*Z)*(k*z+m*Z) < (r*r)*((k*q+m*n)*(k*q+m*n)); mul h1 * sq(m); mul h1+ * sq(m); mul h2 * sq(k); mul h2+ * sq(k); mul hd * hm * hk; mul hd * hm+ * hk; mul hm * hm; mul hm+ * hm+
pub join_round : (D Y Z y z k m n q r : ℤ) → (((D *ℤ D) +ℤ (Y *ℤ Y)) +ℤ (Z *ℤ Z)) <ℤ ((r *ℤ r) *ℤ (n *ℤ n)) → ((y *ℤ y) +ℤ (z *ℤ z)) <ℤ ((r *ℤ r) *ℤ (q *ℤ q)) → ((y *ℤ Y) +ℤ (z *ℤ Z)) ≤ℤ ((r *ℤ q) *ℤ (r *ℤ n)) → (pos 0) <ℤ m → (pos 0) ≤ℤ k → ((((m *ℤ D) *ℤ (m *ℤ D)) +ℤ (((k *ℤ y) +ℤ (m *ℤ Y)) *ℤ ((k *ℤ y) +ℤ (m *ℤ Y)))) +ℤ (((k *ℤ z) +ℤ (m *ℤ Z)) *ℤ ((k *ℤ z) +ℤ (m *ℤ Z)))) <ℤ ((r *ℤ r) *ℤ (((k *ℤ q) +ℤ (m *ℤ n)) *ℤ ((k *ℤ q) +ℤ (m *ℤ n))))
join_round D Y Z y z k m n q r h1 h2 hd hm hk = prove_lt_by (D ∷ Y ∷ Z ∷ y ∷ z ∷ k ∷ m ∷ n ∷ q ∷ r ∷ []) (Lt (Add (Add (Mul (Var 0) (Var 0)) (Mul (Var 1) (Var 1))) (Mul (Var 2) (Var 2))) (Mul (Mul (Var 9) (Var 9)) (Mul (Var 7) (Var 7))) ∷ Lt (Add (Mul (Var 3) (Var 3)) (Mul (Var 4) (Var 4))) (Mul (Mul (Var 9) (Var 9)) (Mul (Var 8) (Var 8))) ∷ Le (Add (Mul (Var 3) (Var 1)) (Mul (Var 4) (Var 2))) (Mul (Mul (Var 9) (Var 8)) (Mul (Var 9) (Var 7))) ∷ Lt (Num (pos 0)) (Var 6) ∷ Le (Num (pos 0)) (Var 5) ∷ []) (Add (Add (Mul (Mul (Var 6) (Var 0)) (Mul (Var 6) (Var 0))) (Mul (Add (Mul (Var 5) (Var 3)) (Mul (Var 6) (Var 1))) (Add (Mul (Var 5) (Var 3)) (Mul (Var 6) (Var 1))))) (Mul (Add (Mul (Var 5) (Var 4)) (Mul (Var 6) (Var 2))) (Add (Mul (Var 5) (Var 4)) (Mul (Var 6) (Var 2))))) (Mul (Mul (Var 9) (Var 9)) (Mul (Add (Mul (Var 5) (Var 8)) (Mul (Var 6) (Var 7))) (Add (Mul (Var 5) (Var 8)) (Mul (Var 6) (Var 7))))) (Plus (Hyp 0) (Plus (Times (Lit 2) (Hyp 4)) (Plus (Times (Hyp 1) (Sq (Var 6))) (Plus (Times (Plus (Hyp 2) (Lit 1)) (Sq (Var 5))) (Plus (Times (Lit 2) (Times (Times (Hyp 3) (Plus (Hyp 4) (Lit 1))) (Hyp 5))) (Times (Hyp 4) (Hyp 4))))))) 0 (h1, (h2, (hd, (hm, (hk, tt))))) refl

-- vars D Y y z k m n q r; hyp h1: D*D+Y*Y < (r*r)*(n*n); hyp h2: y*y+z*z < (r*r)*(q*q); hyp hd: y*Y <= (r*q)*(r*n); hyp hm: 0 < m; hyp hk: 0 <= k; goal (m*D)*(m*D)+(k*y+m*Y)*(k*y+m*Y) < (r*r)*((k*q+m*n)*(k*q+m*n)); mul h1 * sq(m); mul h1+ * sq(m); mul h2 * sq(k); mul h2+ * sq(k); square k*z; mul hd * hm * hk; mul hd * hm+ * hk; mul hm * hm; mul hm+ * hm+
pub join_flat : (D Y y z k m n q r : ℤ) → ((D *ℤ D) +ℤ (Y *ℤ Y)) <ℤ ((r *ℤ r) *ℤ (n *ℤ n)) → ((y *ℤ y) +ℤ (z *ℤ z)) <ℤ ((r *ℤ r) *ℤ (q *ℤ q)) → (y *ℤ Y) ≤ℤ ((r *ℤ q) *ℤ (r *ℤ n)) → (pos 0) <ℤ m → (pos 0) ≤ℤ k → (((m *ℤ D) *ℤ (m *ℤ D)) +ℤ (((k *ℤ y) +ℤ (m *ℤ Y)) *ℤ ((k *ℤ y) +ℤ (m *ℤ Y)))) <ℤ ((r *ℤ r) *ℤ (((k *ℤ q) +ℤ (m *ℤ n)) *ℤ ((k *ℤ q) +ℤ (m *ℤ n))))
join_flat D Y y z k m n q r h1 h2 hd hm hk = prove_lt_by (D ∷ Y ∷ y ∷ z ∷ k ∷ m ∷ n ∷ q ∷ r ∷ []) (Lt (Add (Mul (Var 0) (Var 0)) (Mul (Var 1) (Var 1))) (Mul (Mul (Var 8) (Var 8)) (Mul (Var 6) (Var 6))) ∷ Lt (Add (Mul (Var 2) (Var 2)) (Mul (Var 3) (Var 3))) (Mul (Mul (Var 8) (Var 8)) (Mul (Var 7) (Var 7))) ∷ Le (Mul (Var 2) (Var 1)) (Mul (Mul (Var 8) (Var 7)) (Mul (Var 8) (Var 6))) ∷ Lt (Num (pos 0)) (Var 5) ∷ Le (Num (pos 0)) (Var 4) ∷ []) (Add (Mul (Mul (Var 5) (Var 0)) (Mul (Var 5) (Var 0))) (Mul (Add (Mul (Var 4) (Var 2)) (Mul (Var 5) (Var 1))) (Add (Mul (Var 4) (Var 2)) (Mul (Var 5) (Var 1))))) (Mul (Mul (Var 8) (Var 8)) (Mul (Add (Mul (Var 4) (Var 7)) (Mul (Var 5) (Var 6))) (Add (Mul (Var 4) (Var 7)) (Mul (Var 5) (Var 6))))) (Plus (Hyp 0) (Plus (Times (Lit 2) (Hyp 4)) (Plus (Times (Hyp 1) (Sq (Var 5))) (Plus (Times (Plus (Hyp 2) (Lit 1)) (Sq (Var 4))) (Plus (Sq (Mul (Var 4) (Var 3))) (Plus (Times (Lit 2) (Times (Times (Hyp 3) (Plus (Hyp 4) (Lit 1))) (Hyp 5))) (Times (Hyp 4) (Hyp 4)))))))) 0 (h1, (h2, (hd, (hm, (hk, tt))))) refl

-- vars D Y Z y z k m n q r; hyp h1: D*D+Y*Y < (r*r)*(n*n); hyp h2: y*y+z*z < (r*r)*(q*q); hyp hd: y*Y <= (r*q)*(r*n); hyp hZ: 0 < Z; hyp low: k*z+m*Z <= 0; hyp hm: 0 < m; hyp hk: 0 <= k; goal ((m*D)*(m*D)+(k*y+m*Y)*(k*y+m*Y))+(k*z+m*Z)*(k*z+m*Z) < (r*r)*((k*q+m*n)*(k*q+m*n)); mul h1 * sq(m); mul h1+ * sq(m); mul h2 * sq(k); mul h2+ * sq(k); square m*Z; mul hm+ * hZ+ * low; mul hd * hm * hk; mul hd * hm+ * hk; mul hm * hm; mul hm+ * hm+
pub join_low : (D Y Z y z k m n q r : ℤ) → ((D *ℤ D) +ℤ (Y *ℤ Y)) <ℤ ((r *ℤ r) *ℤ (n *ℤ n)) → ((y *ℤ y) +ℤ (z *ℤ z)) <ℤ ((r *ℤ r) *ℤ (q *ℤ q)) → (y *ℤ Y) ≤ℤ ((r *ℤ q) *ℤ (r *ℤ n)) → (pos 0) <ℤ Z → ((k *ℤ z) +ℤ (m *ℤ Z)) ≤ℤ (pos 0) → (pos 0) <ℤ m → (pos 0) ≤ℤ k → ((((m *ℤ D) *ℤ (m *ℤ D)) +ℤ (((k *ℤ y) +ℤ (m *ℤ Y)) *ℤ ((k *ℤ y) +ℤ (m *ℤ Y)))) +ℤ (((k *ℤ z) +ℤ (m *ℤ Z)) *ℤ ((k *ℤ z) +ℤ (m *ℤ Z)))) <ℤ ((r *ℤ r) *ℤ (((k *ℤ q) +ℤ (m *ℤ n)) *ℤ ((k *ℤ q) +ℤ (m *ℤ n))))
join_low D Y Z y z k m n q r h1 h2 hd hZ low hm hk = prove_lt_by (D ∷ Y ∷ Z ∷ y ∷ z ∷ k ∷ m ∷ n ∷ q ∷ r ∷ []) (Lt (Add (Mul (Var 0) (Var 0)) (Mul (Var 1) (Var 1))) (Mul (Mul (Var 9) (Var 9)) (Mul (Var 7) (Var 7))) ∷ Lt (Add (Mul (Var 3) (Var 3)) (Mul (Var 4) (Var 4))) (Mul (Mul (Var 9) (Var 9)) (Mul (Var 8) (Var 8))) ∷ Le (Mul (Var 3) (Var 1)) (Mul (Mul (Var 9) (Var 8)) (Mul (Var 9) (Var 7))) ∷ Lt (Num (pos 0)) (Var 2) ∷ Le (Add (Mul (Var 5) (Var 4)) (Mul (Var 6) (Var 2))) (Num (pos 0)) ∷ Lt (Num (pos 0)) (Var 6) ∷ Le (Num (pos 0)) (Var 5) ∷ []) (Add (Add (Mul (Mul (Var 6) (Var 0)) (Mul (Var 6) (Var 0))) (Mul (Add (Mul (Var 5) (Var 3)) (Mul (Var 6) (Var 1))) (Add (Mul (Var 5) (Var 3)) (Mul (Var 6) (Var 1))))) (Mul (Add (Mul (Var 5) (Var 4)) (Mul (Var 6) (Var 2))) (Add (Mul (Var 5) (Var 4)) (Mul (Var 6) (Var 2))))) (Mul (Mul (Var 9) (Var 9)) (Mul (Add (Mul (Var 5) (Var 8)) (Mul (Var 6) (Var 7))) (Add (Mul (Var 5) (Var 8)) (Mul (Var 6) (Var 7))))) (Plus (Hyp 0) (Plus (Times (Lit 2) (Hyp 6)) (Plus (Times (Hyp 1) (Sq (Var 6))) (Plus (Times (Plus (Hyp 2) (Lit 1)) (Sq (Var 5))) (Plus (Sq (Mul (Var 6) (Var 2))) (Plus (Times (Lit 2) (Times (Times (Plus (Hyp 6) (Lit 1)) (Plus (Hyp 4) (Lit 1))) (Hyp 5))) (Plus (Times (Lit 2) (Times (Times (Hyp 3) (Plus (Hyp 6) (Lit 1))) (Hyp 7))) (Times (Hyp 6) (Hyp 6))))))))) 0 (h1, (h2, (hd, (hZ, (low, (hm, (hk, tt))))))) refl

-- vars u v w Y Z q; hyp h: (((u*0+v*0)+w*0)*((u*0+v*0)+w*0)+Y*Y)+Z*Z < q; goal Y*Y+Z*Z < q
pub in_shadow : (u v w Y Z q : ℤ) → ((((((u *ℤ (pos 0)) +ℤ (v *ℤ (pos 0))) +ℤ (w *ℤ (pos 0))) *ℤ (((u *ℤ (pos 0)) +ℤ (v *ℤ (pos 0))) +ℤ (w *ℤ (pos 0)))) +ℤ (Y *ℤ Y)) +ℤ (Z *ℤ Z)) <ℤ q → ((Y *ℤ Y) +ℤ (Z *ℤ Z)) <ℤ q
in_shadow u v w Y Z q h = prove_lt_by (u ∷ v ∷ w ∷ Y ∷ Z ∷ q ∷ []) (Lt (Add (Add (Mul (Add (Add (Mul (Var 0) (Num (pos 0))) (Mul (Var 1) (Num (pos 0)))) (Mul (Var 2) (Num (pos 0)))) (Add (Add (Mul (Var 0) (Num (pos 0))) (Mul (Var 1) (Num (pos 0)))) (Mul (Var 2) (Num (pos 0))))) (Mul (Var 3) (Var 3))) (Mul (Var 4) (Var 4))) (Var 5) ∷ []) (Add (Mul (Var 3) (Var 3)) (Mul (Var 4) (Var 4))) (Var 5) (Plus (Hyp 0) (Hyp 1)) 0 (h, tt) refl

-- vars D u v w Y Z q; hyp h: (D*D+Y*Y)+Z*Z < q; goal (((u*0+v*0)+w*0)*((u*0+v*0)+w*0)+Y*Y)+Z*Z < q; square D
pub to_shadow : (D u v w Y Z q : ℤ) → (((D *ℤ D) +ℤ (Y *ℤ Y)) +ℤ (Z *ℤ Z)) <ℤ q → ((((((u *ℤ (pos 0)) +ℤ (v *ℤ (pos 0))) +ℤ (w *ℤ (pos 0))) *ℤ (((u *ℤ (pos 0)) +ℤ (v *ℤ (pos 0))) +ℤ (w *ℤ (pos 0)))) +ℤ (Y *ℤ Y)) +ℤ (Z *ℤ Z)) <ℤ q
to_shadow D u v w Y Z q h = prove_lt_by (D ∷ u ∷ v ∷ w ∷ Y ∷ Z ∷ q ∷ []) (Lt (Add (Add (Mul (Var 0) (Var 0)) (Mul (Var 4) (Var 4))) (Mul (Var 5) (Var 5))) (Var 6) ∷ []) (Add (Add (Mul (Add (Add (Mul (Var 1) (Num (pos 0))) (Mul (Var 2) (Num (pos 0)))) (Mul (Var 3) (Num (pos 0)))) (Add (Add (Mul (Var 1) (Num (pos 0))) (Mul (Var 2) (Num (pos 0)))) (Mul (Var 3) (Num (pos 0))))) (Mul (Var 4) (Var 4))) (Mul (Var 5) (Var 5))) (Var 6) (Plus (Hyp 0) (Plus (Hyp 1) (Sq (Var 0)))) 0 (h, tt) refl

-- vars X Y Z q; hyp e: X == 0; hyp h: Y*Y+Z*Z < q; goal (X*X+Y*Y)+Z*Z < q; eqmul e * X
pub on_axis : (X Y Z q : ℤ) → X ≡ (pos 0) → ((Y *ℤ Y) +ℤ (Z *ℤ Z)) <ℤ q → (((X *ℤ X) +ℤ (Y *ℤ Y)) +ℤ (Z *ℤ Z)) <ℤ q
on_axis X Y Z q e h = prove_lt_by (X ∷ Y ∷ Z ∷ q ∷ []) (Eq (Var 0) (Num (pos 0)) ∷ Lt (Add (Mul (Var 1) (Var 1)) (Mul (Var 2) (Var 2))) (Var 3) ∷ []) (Add (Add (Mul (Var 0) (Var 0)) (Mul (Var 1) (Var 1))) (Mul (Var 2) (Var 2))) (Var 3) (Plus (Hyp 0) (Plus (Hyp 2) (TimesEq 1 (Var 0)))) 0 (e, (h, tt)) refl

-- vars X Y Z q; hyp h: (X*X+Y*Y)+Z*Z < q; goal (Y*Y+X*X)+Z*Z < q
pub swap_sphere : (X Y Z q : ℤ) → (((X *ℤ X) +ℤ (Y *ℤ Y)) +ℤ (Z *ℤ Z)) <ℤ q → (((Y *ℤ Y) +ℤ (X *ℤ X)) +ℤ (Z *ℤ Z)) <ℤ q
swap_sphere X Y Z q h = prove_lt_by (X ∷ Y ∷ Z ∷ q ∷ []) (Lt (Add (Add (Mul (Var 0) (Var 0)) (Mul (Var 1) (Var 1))) (Mul (Var 2) (Var 2))) (Var 3) ∷ []) (Add (Add (Mul (Var 1) (Var 1)) (Mul (Var 0) (Var 0))) (Mul (Var 2) (Var 2))) (Var 3) (Plus (Hyp 0) (Hyp 1)) 0 (h, tt) refl
