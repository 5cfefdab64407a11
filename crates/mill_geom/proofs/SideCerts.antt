-- Polynomial facts behind the positions along an axis.
-- Written by tools/certificates.py from tools/certificates/mill_geom_sides.spec.
use Rattle.std.proofs.Common.{◌≡◌, [], ◌∷◌, refl}
use lib.IntN.{ℤ, pos, ◌+ℤ◌, ◌-ℤ◌, ◌*ℤ◌}
use lib.Signed.{◌<ℤ◌, ◌≤ℤ◌}
use Rattle.mill_base.proofs.Ring.{Var, Num, Add, Sub, Mul, Neg, ring}
use Rattle.mill_base.proofs.Cert.{Le, Lt, Eq, Hyp, TimesEq, Sq, Lit, Plus, Times, prove_le_by, prove_lt_by}

-- vars D Y B m s t r k; hyp h1: D*D+Y*Y < r*r*(s*s); hyp h2: B*B < r*r*(t*t); hyp hd: B*0+B*Y <= (r*t)*(r*s); hyp hm: 0 < m; hyp hk: 0 <= k; goal (m*D)*(m*D)+(k*B+m*Y)*(k*B+m*Y) < (r*r)*((k*t+m*s)*(k*t+m*s)); mul h1 * sq(m); mul h1+ * sq(m); mul h2 * sq(k); mul h2+ * sq(k); mul hd * hm * hk; mul hd * hm+ * hk; mul hm * hm; mul hm+ * hm+
pub side_near : (D Y B m s t r k : ℤ) → ((D *ℤ D) +ℤ (Y *ℤ Y)) <ℤ ((r *ℤ r) *ℤ (s *ℤ s)) → (B *ℤ B) <ℤ ((r *ℤ r) *ℤ (t *ℤ t)) → ((B *ℤ (pos 0)) +ℤ (B *ℤ Y)) ≤ℤ ((r *ℤ t) *ℤ (r *ℤ s)) → (pos 0) <ℤ m → (pos 0) ≤ℤ k → (((m *ℤ D) *ℤ (m *ℤ D)) +ℤ (((k *ℤ B) +ℤ (m *ℤ Y)) *ℤ ((k *ℤ B) +ℤ (m *ℤ Y)))) <ℤ ((r *ℤ r) *ℤ (((k *ℤ t) +ℤ (m *ℤ s)) *ℤ ((k *ℤ t) +ℤ (m *ℤ s))))
side_near D Y B m s t r k h1 h2 hd hm hk = prove_lt_by (D ∷ Y ∷ B ∷ m ∷ s ∷ t ∷ r ∷ k ∷ []) (Lt (Add (Mul (Var 0) (Var 0)) (Mul (Var 1) (Var 1))) (Mul (Mul (Var 6) (Var 6)) (Mul (Var 4) (Var 4))) ∷ Lt (Mul (Var 2) (Var 2)) (Mul (Mul (Var 6) (Var 6)) (Mul (Var 5) (Var 5))) ∷ Le (Add (Mul (Var 2) (Num (pos 0))) (Mul (Var 2) (Var 1))) (Mul (Mul (Var 6) (Var 5)) (Mul (Var 6) (Var 4))) ∷ Lt (Num (pos 0)) (Var 3) ∷ Le (Num (pos 0)) (Var 7) ∷ []) (Add (Mul (Mul (Var 3) (Var 0)) (Mul (Var 3) (Var 0))) (Mul (Add (Mul (Var 7) (Var 2)) (Mul (Var 3) (Var 1))) (Add (Mul (Var 7) (Var 2)) (Mul (Var 3) (Var 1))))) (Mul (Mul (Var 6) (Var 6)) (Mul (Add (Mul (Var 7) (Var 5)) (Mul (Var 3) (Var 4))) (Add (Mul (Var 7) (Var 5)) (Mul (Var 3) (Var 4))))) (Plus (Hyp 0) (Plus (Times (Lit 2) (Hyp 4)) (Plus (Times (Hyp 1) (Sq (Var 3))) (Plus (Times (Plus (Hyp 2) (Lit 1)) (Sq (Var 7))) (Plus (Times (Lit 2) (Times (Times (Hyp 3) (Plus (Hyp 4) (Lit 1))) (Hyp 5))) (Times (Hyp 4) (Hyp 4))))))) 0 (h1, (h2, (hd, (hm, (hk, tt))))) refl

-- vars D Y B r s t; hyp h1: D*D+Y*Y < r*r*(s*s); hyp h2: B*B < r*r*(t*t); hyp hr: 0 <= r; hyp hs: 0 <= s; hyp ht: 0 <= t; goal B*0+B*Y <= (r*t)*(r*s); mul goal * goal; mul goal * hr * ht * hr * hs; mul h1 * sq(B); mul h1 * sq(r*t); mul h2 * sq(r*s); mul h2 * sq(D); mul h2 * sq(Y); square D*B; mul h2; mul h1; square B; square r*t; square r*s; square Y; square D; mul hr * hr * ht * hs
pub side_dot : (D Y B r s t : ℤ) → ((D *ℤ D) +ℤ (Y *ℤ Y)) <ℤ ((r *ℤ r) *ℤ (s *ℤ s)) → (B *ℤ B) <ℤ ((r *ℤ r) *ℤ (t *ℤ t)) → (pos 0) ≤ℤ r → (pos 0) ≤ℤ s → (pos 0) ≤ℤ t → ((B *ℤ (pos 0)) +ℤ (B *ℤ Y)) ≤ℤ ((r *ℤ t) *ℤ (r *ℤ s))
side_dot D Y B r s t h1 h2 hr hs ht = prove_le_by (D ∷ Y ∷ B ∷ r ∷ s ∷ t ∷ []) (Lt (Add (Mul (Var 0) (Var 0)) (Mul (Var 1) (Var 1))) (Mul (Mul (Var 3) (Var 3)) (Mul (Var 4) (Var 4))) ∷ Lt (Mul (Var 2) (Var 2)) (Mul (Mul (Var 3) (Var 3)) (Mul (Var 5) (Var 5))) ∷ Le (Num (pos 0)) (Var 3) ∷ Le (Num (pos 0)) (Var 4) ∷ Le (Num (pos 0)) (Var 5) ∷ []) (Add (Mul (Var 2) (Num (pos 0))) (Mul (Var 2) (Var 1))) (Mul (Mul (Var 3) (Var 5)) (Mul (Var 3) (Var 4))) (Plus (Times (Lit 2) (Hyp 0)) (Plus (Hyp 1) (Plus (Times (Hyp 0) (Hyp 0)) (Plus (Times (Lit 2) (Times (Times (Times (Times (Hyp 0) (Hyp 3)) (Hyp 5)) (Hyp 3)) (Hyp 4))) (Plus (Times (Hyp 1) (Sq (Var 2))) (Plus (Times (Hyp 2) (Sq (Mul (Var 3) (Var 4)))) (Plus (Sq (Mul (Var 0) (Var 2))) (Plus (Sq (Var 2)) (Plus (Sq (Var 1)) (Plus (Sq (Var 0)) (Times (Lit 2) (Times (Times (Times (Hyp 3) (Hyp 3)) (Hyp 5)) (Hyp 4))))))))))))) 1 (h1, (h2, (hr, (hs, (ht, tt))))) refl

pub slid : (u v w a b c t : ℤ) → (((u *ℤ (a -ℤ t)) +ℤ (v *ℤ (b -ℤ t))) +ℤ (w *ℤ (c -ℤ t))) ≡ ((((u *ℤ a) +ℤ (v *ℤ b)) +ℤ (w *ℤ c)) -ℤ (t *ℤ ((u +ℤ v) +ℤ w)))
slid u v w a b c t = ring (u ∷ v ∷ w ∷ a ∷ b ∷ c ∷ t ∷ []) (Add (Add (Mul (Var 0) (Sub (Var 3) (Var 6))) (Mul (Var 1) (Sub (Var 4) (Var 6)))) (Mul (Var 2) (Sub (Var 5) (Var 6)))) (Sub (Add (Add (Mul (Var 0) (Var 3)) (Mul (Var 1) (Var 4))) (Mul (Var 2) (Var 5))) (Mul (Var 6) (Add (Add (Var 0) (Var 1)) (Var 2)))) refl

pub slid_x : (W X s t : ℤ) → (((((pos 0) -ℤ t) *ℤ s) *ℤ W) +ℤ (W *ℤ X)) ≡ (W *ℤ (X -ℤ (t *ℤ s)))
slid_x W X s t = ring (W ∷ X ∷ s ∷ t ∷ []) (Add (Mul (Mul (Sub (Num (pos 0)) (Var 3)) (Var 2)) (Var 0)) (Mul (Var 0) (Var 1))) (Mul (Var 0) (Sub (Var 1) (Mul (Var 3) (Var 2)))) refl

pub sum_time : (k m u v w i j l : ℤ) → ((((k *ℤ u) +ℤ (m *ℤ i)) +ℤ ((k *ℤ v) +ℤ (m *ℤ j))) +ℤ ((k *ℤ w) +ℤ (m *ℤ l))) ≡ ((k *ℤ ((u +ℤ v) +ℤ w)) +ℤ (m *ℤ ((i +ℤ j) +ℤ l)))
sum_time k m u v w i j l = ring (k ∷ m ∷ u ∷ v ∷ w ∷ i ∷ j ∷ l ∷ []) (Add (Add (Add (Mul (Var 0) (Var 2)) (Mul (Var 1) (Var 5))) (Add (Mul (Var 0) (Var 3)) (Mul (Var 1) (Var 6)))) (Add (Mul (Var 0) (Var 4)) (Mul (Var 1) (Var 7)))) (Add (Mul (Var 0) (Add (Add (Var 2) (Var 3)) (Var 4))) (Mul (Var 1) (Add (Add (Var 5) (Var 6)) (Var 7)))) refl

-- vars k m z y; hyp hk: 0 <= k; hyp hm: 0 < m; hyp hz: 0 <= z; hyp hy: 0 < y; goal 0 < k*z+m*y; mul hk * hz; mul hm * hy; mul hm+ * hy+
pub side_over : (k m z y : ℤ) → (pos 0) ≤ℤ k → (pos 0) <ℤ m → (pos 0) ≤ℤ z → (pos 0) <ℤ y → (pos 0) <ℤ ((k *ℤ z) +ℤ (m *ℤ y))
side_over k m z y hk hm hz hy = prove_lt_by (k ∷ m ∷ z ∷ y ∷ []) (Le (Num (pos 0)) (Var 0) ∷ Lt (Num (pos 0)) (Var 1) ∷ Le (Num (pos 0)) (Var 2) ∷ Lt (Num (pos 0)) (Var 3) ∷ []) (Num (pos 0)) (Add (Mul (Var 0) (Var 2)) (Mul (Var 1) (Var 3))) (Plus (Hyp 0) (Plus (Hyp 2) (Plus (Hyp 4) (Plus (Times (Hyp 1) (Hyp 3)) (Times (Hyp 2) (Hyp 4)))))) 0 (hk, (hm, (hz, (hy, tt)))) refl

-- vars k m u i; hyp hk: 0 <= k; hyp hm: 0 <= m; hyp hu: 0 <= u; hyp hi: 0 <= i; goal 0 <= k*u+m*i; mul hk * hu; mul hm * hi
pub side_weight : (k m u i : ℤ) → (pos 0) ≤ℤ k → (pos 0) ≤ℤ m → (pos 0) ≤ℤ u → (pos 0) ≤ℤ i → (pos 0) ≤ℤ ((k *ℤ u) +ℤ (m *ℤ i))
side_weight k m u i hk hm hu hi = prove_le_by (k ∷ m ∷ u ∷ i ∷ []) (Le (Num (pos 0)) (Var 0) ∷ Le (Num (pos 0)) (Var 1) ∷ Le (Num (pos 0)) (Var 2) ∷ Le (Num (pos 0)) (Var 3) ∷ []) (Num (pos 0)) (Add (Mul (Var 0) (Var 2)) (Mul (Var 1) (Var 3))) (Plus (Hyp 0) (Plus (Times (Hyp 1) (Hyp 3)) (Times (Hyp 2) (Hyp 4)))) 0 (hk, (hm, (hu, (hi, tt)))) refl

pub slid_back : (W X s t : ℤ) → (((t *ℤ s) *ℤ W) +ℤ (((pos 0) -ℤ W) *ℤ X)) ≡ (((pos 0) -ℤ W) *ℤ (X -ℤ (t *ℤ s)))
slid_back W X s t = ring (W ∷ X ∷ s ∷ t ∷ []) (Add (Mul (Mul (Var 3) (Var 2)) (Var 0)) (Mul (Sub (Num (pos 0)) (Var 0)) (Var 1))) (Mul (Sub (Num (pos 0)) (Var 0)) (Sub (Var 1) (Mul (Var 3) (Var 2)))) refl

-- vars X Y q; hyp h: X*X+Y*Y < q; goal Y*Y < q; square X
pub strip_near : (X Y q : ℤ) → ((X *ℤ X) +ℤ (Y *ℤ Y)) <ℤ q → (Y *ℤ Y) <ℤ q
strip_near X Y q h = prove_lt_by (X ∷ Y ∷ q ∷ []) (Lt (Add (Mul (Var 0) (Var 0)) (Mul (Var 1) (Var 1))) (Var 2) ∷ []) (Mul (Var 1) (Var 1)) (Var 2) (Plus (Hyp 0) (Plus (Hyp 1) (Sq (Var 0)))) 0 (h, tt) refl

-- vars p f; hyp hp: 0 < p; hyp h: 0 <= p*f; goal 0 <= f; mul goal * hp; mul goal * hp+
pub shrink : (p f : ℤ) → (pos 0) <ℤ p → (pos 0) ≤ℤ (p *ℤ f) → (pos 0) ≤ℤ f
shrink p f hp h = prove_le_by (p ∷ f ∷ []) (Lt (Num (pos 0)) (Var 0) ∷ Le (Num (pos 0)) (Mul (Var 0) (Var 1)) ∷ []) (Num (pos 0)) (Var 1) (Plus (Hyp 0) (Plus (Hyp 1) (Plus (Hyp 2) (Times (Hyp 0) (Hyp 1))))) 0 (hp, (h, tt)) refl

-- vars u v w p q s; hyp hu: 0 <= u; hyp hv: 0 <= v; hyp hw: 0 <= w; hyp hp: p <= 0; hyp hq: q < 0; hyp hs: s < 0; hyp hz: 0 <= (u*p+v*q)+w*s; goal v <= 0; mul goal * hq; mul goal+ * hq; mul hu * hp; mul hw * hs; mul hw * hs+
pub alone_zero : (u v w p q s : ℤ) → (pos 0) ≤ℤ u → (pos 0) ≤ℤ v → (pos 0) ≤ℤ w → p ≤ℤ (pos 0) → q <ℤ (pos 0) → s <ℤ (pos 0) → (pos 0) ≤ℤ (((u *ℤ p) +ℤ (v *ℤ q)) +ℤ (w *ℤ s)) → v ≤ℤ (pos 0)
alone_zero u v w p q s hu hv hw hp hq hs hz = prove_le_by (u ∷ v ∷ w ∷ p ∷ q ∷ s ∷ []) (Le (Num (pos 0)) (Var 0) ∷ Le (Num (pos 0)) (Var 1) ∷ Le (Num (pos 0)) (Var 2) ∷ Le (Var 3) (Num (pos 0)) ∷ Lt (Var 4) (Num (pos 0)) ∷ Lt (Var 5) (Num (pos 0)) ∷ Le (Num (pos 0)) (Add (Add (Mul (Var 0) (Var 3)) (Mul (Var 1) (Var 4))) (Mul (Var 2) (Var 5))) ∷ []) (Var 1) (Num (pos 0)) (Plus (Hyp 0) (Plus (Hyp 3) (Plus (Hyp 5) (Plus (Hyp 7) (Plus (Times (Hyp 0) (Hyp 5)) (Plus (Times (Hyp 1) (Hyp 4)) (Times (Hyp 3) (Hyp 6)))))))) 0 (hu, (hv, (hw, (hp, (hq, (hs, (hz, tt))))))) refl

-- vars u v w p q s; hyp hw: 0 <= w; hyp hs: s < 0; hyp hd: u*p+v*q <= 0; hyp hz: 0 <= (u*p+v*q)+w*s; goal w <= 0; mul goal * hs; mul goal+ * hs
pub pair_zero : (u v w p q s : ℤ) → (pos 0) ≤ℤ w → s <ℤ (pos 0) → ((u *ℤ p) +ℤ (v *ℤ q)) ≤ℤ (pos 0) → (pos 0) ≤ℤ (((u *ℤ p) +ℤ (v *ℤ q)) +ℤ (w *ℤ s)) → w ≤ℤ (pos 0)
pair_zero u v w p q s hw hs hd hz = prove_le_by (u ∷ v ∷ w ∷ p ∷ q ∷ s ∷ []) (Le (Num (pos 0)) (Var 2) ∷ Lt (Var 5) (Num (pos 0)) ∷ Le (Add (Mul (Var 0) (Var 3)) (Mul (Var 1) (Var 4))) (Num (pos 0)) ∷ Le (Num (pos 0)) (Add (Add (Mul (Var 0) (Var 3)) (Mul (Var 1) (Var 4))) (Mul (Var 2) (Var 5))) ∷ []) (Var 2) (Num (pos 0)) (Plus (Hyp 0) (Plus (Hyp 2) (Plus (Hyp 3) (Plus (Hyp 4) (Times (Hyp 0) (Hyp 2)))))) 0 (hw, (hs, (hd, (hz, tt)))) refl

-- vars p s P S; hyp hp: p == 0; hyp hs: s < 0; hyp hP: 0 <= P; goal 0 <= (0-s)*P+p*S; eqmul hp * S; mul hs * hP; mul hs+ * hP
pub level_cross : (p s P S : ℤ) → p ≡ (pos 0) → s <ℤ (pos 0) → (pos 0) ≤ℤ P → (pos 0) ≤ℤ ((((pos 0) -ℤ s) *ℤ P) +ℤ (p *ℤ S))
level_cross p s P S hp hs hP = prove_le_by (p ∷ s ∷ P ∷ S ∷ []) (Eq (Var 0) (Num (pos 0)) ∷ Lt (Var 1) (Num (pos 0)) ∷ Le (Num (pos 0)) (Var 2) ∷ []) (Num (pos 0)) (Add (Mul (Sub (Num (pos 0)) (Var 1)) (Var 2)) (Mul (Var 0) (Var 3))) (Plus (Hyp 0) (Plus (Hyp 3) (Plus (TimesEq 1 (Neg (Var 3))) (Times (Hyp 2) (Hyp 3))))) 0 (hp, (hs, (hP, tt))) refl

-- vars u v w P Q S; hyp hu: 0 <= u; hyp hv: 0 <= v; hyp hw: 0 <= w; hyp hP: 0 <= P; hyp hQ: 0 <= Q; hyp hS: 0 <= S; goal 0 <= (u*P+v*Q)+w*S; mul hu * hP; mul hv * hQ; mul hw * hS
pub add_three : (u v w P Q S : ℤ) → (pos 0) ≤ℤ u → (pos 0) ≤ℤ v → (pos 0) ≤ℤ w → (pos 0) ≤ℤ P → (pos 0) ≤ℤ Q → (pos 0) ≤ℤ S → (pos 0) ≤ℤ (((u *ℤ P) +ℤ (v *ℤ Q)) +ℤ (w *ℤ S))
add_three u v w P Q S hu hv hw hP hQ hS = prove_le_by (u ∷ v ∷ w ∷ P ∷ Q ∷ S ∷ []) (Le (Num (pos 0)) (Var 0) ∷ Le (Num (pos 0)) (Var 1) ∷ Le (Num (pos 0)) (Var 2) ∷ Le (Num (pos 0)) (Var 3) ∷ Le (Num (pos 0)) (Var 4) ∷ Le (Num (pos 0)) (Var 5) ∷ []) (Num (pos 0)) (Add (Add (Mul (Var 0) (Var 3)) (Mul (Var 1) (Var 4))) (Mul (Var 2) (Var 5))) (Plus (Hyp 0) (Plus (Times (Hyp 1) (Hyp 4)) (Plus (Times (Hyp 2) (Hyp 5)) (Times (Hyp 3) (Hyp 6))))) 0 (hu, (hv, (hw, (hP, (hQ, (hS, tt)))))) refl

-- vars u v w P Q S; hyp hu: 0 <= u; hyp ev: v == 0; hyp ew: w == 0; hyp hP: 0 <= P; goal 0 <= (u*P+v*Q)+w*S; mul hu * hP; eqmul ev * Q; eqmul ew * S
pub add_first : (u v w P Q S : ℤ) → (pos 0) ≤ℤ u → v ≡ (pos 0) → w ≡ (pos 0) → (pos 0) ≤ℤ P → (pos 0) ≤ℤ (((u *ℤ P) +ℤ (v *ℤ Q)) +ℤ (w *ℤ S))
add_first u v w P Q S hu ev ew hP = prove_le_by (u ∷ v ∷ w ∷ P ∷ Q ∷ S ∷ []) (Le (Num (pos 0)) (Var 0) ∷ Eq (Var 1) (Num (pos 0)) ∷ Eq (Var 2) (Num (pos 0)) ∷ Le (Num (pos 0)) (Var 3) ∷ []) (Num (pos 0)) (Add (Add (Mul (Var 0) (Var 3)) (Mul (Var 1) (Var 4))) (Mul (Var 2) (Var 5))) (Plus (Hyp 0) (Plus (Times (Hyp 1) (Hyp 4)) (Plus (TimesEq 2 (Neg (Var 4))) (TimesEq 3 (Neg (Var 5)))))) 0 (hu, (ev, (ew, (hP, tt)))) refl

-- vars u v w P Q S; hyp hu: 0 <= u; hyp hv: 0 <= v; hyp ew: w == 0; hyp hP: 0 <= P; hyp hQ: 0 <= Q; goal 0 <= (u*P+v*Q)+w*S; mul hu * hP; mul hv * hQ; eqmul ew * S
pub add_two : (u v w P Q S : ℤ) → (pos 0) ≤ℤ u → (pos 0) ≤ℤ v → w ≡ (pos 0) → (pos 0) ≤ℤ P → (pos 0) ≤ℤ Q → (pos 0) ≤ℤ (((u *ℤ P) +ℤ (v *ℤ Q)) +ℤ (w *ℤ S))
add_two u v w P Q S hu hv ew hP hQ = prove_le_by (u ∷ v ∷ w ∷ P ∷ Q ∷ S ∷ []) (Le (Num (pos 0)) (Var 0) ∷ Le (Num (pos 0)) (Var 1) ∷ Eq (Var 2) (Num (pos 0)) ∷ Le (Num (pos 0)) (Var 3) ∷ Le (Num (pos 0)) (Var 4) ∷ []) (Num (pos 0)) (Add (Add (Mul (Var 0) (Var 3)) (Mul (Var 1) (Var 4))) (Mul (Var 2) (Var 5))) (Plus (Hyp 0) (Plus (Times (Hyp 1) (Hyp 4)) (Plus (Times (Hyp 2) (Hyp 5)) (TimesEq 3 (Neg (Var 5)))))) 0 (hu, (hv, (ew, (hP, (hQ, tt))))) refl

-- vars u v w p q s P Q S; hyp hu: 0 <= u; hyp hv: 0 <= v; hyp hw: 0 <= w; hyp hP: 0 <= P; hyp hQ: 0 <= (0-q)*P+p*Q; hyp hS: 0 <= (0-s)*P+p*S; hyp hz: 0 <= (u*p+v*q)+w*s; goal 0 <= p*((u*P+v*Q)+w*S); mul hz * hP; mul hv * hQ; mul hw * hS
pub clip_one : (u v w p q s P Q S : ℤ) → (pos 0) ≤ℤ u → (pos 0) ≤ℤ v → (pos 0) ≤ℤ w → (pos 0) ≤ℤ P → (pos 0) ≤ℤ ((((pos 0) -ℤ q) *ℤ P) +ℤ (p *ℤ Q)) → (pos 0) ≤ℤ ((((pos 0) -ℤ s) *ℤ P) +ℤ (p *ℤ S)) → (pos 0) ≤ℤ (((u *ℤ p) +ℤ (v *ℤ q)) +ℤ (w *ℤ s)) → (pos 0) ≤ℤ (p *ℤ (((u *ℤ P) +ℤ (v *ℤ Q)) +ℤ (w *ℤ S)))
clip_one u v w p q s P Q S hu hv hw hP hQ hS hz = prove_le_by (u ∷ v ∷ w ∷ p ∷ q ∷ s ∷ P ∷ Q ∷ S ∷ []) (Le (Num (pos 0)) (Var 0) ∷ Le (Num (pos 0)) (Var 1) ∷ Le (Num (pos 0)) (Var 2) ∷ Le (Num (pos 0)) (Var 6) ∷ Le (Num (pos 0)) (Add (Mul (Sub (Num (pos 0)) (Var 4)) (Var 6)) (Mul (Var 3) (Var 7))) ∷ Le (Num (pos 0)) (Add (Mul (Sub (Num (pos 0)) (Var 5)) (Var 6)) (Mul (Var 3) (Var 8))) ∷ Le (Num (pos 0)) (Add (Add (Mul (Var 0) (Var 3)) (Mul (Var 1) (Var 4))) (Mul (Var 2) (Var 5))) ∷ []) (Num (pos 0)) (Mul (Var 3) (Add (Add (Mul (Var 0) (Var 6)) (Mul (Var 1) (Var 7))) (Mul (Var 2) (Var 8)))) (Plus (Hyp 0) (Plus (Times (Hyp 7) (Hyp 4)) (Plus (Times (Hyp 2) (Hyp 5)) (Times (Hyp 3) (Hyp 6))))) 0 (hu, (hv, (hw, (hP, (hQ, (hS, (hz, tt))))))) refl

-- vars u v w p q s P Q S; hyp hu: 0 <= u; hyp hv: 0 <= v; hyp hw: 0 <= w; hyp hP: 0 <= P; hyp hQ: 0 <= Q; hyp hPS: 0 <= (0-s)*P+p*S; hyp hQS: 0 <= (0-s)*Q+q*S; hyp hz: 0 <= (u*p+v*q)+w*s; goal 0 <= (u*p+v*q)*((u*P+v*Q)+w*S); mul hz * hu * hP; mul hz * hv * hQ; mul hw * hu * hPS; mul hw * hv * hQS
pub clip_two : (u v w p q s P Q S : ℤ) → (pos 0) ≤ℤ u → (pos 0) ≤ℤ v → (pos 0) ≤ℤ w → (pos 0) ≤ℤ P → (pos 0) ≤ℤ Q → (pos 0) ≤ℤ ((((pos 0) -ℤ s) *ℤ P) +ℤ (p *ℤ S)) → (pos 0) ≤ℤ ((((pos 0) -ℤ s) *ℤ Q) +ℤ (q *ℤ S)) → (pos 0) ≤ℤ (((u *ℤ p) +ℤ (v *ℤ q)) +ℤ (w *ℤ s)) → (pos 0) ≤ℤ (((u *ℤ p) +ℤ (v *ℤ q)) *ℤ (((u *ℤ P) +ℤ (v *ℤ Q)) +ℤ (w *ℤ S)))
clip_two u v w p q s P Q S hu hv hw hP hQ hPS hQS hz = prove_le_by (u ∷ v ∷ w ∷ p ∷ q ∷ s ∷ P ∷ Q ∷ S ∷ []) (Le (Num (pos 0)) (Var 0) ∷ Le (Num (pos 0)) (Var 1) ∷ Le (Num (pos 0)) (Var 2) ∷ Le (Num (pos 0)) (Var 6) ∷ Le (Num (pos 0)) (Var 7) ∷ Le (Num (pos 0)) (Add (Mul (Sub (Num (pos 0)) (Var 5)) (Var 6)) (Mul (Var 3) (Var 8))) ∷ Le (Num (pos 0)) (Add (Mul (Sub (Num (pos 0)) (Var 5)) (Var 7)) (Mul (Var 4) (Var 8))) ∷ Le (Num (pos 0)) (Add (Add (Mul (Var 0) (Var 3)) (Mul (Var 1) (Var 4))) (Mul (Var 2) (Var 5))) ∷ []) (Num (pos 0)) (Mul (Add (Mul (Var 0) (Var 3)) (Mul (Var 1) (Var 4))) (Add (Add (Mul (Var 0) (Var 6)) (Mul (Var 1) (Var 7))) (Mul (Var 2) (Var 8)))) (Plus (Hyp 0) (Plus (Times (Times (Hyp 8) (Hyp 1)) (Hyp 4)) (Plus (Times (Times (Hyp 8) (Hyp 2)) (Hyp 5)) (Plus (Times (Times (Hyp 3) (Hyp 1)) (Hyp 6)) (Times (Times (Hyp 3) (Hyp 2)) (Hyp 7)))))) 0 (hu, (hv, (hw, (hP, (hQ, (hPS, (hQS, (hz, tt)))))))) refl

pub spot_ab : (z w a b c : ℤ) → (((((pos 0) -ℤ w) *ℤ a) +ℤ (z *ℤ b)) +ℤ ((pos 0) *ℤ c)) ≡ ((((pos 0) -ℤ w) *ℤ a) +ℤ (z *ℤ b))
spot_ab z w a b c = ring (z ∷ w ∷ a ∷ b ∷ c ∷ []) (Add (Add (Mul (Sub (Num (pos 0)) (Var 1)) (Var 2)) (Mul (Var 0) (Var 3))) (Mul (Num (pos 0)) (Var 4))) (Add (Mul (Sub (Num (pos 0)) (Var 1)) (Var 2)) (Mul (Var 0) (Var 3))) refl

-- vars z w y; goal 0 <= ((0-w)*z+z*w)+0*y
pub spot_ab_level : (z w y : ℤ) → (pos 0) ≤ℤ (((((pos 0) -ℤ w) *ℤ z) +ℤ (z *ℤ w)) +ℤ ((pos 0) *ℤ y))
spot_ab_level z w y = prove_le_by (z ∷ w ∷ y ∷ []) ([]) (Num (pos 0)) (Add (Add (Mul (Sub (Num (pos 0)) (Var 1)) (Var 0)) (Mul (Var 0) (Var 1))) (Mul (Num (pos 0)) (Var 2))) (Hyp 0) 0 tt refl

pub spot_ab_time : (z w : ℤ) → ((((pos 0) -ℤ w) +ℤ z) +ℤ (pos 0)) ≡ (z -ℤ w)
spot_ab_time z w = ring (z ∷ w ∷ []) (Add (Add (Sub (Num (pos 0)) (Var 1)) (Var 0)) (Num (pos 0))) (Sub (Var 0) (Var 1)) refl

pub spot_ba : (z w a b c : ℤ) → (((z *ℤ b) +ℤ (((pos 0) -ℤ w) *ℤ a)) +ℤ ((pos 0) *ℤ c)) ≡ ((((pos 0) -ℤ w) *ℤ a) +ℤ (z *ℤ b))
spot_ba z w a b c = ring (z ∷ w ∷ a ∷ b ∷ c ∷ []) (Add (Add (Mul (Var 0) (Var 3)) (Mul (Sub (Num (pos 0)) (Var 1)) (Var 2))) (Mul (Num (pos 0)) (Var 4))) (Add (Mul (Sub (Num (pos 0)) (Var 1)) (Var 2)) (Mul (Var 0) (Var 3))) refl

-- vars z w y; goal 0 <= (z*w+(0-w)*z)+0*y
pub spot_ba_level : (z w y : ℤ) → (pos 0) ≤ℤ (((z *ℤ w) +ℤ (((pos 0) -ℤ w) *ℤ z)) +ℤ ((pos 0) *ℤ y))
spot_ba_level z w y = prove_le_by (z ∷ w ∷ y ∷ []) ([]) (Num (pos 0)) (Add (Add (Mul (Var 0) (Var 1)) (Mul (Sub (Num (pos 0)) (Var 1)) (Var 0))) (Mul (Num (pos 0)) (Var 2))) (Hyp 0) 0 tt refl

-- vars r z w f g; hyp h: r*(z-w) <= (0-w)*f+z*g; goal 0 <= (0-w)*(f-r)+z*(g-r)
pub beyond_cross : (r z w f g : ℤ) → (r *ℤ (z -ℤ w)) ≤ℤ ((((pos 0) -ℤ w) *ℤ f) +ℤ (z *ℤ g)) → (pos 0) ≤ℤ ((((pos 0) -ℤ w) *ℤ (f -ℤ r)) +ℤ (z *ℤ (g -ℤ r)))
beyond_cross r z w f g h = prove_le_by (r ∷ z ∷ w ∷ f ∷ g ∷ []) (Le (Mul (Var 0) (Sub (Var 1) (Var 2))) (Add (Mul (Sub (Num (pos 0)) (Var 2)) (Var 3)) (Mul (Var 1) (Var 4))) ∷ []) (Num (pos 0)) (Add (Mul (Sub (Num (pos 0)) (Var 2)) (Sub (Var 3) (Var 0))) (Mul (Var 1) (Sub (Var 4) (Var 0)))) (Plus (Hyp 0) (Hyp 1)) 0 (h, tt) refl

-- vars u v w a b c r; hyp h: 0 <= (u*(a-r)+v*(b-r))+w*(c-r); goal r*((u+v)+w) <= (u*a+v*b)+w*c
pub beyond_all : (u v w a b c r : ℤ) → (pos 0) ≤ℤ (((u *ℤ (a -ℤ r)) +ℤ (v *ℤ (b -ℤ r))) +ℤ (w *ℤ (c -ℤ r))) → (r *ℤ ((u +ℤ v) +ℤ w)) ≤ℤ (((u *ℤ a) +ℤ (v *ℤ b)) +ℤ (w *ℤ c))
beyond_all u v w a b c r h = prove_le_by (u ∷ v ∷ w ∷ a ∷ b ∷ c ∷ r ∷ []) (Le (Num (pos 0)) (Add (Add (Mul (Var 0) (Sub (Var 3) (Var 6))) (Mul (Var 1) (Sub (Var 4) (Var 6)))) (Mul (Var 2) (Sub (Var 5) (Var 6)))) ∷ []) (Mul (Var 6) (Add (Add (Var 0) (Var 1)) (Var 2))) (Add (Add (Mul (Var 0) (Var 3)) (Mul (Var 1) (Var 4))) (Mul (Var 2) (Var 5))) (Plus (Hyp 0) (Hyp 1)) 0 (h, tt) refl
