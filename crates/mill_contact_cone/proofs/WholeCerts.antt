-- Polynomial facts behind the lemmas on triangles and the cone cutter.
-- Written by tools/certificates.py from tools/certificates/mill_contact_cone_whole.spec.
use Rattle.std.proofs.Common.{◌≡◌, [], ◌∷◌, refl}
use lib.IntN.{ℤ, pos, negsuc, ◌+ℤ◌, ◌-ℤ◌, ◌*ℤ◌}
use lib.Signed.{◌<ℤ◌, ◌≤ℤ◌}
use Rattle.mill_base.proofs.Ring.{Var, Num, Add, Sub, Mul, Neg, ring}
use Rattle.mill_base.proofs.Cert.{Le, Lt, Eq, C, Hyp, TimesEq, Sq, Lit, Plus, Times, refute, prove_le_by, prove_lt_by}

-- vars x y r n; hyp ex: x == 0; hyp ey: y == 0; hyp hr: 0 < r; hyp hn: 0 < n; goal x*x+y*y < (r*r)*(n*n); eqmul ex * x; eqmul ey * y; mul hr * hr * hn * hn; mul hr * hr * hn; mul hr * hn * hn; mul hr * hn; mul hr * hr; mul hn * hn
pub axis_near : (x y r n : ℤ) → x ≡ (pos 0) → y ≡ (pos 0) → (pos 0) <ℤ r → (pos 0) <ℤ n → ((x *ℤ x) +ℤ (y *ℤ y)) <ℤ ((r *ℤ r) *ℤ (n *ℤ n))
axis_near x y r n ex ey hr hn = prove_lt_by (x ∷ y ∷ r ∷ n ∷ []) (Eq (Var 0) (Num (pos 0)) ∷ Eq (Var 1) (Num (pos 0)) ∷ Lt (Num (pos 0)) (Var 2) ∷ Lt (Num (pos 0)) (Var 3) ∷ []) (Add (Mul (Var 0) (Var 0)) (Mul (Var 1) (Var 1))) (Mul (Mul (Var 2) (Var 2)) (Mul (Var 3) (Var 3))) (Plus (Hyp 0) (Plus (Times (Lit 2) (Hyp 3)) (Plus (Times (Lit 2) (Hyp 4)) (Plus (TimesEq 1 (Var 0)) (Plus (TimesEq 2 (Var 1)) (Plus (Times (Times (Times (Hyp 3) (Hyp 3)) (Hyp 4)) (Hyp 4)) (Plus (Times (Lit 2) (Times (Times (Hyp 3) (Hyp 3)) (Hyp 4))) (Plus (Times (Lit 2) (Times (Times (Hyp 3) (Hyp 4)) (Hyp 4))) (Plus (Times (Lit 4) (Times (Hyp 3) (Hyp 4))) (Plus (Times (Hyp 3) (Hyp 3)) (Times (Hyp 4) (Hyp 4)))))))))))) 0 (ex, (ey, (hr, (hn, tt)))) refl

-- vars x y z m k; hyp ex: x == 0; hyp ey: y == 0; hyp hk: 0 < k; hyp hz: 0 < z; goal (m*m)*(x*x+y*y) < (k*k)*(z*z); eqmul ex * (m*m*x); eqmul ey * (m*m*y); mul hk * hk * hz * hz; mul hk * hk * hz; mul hk * hz * hz; mul hk * hz; mul hk * hk; mul hz * hz
pub axis_steep : (x y z m k : ℤ) → x ≡ (pos 0) → y ≡ (pos 0) → (pos 0) <ℤ k → (pos 0) <ℤ z → ((m *ℤ m) *ℤ ((x *ℤ x) +ℤ (y *ℤ y))) <ℤ ((k *ℤ k) *ℤ (z *ℤ z))
axis_steep x y z m k ex ey hk hz = prove_lt_by (x ∷ y ∷ z ∷ m ∷ k ∷ []) (Eq (Var 0) (Num (pos 0)) ∷ Eq (Var 1) (Num (pos 0)) ∷ Lt (Num (pos 0)) (Var 4) ∷ Lt (Num (pos 0)) (Var 2) ∷ []) (Mul (Mul (Var 3) (Var 3)) (Add (Mul (Var 0) (Var 0)) (Mul (Var 1) (Var 1)))) (Mul (Mul (Var 4) (Var 4)) (Mul (Var 2) (Var 2))) (Plus (Hyp 0) (Plus (Times (Lit 2) (Hyp 3)) (Plus (Times (Lit 2) (Hyp 4)) (Plus (TimesEq 1 (Mul (Mul (Var 3) (Var 3)) (Var 0))) (Plus (TimesEq 2 (Mul (Mul (Var 3) (Var 3)) (Var 1))) (Plus (Times (Times (Times (Hyp 3) (Hyp 3)) (Hyp 4)) (Hyp 4)) (Plus (Times (Lit 2) (Times (Times (Hyp 3) (Hyp 3)) (Hyp 4))) (Plus (Times (Lit 2) (Times (Times (Hyp 3) (Hyp 4)) (Hyp 4))) (Plus (Times (Lit 4) (Times (Hyp 3) (Hyp 4))) (Plus (Times (Hyp 3) (Hyp 3)) (Times (Hyp 4) (Hyp 4)))))))))))) 0 (ex, (ey, (hk, (hz, tt)))) refl

pub scaled_sum : (u v w m a b c : ℤ) → (((u *ℤ (m *ℤ a)) +ℤ (v *ℤ (m *ℤ b))) +ℤ (w *ℤ (m *ℤ c))) ≡ (m *ℤ (((u *ℤ a) +ℤ (v *ℤ b)) +ℤ (w *ℤ c)))
scaled_sum u v w m a b c = ring (u ∷ v ∷ w ∷ m ∷ a ∷ b ∷ c ∷ []) (Add (Add (Mul (Var 0) (Mul (Var 3) (Var 4))) (Mul (Var 1) (Mul (Var 3) (Var 5)))) (Mul (Var 2) (Mul (Var 3) (Var 6)))) (Mul (Var 3) (Add (Add (Mul (Var 0) (Var 4)) (Mul (Var 1) (Var 5))) (Mul (Var 2) (Var 6)))) refl

-- vars X Y Z m k x y n; hyp ex: x == m*X; hyp ey: y == m*Y; hyp en: n == k*Z; hyp h: (m*m)*(X*X+Y*Y) < (k*k)*(Z*Z); goal x*x+y*y < n*n; eqmul ex * (x+m*X); eqmul ey * (y+m*Y); eqmul en * (n+k*Z)
pub scaled_hit : (X Y Z m k x y n : ℤ) → x ≡ (m *ℤ X) → y ≡ (m *ℤ Y) → n ≡ (k *ℤ Z) → ((m *ℤ m) *ℤ ((X *ℤ X) +ℤ (Y *ℤ Y))) <ℤ ((k *ℤ k) *ℤ (Z *ℤ Z)) → ((x *ℤ x) +ℤ (y *ℤ y)) <ℤ (n *ℤ n)
scaled_hit X Y Z m k x y n ex ey en h = prove_lt_by (X ∷ Y ∷ Z ∷ m ∷ k ∷ x ∷ y ∷ n ∷ []) (Eq (Var 5) (Mul (Var 3) (Var 0)) ∷ Eq (Var 6) (Mul (Var 3) (Var 1)) ∷ Eq (Var 7) (Mul (Var 4) (Var 2)) ∷ Lt (Mul (Mul (Var 3) (Var 3)) (Add (Mul (Var 0) (Var 0)) (Mul (Var 1) (Var 1)))) (Mul (Mul (Var 4) (Var 4)) (Mul (Var 2) (Var 2))) ∷ []) (Add (Mul (Var 5) (Var 5)) (Mul (Var 6) (Var 6))) (Mul (Var 7) (Var 7)) (Plus (Hyp 0) (Plus (Hyp 4) (Plus (TimesEq 1 (Add (Var 5) (Mul (Var 3) (Var 0)))) (Plus (TimesEq 2 (Add (Var 6) (Mul (Var 3) (Var 1)))) (TimesEq 3 (Neg (Add (Var 7) (Mul (Var 4) (Var 2))))))))) 0 (ex, (ey, (en, (h, tt)))) refl

-- vars X Y Z m k x y n; hyp ex: x == m*X; hyp ey: y == m*Y; hyp en: n == k*Z; hyp h: x*x+y*y < n*n; goal (m*m)*(X*X+Y*Y) < (k*k)*(Z*Z); eqmul ex * (x+m*X); eqmul ey * (y+m*Y); eqmul en * (n+k*Z)
pub hit_scaled : (X Y Z m k x y n : ℤ) → x ≡ (m *ℤ X) → y ≡ (m *ℤ Y) → n ≡ (k *ℤ Z) → ((x *ℤ x) +ℤ (y *ℤ y)) <ℤ (n *ℤ n) → ((m *ℤ m) *ℤ ((X *ℤ X) +ℤ (Y *ℤ Y))) <ℤ ((k *ℤ k) *ℤ (Z *ℤ Z))
hit_scaled X Y Z m k x y n ex ey en h = prove_lt_by (X ∷ Y ∷ Z ∷ m ∷ k ∷ x ∷ y ∷ n ∷ []) (Eq (Var 5) (Mul (Var 3) (Var 0)) ∷ Eq (Var 6) (Mul (Var 3) (Var 1)) ∷ Eq (Var 7) (Mul (Var 4) (Var 2)) ∷ Lt (Add (Mul (Var 5) (Var 5)) (Mul (Var 6) (Var 6))) (Mul (Var 7) (Var 7)) ∷ []) (Mul (Mul (Var 3) (Var 3)) (Add (Mul (Var 0) (Var 0)) (Mul (Var 1) (Var 1)))) (Mul (Mul (Var 4) (Var 4)) (Mul (Var 2) (Var 2))) (Plus (Hyp 0) (Plus (Hyp 4) (Plus (TimesEq 1 (Neg (Add (Var 5) (Mul (Var 3) (Var 0))))) (Plus (TimesEq 2 (Neg (Add (Var 6) (Mul (Var 3) (Var 1))))) (TimesEq 3 (Add (Var 7) (Mul (Var 4) (Var 2)))))))) 0 (ex, (ey, (en, (h, tt)))) refl

-- vars k Z n; hyp en: n == k*Z; hyp hk: 0 < k; hyp hZ: 0 <= Z; goal 0 <= n; mul hk+ * hZ
pub scaled_time : (k Z n : ℤ) → n ≡ (k *ℤ Z) → (pos 0) <ℤ k → (pos 0) ≤ℤ Z → (pos 0) ≤ℤ n
scaled_time k Z n en hk hZ = prove_le_by (k ∷ Z ∷ n ∷ []) (Eq (Var 2) (Mul (Var 0) (Var 1)) ∷ Lt (Num (pos 0)) (Var 0) ∷ Le (Num (pos 0)) (Var 1) ∷ []) (Num (pos 0)) (Var 2) (Plus (Hyp 0) (Plus (TimesEq 1 (Num (negsuc 0))) (Times (Plus (Hyp 2) (Lit 1)) (Hyp 3)))) 0 (en, (hk, (hZ, tt))) refl

-- vars k Z n; hyp en: n == k*Z; hyp hk: 0 < k; hyp h: 0 <= n; goal 0 <= Z; mul goal * hk; mul goal * hk+
pub time_scaled : (k Z n : ℤ) → n ≡ (k *ℤ Z) → (pos 0) <ℤ k → (pos 0) ≤ℤ n → (pos 0) ≤ℤ Z
time_scaled k Z n en hk h = prove_le_by (k ∷ Z ∷ n ∷ []) (Eq (Var 2) (Mul (Var 0) (Var 1)) ∷ Lt (Num (pos 0)) (Var 0) ∷ Le (Num (pos 0)) (Var 2) ∷ []) (Num (pos 0)) (Var 1) (Plus (Hyp 0) (Plus (TimesEq 1 (Num (pos 1))) (Plus (Hyp 2) (Plus (Hyp 3) (Times (Hyp 0) (Hyp 2)))))) 0 (en, (hk, (h, tt))) refl

-- vars x y n; hyp e: n == 0; hyp h: x*x+y*y < n*n; goal false; square x; square y; eqmul e * n
pub zero_time : (x y n : ℤ) → n ≡ (pos 0) → ((x *ℤ x) +ℤ (y *ℤ y)) <ℤ (n *ℤ n) → ⊥
zero_time x y n e h = refute (x ∷ y ∷ n ∷ []) (Eq (Var 2) (Num (pos 0)) ∷ Lt (Add (Mul (Var 0) (Var 0)) (Mul (Var 1) (Var 1))) (Mul (Var 2) (Var 2)) ∷ []) (Plus (Hyp 1) (Plus (Sq (Var 0)) (Plus (Sq (Var 1)) (TimesEq 0 (Var 2))))) 0 (e, (h, tt)) refl

pub scaled_cross : (m px py qx qy : ℤ) → (((m *ℤ px) *ℤ (m *ℤ qy)) -ℤ ((m *ℤ py) *ℤ (m *ℤ qx))) ≡ ((m *ℤ m) *ℤ ((px *ℤ qy) -ℤ (py *ℤ qx)))
scaled_cross m px py qx qy = ring (m ∷ px ∷ py ∷ qx ∷ qy ∷ []) (Sub (Mul (Mul (Var 0) (Var 1)) (Mul (Var 0) (Var 4))) (Mul (Mul (Var 0) (Var 2)) (Mul (Var 0) (Var 3)))) (Mul (Mul (Var 0) (Var 0)) (Sub (Mul (Var 1) (Var 4)) (Mul (Var 2) (Var 3)))) refl

-- vars m c C; hyp e: C == (m*m)*c; hyp hm: 0 < m; hyp h: 0 <= C; goal 0 <= c; mul goal * sq(m); mul hm * hm
pub cross_up : (m c C : ℤ) → C ≡ ((m *ℤ m) *ℤ c) → (pos 0) <ℤ m → (pos 0) ≤ℤ C → (pos 0) ≤ℤ c
cross_up m c C e hm h = prove_le_by (m ∷ c ∷ C ∷ []) (Eq (Var 2) (Mul (Mul (Var 0) (Var 0)) (Var 1)) ∷ Lt (Num (pos 0)) (Var 0) ∷ Le (Num (pos 0)) (Var 2) ∷ []) (Num (pos 0)) (Var 1) (Plus (TimesEq 1 (Num (pos 1))) (Plus (Times (Lit 2) (Hyp 2)) (Plus (Hyp 3) (Plus (Times (Hyp 0) (Sq (Var 0))) (Times (Hyp 2) (Hyp 2)))))) 0 (e, (hm, (h, tt))) refl

-- vars m c C; hyp e: C == (m*m)*c; hyp hm: 0 < m; hyp h: 0 <= 0-C; goal c <= 0; mul goal * sq(m); mul hm * hm
pub cross_down : (m c C : ℤ) → C ≡ ((m *ℤ m) *ℤ c) → (pos 0) <ℤ m → (pos 0) ≤ℤ ((pos 0) -ℤ C) → c ≤ℤ (pos 0)
cross_down m c C e hm h = prove_le_by (m ∷ c ∷ C ∷ []) (Eq (Var 2) (Mul (Mul (Var 0) (Var 0)) (Var 1)) ∷ Lt (Num (pos 0)) (Var 0) ∷ Le (Num (pos 0)) (Sub (Num (pos 0)) (Var 2)) ∷ []) (Var 1) (Num (pos 0)) (Plus (TimesEq 1 (Num (negsuc 0))) (Plus (Times (Lit 2) (Hyp 2)) (Plus (Hyp 3) (Plus (Times (Hyp 0) (Sq (Var 0))) (Times (Hyp 2) (Hyp 2)))))) 0 (e, (hm, (h, tt))) refl

-- vars m k i j l I J L x y z; hyp ei: I == (m*m)*i; hyp ej: J == (m*m)*j; hyp el: L == (m*m)*l; hyp hk: 0 < k; hyp h: 0 < (I*(k*x)+J*(k*y))+L*(k*z); goal 0 < (i*x+j*y)+l*z; eqmul ei * (k*x); eqmul ej * (k*y); eqmul el * (k*z); mul goal * sq(m) * hk+
pub volume_up : (m k i j l I J L x y z : ℤ) → I ≡ ((m *ℤ m) *ℤ i) → J ≡ ((m *ℤ m) *ℤ j) → L ≡ ((m *ℤ m) *ℤ l) → (pos 0) <ℤ k → (pos 0) <ℤ (((I *ℤ (k *ℤ x)) +ℤ (J *ℤ (k *ℤ y))) +ℤ (L *ℤ (k *ℤ z))) → (pos 0) <ℤ (((i *ℤ x) +ℤ (j *ℤ y)) +ℤ (l *ℤ z))
volume_up m k i j l I J L x y z ei ej el hk h = prove_lt_by (m ∷ k ∷ i ∷ j ∷ l ∷ I ∷ J ∷ L ∷ x ∷ y ∷ z ∷ []) (Eq (Var 5) (Mul (Mul (Var 0) (Var 0)) (Var 2)) ∷ Eq (Var 6) (Mul (Mul (Var 0) (Var 0)) (Var 3)) ∷ Eq (Var 7) (Mul (Mul (Var 0) (Var 0)) (Var 4)) ∷ Lt (Num (pos 0)) (Var 1) ∷ Lt (Num (pos 0)) (Add (Add (Mul (Var 5) (Mul (Var 1) (Var 8))) (Mul (Var 6) (Mul (Var 1) (Var 9)))) (Mul (Var 7) (Mul (Var 1) (Var 10)))) ∷ []) (Num (pos 0)) (Add (Add (Mul (Var 2) (Var 8)) (Mul (Var 3) (Var 9))) (Mul (Var 4) (Var 10))) (Plus (Hyp 5) (Plus (TimesEq 1 (Mul (Var 1) (Var 8))) (Plus (TimesEq 2 (Mul (Var 1) (Var 9))) (Plus (TimesEq 3 (Mul (Var 1) (Var 10))) (Times (Times (Hyp 0) (Sq (Var 0))) (Plus (Hyp 4) (Lit 1))))))) 0 (ei, (ej, (el, (hk, (h, tt))))) refl

-- vars m k i j l I J L x y z; hyp ei: I == (m*m)*i; hyp ej: J == (m*m)*j; hyp el: L == (m*m)*l; hyp hk: 0 < k; hyp h: 0 < ((0-I)*(k*x)+(0-J)*(k*y))+(0-L)*(k*z); goal (i*x+j*y)+l*z < 0; eqmul ei * (k*x); eqmul ej * (k*y); eqmul el * (k*z); mul goal * sq(m) * hk+
pub volume_down : (m k i j l I J L x y z : ℤ) → I ≡ ((m *ℤ m) *ℤ i) → J ≡ ((m *ℤ m) *ℤ j) → L ≡ ((m *ℤ m) *ℤ l) → (pos 0) <ℤ k → (pos 0) <ℤ (((((pos 0) -ℤ I) *ℤ (k *ℤ x)) +ℤ (((pos 0) -ℤ J) *ℤ (k *ℤ y))) +ℤ (((pos 0) -ℤ L) *ℤ (k *ℤ z))) → (((i *ℤ x) +ℤ (j *ℤ y)) +ℤ (l *ℤ z)) <ℤ (pos 0)
volume_down m k i j l I J L x y z ei ej el hk h = prove_lt_by (m ∷ k ∷ i ∷ j ∷ l ∷ I ∷ J ∷ L ∷ x ∷ y ∷ z ∷ []) (Eq (Var 5) (Mul (Mul (Var 0) (Var 0)) (Var 2)) ∷ Eq (Var 6) (Mul (Mul (Var 0) (Var 0)) (Var 3)) ∷ Eq (Var 7) (Mul (Mul (Var 0) (Var 0)) (Var 4)) ∷ Lt (Num (pos 0)) (Var 1) ∷ Lt (Num (pos 0)) (Add (Add (Mul (Sub (Num (pos 0)) (Var 5)) (Mul (Var 1) (Var 8))) (Mul (Sub (Num (pos 0)) (Var 6)) (Mul (Var 1) (Var 9)))) (Mul (Sub (Num (pos 0)) (Var 7)) (Mul (Var 1) (Var 10)))) ∷ []) (Add (Add (Mul (Var 2) (Var 8)) (Mul (Var 3) (Var 9))) (Mul (Var 4) (Var 10))) (Num (pos 0)) (Plus (Hyp 5) (Plus (TimesEq 1 (Neg (Mul (Var 1) (Var 8)))) (Plus (TimesEq 2 (Neg (Mul (Var 1) (Var 9)))) (Plus (TimesEq 3 (Neg (Mul (Var 1) (Var 10)))) (Times (Times (Hyp 0) (Sq (Var 0))) (Plus (Hyp 4) (Lit 1))))))) 0 (ei, (ej, (el, (hk, (h, tt))))) refl

-- vars i j l p q s f g h m r k; hyp ep: p == k*f-m*r; hyp eq: q == k*g-m*r; hyp es: s == k*h-m*r; hyp hi: 0 <= i; hyp hj: 0 <= j; hyp hl: 0 <= l; hyp hm: 0 < m; hyp hr: 0 < r; hyp hk: 0 < k; hyp v: 0 < (i*p+j*q)+l*s; goal 0 < (i*f+j*g)+l*h; eqmul ep * i; eqmul eq * j; eqmul es * l; mul goal * hk+; mul hi * hm+ * hr+; mul hj * hm+ * hr+; mul hl * hm+ * hr+
pub lifted_up : (i j l p q s f g h m r k : ℤ) → p ≡ ((k *ℤ f) -ℤ (m *ℤ r)) → q ≡ ((k *ℤ g) -ℤ (m *ℤ r)) → s ≡ ((k *ℤ h) -ℤ (m *ℤ r)) → (pos 0) ≤ℤ i → (pos 0) ≤ℤ j → (pos 0) ≤ℤ l → (pos 0) <ℤ m → (pos 0) <ℤ r → (pos 0) <ℤ k → (pos 0) <ℤ (((i *ℤ p) +ℤ (j *ℤ q)) +ℤ (l *ℤ s)) → (pos 0) <ℤ (((i *ℤ f) +ℤ (j *ℤ g)) +ℤ (l *ℤ h))
lifted_up i j l p q s f g h m r k ep eq es hi hj hl hm hr hk v = prove_lt_by (i ∷ j ∷ l ∷ p ∷ q ∷ s ∷ f ∷ g ∷ h ∷ m ∷ r ∷ k ∷ []) (Eq (Var 3) (Sub (Mul (Var 11) (Var 6)) (Mul (Var 9) (Var 10))) ∷ Eq (Var 4) (Sub (Mul (Var 11) (Var 7)) (Mul (Var 9) (Var 10))) ∷ Eq (Var 5) (Sub (Mul (Var 11) (Var 8)) (Mul (Var 9) (Var 10))) ∷ Le (Num (pos 0)) (Var 0) ∷ Le (Num (pos 0)) (Var 1) ∷ Le (Num (pos 0)) (Var 2) ∷ Lt (Num (pos 0)) (Var 9) ∷ Lt (Num (pos 0)) (Var 10) ∷ Lt (Num (pos 0)) (Var 11) ∷ Lt (Num (pos 0)) (Add (Add (Mul (Var 0) (Var 3)) (Mul (Var 1) (Var 4))) (Mul (Var 2) (Var 5))) ∷ []) (Num (pos 0)) (Add (Add (Mul (Var 0) (Var 6)) (Mul (Var 1) (Var 7))) (Mul (Var 2) (Var 8))) (Plus (Hyp 10) (Plus (TimesEq 1 (Var 0)) (Plus (TimesEq 2 (Var 1)) (Plus (TimesEq 3 (Var 2)) (Plus (Times (Hyp 0) (Plus (Hyp 9) (Lit 1))) (Plus (Times (Times (Hyp 4) (Plus (Hyp 7) (Lit 1))) (Plus (Hyp 8) (Lit 1))) (Plus (Times (Times (Hyp 5) (Plus (Hyp 7) (Lit 1))) (Plus (Hyp 8) (Lit 1))) (Times (Times (Hyp 6) (Plus (Hyp 7) (Lit 1))) (Plus (Hyp 8) (Lit 1)))))))))) 0 (ep, (eq, (es, (hi, (hj, (hl, (hm, (hr, (hk, (v, tt)))))))))) refl

-- vars i j l p q s f g h m r k; hyp ep: p == k*f-m*r; hyp eq: q == k*g-m*r; hyp es: s == k*h-m*r; hyp hi: i <= 0; hyp hj: j <= 0; hyp hl: l <= 0; hyp hm: 0 < m; hyp hr: 0 < r; hyp hk: 0 < k; hyp v: (i*p+j*q)+l*s < 0; goal (i*f+j*g)+l*h < 0; eqmul ep * i; eqmul eq * j; eqmul es * l; mul goal * hk+; mul hi * hm+ * hr+; mul hj * hm+ * hr+; mul hl * hm+ * hr+
pub lifted_down : (i j l p q s f g h m r k : ℤ) → p ≡ ((k *ℤ f) -ℤ (m *ℤ r)) → q ≡ ((k *ℤ g) -ℤ (m *ℤ r)) → s ≡ ((k *ℤ h) -ℤ (m *ℤ r)) → i ≤ℤ (pos 0) → j ≤ℤ (pos 0) → l ≤ℤ (pos 0) → (pos 0) <ℤ m → (pos 0) <ℤ r → (pos 0) <ℤ k → (((i *ℤ p) +ℤ (j *ℤ q)) +ℤ (l *ℤ s)) <ℤ (pos 0) → (((i *ℤ f) +ℤ (j *ℤ g)) +ℤ (l *ℤ h)) <ℤ (pos 0)
lifted_down i j l p q s f g h m r k ep eq es hi hj hl hm hr hk v = prove_lt_by (i ∷ j ∷ l ∷ p ∷ q ∷ s ∷ f ∷ g ∷ h ∷ m ∷ r ∷ k ∷ []) (Eq (Var 3) (Sub (Mul (Var 11) (Var 6)) (Mul (Var 9) (Var 10))) ∷ Eq (Var 4) (Sub (Mul (Var 11) (Var 7)) (Mul (Var 9) (Var 10))) ∷ Eq (Var 5) (Sub (Mul (Var 11) (Var 8)) (Mul (Var 9) (Var 10))) ∷ Le (Var 0) (Num (pos 0)) ∷ Le (Var 1) (Num (pos 0)) ∷ Le (Var 2) (Num (pos 0)) ∷ Lt (Num (pos 0)) (Var 9) ∷ Lt (Num (pos 0)) (Var 10) ∷ Lt (Num (pos 0)) (Var 11) ∷ Lt (Add (Add (Mul (Var 0) (Var 3)) (Mul (Var 1) (Var 4))) (Mul (Var 2) (Var 5))) (Num (pos 0)) ∷ []) (Add (Add (Mul (Var 0) (Var 6)) (Mul (Var 1) (Var 7))) (Mul (Var 2) (Var 8))) (Num (pos 0)) (Plus (Hyp 10) (Plus (TimesEq 1 (Neg (Var 0))) (Plus (TimesEq 2 (Neg (Var 1))) (Plus (TimesEq 3 (Neg (Var 2))) (Plus (Times (Hyp 0) (Plus (Hyp 9) (Lit 1))) (Plus (Times (Times (Hyp 4) (Plus (Hyp 7) (Lit 1))) (Plus (Hyp 8) (Lit 1))) (Plus (Times (Times (Hyp 5) (Plus (Hyp 7) (Lit 1))) (Plus (Hyp 8) (Lit 1))) (Times (Times (Hyp 6) (Plus (Hyp 7) (Lit 1))) (Plus (Hyp 8) (Lit 1)))))))))) 0 (ep, (eq, (es, (hi, (hj, (hl, (hm, (hr, (hk, (v, tt)))))))))) refl

-- vars u v w p q s; hyp h: (u*p+v*q)+w*s <= 0; goal 0 <= (u*(0-p)+v*(0-q))+w*(0-s)
pub under_back : (u v w p q s : ℤ) → (((u *ℤ p) +ℤ (v *ℤ q)) +ℤ (w *ℤ s)) ≤ℤ (pos 0) → (pos 0) ≤ℤ (((u *ℤ ((pos 0) -ℤ p)) +ℤ (v *ℤ ((pos 0) -ℤ q))) +ℤ (w *ℤ ((pos 0) -ℤ s)))
under_back u v w p q s h = prove_le_by (u ∷ v ∷ w ∷ p ∷ q ∷ s ∷ []) (Le (Add (Add (Mul (Var 0) (Var 3)) (Mul (Var 1) (Var 4))) (Mul (Var 2) (Var 5))) (Num (pos 0)) ∷ []) (Num (pos 0)) (Add (Add (Mul (Var 0) (Sub (Num (pos 0)) (Var 3))) (Mul (Var 1) (Sub (Num (pos 0)) (Var 4)))) (Mul (Var 2) (Sub (Num (pos 0)) (Var 5)))) (Plus (Hyp 0) (Hyp 1)) 0 (h, tt) refl

-- vars u v w p q s; hyp h: 0 <= (u*(0-p)+v*(0-q))+w*(0-s); goal (u*p+v*q)+w*s <= 0
pub under_of : (u v w p q s : ℤ) → (pos 0) ≤ℤ (((u *ℤ ((pos 0) -ℤ p)) +ℤ (v *ℤ ((pos 0) -ℤ q))) +ℤ (w *ℤ ((pos 0) -ℤ s))) → (((u *ℤ p) +ℤ (v *ℤ q)) +ℤ (w *ℤ s)) ≤ℤ (pos 0)
under_of u v w p q s h = prove_le_by (u ∷ v ∷ w ∷ p ∷ q ∷ s ∷ []) (Le (Num (pos 0)) (Add (Add (Mul (Var 0) (Sub (Num (pos 0)) (Var 3))) (Mul (Var 1) (Sub (Num (pos 0)) (Var 4)))) (Mul (Var 2) (Sub (Num (pos 0)) (Var 5)))) ∷ []) (Add (Add (Mul (Var 0) (Var 3)) (Mul (Var 1) (Var 4))) (Mul (Var 2) (Var 5))) (Num (pos 0)) (Plus (Hyp 0) (Hyp 1)) 0 (h, tt) refl
