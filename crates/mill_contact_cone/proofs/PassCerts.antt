-- Polynomial facts behind the lemmas on edges of which no end is in the cone cutter.
-- Written by tools/certificates.py from tools/certificates/mill_contact_cone_passes.spec.
use Rattle.std.proofs.Common.{◌≡◌, [], ◌∷◌, refl}
use lib.IntN.{ℤ, pos, ◌+ℤ◌, ◌-ℤ◌, ◌*ℤ◌}
use lib.Signed.{◌<ℤ◌, ◌≤ℤ◌}
use Rattle.mill_base.proofs.Ring.{Var, Num, Add, Sub, Mul, Neg, ring}
use Rattle.mill_base.proofs.Cert.{Le, Lt, Eq, Hyp, TimesEq, Sq, Lit, Plus, Times, prove_le_by, prove_lt_by}

-- vars S m k r z; hyp h: (m*m)*S < (k*k)*(z*z); hyp hm: 0 < m; hyp hk: 0 < k; hyp hz: 0 <= z; hyp l: k*z-m*r <= 0; goal S < r*r; mul goal * sq(m); mul l * l; mul l * hk+ * hz
pub low_near : (S m k r z : ℤ) → ((m *ℤ m) *ℤ S) <ℤ ((k *ℤ k) *ℤ (z *ℤ z)) → (pos 0) <ℤ m → (pos 0) <ℤ k → (pos 0) ≤ℤ z → ((k *ℤ z) -ℤ (m *ℤ r)) ≤ℤ (pos 0) → S <ℤ (r *ℤ r)
low_near S m k r z h hm hk hz l = prove_lt_by (S ∷ m ∷ k ∷ r ∷ z ∷ []) (Lt (Mul (Mul (Var 1) (Var 1)) (Var 0)) (Mul (Mul (Var 2) (Var 2)) (Mul (Var 4) (Var 4))) ∷ Lt (Num (pos 0)) (Var 1) ∷ Lt (Num (pos 0)) (Var 2) ∷ Le (Num (pos 0)) (Var 4) ∷ Le (Sub (Mul (Var 2) (Var 4)) (Mul (Var 1) (Var 3))) (Num (pos 0)) ∷ []) (Var 0) (Mul (Var 3) (Var 3)) (Plus (Hyp 1) (Plus (Times (Hyp 0) (Sq (Var 1))) (Plus (Times (Hyp 5) (Hyp 5)) (Times (Lit 2) (Times (Times (Hyp 5) (Plus (Hyp 3) (Lit 1))) (Hyp 4)))))) 0 (h, (hm, (hk, (hz, (l, tt))))) refl

-- vars m k r z; hyp hm: 0 < m; hyp hk: 0 < k; hyp hr: 0 < r; hyp l: 0 <= k*z-m*r; goal 0 < z; mul goal * hk+; mul hm * hr
pub high_up : (m k r z : ℤ) → (pos 0) <ℤ m → (pos 0) <ℤ k → (pos 0) <ℤ r → (pos 0) ≤ℤ ((k *ℤ z) -ℤ (m *ℤ r)) → (pos 0) <ℤ z
high_up m k r z hm hk hr l = prove_lt_by (m ∷ k ∷ r ∷ z ∷ []) (Lt (Num (pos 0)) (Var 0) ∷ Lt (Num (pos 0)) (Var 1) ∷ Lt (Num (pos 0)) (Var 2) ∷ Le (Num (pos 0)) (Sub (Mul (Var 1) (Var 3)) (Mul (Var 0) (Var 2))) ∷ []) (Num (pos 0)) (Var 3) (Plus (Hyp 1) (Plus (Hyp 3) (Plus (Hyp 4) (Plus (Times (Hyp 0) (Plus (Hyp 2) (Lit 1))) (Times (Hyp 1) (Hyp 3)))))) 0 (hm, (hk, (hr, (l, tt)))) refl

-- vars S m k r z; hyp h: S < r*r; hyp hm: 0 < m; hyp hr: 0 < r; hyp l: 0 <= k*z-m*r; goal (m*m)*S < (k*k)*(z*z); mul l * l; mul l * hm+ * hr+; mul h+ * sq(m); mul h * sq(m); mul hm * hm; mul hm+ * hm+
pub high_steep : (S m k r z : ℤ) → S <ℤ (r *ℤ r) → (pos 0) <ℤ m → (pos 0) <ℤ r → (pos 0) ≤ℤ ((k *ℤ z) -ℤ (m *ℤ r)) → ((m *ℤ m) *ℤ S) <ℤ ((k *ℤ k) *ℤ (z *ℤ z))
high_steep S m k r z h hm hr l = prove_lt_by (S ∷ m ∷ k ∷ r ∷ z ∷ []) (Lt (Var 0) (Mul (Var 3) (Var 3)) ∷ Lt (Num (pos 0)) (Var 1) ∷ Lt (Num (pos 0)) (Var 3) ∷ Le (Num (pos 0)) (Sub (Mul (Var 2) (Var 4)) (Mul (Var 1) (Var 3))) ∷ []) (Mul (Mul (Var 1) (Var 1)) (Var 0)) (Mul (Mul (Var 2) (Var 2)) (Mul (Var 4) (Var 4))) (Plus (Hyp 0) (Plus (Times (Lit 2) (Hyp 2)) (Plus (Times (Hyp 4) (Hyp 4)) (Plus (Times (Lit 2) (Times (Times (Hyp 4) (Plus (Hyp 2) (Lit 1))) (Plus (Hyp 3) (Lit 1)))) (Plus (Times (Hyp 1) (Sq (Var 1))) (Times (Hyp 2) (Hyp 2))))))) 0 (h, (hm, (hr, (l, tt)))) refl

pub first_first : (a h b : ℤ) → (((((pos 1) *ℤ (pos 1)) *ℤ a) +ℤ ((((pos 1) *ℤ (pos 0)) +ℤ ((pos 0) *ℤ (pos 1))) *ℤ h)) +ℤ (((pos 0) *ℤ (pos 0)) *ℤ b)) ≡ a
first_first a h b = ring (a ∷ h ∷ b ∷ []) (Add (Add (Mul (Mul (Num (pos 1)) (Num (pos 1))) (Var 0)) (Mul (Add (Mul (Num (pos 1)) (Num (pos 0))) (Mul (Num (pos 0)) (Num (pos 1)))) (Var 1))) (Mul (Mul (Num (pos 0)) (Num (pos 0))) (Var 2))) (Var 0) refl

pub first_last : (a h b : ℤ) → (((((pos 1) *ℤ (pos 0)) *ℤ a) +ℤ ((((pos 1) *ℤ (pos 1)) +ℤ ((pos 0) *ℤ (pos 0))) *ℤ h)) +ℤ (((pos 0) *ℤ (pos 1)) *ℤ b)) ≡ h
first_last a h b = ring (a ∷ h ∷ b ∷ []) (Add (Add (Mul (Mul (Num (pos 1)) (Num (pos 0))) (Var 0)) (Mul (Add (Mul (Num (pos 1)) (Num (pos 1))) (Mul (Num (pos 0)) (Num (pos 0)))) (Var 1))) (Mul (Mul (Num (pos 0)) (Num (pos 1))) (Var 2))) (Var 1) refl

pub last_last : (a h b : ℤ) → (((((pos 0) *ℤ (pos 0)) *ℤ a) +ℤ ((((pos 0) *ℤ (pos 1)) +ℤ ((pos 1) *ℤ (pos 0))) *ℤ h)) +ℤ (((pos 1) *ℤ (pos 1)) *ℤ b)) ≡ b
last_last a h b = ring (a ∷ h ∷ b ∷ []) (Add (Add (Mul (Mul (Num (pos 0)) (Num (pos 0))) (Var 0)) (Mul (Add (Mul (Num (pos 0)) (Num (pos 1))) (Mul (Num (pos 1)) (Num (pos 0)))) (Var 1))) (Mul (Mul (Num (pos 1)) (Num (pos 1))) (Var 2))) (Var 2) refl

-- vars px py pz qx qy qz m k a h b; hyp ea: a == m*m*(px*px+py*py)-k*k*(pz*pz); hyp eh: h == m*m*(px*qx+py*qy)-k*k*(pz*qz); hyp eb: b == m*m*(qx*qx+qy*qy)-k*k*(qz*qz); goal 0 <= (qz*qz*a+(qz*(0-pz)+(0-pz)*qz)*h)+(0-pz)*(0-pz)*b; eqmul ea * (qz*qz); eqmul eh * (qz*pz); eqmul eb * (pz*pz); square m*qz*px-m*pz*qx; square m*qz*py-m*pz*qy
pub tip_tip : (px py pz qx qy qz m k a h b : ℤ) → a ≡ (((m *ℤ m) *ℤ ((px *ℤ px) +ℤ (py *ℤ py))) -ℤ ((k *ℤ k) *ℤ (pz *ℤ pz))) → h ≡ (((m *ℤ m) *ℤ ((px *ℤ qx) +ℤ (py *ℤ qy))) -ℤ ((k *ℤ k) *ℤ (pz *ℤ qz))) → b ≡ (((m *ℤ m) *ℤ ((qx *ℤ qx) +ℤ (qy *ℤ qy))) -ℤ ((k *ℤ k) *ℤ (qz *ℤ qz))) → (pos 0) ≤ℤ ((((qz *ℤ qz) *ℤ a) +ℤ (((qz *ℤ ((pos 0) -ℤ pz)) +ℤ (((pos 0) -ℤ pz) *ℤ qz)) *ℤ h)) +ℤ ((((pos 0) -ℤ pz) *ℤ ((pos 0) -ℤ pz)) *ℤ b))
tip_tip px py pz qx qy qz m k a h b ea eh eb = prove_le_by (px ∷ py ∷ pz ∷ qx ∷ qy ∷ qz ∷ m ∷ k ∷ a ∷ h ∷ b ∷ []) (Eq (Var 8) (Sub (Mul (Mul (Var 6) (Var 6)) (Add (Mul (Var 0) (Var 0)) (Mul (Var 1) (Var 1)))) (Mul (Mul (Var 7) (Var 7)) (Mul (Var 2) (Var 2)))) ∷ Eq (Var 9) (Sub (Mul (Mul (Var 6) (Var 6)) (Add (Mul (Var 0) (Var 3)) (Mul (Var 1) (Var 4)))) (Mul (Mul (Var 7) (Var 7)) (Mul (Var 2) (Var 5)))) ∷ Eq (Var 10) (Sub (Mul (Mul (Var 6) (Var 6)) (Add (Mul (Var 3) (Var 3)) (Mul (Var 4) (Var 4)))) (Mul (Mul (Var 7) (Var 7)) (Mul (Var 5) (Var 5)))) ∷ []) (Num (pos 0)) (Add (Add (Mul (Mul (Var 5) (Var 5)) (Var 8)) (Mul (Add (Mul (Var 5) (Sub (Num (pos 0)) (Var 2))) (Mul (Sub (Num (pos 0)) (Var 2)) (Var 5))) (Var 9))) (Mul (Mul (Sub (Num (pos 0)) (Var 2)) (Sub (Num (pos 0)) (Var 2))) (Var 10))) (Plus (Hyp 0) (Plus (TimesEq 1 (Neg (Mul (Var 5) (Var 5)))) (Plus (Times (Lit 2) (TimesEq 2 (Mul (Var 5) (Var 2)))) (Plus (TimesEq 3 (Neg (Mul (Var 2) (Var 2)))) (Plus (Sq (Sub (Mul (Mul (Var 6) (Var 5)) (Var 0)) (Mul (Mul (Var 6) (Var 2)) (Var 3)))) (Sq (Sub (Mul (Mul (Var 6) (Var 5)) (Var 1)) (Mul (Mul (Var 6) (Var 2)) (Var 4))))))))) 0 (ea, (eh, (eb, tt))) refl

-- vars px py pz qx qy qz m k a h b; hyp ea: a == m*m*(px*px+py*py)-k*k*(pz*pz); hyp eh: h == m*m*(px*qx+py*qy)-k*k*(pz*qz); hyp eb: b == m*m*(qx*qx+qy*qy)-k*k*(qz*qz); hyp hm: 0 < m; hyp s: qz*(px*qx+py*qy)-pz*(qx*qx+qy*qy) < 0; goal (qz*0*a+(qz*1+(0-pz)*0)*h)+(0-pz)*1*b < 0; eqmul eh * qz; eqmul eb * pz; mul s * sq(m); mul hm * hm
pub tip_last_less : (px py pz qx qy qz m k a h b : ℤ) → a ≡ (((m *ℤ m) *ℤ ((px *ℤ px) +ℤ (py *ℤ py))) -ℤ ((k *ℤ k) *ℤ (pz *ℤ pz))) → h ≡ (((m *ℤ m) *ℤ ((px *ℤ qx) +ℤ (py *ℤ qy))) -ℤ ((k *ℤ k) *ℤ (pz *ℤ qz))) → b ≡ (((m *ℤ m) *ℤ ((qx *ℤ qx) +ℤ (qy *ℤ qy))) -ℤ ((k *ℤ k) *ℤ (qz *ℤ qz))) → (pos 0) <ℤ m → ((qz *ℤ ((px *ℤ qx) +ℤ (py *ℤ qy))) -ℤ (pz *ℤ ((qx *ℤ qx) +ℤ (qy *ℤ qy)))) <ℤ (pos 0) → ((((qz *ℤ (pos 0)) *ℤ a) +ℤ (((qz *ℤ (pos 1)) +ℤ (((pos 0) -ℤ pz) *ℤ (pos 0))) *ℤ h)) +ℤ ((((pos 0) -ℤ pz) *ℤ (pos 1)) *ℤ b)) <ℤ (pos 0)
tip_last_less px py pz qx qy qz m k a h b ea eh eb hm s = prove_lt_by (px ∷ py ∷ pz ∷ qx ∷ qy ∷ qz ∷ m ∷ k ∷ a ∷ h ∷ b ∷ []) (Eq (Var 8) (Sub (Mul (Mul (Var 6) (Var 6)) (Add (Mul (Var 0) (Var 0)) (Mul (Var 1) (Var 1)))) (Mul (Mul (Var 7) (Var 7)) (Mul (Var 2) (Var 2)))) ∷ Eq (Var 9) (Sub (Mul (Mul (Var 6) (Var 6)) (Add (Mul (Var 0) (Var 3)) (Mul (Var 1) (Var 4)))) (Mul (Mul (Var 7) (Var 7)) (Mul (Var 2) (Var 5)))) ∷ Eq (Var 10) (Sub (Mul (Mul (Var 6) (Var 6)) (Add (Mul (Var 3) (Var 3)) (Mul (Var 4) (Var 4)))) (Mul (Mul (Var 7) (Var 7)) (Mul (Var 5) (Var 5)))) ∷ Lt (Num (pos 0)) (Var 6) ∷ Lt (Sub (Mul (Var 5) (Add (Mul (Var 0) (Var 3)) (Mul (Var 1) (Var 4)))) (Mul (Var 2) (Add (Mul (Var 3) (Var 3)) (Mul (Var 4) (Var 4))))) (Num (pos 0)) ∷ []) (Add (Add (Mul (Mul (Var 5) (Num (pos 0))) (Var 8)) (Mul (Add (Mul (Var 5) (Num (pos 1))) (Mul (Sub (Num (pos 0)) (Var 2)) (Num (pos 0)))) (Var 9))) (Mul (Mul (Sub (Num (pos 0)) (Var 2)) (Num (pos 1))) (Var 10))) (Num (pos 0)) (Plus (Hyp 0) (Plus (Times (Lit 2) (Hyp 4)) (Plus (TimesEq 2 (Var 5)) (Plus (TimesEq 3 (Neg (Var 2))) (Plus (Times (Hyp 5) (Sq (Var 6))) (Times (Hyp 4) (Hyp 4))))))) 0 (ea, (eh, (eb, (hm, (s, tt))))) refl

-- vars px py pz qx qy qz m k a h b; hyp ea: a == m*m*(px*px+py*py)-k*k*(pz*pz); hyp eh: h == m*m*(px*qx+py*qy)-k*k*(pz*qz); hyp eb: b == m*m*(qx*qx+qy*qy)-k*k*(qz*qz); hyp s: 0 <= qz*(px*qx+py*qy)-pz*(qx*qx+qy*qy); goal 0 <= (qz*0*a+(qz*1+(0-pz)*0)*h)+(0-pz)*1*b; eqmul eh * qz; eqmul eb * pz; mul s * sq(m)
pub tip_last_least : (px py pz qx qy qz m k a h b : ℤ) → a ≡ (((m *ℤ m) *ℤ ((px *ℤ px) +ℤ (py *ℤ py))) -ℤ ((k *ℤ k) *ℤ (pz *ℤ pz))) → h ≡ (((m *ℤ m) *ℤ ((px *ℤ qx) +ℤ (py *ℤ qy))) -ℤ ((k *ℤ k) *ℤ (pz *ℤ qz))) → b ≡ (((m *ℤ m) *ℤ ((qx *ℤ qx) +ℤ (qy *ℤ qy))) -ℤ ((k *ℤ k) *ℤ (qz *ℤ qz))) → (pos 0) ≤ℤ ((qz *ℤ ((px *ℤ qx) +ℤ (py *ℤ qy))) -ℤ (pz *ℤ ((qx *ℤ qx) +ℤ (qy *ℤ qy)))) → (pos 0) ≤ℤ ((((qz *ℤ (pos 0)) *ℤ a) +ℤ (((qz *ℤ (pos 1)) +ℤ (((pos 0) -ℤ pz) *ℤ (pos 0))) *ℤ h)) +ℤ ((((pos 0) -ℤ pz) *ℤ (pos 1)) *ℤ b))
tip_last_least px py pz qx qy qz m k a h b ea eh eb s = prove_le_by (px ∷ py ∷ pz ∷ qx ∷ qy ∷ qz ∷ m ∷ k ∷ a ∷ h ∷ b ∷ []) (Eq (Var 8) (Sub (Mul (Mul (Var 6) (Var 6)) (Add (Mul (Var 0) (Var 0)) (Mul (Var 1) (Var 1)))) (Mul (Mul (Var 7) (Var 7)) (Mul (Var 2) (Var 2)))) ∷ Eq (Var 9) (Sub (Mul (Mul (Var 6) (Var 6)) (Add (Mul (Var 0) (Var 3)) (Mul (Var 1) (Var 4)))) (Mul (Mul (Var 7) (Var 7)) (Mul (Var 2) (Var 5)))) ∷ Eq (Var 10) (Sub (Mul (Mul (Var 6) (Var 6)) (Add (Mul (Var 3) (Var 3)) (Mul (Var 4) (Var 4)))) (Mul (Mul (Var 7) (Var 7)) (Mul (Var 5) (Var 5)))) ∷ Le (Num (pos 0)) (Sub (Mul (Var 5) (Add (Mul (Var 0) (Var 3)) (Mul (Var 1) (Var 4)))) (Mul (Var 2) (Add (Mul (Var 3) (Var 3)) (Mul (Var 4) (Var 4))))) ∷ []) (Num (pos 0)) (Add (Add (Mul (Mul (Var 5) (Num (pos 0))) (Var 8)) (Mul (Add (Mul (Var 5) (Num (pos 1))) (Mul (Sub (Num (pos 0)) (Var 2)) (Num (pos 0)))) (Var 9))) (Mul (Mul (Sub (Num (pos 0)) (Var 2)) (Num (pos 1))) (Var 10))) (Plus (Hyp 0) (Plus (TimesEq 2 (Neg (Var 5))) (Plus (TimesEq 3 (Var 2)) (Times (Hyp 4) (Sq (Var 6)))))) 0 (ea, (eh, (eb, (s, tt)))) refl
