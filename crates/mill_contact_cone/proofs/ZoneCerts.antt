-- Polynomial facts behind the lemmas on segments in the two zones of the cone cutter.
-- Written by tools/certificates.py from tools/certificates/mill_contact_cone_zones.spec.
use Rattle.std.proofs.Common.{◌≡◌, [], ◌∷◌, refl}
use lib.IntN.{ℤ, pos, negsuc, ◌+ℤ◌, ◌-ℤ◌, ◌*ℤ◌}
use lib.Signed.{◌<ℤ◌, ◌≤ℤ◌}
use Rattle.mill_base.proofs.Ring.{Var, Num, Add, Sub, Mul, Neg}
use Rattle.mill_base.proofs.Cert.{Le, Lt, Eq, Hyp, TimesEq, Sq, Lit, Plus, Times, prove_le_by, prove_lt_by}

-- vars m k r n z; hyp hm: 0 < m; hyp hk: 0 < k; hyp hr: 0 < r; hyp hn: 0 < n; hyp l: m*(r*n) <= k*z; goal 0 < z; mul goal * hk+; mul hm * hr * hn; mul hm * hr; mul hm * hn; mul hr * hn
pub upper_height : (m k r n z : ℤ) → (pos 0) <ℤ m → (pos 0) <ℤ k → (pos 0) <ℤ r → (pos 0) <ℤ n → (m *ℤ (r *ℤ n)) ≤ℤ (k *ℤ z) → (pos 0) <ℤ z
upper_height m k r n z hm hk hr hn l = prove_lt_by (m ∷ k ∷ r ∷ n ∷ z ∷ []) (Lt (Num (pos 0)) (Var 0) ∷ Lt (Num (pos 0)) (Var 1) ∷ Lt (Num (pos 0)) (Var 2) ∷ Lt (Num (pos 0)) (Var 3) ∷ Le (Mul (Var 0) (Mul (Var 2) (Var 3))) (Mul (Var 1) (Var 4)) ∷ []) (Num (pos 0)) (Var 4) (Plus (Hyp 1) (Plus (Hyp 3) (Plus (Hyp 4) (Plus (Hyp 5) (Plus (Times (Hyp 0) (Plus (Hyp 2) (Lit 1))) (Plus (Times (Times (Hyp 1) (Hyp 3)) (Hyp 4)) (Plus (Times (Hyp 1) (Hyp 3)) (Plus (Times (Hyp 1) (Hyp 4)) (Times (Hyp 3) (Hyp 4)))))))))) 0 (hm, (hk, (hr, (hn, (l, tt))))) refl

-- vars S m k r n z; hyp h: S < (r*r)*(n*n); hyp hm: 0 < m; hyp hr: 0 < r; hyp hn: 0 < n; hyp l: m*(r*n) <= k*z; goal (m*m)*S < (k*k)*(z*z); mul l * l; mul l * hm+ * hr+ * hn+; mul h+ * sq(m); mul h * sq(m); mul hm * hm; mul hm+ * hm+
pub upper_steep : (S m k r n z : ℤ) → S <ℤ ((r *ℤ r) *ℤ (n *ℤ n)) → (pos 0) <ℤ m → (pos 0) <ℤ r → (pos 0) <ℤ n → (m *ℤ (r *ℤ n)) ≤ℤ (k *ℤ z) → ((m *ℤ m) *ℤ S) <ℤ ((k *ℤ k) *ℤ (z *ℤ z))
upper_steep S m k r n z h hm hr hn l = prove_lt_by (S ∷ m ∷ k ∷ r ∷ n ∷ z ∷ []) (Lt (Var 0) (Mul (Mul (Var 3) (Var 3)) (Mul (Var 4) (Var 4))) ∷ Lt (Num (pos 0)) (Var 1) ∷ Lt (Num (pos 0)) (Var 3) ∷ Lt (Num (pos 0)) (Var 4) ∷ Le (Mul (Var 1) (Mul (Var 3) (Var 4))) (Mul (Var 2) (Var 5)) ∷ []) (Mul (Mul (Var 1) (Var 1)) (Var 0)) (Mul (Mul (Var 2) (Var 2)) (Mul (Var 5) (Var 5))) (Plus (Hyp 0) (Plus (Times (Lit 2) (Hyp 2)) (Plus (Times (Hyp 5) (Hyp 5)) (Plus (Times (Lit 2) (Times (Times (Times (Hyp 5) (Plus (Hyp 2) (Lit 1))) (Plus (Hyp 3) (Lit 1))) (Plus (Hyp 4) (Lit 1)))) (Plus (Times (Hyp 1) (Sq (Var 1))) (Times (Hyp 2) (Hyp 2))))))) 0 (h, (hm, (hr, (hn, (l, tt))))) refl

-- vars S m k r n z; hyp h: (m*m)*S < (k*k)*(z*z); hyp hm: 0 < m; hyp hk: 0 < k; hyp hz: 0 <= z; hyp l: k*z <= m*(r*n); goal S < (r*r)*(n*n); mul goal * sq(m); mul l * l; mul l * hk+ * hz
pub lower_near : (S m k r n z : ℤ) → ((m *ℤ m) *ℤ S) <ℤ ((k *ℤ k) *ℤ (z *ℤ z)) → (pos 0) <ℤ m → (pos 0) <ℤ k → (pos 0) ≤ℤ z → (k *ℤ z) ≤ℤ (m *ℤ (r *ℤ n)) → S <ℤ ((r *ℤ r) *ℤ (n *ℤ n))
lower_near S m k r n z h hm hk hz l = prove_lt_by (S ∷ m ∷ k ∷ r ∷ n ∷ z ∷ []) (Lt (Mul (Mul (Var 1) (Var 1)) (Var 0)) (Mul (Mul (Var 2) (Var 2)) (Mul (Var 5) (Var 5))) ∷ Lt (Num (pos 0)) (Var 1) ∷ Lt (Num (pos 0)) (Var 2) ∷ Le (Num (pos 0)) (Var 5) ∷ Le (Mul (Var 2) (Var 5)) (Mul (Var 1) (Mul (Var 3) (Var 4))) ∷ []) (Var 0) (Mul (Mul (Var 3) (Var 3)) (Mul (Var 4) (Var 4))) (Plus (Hyp 1) (Plus (Times (Hyp 0) (Sq (Var 1))) (Plus (Times (Hyp 5) (Hyp 5)) (Times (Lit 2) (Times (Times (Hyp 5) (Plus (Hyp 3) (Lit 1))) (Hyp 4)))))) 0 (h, (hm, (hk, (hz, (l, tt))))) refl

-- vars S m k z; hyp h: (m*m)*S < (k*k)*(z*z); hyp hS: 0 <= S; hyp hz: 0 <= z; goal 0 < z; mul hS * sq(m); mul goal * hz * sq(k); mul goal * hz
pub lower_height : (S m k z : ℤ) → ((m *ℤ m) *ℤ S) <ℤ ((k *ℤ k) *ℤ (z *ℤ z)) → (pos 0) ≤ℤ S → (pos 0) ≤ℤ z → (pos 0) <ℤ z
lower_height S m k z h hS hz = prove_lt_by (S ∷ m ∷ k ∷ z ∷ []) (Lt (Mul (Mul (Var 1) (Var 1)) (Var 0)) (Mul (Mul (Var 2) (Var 2)) (Mul (Var 3) (Var 3))) ∷ Le (Num (pos 0)) (Var 0) ∷ Le (Num (pos 0)) (Var 3) ∷ []) (Num (pos 0)) (Var 3) (Plus (Hyp 1) (Plus (Times (Hyp 2) (Sq (Var 1))) (Times (Times (Hyp 0) (Hyp 3)) (Sq (Var 2))))) 0 (h, (hS, (hz, tt))) refl

-- vars m k r n z; hyp hm: 0 < m; hyp hk: 0 < k; hyp hr: 0 < r; hyp hz: 0 < z; hyp l: k*z <= m*(r*n); goal 0 < n; mul goal * hm+ * hr+; mul hk+ * hz+; mul hk * hz
pub lower_time : (m k r n z : ℤ) → (pos 0) <ℤ m → (pos 0) <ℤ k → (pos 0) <ℤ r → (pos 0) <ℤ z → (k *ℤ z) ≤ℤ (m *ℤ (r *ℤ n)) → (pos 0) <ℤ n
lower_time m k r n z hm hk hr hz l = prove_lt_by (m ∷ k ∷ r ∷ n ∷ z ∷ []) (Lt (Num (pos 0)) (Var 0) ∷ Lt (Num (pos 0)) (Var 1) ∷ Lt (Num (pos 0)) (Var 2) ∷ Lt (Num (pos 0)) (Var 4) ∷ Le (Mul (Var 1) (Var 4)) (Mul (Var 0) (Mul (Var 2) (Var 3))) ∷ []) (Num (pos 0)) (Var 3) (Plus (Hyp 2) (Plus (Hyp 4) (Plus (Hyp 5) (Plus (Times (Times (Hyp 0) (Plus (Hyp 1) (Lit 1))) (Plus (Hyp 3) (Lit 1))) (Times (Hyp 2) (Hyp 4)))))) 0 (hm, (hk, (hr, (hz, (l, tt))))) refl

-- vars px py qx qy r a h b u v; hyp ea: a == (px*px+py*py)-r*r; hyp eh: h == (px*qx+py*qy)-r*r; hyp eb: b == (qx*qx+qy*qy)-r*r; hyp f: (a*(u*u)+2*(h*(u*v)))+b*(v*v) < 0; goal (u*px+v*qx)*(u*px+v*qx)+(u*py+v*qy)*(u*py+v*qy) < (r*r)*((u+v)*(u+v)); eqmul ea * (u*u); eqmul eh * (2*u*v); eqmul eb * (v*v)
pub pair_near : (px py qx qy r a h b u v : ℤ) → a ≡ (((px *ℤ px) +ℤ (py *ℤ py)) -ℤ (r *ℤ r)) → h ≡ (((px *ℤ qx) +ℤ (py *ℤ qy)) -ℤ (r *ℤ r)) → b ≡ (((qx *ℤ qx) +ℤ (qy *ℤ qy)) -ℤ (r *ℤ r)) → (((a *ℤ (u *ℤ u)) +ℤ ((pos 2) *ℤ (h *ℤ (u *ℤ v)))) +ℤ (b *ℤ (v *ℤ v))) <ℤ (pos 0) → ((((u *ℤ px) +ℤ (v *ℤ qx)) *ℤ ((u *ℤ px) +ℤ (v *ℤ qx))) +ℤ (((u *ℤ py) +ℤ (v *ℤ qy)) *ℤ ((u *ℤ py) +ℤ (v *ℤ qy)))) <ℤ ((r *ℤ r) *ℤ ((u +ℤ v) *ℤ (u +ℤ v)))
pair_near px py qx qy r a h b u v ea eh eb f = prove_lt_by (px ∷ py ∷ qx ∷ qy ∷ r ∷ a ∷ h ∷ b ∷ u ∷ v ∷ []) (Eq (Var 5) (Sub (Add (Mul (Var 0) (Var 0)) (Mul (Var 1) (Var 1))) (Mul (Var 4) (Var 4))) ∷ Eq (Var 6) (Sub (Add (Mul (Var 0) (Var 2)) (Mul (Var 1) (Var 3))) (Mul (Var 4) (Var 4))) ∷ Eq (Var 7) (Sub (Add (Mul (Var 2) (Var 2)) (Mul (Var 3) (Var 3))) (Mul (Var 4) (Var 4))) ∷ Lt (Add (Add (Mul (Var 5) (Mul (Var 8) (Var 8))) (Mul (Num (pos 2)) (Mul (Var 6) (Mul (Var 8) (Var 9))))) (Mul (Var 7) (Mul (Var 9) (Var 9)))) (Num (pos 0)) ∷ []) (Add (Mul (Add (Mul (Var 8) (Var 0)) (Mul (Var 9) (Var 2))) (Add (Mul (Var 8) (Var 0)) (Mul (Var 9) (Var 2)))) (Mul (Add (Mul (Var 8) (Var 1)) (Mul (Var 9) (Var 3))) (Add (Mul (Var 8) (Var 1)) (Mul (Var 9) (Var 3))))) (Mul (Mul (Var 4) (Var 4)) (Mul (Add (Var 8) (Var 9)) (Add (Var 8) (Var 9)))) (Plus (Hyp 0) (Plus (Hyp 4) (Plus (TimesEq 1 (Neg (Mul (Var 8) (Var 8)))) (Plus (TimesEq 2 (Neg (Mul (Mul (Num (pos 2)) (Var 8)) (Var 9)))) (TimesEq 3 (Neg (Mul (Var 9) (Var 9)))))))) 0 (ea, (eh, (eb, (f, tt)))) refl

-- vars px py qx qy r a h b u v; hyp ea: a == (px*px+py*py)-r*r; hyp eh: h == (px*qx+py*qy)-r*r; hyp eb: b == (qx*qx+qy*qy)-r*r; hyp n: (u*px+v*qx)*(u*px+v*qx)+(u*py+v*qy)*(u*py+v*qy) < (r*r)*((u+v)*(u+v)); goal (a*(u*u)+2*(h*(u*v)))+b*(v*v) < 0; eqmul ea * (u*u); eqmul eh * (2*u*v); eqmul eb * (v*v)
pub near_pair : (px py qx qy r a h b u v : ℤ) → a ≡ (((px *ℤ px) +ℤ (py *ℤ py)) -ℤ (r *ℤ r)) → h ≡ (((px *ℤ qx) +ℤ (py *ℤ qy)) -ℤ (r *ℤ r)) → b ≡ (((qx *ℤ qx) +ℤ (qy *ℤ qy)) -ℤ (r *ℤ r)) → ((((u *ℤ px) +ℤ (v *ℤ qx)) *ℤ ((u *ℤ px) +ℤ (v *ℤ qx))) +ℤ (((u *ℤ py) +ℤ (v *ℤ qy)) *ℤ ((u *ℤ py) +ℤ (v *ℤ qy)))) <ℤ ((r *ℤ r) *ℤ ((u +ℤ v) *ℤ (u +ℤ v))) → (((a *ℤ (u *ℤ u)) +ℤ ((pos 2) *ℤ (h *ℤ (u *ℤ v)))) +ℤ (b *ℤ (v *ℤ v))) <ℤ (pos 0)
near_pair px py qx qy r a h b u v ea eh eb n = prove_lt_by (px ∷ py ∷ qx ∷ qy ∷ r ∷ a ∷ h ∷ b ∷ u ∷ v ∷ []) (Eq (Var 5) (Sub (Add (Mul (Var 0) (Var 0)) (Mul (Var 1) (Var 1))) (Mul (Var 4) (Var 4))) ∷ Eq (Var 6) (Sub (Add (Mul (Var 0) (Var 2)) (Mul (Var 1) (Var 3))) (Mul (Var 4) (Var 4))) ∷ Eq (Var 7) (Sub (Add (Mul (Var 2) (Var 2)) (Mul (Var 3) (Var 3))) (Mul (Var 4) (Var 4))) ∷ Lt (Add (Mul (Add (Mul (Var 8) (Var 0)) (Mul (Var 9) (Var 2))) (Add (Mul (Var 8) (Var 0)) (Mul (Var 9) (Var 2)))) (Mul (Add (Mul (Var 8) (Var 1)) (Mul (Var 9) (Var 3))) (Add (Mul (Var 8) (Var 1)) (Mul (Var 9) (Var 3))))) (Mul (Mul (Var 4) (Var 4)) (Mul (Add (Var 8) (Var 9)) (Add (Var 8) (Var 9)))) ∷ []) (Add (Add (Mul (Var 5) (Mul (Var 8) (Var 8))) (Mul (Num (pos 2)) (Mul (Var 6) (Mul (Var 8) (Var 9))))) (Mul (Var 7) (Mul (Var 9) (Var 9)))) (Num (pos 0)) (Plus (Hyp 0) (Plus (Hyp 4) (Plus (TimesEq 1 (Mul (Var 8) (Var 8))) (Plus (TimesEq 2 (Mul (Mul (Num (pos 2)) (Var 8)) (Var 9))) (TimesEq 3 (Mul (Var 9) (Var 9))))))) 0 (ea, (eh, (eb, (n, tt)))) refl

-- vars px py pz qx qy qz m k a h b u v; hyp ea: a == m*m*(px*px+py*py)-k*k*(pz*pz); hyp eh: h == m*m*(px*qx+py*qy)-k*k*(pz*qz); hyp eb: b == m*m*(qx*qx+qy*qy)-k*k*(qz*qz); hyp f: (a*(u*u)+2*(h*(u*v)))+b*(v*v) < 0; goal (m*m)*((u*px+v*qx)*(u*px+v*qx)+(u*py+v*qy)*(u*py+v*qy)) < (k*k)*((u*pz+v*qz)*(u*pz+v*qz)); eqmul ea * (u*u); eqmul eh * (2*u*v); eqmul eb * (v*v)
pub pair_steep : (px py pz qx qy qz m k a h b u v : ℤ) → a ≡ (((m *ℤ m) *ℤ ((px *ℤ px) +ℤ (py *ℤ py))) -ℤ ((k *ℤ k) *ℤ (pz *ℤ pz))) → h ≡ (((m *ℤ m) *ℤ ((px *ℤ qx) +ℤ (py *ℤ qy))) -ℤ ((k *ℤ k) *ℤ (pz *ℤ qz))) → b ≡ (((m *ℤ m) *ℤ ((qx *ℤ qx) +ℤ (qy *ℤ qy))) -ℤ ((k *ℤ k) *ℤ (qz *ℤ qz))) → (((a *ℤ (u *ℤ u)) +ℤ ((pos 2) *ℤ (h *ℤ (u *ℤ v)))) +ℤ (b *ℤ (v *ℤ v))) <ℤ (pos 0) → ((m *ℤ m) *ℤ ((((u *ℤ px) +ℤ (v *ℤ qx)) *ℤ ((u *ℤ px) +ℤ (v *ℤ qx))) +ℤ (((u *ℤ py) +ℤ (v *ℤ qy)) *ℤ ((u *ℤ py) +ℤ (v *ℤ qy))))) <ℤ ((k *ℤ k) *ℤ (((u *ℤ pz) +ℤ (v *ℤ qz)) *ℤ ((u *ℤ pz) +ℤ (v *ℤ qz))))
pair_steep px py pz qx qy qz m k a h b u v ea eh eb f = prove_lt_by (px ∷ py ∷ pz ∷ qx ∷ qy ∷ qz ∷ m ∷ k ∷ a ∷ h ∷ b ∷ u ∷ v ∷ []) (Eq (Var 8) (Sub (Mul (Mul (Var 6) (Var 6)) (Add (Mul (Var 0) (Var 0)) (Mul (Var 1) (Var 1)))) (Mul (Mul (Var 7) (Var 7)) (Mul (Var 2) (Var 2)))) ∷ Eq (Var 9) (Sub (Mul (Mul (Var 6) (Var 6)) (Add (Mul (Var 0) (Var 3)) (Mul (Var 1) (Var 4)))) (Mul (Mul (Var 7) (Var 7)) (Mul (Var 2) (Var 5)))) ∷ Eq (Var 10) (Sub (Mul (Mul (Var 6) (Var 6)) (Add (Mul (Var 3) (Var 3)) (Mul (Var 4) (Var 4)))) (Mul (Mul (Var 7) (Var 7)) (Mul (Var 5) (Var 5)))) ∷ Lt (Add (Add (Mul (Var 8) (Mul (Var 11) (Var 11))) (Mul (Num (pos 2)) (Mul (Var 9) (Mul (Var 11) (Var 12))))) (Mul (Var 10) (Mul (Var 12) (Var 12)))) (Num (pos 0)) ∷ []) (Mul (Mul (Var 6) (Var 6)) (Add (Mul (Add (Mul (Var 11) (Var 0)) (Mul (Var 12) (Var 3))) (Add (Mul (Var 11) (Var 0)) (Mul (Var 12) (Var 3)))) (Mul (Add (Mul (Var 11) (Var 1)) (Mul (Var 12) (Var 4))) (Add (Mul (Var 11) (Var 1)) (Mul (Var 12) (Var 4)))))) (Mul (Mul (Var 7) (Var 7)) (Mul (Add (Mul (Var 11) (Var 2)) (Mul (Var 12) (Var 5))) (Add (Mul (Var 11) (Var 2)) (Mul (Var 12) (Var 5))))) (Plus (Hyp 0) (Plus (Hyp 4) (Plus (TimesEq 1 (Neg (Mul (Var 11) (Var 11)))) (Plus (TimesEq 2 (Neg (Mul (Mul (Num (pos 2)) (Var 11)) (Var 12)))) (TimesEq 3 (Neg (Mul (Var 12) (Var 12)))))))) 0 (ea, (eh, (eb, (f, tt)))) refl

-- vars px py pz qx qy qz m k a h b u v; hyp ea: a == m*m*(px*px+py*py)-k*k*(pz*pz); hyp eh: h == m*m*(px*qx+py*qy)-k*k*(pz*qz); hyp eb: b == m*m*(qx*qx+qy*qy)-k*k*(qz*qz); hyp s: (m*m)*((u*px+v*qx)*(u*px+v*qx)+(u*py+v*qy)*(u*py+v*qy)) < (k*k)*((u*pz+v*qz)*(u*pz+v*qz)); goal (a*(u*u)+2*(h*(u*v)))+b*(v*v) < 0; eqmul ea * (u*u); eqmul eh * (2*u*v); eqmul eb * (v*v)
pub steep_pair : (px py pz qx qy qz m k a h b u v : ℤ) → a ≡ (((m *ℤ m) *ℤ ((px *ℤ px) +ℤ (py *ℤ py))) -ℤ ((k *ℤ k) *ℤ (pz *ℤ pz))) → h ≡ (((m *ℤ m) *ℤ ((px *ℤ qx) +ℤ (py *ℤ qy))) -ℤ ((k *ℤ k) *ℤ (pz *ℤ qz))) → b ≡ (((m *ℤ m) *ℤ ((qx *ℤ qx) +ℤ (qy *ℤ qy))) -ℤ ((k *ℤ k) *ℤ (qz *ℤ qz))) → ((m *ℤ m) *ℤ ((((u *ℤ px) +ℤ (v *ℤ qx)) *ℤ ((u *ℤ px) +ℤ (v *ℤ qx))) +ℤ (((u *ℤ py) +ℤ (v *ℤ qy)) *ℤ ((u *ℤ py) +ℤ (v *ℤ qy))))) <ℤ ((k *ℤ k) *ℤ (((u *ℤ pz) +ℤ (v *ℤ qz)) *ℤ ((u *ℤ pz) +ℤ (v *ℤ qz)))) → (((a *ℤ (u *ℤ u)) +ℤ ((pos 2) *ℤ (h *ℤ (u *ℤ v)))) +ℤ (b *ℤ (v *ℤ v))) <ℤ (pos 0)
steep_pair px py pz qx qy qz m k a h b u v ea eh eb s = prove_lt_by (px ∷ py ∷ pz ∷ qx ∷ qy ∷ qz ∷ m ∷ k ∷ a ∷ h ∷ b ∷ u ∷ v ∷ []) (Eq (Var 8) (Sub (Mul (Mul (Var 6) (Var 6)) (Add (Mul (Var 0) (Var 0)) (Mul (Var 1) (Var 1)))) (Mul (Mul (Var 7) (Var 7)) (Mul (Var 2) (Var 2)))) ∷ Eq (Var 9) (Sub (Mul (Mul (Var 6) (Var 6)) (Add (Mul (Var 0) (Var 3)) (Mul (Var 1) (Var 4)))) (Mul (Mul (Var 7) (Var 7)) (Mul (Var 2) (Var 5)))) ∷ Eq (Var 10) (Sub (Mul (Mul (Var 6) (Var 6)) (Add (Mul (Var 3) (Var 3)) (Mul (Var 4) (Var 4)))) (Mul (Mul (Var 7) (Var 7)) (Mul (Var 5) (Var 5)))) ∷ Lt (Mul (Mul (Var 6) (Var 6)) (Add (Mul (Add (Mul (Var 11) (Var 0)) (Mul (Var 12) (Var 3))) (Add (Mul (Var 11) (Var 0)) (Mul (Var 12) (Var 3)))) (Mul (Add (Mul (Var 11) (Var 1)) (Mul (Var 12) (Var 4))) (Add (Mul (Var 11) (Var 1)) (Mul (Var 12) (Var 4)))))) (Mul (Mul (Var 7) (Var 7)) (Mul (Add (Mul (Var 11) (Var 2)) (Mul (Var 12) (Var 5))) (Add (Mul (Var 11) (Var 2)) (Mul (Var 12) (Var 5))))) ∷ []) (Add (Add (Mul (Var 8) (Mul (Var 11) (Var 11))) (Mul (Num (pos 2)) (Mul (Var 9) (Mul (Var 11) (Var 12))))) (Mul (Var 10) (Mul (Var 12) (Var 12)))) (Num (pos 0)) (Plus (Hyp 0) (Plus (Hyp 4) (Plus (TimesEq 1 (Mul (Var 11) (Var 11))) (Plus (TimesEq 2 (Mul (Mul (Num (pos 2)) (Var 11)) (Var 12))) (TimesEq 3 (Mul (Var 12) (Var 12))))))) 0 (ea, (eh, (eb, (s, tt)))) refl

-- vars u v p q f g m k r; hyp ep: p == k*f-m*r; hyp eq: q == k*g-m*r; hyp h: 0 <= u*p+v*q; goal m*(r*(u+v)) <= k*(u*f+v*g); eqmul ep * u; eqmul eq * v
pub level_two : (u v p q f g m k r : ℤ) → p ≡ ((k *ℤ f) -ℤ (m *ℤ r)) → q ≡ ((k *ℤ g) -ℤ (m *ℤ r)) → (pos 0) ≤ℤ ((u *ℤ p) +ℤ (v *ℤ q)) → (m *ℤ (r *ℤ (u +ℤ v))) ≤ℤ (k *ℤ ((u *ℤ f) +ℤ (v *ℤ g)))
level_two u v p q f g m k r ep eq h = prove_le_by (u ∷ v ∷ p ∷ q ∷ f ∷ g ∷ m ∷ k ∷ r ∷ []) (Eq (Var 2) (Sub (Mul (Var 7) (Var 4)) (Mul (Var 6) (Var 8))) ∷ Eq (Var 3) (Sub (Mul (Var 7) (Var 5)) (Mul (Var 6) (Var 8))) ∷ Le (Num (pos 0)) (Add (Mul (Var 0) (Var 2)) (Mul (Var 1) (Var 3))) ∷ []) (Mul (Var 6) (Mul (Var 8) (Add (Var 0) (Var 1)))) (Mul (Var 7) (Add (Mul (Var 0) (Var 4)) (Mul (Var 1) (Var 5)))) (Plus (Hyp 0) (Plus (Hyp 3) (Plus (TimesEq 1 (Var 0)) (TimesEq 2 (Var 1))))) 0 (ep, (eq, (h, tt))) refl

-- vars u v p q f g m k r; hyp ep: p == k*f-m*r; hyp eq: q == k*g-m*r; hyp h: u*p+v*q <= 0; goal k*(u*f+v*g) <= m*(r*(u+v)); eqmul ep * u; eqmul eq * v
pub level_two_back : (u v p q f g m k r : ℤ) → p ≡ ((k *ℤ f) -ℤ (m *ℤ r)) → q ≡ ((k *ℤ g) -ℤ (m *ℤ r)) → ((u *ℤ p) +ℤ (v *ℤ q)) ≤ℤ (pos 0) → (k *ℤ ((u *ℤ f) +ℤ (v *ℤ g))) ≤ℤ (m *ℤ (r *ℤ (u +ℤ v)))
level_two_back u v p q f g m k r ep eq h = prove_le_by (u ∷ v ∷ p ∷ q ∷ f ∷ g ∷ m ∷ k ∷ r ∷ []) (Eq (Var 2) (Sub (Mul (Var 7) (Var 4)) (Mul (Var 6) (Var 8))) ∷ Eq (Var 3) (Sub (Mul (Var 7) (Var 5)) (Mul (Var 6) (Var 8))) ∷ Le (Add (Mul (Var 0) (Var 2)) (Mul (Var 1) (Var 3))) (Num (pos 0)) ∷ []) (Mul (Var 7) (Add (Mul (Var 0) (Var 4)) (Mul (Var 1) (Var 5)))) (Mul (Var 6) (Mul (Var 8) (Add (Var 0) (Var 1)))) (Plus (Hyp 0) (Plus (Hyp 3) (Plus (TimesEq 1 (Neg (Var 0))) (TimesEq 2 (Neg (Var 1)))))) 0 (ep, (eq, (h, tt))) refl

-- vars u v w p q s f g h m k r; hyp ep: p == k*f-m*r; hyp eq: q == k*g-m*r; hyp es: s == k*h-m*r; hyp l: 0 <= (u*p+v*q)+w*s; goal m*(r*((u+v)+w)) <= k*((u*f+v*g)+w*h); eqmul ep * u; eqmul eq * v; eqmul es * w
pub level_three : (u v w p q s f g h m k r : ℤ) → p ≡ ((k *ℤ f) -ℤ (m *ℤ r)) → q ≡ ((k *ℤ g) -ℤ (m *ℤ r)) → s ≡ ((k *ℤ h) -ℤ (m *ℤ r)) → (pos 0) ≤ℤ (((u *ℤ p) +ℤ (v *ℤ q)) +ℤ (w *ℤ s)) → (m *ℤ (r *ℤ ((u +ℤ v) +ℤ w))) ≤ℤ (k *ℤ (((u *ℤ f) +ℤ (v *ℤ g)) +ℤ (w *ℤ h)))
level_three u v w p q s f g h m k r ep eq es l = prove_le_by (u ∷ v ∷ w ∷ p ∷ q ∷ s ∷ f ∷ g ∷ h ∷ m ∷ k ∷ r ∷ []) (Eq (Var 3) (Sub (Mul (Var 10) (Var 6)) (Mul (Var 9) (Var 11))) ∷ Eq (Var 4) (Sub (Mul (Var 10) (Var 7)) (Mul (Var 9) (Var 11))) ∷ Eq (Var 5) (Sub (Mul (Var 10) (Var 8)) (Mul (Var 9) (Var 11))) ∷ Le (Num (pos 0)) (Add (Add (Mul (Var 0) (Var 3)) (Mul (Var 1) (Var 4))) (Mul (Var 2) (Var 5))) ∷ []) (Mul (Var 9) (Mul (Var 11) (Add (Add (Var 0) (Var 1)) (Var 2)))) (Mul (Var 10) (Add (Add (Mul (Var 0) (Var 6)) (Mul (Var 1) (Var 7))) (Mul (Var 2) (Var 8)))) (Plus (Hyp 0) (Plus (Hyp 4) (Plus (TimesEq 1 (Var 0)) (Plus (TimesEq 2 (Var 1)) (TimesEq 3 (Var 2)))))) 0 (ep, (eq, (es, (l, tt)))) refl

-- vars u v w p q s f g h m k r; hyp ep: p == k*f-m*r; hyp eq: q == k*g-m*r; hyp es: s == k*h-m*r; hyp l: (u*p+v*q)+w*s <= 0; goal k*((u*f+v*g)+w*h) <= m*(r*((u+v)+w)); eqmul ep * u; eqmul eq * v; eqmul es * w
pub level_three_back : (u v w p q s f g h m k r : ℤ) → p ≡ ((k *ℤ f) -ℤ (m *ℤ r)) → q ≡ ((k *ℤ g) -ℤ (m *ℤ r)) → s ≡ ((k *ℤ h) -ℤ (m *ℤ r)) → (((u *ℤ p) +ℤ (v *ℤ q)) +ℤ (w *ℤ s)) ≤ℤ (pos 0) → (k *ℤ (((u *ℤ f) +ℤ (v *ℤ g)) +ℤ (w *ℤ h))) ≤ℤ (m *ℤ (r *ℤ ((u +ℤ v) +ℤ w)))
level_three_back u v w p q s f g h m k r ep eq es l = prove_le_by (u ∷ v ∷ w ∷ p ∷ q ∷ s ∷ f ∷ g ∷ h ∷ m ∷ k ∷ r ∷ []) (Eq (Var 3) (Sub (Mul (Var 10) (Var 6)) (Mul (Var 9) (Var 11))) ∷ Eq (Var 4) (Sub (Mul (Var 10) (Var 7)) (Mul (Var 9) (Var 11))) ∷ Eq (Var 5) (Sub (Mul (Var 10) (Var 8)) (Mul (Var 9) (Var 11))) ∷ Le (Add (Add (Mul (Var 0) (Var 3)) (Mul (Var 1) (Var 4))) (Mul (Var 2) (Var 5))) (Num (pos 0)) ∷ []) (Mul (Var 10) (Add (Add (Mul (Var 0) (Var 6)) (Mul (Var 1) (Var 7))) (Mul (Var 2) (Var 8)))) (Mul (Var 9) (Mul (Var 11) (Add (Add (Var 0) (Var 1)) (Var 2)))) (Plus (Hyp 0) (Plus (Hyp 4) (Plus (TimesEq 1 (Neg (Var 0))) (Plus (TimesEq 2 (Neg (Var 1))) (TimesEq 3 (Neg (Var 2))))))) 0 (ep, (eq, (es, (l, tt)))) refl

-- vars u v p q; hyp hu: 0 <= u; hyp hv: 0 <= v; hyp hp: p <= 0; hyp hq: q <= 0; goal u*p+v*q <= 0; mul hu * hp; mul hv * hq
pub low_pair : (u v p q : ℤ) → (pos 0) ≤ℤ u → (pos 0) ≤ℤ v → p ≤ℤ (pos 0) → q ≤ℤ (pos 0) → ((u *ℤ p) +ℤ (v *ℤ q)) ≤ℤ (pos 0)
low_pair u v p q hu hv hp hq = prove_le_by (u ∷ v ∷ p ∷ q ∷ []) (Le (Num (pos 0)) (Var 0) ∷ Le (Num (pos 0)) (Var 1) ∷ Le (Var 2) (Num (pos 0)) ∷ Le (Var 3) (Num (pos 0)) ∷ []) (Add (Mul (Var 0) (Var 2)) (Mul (Var 1) (Var 3))) (Num (pos 0)) (Plus (Hyp 0) (Plus (Times (Hyp 1) (Hyp 3)) (Times (Hyp 2) (Hyp 4)))) 0 (hu, (hv, (hp, (hq, tt)))) refl

-- vars u v p q; hyp hu: 0 <= u; hyp hv: 0 <= v; hyp hp: 0 <= p; hyp hq: 0 <= q; goal 0 <= u*p+v*q; mul hu * hp; mul hv * hq
pub high_pair : (u v p q : ℤ) → (pos 0) ≤ℤ u → (pos 0) ≤ℤ v → (pos 0) ≤ℤ p → (pos 0) ≤ℤ q → (pos 0) ≤ℤ ((u *ℤ p) +ℤ (v *ℤ q))
high_pair u v p q hu hv hp hq = prove_le_by (u ∷ v ∷ p ∷ q ∷ []) (Le (Num (pos 0)) (Var 0) ∷ Le (Num (pos 0)) (Var 1) ∷ Le (Num (pos 0)) (Var 2) ∷ Le (Num (pos 0)) (Var 3) ∷ []) (Num (pos 0)) (Add (Mul (Var 0) (Var 2)) (Mul (Var 1) (Var 3))) (Plus (Hyp 0) (Plus (Times (Hyp 1) (Hyp 3)) (Times (Hyp 2) (Hyp 4)))) 0 (hu, (hv, (hp, (hq, tt)))) refl

-- vars u v w p q s; hyp hu: 0 <= u; hyp hv: 0 <= v; hyp hw: 0 <= w; hyp hp: p <= 0; hyp hq: q <= 0; hyp hs: s <= 0; goal (u*p+v*q)+w*s <= 0; mul hu * hp; mul hv * hq; mul hw * hs
pub low_three : (u v w p q s : ℤ) → (pos 0) ≤ℤ u → (pos 0) ≤ℤ v → (pos 0) ≤ℤ w → p ≤ℤ (pos 0) → q ≤ℤ (pos 0) → s ≤ℤ (pos 0) → (((u *ℤ p) +ℤ (v *ℤ q)) +ℤ (w *ℤ s)) ≤ℤ (pos 0)
low_three u v w p q s hu hv hw hp hq hs = prove_le_by (u ∷ v ∷ w ∷ p ∷ q ∷ s ∷ []) (Le (Num (pos 0)) (Var 0) ∷ Le (Num (pos 0)) (Var 1) ∷ Le (Num (pos 0)) (Var 2) ∷ Le (Var 3) (Num (pos 0)) ∷ Le (Var 4) (Num (pos 0)) ∷ Le (Var 5) (Num (pos 0)) ∷ []) (Add (Add (Mul (Var 0) (Var 3)) (Mul (Var 1) (Var 4))) (Mul (Var 2) (Var 5))) (Num (pos 0)) (Plus (Hyp 0) (Plus (Times (Hyp 1) (Hyp 4)) (Plus (Times (Hyp 2) (Hyp 5)) (Times (Hyp 3) (Hyp 6))))) 0 (hu, (hv, (hw, (hp, (hq, (hs, tt)))))) refl

-- vars p q f g m k r; hyp ep: p == k*f-m*r; hyp eq: q == k*g-m*r; hyp hk: 0 < k; hyp h: f <= g; goal p <= q; mul hk+ * h
pub over_order : (p q f g m k r : ℤ) → p ≡ ((k *ℤ f) -ℤ (m *ℤ r)) → q ≡ ((k *ℤ g) -ℤ (m *ℤ r)) → (pos 0) <ℤ k → f ≤ℤ g → p ≤ℤ q
over_order p q f g m k r ep eq hk h = prove_le_by (p ∷ q ∷ f ∷ g ∷ m ∷ k ∷ r ∷ []) (Eq (Var 0) (Sub (Mul (Var 5) (Var 2)) (Mul (Var 4) (Var 6))) ∷ Eq (Var 1) (Sub (Mul (Var 5) (Var 3)) (Mul (Var 4) (Var 6))) ∷ Lt (Num (pos 0)) (Var 5) ∷ Le (Var 2) (Var 3) ∷ []) (Var 0) (Var 1) (Plus (Hyp 0) (Plus (TimesEq 1 (Num (pos 1))) (Plus (TimesEq 2 (Num (negsuc 0))) (Times (Plus (Hyp 3) (Lit 1)) (Hyp 4))))) 0 (ep, (eq, (hk, (h, tt)))) refl

-- vars p q f g m k r; hyp ep: p == k*f-m*r; hyp eq: q == k*g-m*r; hyp hk: 0 < k; hyp h: p < q; goal f < g; mul goal * hk+
pub over_order_strict : (p q f g m k r : ℤ) → p ≡ ((k *ℤ f) -ℤ (m *ℤ r)) → q ≡ ((k *ℤ g) -ℤ (m *ℤ r)) → (pos 0) <ℤ k → p <ℤ q → f <ℤ g
over_order_strict p q f g m k r ep eq hk h = prove_lt_by (p ∷ q ∷ f ∷ g ∷ m ∷ k ∷ r ∷ []) (Eq (Var 0) (Sub (Mul (Var 5) (Var 2)) (Mul (Var 4) (Var 6))) ∷ Eq (Var 1) (Sub (Mul (Var 5) (Var 3)) (Mul (Var 4) (Var 6))) ∷ Lt (Num (pos 0)) (Var 5) ∷ Lt (Var 0) (Var 1) ∷ []) (Var 2) (Var 3) (Plus (TimesEq 1 (Num (negsuc 0))) (Plus (TimesEq 2 (Num (pos 1))) (Plus (Hyp 4) (Times (Hyp 0) (Plus (Hyp 3) (Lit 1)))))) 0 (ep, (eq, (hk, (h, tt)))) refl

-- vars u v p q; hyp h: 0 <= v*(0-q)+u*(0-p); goal u*p+v*q <= 0
pub flip_level : (u v p q : ℤ) → (pos 0) ≤ℤ ((v *ℤ ((pos 0) -ℤ q)) +ℤ (u *ℤ ((pos 0) -ℤ p))) → ((u *ℤ p) +ℤ (v *ℤ q)) ≤ℤ (pos 0)
flip_level u v p q h = prove_le_by (u ∷ v ∷ p ∷ q ∷ []) (Le (Num (pos 0)) (Add (Mul (Var 1) (Sub (Num (pos 0)) (Var 3))) (Mul (Var 0) (Sub (Num (pos 0)) (Var 2)))) ∷ []) (Add (Mul (Var 0) (Var 2)) (Mul (Var 1) (Var 3))) (Num (pos 0)) (Plus (Hyp 0) (Hyp 1)) 0 (h, tt) refl

-- vars u v p q; hyp h: u*p+v*q <= 0; goal 0 <= v*(0-q)+u*(0-p)
pub flip_level_back : (u v p q : ℤ) → ((u *ℤ p) +ℤ (v *ℤ q)) ≤ℤ (pos 0) → (pos 0) ≤ℤ ((v *ℤ ((pos 0) -ℤ q)) +ℤ (u *ℤ ((pos 0) -ℤ p)))
flip_level_back u v p q h = prove_le_by (u ∷ v ∷ p ∷ q ∷ []) (Le (Add (Mul (Var 0) (Var 2)) (Mul (Var 1) (Var 3))) (Num (pos 0)) ∷ []) (Num (pos 0)) (Add (Mul (Var 1) (Sub (Num (pos 0)) (Var 3))) (Mul (Var 0) (Sub (Num (pos 0)) (Var 2)))) (Plus (Hyp 0) (Hyp 1)) 0 (h, tt) refl
