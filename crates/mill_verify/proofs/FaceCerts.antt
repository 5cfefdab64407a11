-- Polynomial facts behind the law that a solid which holds a point of a fixture holds a point of its upper face.
-- Written by tools/certificates.py from tools/certificates/mill_verify_faces.spec.
use Rattle.std.proofs.Common.{◌≡◌, [], ◌∷◌, refl}
use lib.IntN.{ℤ, pos, ◌+ℤ◌, ◌-ℤ◌, ◌*ℤ◌}
use lib.Signed.{◌<ℤ◌, ◌≤ℤ◌}
use Rattle.mill_base.proofs.Ring.{Var, Num, Add, Sub, Mul, ring}
use Rattle.mill_base.proofs.Cert.{Le, Lt, Hyp, Lit, Plus, Times, prove_le_by}

-- vars m q k z t w; hyp hm: 0 < m; hyp hz: k*z <= w; goal k*(m*z - q*t) <= m*w - (k*q)*t; mul hm+ * hz
pub raised_over : (m q k z t w : ℤ) → (pos 0) <ℤ m → (k *ℤ z) ≤ℤ w → (k *ℤ ((m *ℤ z) -ℤ (q *ℤ t))) ≤ℤ ((m *ℤ w) -ℤ ((k *ℤ q) *ℤ t))
raised_over m q k z t w hm hz = prove_le_by (m ∷ q ∷ k ∷ z ∷ t ∷ w ∷ []) (Lt (Num (pos 0)) (Var 0) ∷ Le (Mul (Var 2) (Var 3)) (Var 5) ∷ []) (Mul (Var 2) (Sub (Mul (Var 0) (Var 3)) (Mul (Var 1) (Var 4)))) (Sub (Mul (Var 0) (Var 5)) (Mul (Mul (Var 2) (Var 1)) (Var 4))) (Plus (Hyp 0) (Times (Plus (Hyp 1) (Lit 1)) (Hyp 2))) 0 (hm, (hz, tt)) refl

pub offset_scaled : (m q k p t : ℤ) → ((m *ℤ (k *ℤ p)) -ℤ ((k *ℤ q) *ℤ t)) ≡ (k *ℤ ((m *ℤ p) -ℤ (q *ℤ t)))
offset_scaled m q k p t = ring (m ∷ q ∷ k ∷ p ∷ t ∷ []) (Sub (Mul (Var 0) (Mul (Var 2) (Var 3))) (Mul (Mul (Var 2) (Var 1)) (Var 4))) (Mul (Var 2) (Sub (Mul (Var 0) (Var 3)) (Mul (Var 1) (Var 4)))) refl

pub denominator_scaled : (m q k : ℤ) → (m *ℤ (k *ℤ q)) ≡ (k *ℤ (m *ℤ q))
denominator_scaled m q k = ring (m ∷ q ∷ k ∷ []) (Mul (Var 0) (Mul (Var 2) (Var 1))) (Mul (Var 2) (Mul (Var 0) (Var 1))) refl

-- vars q lo hi p; hyp right: q*lo <= p; hyp left: p <= q*hi; goal p - q*lo <= q*(hi - lo)
pub within_side : (q lo hi p : ℤ) → (q *ℤ lo) ≤ℤ p → p ≤ℤ (q *ℤ hi) → (p -ℤ (q *ℤ lo)) ≤ℤ (q *ℤ (hi -ℤ lo))
within_side q lo hi p right left = prove_le_by (q ∷ lo ∷ hi ∷ p ∷ []) (Le (Mul (Var 0) (Var 1)) (Var 3) ∷ Le (Var 3) (Mul (Var 0) (Var 2)) ∷ []) (Sub (Var 3) (Mul (Var 0) (Var 1))) (Mul (Var 0) (Sub (Var 2) (Var 1))) (Plus (Hyp 0) (Hyp 2)) 0 (right, (left, tt)) refl

-- vars q lo hi p; hyp hq: 0 < q; hyp flat: hi <= lo; hyp left: p <= q*hi; goal p - q*lo <= 0; mul hq+ * flat
pub no_side : (q lo hi p : ℤ) → (pos 0) <ℤ q → hi ≤ℤ lo → p ≤ℤ (q *ℤ hi) → (p -ℤ (q *ℤ lo)) ≤ℤ (pos 0)
no_side q lo hi p hq flat left = prove_le_by (q ∷ lo ∷ hi ∷ p ∷ []) (Lt (Num (pos 0)) (Var 0) ∷ Le (Var 2) (Var 1) ∷ Le (Var 3) (Mul (Var 0) (Var 2)) ∷ []) (Sub (Var 3) (Mul (Var 0) (Var 1))) (Num (pos 0)) (Plus (Hyp 0) (Plus (Hyp 3) (Times (Plus (Hyp 1) (Lit 1)) (Hyp 2)))) 0 (hq, (flat, (left, tt))) refl

-- vars w h q a; hyp hh: 0 < h; hyp far: a <= q*w; goal 0 <= (w*h)*q - h*a; mul hh+ * far
pub rest_weight : (w h q a : ℤ) → (pos 0) <ℤ h → a ≤ℤ (q *ℤ w) → (pos 0) ≤ℤ (((w *ℤ h) *ℤ q) -ℤ (h *ℤ a))
rest_weight w h q a hh far = prove_le_by (w ∷ h ∷ q ∷ a ∷ []) (Lt (Num (pos 0)) (Var 1) ∷ Le (Var 3) (Mul (Var 2) (Var 0)) ∷ []) (Num (pos 0)) (Sub (Mul (Mul (Var 0) (Var 1)) (Var 2)) (Mul (Var 1) (Var 3))) (Plus (Hyp 0) (Times (Plus (Hyp 1) (Lit 1)) (Hyp 2))) 0 (hh, (far, tt)) refl

-- vars h a; hyp hh: 0 < h; hyp ha: 0 <= a; goal 0 <= h*a; mul hh+ * ha
pub own_weight : (h a : ℤ) → (pos 0) <ℤ h → (pos 0) ≤ℤ a → (pos 0) ≤ℤ (h *ℤ a)
own_weight h a hh ha = prove_le_by (h ∷ a ∷ []) (Lt (Num (pos 0)) (Var 0) ∷ Le (Num (pos 0)) (Var 1) ∷ []) (Num (pos 0)) (Mul (Var 0) (Var 1)) (Plus (Hyp 0) (Times (Plus (Hyp 1) (Lit 1)) (Hyp 2))) 0 (hh, (ha, tt)) refl

pub right_weights : (w h q a c : ℤ) → ((w *ℤ h) *ℤ q) ≡ (((((w *ℤ h) *ℤ q) -ℤ (h *ℤ a)) +ℤ ((h *ℤ a) -ℤ (w *ℤ c))) +ℤ (w *ℤ c))
right_weights w h q a c = ring (w ∷ h ∷ q ∷ a ∷ c ∷ []) (Mul (Mul (Var 0) (Var 1)) (Var 2)) (Add (Add (Sub (Mul (Mul (Var 0) (Var 1)) (Var 2)) (Mul (Var 1) (Var 3))) (Sub (Mul (Var 1) (Var 3)) (Mul (Var 0) (Var 4)))) (Mul (Var 0) (Var 4))) refl

pub left_weights : (w h q a c : ℤ) → ((w *ℤ h) *ℤ q) ≡ (((((w *ℤ h) *ℤ q) -ℤ (w *ℤ c)) +ℤ (h *ℤ a)) +ℤ ((w *ℤ c) -ℤ (h *ℤ a)))
left_weights w h q a c = ring (w ∷ h ∷ q ∷ a ∷ c ∷ []) (Mul (Mul (Var 0) (Var 1)) (Var 2)) (Add (Add (Sub (Mul (Mul (Var 0) (Var 1)) (Var 2)) (Mul (Var 0) (Var 4))) (Mul (Var 1) (Var 3))) (Sub (Mul (Var 0) (Var 4)) (Mul (Var 1) (Var 3)))) refl

pub right_x : (w h q p lo hi c : ℤ) → ((((((w *ℤ h) *ℤ q) -ℤ (h *ℤ (p -ℤ (q *ℤ lo)))) *ℤ lo) +ℤ (((h *ℤ (p -ℤ (q *ℤ lo))) -ℤ (w *ℤ c)) *ℤ hi)) +ℤ ((w *ℤ c) *ℤ hi)) ≡ (((w *ℤ h) *ℤ (q *ℤ lo)) +ℤ (h *ℤ ((p -ℤ (q *ℤ lo)) *ℤ (hi -ℤ lo))))
right_x w h q p lo hi c = ring (w ∷ h ∷ q ∷ p ∷ lo ∷ hi ∷ c ∷ []) (Add (Add (Mul (Sub (Mul (Mul (Var 0) (Var 1)) (Var 2)) (Mul (Var 1) (Sub (Var 3) (Mul (Var 2) (Var 4))))) (Var 4)) (Mul (Sub (Mul (Var 1) (Sub (Var 3) (Mul (Var 2) (Var 4)))) (Mul (Var 0) (Var 6))) (Var 5))) (Mul (Mul (Var 0) (Var 6)) (Var 5))) (Add (Mul (Mul (Var 0) (Var 1)) (Mul (Var 2) (Var 4))) (Mul (Var 1) (Mul (Sub (Var 3) (Mul (Var 2) (Var 4))) (Sub (Var 5) (Var 4))))) refl

pub right_y : (w h q p lo hi a : ℤ) → ((((((w *ℤ h) *ℤ q) -ℤ (h *ℤ a)) *ℤ lo) +ℤ (((h *ℤ a) -ℤ (w *ℤ (p -ℤ (q *ℤ lo)))) *ℤ lo)) +ℤ ((w *ℤ (p -ℤ (q *ℤ lo))) *ℤ hi)) ≡ (((w *ℤ h) *ℤ (q *ℤ lo)) +ℤ (w *ℤ ((p -ℤ (q *ℤ lo)) *ℤ (hi -ℤ lo))))
right_y w h q p lo hi a = ring (w ∷ h ∷ q ∷ p ∷ lo ∷ hi ∷ a ∷ []) (Add (Add (Mul (Sub (Mul (Mul (Var 0) (Var 1)) (Var 2)) (Mul (Var 1) (Var 6))) (Var 4)) (Mul (Sub (Mul (Var 1) (Var 6)) (Mul (Var 0) (Sub (Var 3) (Mul (Var 2) (Var 4))))) (Var 4))) (Mul (Mul (Var 0) (Sub (Var 3) (Mul (Var 2) (Var 4)))) (Var 5))) (Add (Mul (Mul (Var 0) (Var 1)) (Mul (Var 2) (Var 4))) (Mul (Var 0) (Mul (Sub (Var 3) (Mul (Var 2) (Var 4))) (Sub (Var 5) (Var 4))))) refl

pub left_x : (w h q p lo hi c : ℤ) → ((((((w *ℤ h) *ℤ q) -ℤ (w *ℤ c)) *ℤ lo) +ℤ ((h *ℤ (p -ℤ (q *ℤ lo))) *ℤ hi)) +ℤ (((w *ℤ c) -ℤ (h *ℤ (p -ℤ (q *ℤ lo)))) *ℤ lo)) ≡ (((w *ℤ h) *ℤ (q *ℤ lo)) +ℤ (h *ℤ ((p -ℤ (q *ℤ lo)) *ℤ (hi -ℤ lo))))
left_x w h q p lo hi c = ring (w ∷ h ∷ q ∷ p ∷ lo ∷ hi ∷ c ∷ []) (Add (Add (Mul (Sub (Mul (Mul (Var 0) (Var 1)) (Var 2)) (Mul (Var 0) (Var 6))) (Var 4)) (Mul (Mul (Var 1) (Sub (Var 3) (Mul (Var 2) (Var 4)))) (Var 5))) (Mul (Sub (Mul (Var 0) (Var 6)) (Mul (Var 1) (Sub (Var 3) (Mul (Var 2) (Var 4))))) (Var 4))) (Add (Mul (Mul (Var 0) (Var 1)) (Mul (Var 2) (Var 4))) (Mul (Var 1) (Mul (Sub (Var 3) (Mul (Var 2) (Var 4))) (Sub (Var 5) (Var 4))))) refl

pub left_y : (w h q p lo hi a : ℤ) → ((((((w *ℤ h) *ℤ q) -ℤ (w *ℤ (p -ℤ (q *ℤ lo)))) *ℤ lo) +ℤ ((h *ℤ a) *ℤ hi)) +ℤ (((w *ℤ (p -ℤ (q *ℤ lo))) -ℤ (h *ℤ a)) *ℤ hi)) ≡ (((w *ℤ h) *ℤ (q *ℤ lo)) +ℤ (w *ℤ ((p -ℤ (q *ℤ lo)) *ℤ (hi -ℤ lo))))
left_y w h q p lo hi a = ring (w ∷ h ∷ q ∷ p ∷ lo ∷ hi ∷ a ∷ []) (Add (Add (Mul (Sub (Mul (Mul (Var 0) (Var 1)) (Var 2)) (Mul (Var 0) (Sub (Var 3) (Mul (Var 2) (Var 4))))) (Var 4)) (Mul (Mul (Var 1) (Var 6)) (Var 5))) (Mul (Sub (Mul (Var 0) (Sub (Var 3) (Mul (Var 2) (Var 4)))) (Mul (Var 1) (Var 6))) (Var 5))) (Add (Mul (Mul (Var 0) (Var 1)) (Mul (Var 2) (Var 4))) (Mul (Var 0) (Mul (Sub (Var 3) (Mul (Var 2) (Var 4))) (Sub (Var 5) (Var 4))))) refl

pub back_x : (w h q p lo : ℤ) → (((w *ℤ h) *ℤ (q *ℤ lo)) +ℤ (h *ℤ ((p -ℤ (q *ℤ lo)) *ℤ w))) ≡ ((w *ℤ h) *ℤ p)
back_x w h q p lo = ring (w ∷ h ∷ q ∷ p ∷ lo ∷ []) (Add (Mul (Mul (Var 0) (Var 1)) (Mul (Var 2) (Var 4))) (Mul (Var 1) (Mul (Sub (Var 3) (Mul (Var 2) (Var 4))) (Var 0)))) (Mul (Mul (Var 0) (Var 1)) (Var 3)) refl

pub back_y : (w h q p lo : ℤ) → (((w *ℤ h) *ℤ (q *ℤ lo)) +ℤ (w *ℤ ((p -ℤ (q *ℤ lo)) *ℤ h))) ≡ ((w *ℤ h) *ℤ p)
back_y w h q p lo = ring (w ∷ h ∷ q ∷ p ∷ lo ∷ []) (Add (Mul (Mul (Var 0) (Var 1)) (Mul (Var 2) (Var 4))) (Mul (Var 0) (Mul (Sub (Var 3) (Mul (Var 2) (Var 4))) (Var 1)))) (Mul (Mul (Var 0) (Var 1)) (Var 3)) refl

pub right_z : (w h q a c z : ℤ) → (((w *ℤ h) *ℤ q) *ℤ z) ≡ ((((((w *ℤ h) *ℤ q) -ℤ (h *ℤ a)) *ℤ z) +ℤ (((h *ℤ a) -ℤ (w *ℤ c)) *ℤ z)) +ℤ ((w *ℤ c) *ℤ z))
right_z w h q a c z = ring (w ∷ h ∷ q ∷ a ∷ c ∷ z ∷ []) (Mul (Mul (Mul (Var 0) (Var 1)) (Var 2)) (Var 5)) (Add (Add (Mul (Sub (Mul (Mul (Var 0) (Var 1)) (Var 2)) (Mul (Var 1) (Var 3))) (Var 5)) (Mul (Sub (Mul (Var 1) (Var 3)) (Mul (Var 0) (Var 4))) (Var 5))) (Mul (Mul (Var 0) (Var 4)) (Var 5))) refl

pub left_z : (w h q a c z : ℤ) → (((w *ℤ h) *ℤ q) *ℤ z) ≡ ((((((w *ℤ h) *ℤ q) -ℤ (w *ℤ c)) *ℤ z) +ℤ ((h *ℤ a) *ℤ z)) +ℤ (((w *ℤ c) -ℤ (h *ℤ a)) *ℤ z))
left_z w h q a c z = ring (w ∷ h ∷ q ∷ a ∷ c ∷ z ∷ []) (Mul (Mul (Mul (Var 0) (Var 1)) (Var 2)) (Var 5)) (Add (Add (Mul (Sub (Mul (Mul (Var 0) (Var 1)) (Var 2)) (Mul (Var 0) (Var 4))) (Var 5)) (Mul (Mul (Var 1) (Var 3)) (Var 5))) (Mul (Sub (Mul (Var 0) (Var 4)) (Mul (Var 1) (Var 3))) (Var 5))) refl

-- vars k q z h; hyp hk: 0 < k; hyp low: z <= q*h; goal k*z <= (k*q)*h; mul hk+ * low
pub scaled_low : (k q z h : ℤ) → (pos 0) <ℤ k → z ≤ℤ (q *ℤ h) → (k *ℤ z) ≤ℤ ((k *ℤ q) *ℤ h)
scaled_low k q z h hk low = prove_le_by (k ∷ q ∷ z ∷ h ∷ []) (Lt (Num (pos 0)) (Var 0) ∷ Le (Var 2) (Mul (Var 1) (Var 3)) ∷ []) (Mul (Var 0) (Var 2)) (Mul (Mul (Var 0) (Var 1)) (Var 3)) (Plus (Hyp 0) (Times (Plus (Hyp 1) (Lit 1)) (Hyp 2))) 0 (hk, (low, tt)) refl
