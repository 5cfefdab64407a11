-- Polynomial facts behind where a leaf of a move lies.
-- Written by tools/certificates.py from tools/certificates/mill_sweep_leaf.spec.
use Rattle.std.proofs.Common.{[], ◌∷◌, refl}
use lib.IntN.{ℤ, pos, ◌+ℤ◌, ◌-ℤ◌, ◌*ℤ◌}
use lib.Signed.{◌<ℤ◌, ◌≤ℤ◌}
use Rattle.mill_base.proofs.Ring.{Var, Num, Add, Sub, Mul}
use Rattle.mill_base.proofs.Cert.{Le, Lt, Hyp, Sq, Lit, Plus, Times, refute, prove_le_by, prove_lt_by}

-- vars f t N j m k c e; hyp hl: j*m <= k*N; hyp hr: k*N <= (j+1)*m; hyp h0: (N-j)*f + j*t - N*c <= N*e; hyp h1: (N-(j+1))*f + (j+1)*t - N*c <= N*e; goal N*((m-k)*f + k*t - m*c) <= N*(m*e); mul hr * h0; mul hl * h1
pub leaf_high : (f t N j m k c e : ℤ) → (j *ℤ m) ≤ℤ (k *ℤ N) → (k *ℤ N) ≤ℤ ((j +ℤ (pos 1)) *ℤ m) → ((((N -ℤ j) *ℤ f) +ℤ (j *ℤ t)) -ℤ (N *ℤ c)) ≤ℤ (N *ℤ e) → ((((N -ℤ (j +ℤ (pos 1))) *ℤ f) +ℤ ((j +ℤ (pos 1)) *ℤ t)) -ℤ (N *ℤ c)) ≤ℤ (N *ℤ e) → (N *ℤ ((((m -ℤ k) *ℤ f) +ℤ (k *ℤ t)) -ℤ (m *ℤ c))) ≤ℤ (N *ℤ (m *ℤ e))
leaf_high f t N j m k c e hl hr h0 h1 = prove_le_by (f ∷ t ∷ N ∷ j ∷ m ∷ k ∷ c ∷ e ∷ []) (Le (Mul (Var 3) (Var 4)) (Mul (Var 5) (Var 2)) ∷ Le (Mul (Var 5) (Var 2)) (Mul (Add (Var 3) (Num (pos 1))) (Var 4)) ∷ Le (Sub (Add (Mul (Sub (Var 2) (Var 3)) (Var 0)) (Mul (Var 3) (Var 1))) (Mul (Var 2) (Var 6))) (Mul (Var 2) (Var 7)) ∷ Le (Sub (Add (Mul (Sub (Var 2) (Add (Var 3) (Num (pos 1)))) (Var 0)) (Mul (Add (Var 3) (Num (pos 1))) (Var 1))) (Mul (Var 2) (Var 6))) (Mul (Var 2) (Var 7)) ∷ []) (Mul (Var 2) (Sub (Add (Mul (Sub (Var 4) (Var 5)) (Var 0)) (Mul (Var 5) (Var 1))) (Mul (Var 4) (Var 6)))) (Mul (Var 2) (Mul (Var 4) (Var 7))) (Plus (Hyp 0) (Plus (Times (Hyp 2) (Hyp 3)) (Times (Hyp 1) (Hyp 4)))) 0 (hl, (hr, (h0, (h1, tt)))) refl

-- vars f t N j m k c e; hyp hl: j*m <= k*N; hyp hr: k*N <= (j+1)*m; hyp h0: 0 - ((N-j)*f + j*t - N*c) <= N*e; hyp h1: 0 - ((N-(j+1))*f + (j+1)*t - N*c) <= N*e; goal N*(0-((m-k)*f + k*t - m*c)) <= N*(m*e); mul hr * h0; mul hl * h1
pub leaf_low : (f t N j m k c e : ℤ) → (j *ℤ m) ≤ℤ (k *ℤ N) → (k *ℤ N) ≤ℤ ((j +ℤ (pos 1)) *ℤ m) → ((pos 0) -ℤ ((((N -ℤ j) *ℤ f) +ℤ (j *ℤ t)) -ℤ (N *ℤ c))) ≤ℤ (N *ℤ e) → ((pos 0) -ℤ ((((N -ℤ (j +ℤ (pos 1))) *ℤ f) +ℤ ((j +ℤ (pos 1)) *ℤ t)) -ℤ (N *ℤ c))) ≤ℤ (N *ℤ e) → (N *ℤ ((pos 0) -ℤ ((((m -ℤ k) *ℤ f) +ℤ (k *ℤ t)) -ℤ (m *ℤ c)))) ≤ℤ (N *ℤ (m *ℤ e))
leaf_low f t N j m k c e hl hr h0 h1 = prove_le_by (f ∷ t ∷ N ∷ j ∷ m ∷ k ∷ c ∷ e ∷ []) (Le (Mul (Var 3) (Var 4)) (Mul (Var 5) (Var 2)) ∷ Le (Mul (Var 5) (Var 2)) (Mul (Add (Var 3) (Num (pos 1))) (Var 4)) ∷ Le (Sub (Num (pos 0)) (Sub (Add (Mul (Sub (Var 2) (Var 3)) (Var 0)) (Mul (Var 3) (Var 1))) (Mul (Var 2) (Var 6)))) (Mul (Var 2) (Var 7)) ∷ Le (Sub (Num (pos 0)) (Sub (Add (Mul (Sub (Var 2) (Add (Var 3) (Num (pos 1)))) (Var 0)) (Mul (Add (Var 3) (Num (pos 1))) (Var 1))) (Mul (Var 2) (Var 6)))) (Mul (Var 2) (Var 7)) ∷ []) (Mul (Var 2) (Sub (Num (pos 0)) (Sub (Add (Mul (Sub (Var 4) (Var 5)) (Var 0)) (Mul (Var 5) (Var 1))) (Mul (Var 4) (Var 6))))) (Mul (Var 2) (Mul (Var 4) (Var 7))) (Plus (Hyp 0) (Plus (Times (Hyp 2) (Hyp 3)) (Times (Hyp 1) (Hyp 4)))) 0 (hl, (hr, (h0, (h1, tt)))) refl

-- vars f t N j m k z; hyp hl: j*m <= k*N; hyp hr: k*N <= (j+1)*m; hyp h0: N*z <= (N-j)*f + j*t; hyp h1: N*z <= (N-(j+1))*f + (j+1)*t; goal N*(m*z) <= N*((m-k)*f + k*t); mul hr * h0; mul hl * h1
pub leaf_over : (f t N j m k z : ℤ) → (j *ℤ m) ≤ℤ (k *ℤ N) → (k *ℤ N) ≤ℤ ((j +ℤ (pos 1)) *ℤ m) → (N *ℤ z) ≤ℤ (((N -ℤ j) *ℤ f) +ℤ (j *ℤ t)) → (N *ℤ z) ≤ℤ (((N -ℤ (j +ℤ (pos 1))) *ℤ f) +ℤ ((j +ℤ (pos 1)) *ℤ t)) → (N *ℤ (m *ℤ z)) ≤ℤ (N *ℤ (((m -ℤ k) *ℤ f) +ℤ (k *ℤ t)))
leaf_over f t N j m k z hl hr h0 h1 = prove_le_by (f ∷ t ∷ N ∷ j ∷ m ∷ k ∷ z ∷ []) (Le (Mul (Var 3) (Var 4)) (Mul (Var 5) (Var 2)) ∷ Le (Mul (Var 5) (Var 2)) (Mul (Add (Var 3) (Num (pos 1))) (Var 4)) ∷ Le (Mul (Var 2) (Var 6)) (Add (Mul (Sub (Var 2) (Var 3)) (Var 0)) (Mul (Var 3) (Var 1))) ∷ Le (Mul (Var 2) (Var 6)) (Add (Mul (Sub (Var 2) (Add (Var 3) (Num (pos 1)))) (Var 0)) (Mul (Add (Var 3) (Num (pos 1))) (Var 1))) ∷ []) (Mul (Var 2) (Mul (Var 4) (Var 6))) (Mul (Var 2) (Add (Mul (Sub (Var 4) (Var 5)) (Var 0)) (Mul (Var 5) (Var 1)))) (Plus (Hyp 0) (Plus (Times (Hyp 2) (Hyp 3)) (Times (Hyp 1) (Hyp 4)))) 0 (hl, (hr, (h0, (h1, tt)))) refl

-- vars n a b; hyp h0: 0 < n; hyp h: n*a < n*b; goal a < b; mul goal * h0; mul goal * h0+
pub scale_down : (n a b : ℤ) → (pos 0) <ℤ n → (n *ℤ a) <ℤ (n *ℤ b) → a <ℤ b
scale_down n a b h0 h = prove_lt_by (n ∷ a ∷ b ∷ []) (Lt (Num (pos 0)) (Var 0) ∷ Lt (Mul (Var 0) (Var 1)) (Mul (Var 0) (Var 2)) ∷ []) (Var 1) (Var 2) (Plus (Hyp 0) (Plus (Hyp 2) (Times (Hyp 0) (Hyp 1)))) 0 (h0, (h, tt)) refl

-- vars n a b; hyp h0: 0 < n; hyp h: n*a <= n*b; goal a <= b; mul goal * h0; mul goal * h0+
pub scale_down_le : (n a b : ℤ) → (pos 0) <ℤ n → (n *ℤ a) ≤ℤ (n *ℤ b) → a ≤ℤ b
scale_down_le n a b h0 h = prove_le_by (n ∷ a ∷ b ∷ []) (Lt (Num (pos 0)) (Var 0) ∷ Le (Mul (Var 0) (Var 1)) (Mul (Var 0) (Var 2)) ∷ []) (Var 1) (Var 2) (Plus (Hyp 0) (Plus (Hyp 1) (Plus (Hyp 2) (Times (Hyp 0) (Hyp 1))))) 0 (h0, (h, tt)) refl

-- vars t n e; hyp h0: t <= n*e; hyp h1: 0-t <= n*e; goal t*t <= n*n*(e*e); mul goal * h0; mul h0 * h1; pairs
pub box_sq : (t n e : ℤ) → t ≤ℤ (n *ℤ e) → ((pos 0) -ℤ t) ≤ℤ (n *ℤ e) → (t *ℤ t) ≤ℤ ((n *ℤ n) *ℤ (e *ℤ e))
box_sq t n e h0 h1 = prove_le_by (t ∷ n ∷ e ∷ []) (Le (Var 0) (Mul (Var 1) (Var 2)) ∷ Le (Sub (Num (pos 0)) (Var 0)) (Mul (Var 1) (Var 2)) ∷ []) (Mul (Var 0) (Var 0)) (Mul (Mul (Var 1) (Var 1)) (Mul (Var 2) (Var 2))) (Plus (Hyp 0) (Times (Hyp 1) (Hyp 2))) 0 (h0, (h1, tt)) refl

-- vars x y n ex ey r; hyp h0: x*x <= n*n*(ex*ex); hyp h1: y*y <= n*n*(ey*ey); hyp h2: ex*ex+ey*ey <= r*r; goal x*x+y*y <= (n*r)*(n*r); mul sq(n) * h2
pub reach_sq : (x y n ex ey r : ℤ) → (x *ℤ x) ≤ℤ ((n *ℤ n) *ℤ (ex *ℤ ex)) → (y *ℤ y) ≤ℤ ((n *ℤ n) *ℤ (ey *ℤ ey)) → ((ex *ℤ ex) +ℤ (ey *ℤ ey)) ≤ℤ (r *ℤ r) → ((x *ℤ x) +ℤ (y *ℤ y)) ≤ℤ ((n *ℤ r) *ℤ (n *ℤ r))
reach_sq x y n ex ey r h0 h1 h2 = prove_le_by (x ∷ y ∷ n ∷ ex ∷ ey ∷ r ∷ []) (Le (Mul (Var 0) (Var 0)) (Mul (Mul (Var 2) (Var 2)) (Mul (Var 3) (Var 3))) ∷ Le (Mul (Var 1) (Var 1)) (Mul (Mul (Var 2) (Var 2)) (Mul (Var 4) (Var 4))) ∷ Le (Add (Mul (Var 3) (Var 3)) (Mul (Var 4) (Var 4))) (Mul (Var 5) (Var 5)) ∷ []) (Add (Mul (Var 0) (Var 0)) (Mul (Var 1) (Var 1))) (Mul (Mul (Var 2) (Var 5)) (Mul (Var 2) (Var 5))) (Plus (Hyp 0) (Plus (Hyp 1) (Plus (Hyp 2) (Times (Sq (Var 2)) (Hyp 3))))) 0 (h0, (h1, (h2, tt))) refl

-- vars n x y q; hyp h: x*x+y*y <= q*q; goal (n*x)*(n*x)+(n*y)*(n*y) <= (n*q)*(n*q); mul sq(n) * h
pub scaled_sq : (n x y q : ℤ) → ((x *ℤ x) +ℤ (y *ℤ y)) ≤ℤ (q *ℤ q) → (((n *ℤ x) *ℤ (n *ℤ x)) +ℤ ((n *ℤ y) *ℤ (n *ℤ y))) ≤ℤ ((n *ℤ q) *ℤ (n *ℤ q))
scaled_sq n x y q h = prove_le_by (n ∷ x ∷ y ∷ q ∷ []) (Le (Add (Mul (Var 1) (Var 1)) (Mul (Var 2) (Var 2))) (Mul (Var 3) (Var 3)) ∷ []) (Add (Mul (Mul (Var 0) (Var 1)) (Mul (Var 0) (Var 1))) (Mul (Mul (Var 0) (Var 2)) (Mul (Var 0) (Var 2)))) (Mul (Mul (Var 0) (Var 3)) (Mul (Var 0) (Var 3))) (Plus (Hyp 0) (Times (Sq (Var 0)) (Hyp 1))) 0 (h, tt) refl

-- vars a b c; hyp ha: 0 < a; hyp hb: 0 < b; hyp hc: 0 <= c; goal 0 <= a*(b*c); mul goal * ha; mul ha * hb * hc; mul ha * hc; mul hb * hc
pub product_3 : (a b c : ℤ) → (pos 0) <ℤ a → (pos 0) <ℤ b → (pos 0) ≤ℤ c → (pos 0) ≤ℤ (a *ℤ (b *ℤ c))
product_3 a b c ha hb hc = prove_le_by (a ∷ b ∷ c ∷ []) (Lt (Num (pos 0)) (Var 0) ∷ Lt (Num (pos 0)) (Var 1) ∷ Le (Num (pos 0)) (Var 2) ∷ []) (Num (pos 0)) (Mul (Var 0) (Mul (Var 1) (Var 2))) (Plus (Hyp 0) (Plus (Hyp 3) (Plus (Times (Times (Hyp 1) (Hyp 2)) (Hyp 3)) (Plus (Times (Hyp 1) (Hyp 3)) (Times (Hyp 2) (Hyp 3)))))) 0 (ha, (hb, (hc, tt))) refl

-- vars a b; hyp ha: 0 < a; hyp hb: 0 < b; goal 0 <= a*b; mul ha+ * hb+
pub product_pos : (a b : ℤ) → (pos 0) <ℤ a → (pos 0) <ℤ b → (pos 0) ≤ℤ (a *ℤ b)
product_pos a b ha hb = prove_le_by (a ∷ b ∷ []) (Lt (Num (pos 0)) (Var 0) ∷ Lt (Num (pos 0)) (Var 1) ∷ []) (Num (pos 0)) (Mul (Var 0) (Var 1)) (Plus (Hyp 0) (Times (Plus (Hyp 1) (Lit 1)) (Plus (Hyp 2) (Lit 1)))) 0 (ha, (hb, tt)) refl

-- vars N j f t g; hyp h0: 0 <= j; hyp h1: j <= N; hyp hf: f <= g; hyp ht: t <= g; goal (N-j)*f + j*t <= N*g; mul h1 * hf; mul h0 * ht
pub end_high : (N j f t g : ℤ) → (pos 0) ≤ℤ j → j ≤ℤ N → f ≤ℤ g → t ≤ℤ g → (((N -ℤ j) *ℤ f) +ℤ (j *ℤ t)) ≤ℤ (N *ℤ g)
end_high N j f t g h0 h1 hf ht = prove_le_by (N ∷ j ∷ f ∷ t ∷ g ∷ []) (Le (Num (pos 0)) (Var 1) ∷ Le (Var 1) (Var 0) ∷ Le (Var 2) (Var 4) ∷ Le (Var 3) (Var 4) ∷ []) (Add (Mul (Sub (Var 0) (Var 1)) (Var 2)) (Mul (Var 1) (Var 3))) (Mul (Var 0) (Var 4)) (Plus (Hyp 0) (Plus (Times (Hyp 2) (Hyp 3)) (Times (Hyp 1) (Hyp 4)))) 0 (h0, (h1, (hf, (ht, tt)))) refl

-- vars N j f t g; hyp h0: 0 <= j; hyp h1: j <= N; hyp hf: 0-f <= g; hyp ht: 0-t <= g; goal 0-((N-j)*f + j*t) <= N*g; mul h1 * hf; mul h0 * ht
pub end_low : (N j f t g : ℤ) → (pos 0) ≤ℤ j → j ≤ℤ N → ((pos 0) -ℤ f) ≤ℤ g → ((pos 0) -ℤ t) ≤ℤ g → ((pos 0) -ℤ (((N -ℤ j) *ℤ f) +ℤ (j *ℤ t))) ≤ℤ (N *ℤ g)
end_low N j f t g h0 h1 hf ht = prove_le_by (N ∷ j ∷ f ∷ t ∷ g ∷ []) (Le (Num (pos 0)) (Var 1) ∷ Le (Var 1) (Var 0) ∷ Le (Sub (Num (pos 0)) (Var 2)) (Var 4) ∷ Le (Sub (Num (pos 0)) (Var 3)) (Var 4) ∷ []) (Sub (Num (pos 0)) (Add (Mul (Sub (Var 0) (Var 1)) (Var 2)) (Mul (Var 1) (Var 3)))) (Mul (Var 0) (Var 4)) (Plus (Hyp 0) (Plus (Times (Hyp 2) (Hyp 3)) (Times (Hyp 1) (Hyp 4)))) 0 (h0, (h1, (hf, (ht, tt)))) refl

-- vars N j f t c; hyp hc: 2*(((N-j)*f + j*t) + ((N-(j+1))*f + (j+1)*t)) < 2*((2*N)*c) + 2*N; hyp hl: f - t <= N; goal (N-j)*f + j*t - N*c <= N
pub near_high : (N j f t c : ℤ) → ((pos 2) *ℤ ((((N -ℤ j) *ℤ f) +ℤ (j *ℤ t)) +ℤ (((N -ℤ (j +ℤ (pos 1))) *ℤ f) +ℤ ((j +ℤ (pos 1)) *ℤ t)))) <ℤ (((pos 2) *ℤ (((pos 2) *ℤ N) *ℤ c)) +ℤ ((pos 2) *ℤ N)) → (f -ℤ t) ≤ℤ N → ((((N -ℤ j) *ℤ f) +ℤ (j *ℤ t)) -ℤ (N *ℤ c)) ≤ℤ N
near_high N j f t c hc hl = prove_le_by (N ∷ j ∷ f ∷ t ∷ c ∷ []) (Lt (Mul (Num (pos 2)) (Add (Add (Mul (Sub (Var 0) (Var 1)) (Var 2)) (Mul (Var 1) (Var 3))) (Add (Mul (Sub (Var 0) (Add (Var 1) (Num (pos 1)))) (Var 2)) (Mul (Add (Var 1) (Num (pos 1))) (Var 3))))) (Add (Mul (Num (pos 2)) (Mul (Mul (Num (pos 2)) (Var 0)) (Var 4))) (Mul (Num (pos 2)) (Var 0))) ∷ Le (Sub (Var 2) (Var 3)) (Var 0) ∷ []) (Sub (Add (Mul (Sub (Var 0) (Var 1)) (Var 2)) (Mul (Var 1) (Var 3))) (Mul (Var 0) (Var 4))) (Var 0) (Plus (Times (Lit 4) (Hyp 0)) (Plus (Hyp 1) (Times (Lit 2) (Hyp 2)))) 4 (hc, (hl, tt)) refl

-- vars N j f t c; hyp hc: 2*((2*N)*c) <= 2*(((N-j)*f + j*t) + ((N-(j+1))*f + (j+1)*t)) + 2*N; hyp hl: t - f <= N; goal 0 - ((N-j)*f + j*t - N*c) <= N
pub near_low : (N j f t c : ℤ) → ((pos 2) *ℤ (((pos 2) *ℤ N) *ℤ c)) ≤ℤ (((pos 2) *ℤ ((((N -ℤ j) *ℤ f) +ℤ (j *ℤ t)) +ℤ (((N -ℤ (j +ℤ (pos 1))) *ℤ f) +ℤ ((j +ℤ (pos 1)) *ℤ t)))) +ℤ ((pos 2) *ℤ N)) → (t -ℤ f) ≤ℤ N → ((pos 0) -ℤ ((((N -ℤ j) *ℤ f) +ℤ (j *ℤ t)) -ℤ (N *ℤ c))) ≤ℤ N
near_low N j f t c hc hl = prove_le_by (N ∷ j ∷ f ∷ t ∷ c ∷ []) (Le (Mul (Num (pos 2)) (Mul (Mul (Num (pos 2)) (Var 0)) (Var 4))) (Add (Mul (Num (pos 2)) (Add (Add (Mul (Sub (Var 0) (Var 1)) (Var 2)) (Mul (Var 1) (Var 3))) (Add (Mul (Sub (Var 0) (Add (Var 1) (Num (pos 1)))) (Var 2)) (Mul (Add (Var 1) (Num (pos 1))) (Var 3))))) (Mul (Num (pos 2)) (Var 0))) ∷ Le (Sub (Var 3) (Var 2)) (Var 0) ∷ []) (Sub (Num (pos 0)) (Sub (Add (Mul (Sub (Var 0) (Var 1)) (Var 2)) (Mul (Var 1) (Var 3))) (Mul (Var 0) (Var 4)))) (Var 0) (Plus (Times (Lit 4) (Hyp 0)) (Plus (Hyp 1) (Times (Lit 2) (Hyp 2)))) 3 (hc, (hl, tt)) refl

-- vars N j f t c; hyp hc: 2*(((N-j)*f + j*t) + ((N-(j+1))*f + (j+1)*t)) < 2*((2*N)*c) + 2*N; hyp hl: t - f <= N; goal (N-(j+1))*f + (j+1)*t - N*c <= N
pub near_high_last : (N j f t c : ℤ) → ((pos 2) *ℤ ((((N -ℤ j) *ℤ f) +ℤ (j *ℤ t)) +ℤ (((N -ℤ (j +ℤ (pos 1))) *ℤ f) +ℤ ((j +ℤ (pos 1)) *ℤ t)))) <ℤ (((pos 2) *ℤ (((pos 2) *ℤ N) *ℤ c)) +ℤ ((pos 2) *ℤ N)) → (t -ℤ f) ≤ℤ N → ((((N -ℤ (j +ℤ (pos 1))) *ℤ f) +ℤ ((j +ℤ (pos 1)) *ℤ t)) -ℤ (N *ℤ c)) ≤ℤ N
near_high_last N j f t c hc hl = prove_le_by (N ∷ j ∷ f ∷ t ∷ c ∷ []) (Lt (Mul (Num (pos 2)) (Add (Add (Mul (Sub (Var 0) (Var 1)) (Var 2)) (Mul (Var 1) (Var 3))) (Add (Mul (Sub (Var 0) (Add (Var 1) (Num (pos 1)))) (Var 2)) (Mul (Add (Var 1) (Num (pos 1))) (Var 3))))) (Add (Mul (Num (pos 2)) (Mul (Mul (Num (pos 2)) (Var 0)) (Var 4))) (Mul (Num (pos 2)) (Var 0))) ∷ Le (Sub (Var 3) (Var 2)) (Var 0) ∷ []) (Sub (Add (Mul (Sub (Var 0) (Add (Var 1) (Num (pos 1)))) (Var 2)) (Mul (Add (Var 1) (Num (pos 1))) (Var 3))) (Mul (Var 0) (Var 4))) (Var 0) (Plus (Times (Lit 4) (Hyp 0)) (Plus (Hyp 1) (Times (Lit 2) (Hyp 2)))) 4 (hc, (hl, tt)) refl

-- vars N j f t c; hyp hc: 2*((2*N)*c) <= 2*(((N-j)*f + j*t) + ((N-(j+1))*f + (j+1)*t)) + 2*N; hyp hl: f - t <= N; goal 0 - ((N-(j+1))*f + (j+1)*t - N*c) <= N
pub near_low_last : (N j f t c : ℤ) → ((pos 2) *ℤ (((pos 2) *ℤ N) *ℤ c)) ≤ℤ (((pos 2) *ℤ ((((N -ℤ j) *ℤ f) +ℤ (j *ℤ t)) +ℤ (((N -ℤ (j +ℤ (pos 1))) *ℤ f) +ℤ ((j +ℤ (pos 1)) *ℤ t)))) +ℤ ((pos 2) *ℤ N)) → (f -ℤ t) ≤ℤ N → ((pos 0) -ℤ ((((N -ℤ (j +ℤ (pos 1))) *ℤ f) +ℤ ((j +ℤ (pos 1)) *ℤ t)) -ℤ (N *ℤ c))) ≤ℤ N
near_low_last N j f t c hc hl = prove_le_by (N ∷ j ∷ f ∷ t ∷ c ∷ []) (Le (Mul (Num (pos 2)) (Mul (Mul (Num (pos 2)) (Var 0)) (Var 4))) (Add (Mul (Num (pos 2)) (Add (Add (Mul (Sub (Var 0) (Var 1)) (Var 2)) (Mul (Var 1) (Var 3))) (Add (Mul (Sub (Var 0) (Add (Var 1) (Num (pos 1)))) (Var 2)) (Mul (Add (Var 1) (Num (pos 1))) (Var 3))))) (Mul (Num (pos 2)) (Var 0))) ∷ Le (Sub (Var 2) (Var 3)) (Var 0) ∷ []) (Sub (Num (pos 0)) (Sub (Add (Mul (Sub (Var 0) (Add (Var 1) (Num (pos 1)))) (Var 2)) (Mul (Add (Var 1) (Num (pos 1))) (Var 3))) (Mul (Var 0) (Var 4)))) (Var 0) (Plus (Times (Lit 4) (Hyp 0)) (Plus (Hyp 1) (Times (Lit 2) (Hyp 2)))) 3 (hc, (hl, tt)) refl

-- vars j n k N; hyp h: j*n <= k*N; goal (2*j)*n <= k*(2*N)
pub half_from : (j n k N : ℤ) → (j *ℤ n) ≤ℤ (k *ℤ N) → (((pos 2) *ℤ j) *ℤ n) ≤ℤ (k *ℤ ((pos 2) *ℤ N))
half_from j n k N h = prove_le_by (j ∷ n ∷ k ∷ N ∷ []) (Le (Mul (Var 0) (Var 1)) (Mul (Var 2) (Var 3)) ∷ []) (Mul (Mul (Num (pos 2)) (Var 0)) (Var 1)) (Mul (Var 2) (Mul (Num (pos 2)) (Var 3))) (Plus (Hyp 0) (Times (Lit 2) (Hyp 1))) 0 (h, tt) refl

-- vars j n k N; hyp h: k*N <= (j+1)*n; goal k*(2*N) <= (2*j+1+1)*n
pub half_to : (j n k N : ℤ) → (k *ℤ N) ≤ℤ ((j +ℤ (pos 1)) *ℤ n) → (k *ℤ ((pos 2) *ℤ N)) ≤ℤ (((((pos 2) *ℤ j) +ℤ (pos 1)) +ℤ (pos 1)) *ℤ n)
half_to j n k N h = prove_le_by (j ∷ n ∷ k ∷ N ∷ []) (Le (Mul (Var 2) (Var 3)) (Mul (Add (Var 0) (Num (pos 1))) (Var 1)) ∷ []) (Mul (Var 2) (Mul (Num (pos 2)) (Var 3))) (Mul (Add (Add (Mul (Num (pos 2)) (Var 0)) (Num (pos 1))) (Num (pos 1))) (Var 1)) (Plus (Hyp 0) (Times (Lit 2) (Hyp 1))) 0 (h, tt) refl

-- vars u v w a b c top; hyp hu: 0 <= u; hyp hv: 0 <= v; hyp hw: 0 <= w; hyp ha: a <= top; hyp hb: b <= top; hyp hc: c <= top; goal (u*a+v*b)+w*c <= ((u+v)+w)*top; mul hu * ha; mul hv * hb; mul hw * hc
pub point_under : (u v w a b c top : ℤ) → (pos 0) ≤ℤ u → (pos 0) ≤ℤ v → (pos 0) ≤ℤ w → a ≤ℤ top → b ≤ℤ top → c ≤ℤ top → (((u *ℤ a) +ℤ (v *ℤ b)) +ℤ (w *ℤ c)) ≤ℤ (((u +ℤ v) +ℤ w) *ℤ top)
point_under u v w a b c top hu hv hw ha hb hc = prove_le_by (u ∷ v ∷ w ∷ a ∷ b ∷ c ∷ top ∷ []) (Le (Num (pos 0)) (Var 0) ∷ Le (Num (pos 0)) (Var 1) ∷ Le (Num (pos 0)) (Var 2) ∷ Le (Var 3) (Var 6) ∷ Le (Var 4) (Var 6) ∷ Le (Var 5) (Var 6) ∷ []) (Add (Add (Mul (Var 0) (Var 3)) (Mul (Var 1) (Var 4))) (Mul (Var 2) (Var 5))) (Mul (Add (Add (Var 0) (Var 1)) (Var 2)) (Var 6)) (Plus (Hyp 0) (Plus (Times (Hyp 1) (Hyp 4)) (Plus (Times (Hyp 2) (Hyp 5)) (Times (Hyp 3) (Hyp 6))))) 0 (hu, (hv, (hw, (ha, (hb, (hc, tt)))))) refl

-- vars m n tz pz zl top; hyp hm: 0 < m; hyp hn: 0 < n; hyp h: n*tz < m*pz; hyp hz: m*zl <= tz; hyp hp: pz <= n*top; goal zl < top; mul goal * hm+ * hn+; mul hn+ * hz; mul hm+ * hp
pub over_low : (m n tz pz zl top : ℤ) → (pos 0) <ℤ m → (pos 0) <ℤ n → (n *ℤ tz) <ℤ (m *ℤ pz) → (m *ℤ zl) ≤ℤ tz → pz ≤ℤ (n *ℤ top) → zl <ℤ top
over_low m n tz pz zl top hm hn h hz hp = prove_lt_by (m ∷ n ∷ tz ∷ pz ∷ zl ∷ top ∷ []) (Lt (Num (pos 0)) (Var 0) ∷ Lt (Num (pos 0)) (Var 1) ∷ Lt (Mul (Var 1) (Var 2)) (Mul (Var 0) (Var 3)) ∷ Le (Mul (Var 0) (Var 4)) (Var 2) ∷ Le (Var 3) (Mul (Var 1) (Var 5)) ∷ []) (Var 4) (Var 5) (Plus (Hyp 3) (Plus (Times (Times (Hyp 0) (Plus (Hyp 1) (Lit 1))) (Plus (Hyp 2) (Lit 1))) (Plus (Times (Plus (Hyp 2) (Lit 1)) (Hyp 4)) (Times (Plus (Hyp 1) (Lit 1)) (Hyp 5))))) 0 (hm, (hn, (h, (hz, (hp, tt))))) refl

-- vars u v w h t; hyp hu: 0 <= u; hyp hv: 0 <= v; hyp hw: 0 <= w; hyp ht: h <= t; goal (u*h+v*h)+w*h <= (u*t+v*t)+w*t; mul hu * ht; mul hv * ht; mul hw * ht
pub mean_rises : (u v w h t : ℤ) → (pos 0) ≤ℤ u → (pos 0) ≤ℤ v → (pos 0) ≤ℤ w → h ≤ℤ t → (((u *ℤ h) +ℤ (v *ℤ h)) +ℤ (w *ℤ h)) ≤ℤ (((u *ℤ t) +ℤ (v *ℤ t)) +ℤ (w *ℤ t))
mean_rises u v w h t hu hv hw ht = prove_le_by (u ∷ v ∷ w ∷ h ∷ t ∷ []) (Le (Num (pos 0)) (Var 0) ∷ Le (Num (pos 0)) (Var 1) ∷ Le (Num (pos 0)) (Var 2) ∷ Le (Var 3) (Var 4) ∷ []) (Add (Add (Mul (Var 0) (Var 3)) (Mul (Var 1) (Var 3))) (Mul (Var 2) (Var 3))) (Add (Add (Mul (Var 0) (Var 4)) (Mul (Var 1) (Var 4))) (Mul (Var 2) (Var 4))) (Plus (Hyp 0) (Plus (Times (Hyp 1) (Hyp 4)) (Plus (Times (Hyp 2) (Hyp 4)) (Times (Hyp 3) (Hyp 4))))) 0 (hu, (hv, (hw, (ht, tt)))) refl

-- vars s low high c q; hyp h: s + (low-c)*(low-c) < q; hyp hz: low <= high; hyp hc: high < c; goal s + (high-c)*(high-c) < q; mul hz * hc+; mul hz * hz
pub ball_rises : (s low high c q : ℤ) → (s +ℤ ((low -ℤ c) *ℤ (low -ℤ c))) <ℤ q → low ≤ℤ high → high <ℤ c → (s +ℤ ((high -ℤ c) *ℤ (high -ℤ c))) <ℤ q
ball_rises s low high c q h hz hc = prove_lt_by (s ∷ low ∷ high ∷ c ∷ q ∷ []) (Lt (Add (Var 0) (Mul (Sub (Var 1) (Var 3)) (Sub (Var 1) (Var 3)))) (Var 4) ∷ Le (Var 1) (Var 2) ∷ Lt (Var 2) (Var 3) ∷ []) (Add (Var 0) (Mul (Sub (Var 2) (Var 3)) (Sub (Var 2) (Var 3)))) (Var 4) (Plus (Hyp 0) (Plus (Hyp 1) (Plus (Times (Lit 2) (Times (Hyp 2) (Plus (Hyp 3) (Lit 1)))) (Times (Hyp 2) (Hyp 2))))) 0 (h, (hz, (hc, tt))) refl

-- vars s b low high; hyp h: s < (b*b)*(low*low); hyp hl: 0 < low; hyp hz: low <= high; goal s < (b*b)*(high*high); mul sq(b) * hz * hz; mul sq(b) * hl+ * hz
pub cone_rises : (s b low high : ℤ) → s <ℤ ((b *ℤ b) *ℤ (low *ℤ low)) → (pos 0) <ℤ low → low ≤ℤ high → s <ℤ ((b *ℤ b) *ℤ (high *ℤ high))
cone_rises s b low high h hl hz = prove_lt_by (s ∷ b ∷ low ∷ high ∷ []) (Lt (Var 0) (Mul (Mul (Var 1) (Var 1)) (Mul (Var 2) (Var 2))) ∷ Lt (Num (pos 0)) (Var 2) ∷ Le (Var 2) (Var 3) ∷ []) (Var 0) (Mul (Mul (Var 1) (Var 1)) (Mul (Var 3) (Var 3))) (Plus (Hyp 0) (Plus (Hyp 1) (Plus (Times (Times (Sq (Var 1)) (Hyp 3)) (Hyp 3)) (Times (Lit 2) (Times (Times (Sq (Var 1)) (Plus (Hyp 2) (Lit 1))) (Hyp 3)))))) 0 (h, (hl, (hz, tt))) refl

-- vars N j f t g; hyp h0: 0 <= j; hyp h1: j <= N; hyp hf: g <= f; hyp ht: g <= t; goal N*g <= (N-j)*f + j*t; mul h1 * hf; mul h0 * ht
pub end_least : (N j f t g : ℤ) → (pos 0) ≤ℤ j → j ≤ℤ N → g ≤ℤ f → g ≤ℤ t → (N *ℤ g) ≤ℤ (((N -ℤ j) *ℤ f) +ℤ (j *ℤ t))
end_least N j f t g h0 h1 hf ht = prove_le_by (N ∷ j ∷ f ∷ t ∷ g ∷ []) (Le (Num (pos 0)) (Var 1) ∷ Le (Var 1) (Var 0) ∷ Le (Var 4) (Var 2) ∷ Le (Var 4) (Var 3) ∷ []) (Mul (Var 0) (Var 4)) (Add (Mul (Sub (Var 0) (Var 1)) (Var 2)) (Mul (Var 1) (Var 3))) (Plus (Hyp 0) (Plus (Times (Hyp 2) (Hyp 3)) (Times (Hyp 1) (Hyp 4)))) 0 (h0, (h1, (hf, (ht, tt)))) refl

-- vars n g r z; hyp hn: 0 < n; hyp hr: 2*(n*r) <= 2*z+n; hyp hz: z <= n*g; goal r <= g; mul goal * hn; mul goal * hn+
pub mean_most : (n g r z : ℤ) → (pos 0) <ℤ n → ((pos 2) *ℤ (n *ℤ r)) ≤ℤ (((pos 2) *ℤ z) +ℤ n) → z ≤ℤ (n *ℤ g) → r ≤ℤ g
mean_most n g r z hn hr hz = prove_le_by (n ∷ g ∷ r ∷ z ∷ []) (Lt (Num (pos 0)) (Var 0) ∷ Le (Mul (Num (pos 2)) (Mul (Var 0) (Var 2))) (Add (Mul (Num (pos 2)) (Var 3)) (Var 0)) ∷ Le (Var 3) (Mul (Var 0) (Var 1)) ∷ []) (Var 2) (Var 1) (Plus (Times (Lit 2) (Hyp 0)) (Plus (Hyp 1) (Plus (Hyp 2) (Plus (Times (Lit 2) (Hyp 3)) (Times (Lit 2) (Times (Hyp 0) (Hyp 1))))))) 0 (hn, (hr, (hz, tt))) refl

-- vars n g r z; hyp hn: 0 < n; hyp hr: 2*z < 2*(n*r)+n; hyp hz: n*g <= z; goal g <= r; mul goal * hn; mul goal * hn+
pub mean_least : (n g r z : ℤ) → (pos 0) <ℤ n → ((pos 2) *ℤ z) <ℤ (((pos 2) *ℤ (n *ℤ r)) +ℤ n) → (n *ℤ g) ≤ℤ z → g ≤ℤ r
mean_least n g r z hn hr hz = prove_le_by (n ∷ g ∷ r ∷ z ∷ []) (Lt (Num (pos 0)) (Var 0) ∷ Lt (Mul (Num (pos 2)) (Var 3)) (Add (Mul (Num (pos 2)) (Mul (Var 0) (Var 2))) (Var 0)) ∷ Le (Mul (Var 0) (Var 1)) (Var 3) ∷ []) (Var 1) (Var 2) (Plus (Times (Lit 2) (Hyp 0)) (Plus (Hyp 1) (Plus (Hyp 2) (Plus (Times (Lit 2) (Hyp 3)) (Times (Lit 2) (Times (Hyp 0) (Hyp 1))))))) 1 (hn, (hr, (hz, tt))) refl

-- vars n q z g; hyp hn: 0 < n; hyp hq: z < n*q+n; hyp hz: n*g <= z; goal g <= q; mul goal * hn; mul goal * hn+
pub quotient_least : (n q z g : ℤ) → (pos 0) <ℤ n → z <ℤ ((n *ℤ q) +ℤ n) → (n *ℤ g) ≤ℤ z → g ≤ℤ q
quotient_least n q z g hn hq hz = prove_le_by (n ∷ q ∷ z ∷ g ∷ []) (Lt (Num (pos 0)) (Var 0) ∷ Lt (Var 2) (Add (Mul (Var 0) (Var 1)) (Var 0)) ∷ Le (Mul (Var 0) (Var 3)) (Var 2) ∷ []) (Var 3) (Var 1) (Plus (Hyp 0) (Plus (Hyp 2) (Plus (Hyp 3) (Times (Hyp 0) (Hyp 1))))) 0 (hn, (hq, (hz, tt))) refl

-- vars u v w a b c mx r; hyp hu: 0 <= u; hyp hv: 0 <= v; hyp hw: 0 <= w; hyp ha: mx+r <= a; hyp hb: mx+r <= b; hyp hc: mx+r <= c; goal ((u+v)+w)*(mx+r) <= (u*a+v*b)+w*c; mul hu * ha; mul hv * hb; mul hw * hc
pub point_east : (u v w a b c mx r : ℤ) → (pos 0) ≤ℤ u → (pos 0) ≤ℤ v → (pos 0) ≤ℤ w → (mx +ℤ r) ≤ℤ a → (mx +ℤ r) ≤ℤ b → (mx +ℤ r) ≤ℤ c → (((u +ℤ v) +ℤ w) *ℤ (mx +ℤ r)) ≤ℤ (((u *ℤ a) +ℤ (v *ℤ b)) +ℤ (w *ℤ c))
point_east u v w a b c mx r hu hv hw ha hb hc = prove_le_by (u ∷ v ∷ w ∷ a ∷ b ∷ c ∷ mx ∷ r ∷ []) (Le (Num (pos 0)) (Var 0) ∷ Le (Num (pos 0)) (Var 1) ∷ Le (Num (pos 0)) (Var 2) ∷ Le (Add (Var 6) (Var 7)) (Var 3) ∷ Le (Add (Var 6) (Var 7)) (Var 4) ∷ Le (Add (Var 6) (Var 7)) (Var 5) ∷ []) (Mul (Add (Add (Var 0) (Var 1)) (Var 2)) (Add (Var 6) (Var 7))) (Add (Add (Mul (Var 0) (Var 3)) (Mul (Var 1) (Var 4))) (Mul (Var 2) (Var 5))) (Plus (Hyp 0) (Plus (Times (Hyp 1) (Hyp 4)) (Plus (Times (Hyp 2) (Hyp 5)) (Times (Hyp 3) (Hyp 6))))) 0 (hu, (hv, (hw, (ha, (hb, (hc, tt)))))) refl

-- vars u v w a b c mx r; hyp hu: 0 <= u; hyp hv: 0 <= v; hyp hw: 0 <= w; hyp ha: a+r <= mx; hyp hb: b+r <= mx; hyp hc: c+r <= mx; goal (u*a+v*b)+w*c <= ((u+v)+w)*(mx-r); mul hu * ha; mul hv * hb; mul hw * hc
pub point_west : (u v w a b c mx r : ℤ) → (pos 0) ≤ℤ u → (pos 0) ≤ℤ v → (pos 0) ≤ℤ w → (a +ℤ r) ≤ℤ mx → (b +ℤ r) ≤ℤ mx → (c +ℤ r) ≤ℤ mx → (((u *ℤ a) +ℤ (v *ℤ b)) +ℤ (w *ℤ c)) ≤ℤ (((u +ℤ v) +ℤ w) *ℤ (mx -ℤ r))
point_west u v w a b c mx r hu hv hw ha hb hc = prove_le_by (u ∷ v ∷ w ∷ a ∷ b ∷ c ∷ mx ∷ r ∷ []) (Le (Num (pos 0)) (Var 0) ∷ Le (Num (pos 0)) (Var 1) ∷ Le (Num (pos 0)) (Var 2) ∷ Le (Add (Var 3) (Var 7)) (Var 6) ∷ Le (Add (Var 4) (Var 7)) (Var 6) ∷ Le (Add (Var 5) (Var 7)) (Var 6) ∷ []) (Add (Add (Mul (Var 0) (Var 3)) (Mul (Var 1) (Var 4))) (Mul (Var 2) (Var 5))) (Mul (Add (Add (Var 0) (Var 1)) (Var 2)) (Sub (Var 6) (Var 7))) (Plus (Hyp 0) (Plus (Times (Hyp 1) (Hyp 4)) (Plus (Times (Hyp 2) (Hyp 5)) (Times (Hyp 3) (Hyp 6))))) 0 (hu, (hv, (hw, (ha, (hb, (hc, tt)))))) refl

-- vars n px mx R q; hyp hn: 0 < n; hyp hq: q <= 2; hyp hp: n*(mx+(R+2)) <= px; hyp hx: 1*px - n*mx < (R+q)*(1*n); goal false; mul hn+ * hq
pub too_far_east : (n px mx R q : ℤ) → (pos 0) <ℤ n → q ≤ℤ (pos 2) → (n *ℤ (mx +ℤ (R +ℤ (pos 2)))) ≤ℤ px → (((pos 1) *ℤ px) -ℤ (n *ℤ mx)) <ℤ ((R +ℤ q) *ℤ ((pos 1) *ℤ n)) → ⊥
too_far_east n px mx R q hn hq hp hx = refute (n ∷ px ∷ mx ∷ R ∷ q ∷ []) (Lt (Num (pos 0)) (Var 0) ∷ Le (Var 4) (Num (pos 2)) ∷ Le (Mul (Var 0) (Add (Var 2) (Add (Var 3) (Num (pos 2))))) (Var 1) ∷ Lt (Sub (Mul (Num (pos 1)) (Var 1)) (Mul (Var 0) (Var 2))) (Mul (Add (Var 3) (Var 4)) (Mul (Num (pos 1)) (Var 0))) ∷ []) (Plus (Hyp 2) (Plus (Hyp 3) (Times (Plus (Hyp 0) (Lit 1)) (Hyp 1)))) 0 (hn, (hq, (hp, (hx, tt)))) refl

-- vars n px mx R q; hyp hn: 0 < n; hyp hq: q <= 2; hyp hp: px <= n*(mx-(R+2)); hyp hx: 0-(1*px - n*mx) < (R+q)*(1*n); goal false; mul hn+ * hq
pub too_far_west : (n px mx R q : ℤ) → (pos 0) <ℤ n → q ≤ℤ (pos 2) → px ≤ℤ (n *ℤ (mx -ℤ (R +ℤ (pos 2)))) → ((pos 0) -ℤ (((pos 1) *ℤ px) -ℤ (n *ℤ mx))) <ℤ ((R +ℤ q) *ℤ ((pos 1) *ℤ n)) → ⊥
too_far_west n px mx R q hn hq hp hx = refute (n ∷ px ∷ mx ∷ R ∷ q ∷ []) (Lt (Num (pos 0)) (Var 0) ∷ Le (Var 4) (Num (pos 2)) ∷ Le (Var 1) (Mul (Var 0) (Sub (Var 2) (Add (Var 3) (Num (pos 2))))) ∷ Lt (Sub (Num (pos 0)) (Sub (Mul (Num (pos 1)) (Var 1)) (Mul (Var 0) (Var 2)))) (Mul (Add (Var 3) (Var 4)) (Mul (Num (pos 1)) (Var 0))) ∷ []) (Plus (Hyp 2) (Plus (Hyp 3) (Times (Plus (Hyp 0) (Lit 1)) (Hyp 1)))) 0 (hn, (hq, (hp, (hx, tt)))) refl

-- vars N j f t g; hyp h: N*g <= (N-j)*f + j*t; goal (2*N)*g <= (2*N-2*j)*f + (2*j)*t
pub half_least : (N j f t g : ℤ) → (N *ℤ g) ≤ℤ (((N -ℤ j) *ℤ f) +ℤ (j *ℤ t)) → (((pos 2) *ℤ N) *ℤ g) ≤ℤ (((((pos 2) *ℤ N) -ℤ ((pos 2) *ℤ j)) *ℤ f) +ℤ (((pos 2) *ℤ j) *ℤ t))
half_least N j f t g h = prove_le_by (N ∷ j ∷ f ∷ t ∷ g ∷ []) (Le (Mul (Var 0) (Var 4)) (Add (Mul (Sub (Var 0) (Var 1)) (Var 2)) (Mul (Var 1) (Var 3))) ∷ []) (Mul (Mul (Num (pos 2)) (Var 0)) (Var 4)) (Add (Mul (Sub (Mul (Num (pos 2)) (Var 0)) (Mul (Num (pos 2)) (Var 1))) (Var 2)) (Mul (Mul (Num (pos 2)) (Var 1)) (Var 3))) (Plus (Hyp 0) (Times (Lit 2) (Hyp 1))) 0 (h, tt) refl

-- vars N j f t g; hyp h: (N-j)*f + j*t <= N*g; goal (2*N-2*j)*f + (2*j)*t <= (2*N)*g
pub half_most : (N j f t g : ℤ) → (((N -ℤ j) *ℤ f) +ℤ (j *ℤ t)) ≤ℤ (N *ℤ g) → (((((pos 2) *ℤ N) -ℤ ((pos 2) *ℤ j)) *ℤ f) +ℤ (((pos 2) *ℤ j) *ℤ t)) ≤ℤ (((pos 2) *ℤ N) *ℤ g)
half_most N j f t g h = prove_le_by (N ∷ j ∷ f ∷ t ∷ g ∷ []) (Le (Add (Mul (Sub (Var 0) (Var 1)) (Var 2)) (Mul (Var 1) (Var 3))) (Mul (Var 0) (Var 4)) ∷ []) (Add (Mul (Sub (Mul (Num (pos 2)) (Var 0)) (Mul (Num (pos 2)) (Var 1))) (Var 2)) (Mul (Mul (Num (pos 2)) (Var 1)) (Var 3))) (Mul (Mul (Num (pos 2)) (Var 0)) (Var 4)) (Plus (Hyp 0) (Times (Lit 2) (Hyp 1))) 0 (h, tt) refl

-- vars N j f t g; hyp h: N*g <= (N-j)*f + j*t; hyp k: N*g <= (N-(j+1))*f + (j+1)*t; goal (2*N)*g <= (2*N-(2*j+1))*f + (2*j+1)*t
pub joint_least : (N j f t g : ℤ) → (N *ℤ g) ≤ℤ (((N -ℤ j) *ℤ f) +ℤ (j *ℤ t)) → (N *ℤ g) ≤ℤ (((N -ℤ (j +ℤ (pos 1))) *ℤ f) +ℤ ((j +ℤ (pos 1)) *ℤ t)) → (((pos 2) *ℤ N) *ℤ g) ≤ℤ (((((pos 2) *ℤ N) -ℤ (((pos 2) *ℤ j) +ℤ (pos 1))) *ℤ f) +ℤ ((((pos 2) *ℤ j) +ℤ (pos 1)) *ℤ t))
joint_least N j f t g h k = prove_le_by (N ∷ j ∷ f ∷ t ∷ g ∷ []) (Le (Mul (Var 0) (Var 4)) (Add (Mul (Sub (Var 0) (Var 1)) (Var 2)) (Mul (Var 1) (Var 3))) ∷ Le (Mul (Var 0) (Var 4)) (Add (Mul (Sub (Var 0) (Add (Var 1) (Num (pos 1)))) (Var 2)) (Mul (Add (Var 1) (Num (pos 1))) (Var 3))) ∷ []) (Mul (Mul (Num (pos 2)) (Var 0)) (Var 4)) (Add (Mul (Sub (Mul (Num (pos 2)) (Var 0)) (Add (Mul (Num (pos 2)) (Var 1)) (Num (pos 1)))) (Var 2)) (Mul (Add (Mul (Num (pos 2)) (Var 1)) (Num (pos 1))) (Var 3))) (Plus (Hyp 0) (Plus (Hyp 1) (Hyp 2))) 0 (h, (k, tt)) refl

-- vars N j f t g; hyp h: (N-j)*f + j*t <= N*g; hyp k: (N-(j+1))*f + (j+1)*t <= N*g; goal (2*N-(2*j+1))*f + (2*j+1)*t <= (2*N)*g
pub joint_most : (N j f t g : ℤ) → (((N -ℤ j) *ℤ f) +ℤ (j *ℤ t)) ≤ℤ (N *ℤ g) → (((N -ℤ (j +ℤ (pos 1))) *ℤ f) +ℤ ((j +ℤ (pos 1)) *ℤ t)) ≤ℤ (N *ℤ g) → (((((pos 2) *ℤ N) -ℤ (((pos 2) *ℤ j) +ℤ (pos 1))) *ℤ f) +ℤ ((((pos 2) *ℤ j) +ℤ (pos 1)) *ℤ t)) ≤ℤ (((pos 2) *ℤ N) *ℤ g)
joint_most N j f t g h k = prove_le_by (N ∷ j ∷ f ∷ t ∷ g ∷ []) (Le (Add (Mul (Sub (Var 0) (Var 1)) (Var 2)) (Mul (Var 1) (Var 3))) (Mul (Var 0) (Var 4)) ∷ Le (Add (Mul (Sub (Var 0) (Add (Var 1) (Num (pos 1)))) (Var 2)) (Mul (Add (Var 1) (Num (pos 1))) (Var 3))) (Mul (Var 0) (Var 4)) ∷ []) (Add (Mul (Sub (Mul (Num (pos 2)) (Var 0)) (Add (Mul (Num (pos 2)) (Var 1)) (Num (pos 1)))) (Var 2)) (Mul (Add (Mul (Num (pos 2)) (Var 1)) (Num (pos 1))) (Var 3))) (Mul (Mul (Num (pos 2)) (Var 0)) (Var 4)) (Plus (Hyp 0) (Plus (Hyp 1) (Hyp 2))) 0 (h, (k, tt)) refl

-- vars N j f t g; hyp h: N*g <= (N-(j+1))*f + (j+1)*t; goal (2*N)*g <= (2*N-(2*j+1+1))*f + (2*j+1+1)*t
pub end_of_half_least : (N j f t g : ℤ) → (N *ℤ g) ≤ℤ (((N -ℤ (j +ℤ (pos 1))) *ℤ f) +ℤ ((j +ℤ (pos 1)) *ℤ t)) → (((pos 2) *ℤ N) *ℤ g) ≤ℤ (((((pos 2) *ℤ N) -ℤ ((((pos 2) *ℤ j) +ℤ (pos 1)) +ℤ (pos 1))) *ℤ f) +ℤ (((((pos 2) *ℤ j) +ℤ (pos 1)) +ℤ (pos 1)) *ℤ t))
end_of_half_least N j f t g h = prove_le_by (N ∷ j ∷ f ∷ t ∷ g ∷ []) (Le (Mul (Var 0) (Var 4)) (Add (Mul (Sub (Var 0) (Add (Var 1) (Num (pos 1)))) (Var 2)) (Mul (Add (Var 1) (Num (pos 1))) (Var 3))) ∷ []) (Mul (Mul (Num (pos 2)) (Var 0)) (Var 4)) (Add (Mul (Sub (Mul (Num (pos 2)) (Var 0)) (Add (Add (Mul (Num (pos 2)) (Var 1)) (Num (pos 1))) (Num (pos 1)))) (Var 2)) (Mul (Add (Add (Mul (Num (pos 2)) (Var 1)) (Num (pos 1))) (Num (pos 1))) (Var 3))) (Plus (Hyp 0) (Times (Lit 2) (Hyp 1))) 0 (h, tt) refl

-- vars N j f t g; hyp h: (N-(j+1))*f + (j+1)*t <= N*g; goal (2*N-(2*j+1+1))*f + (2*j+1+1)*t <= (2*N)*g
pub end_of_half_most : (N j f t g : ℤ) → (((N -ℤ (j +ℤ (pos 1))) *ℤ f) +ℤ ((j +ℤ (pos 1)) *ℤ t)) ≤ℤ (N *ℤ g) → (((((pos 2) *ℤ N) -ℤ ((((pos 2) *ℤ j) +ℤ (pos 1)) +ℤ (pos 1))) *ℤ f) +ℤ (((((pos 2) *ℤ j) +ℤ (pos 1)) +ℤ (pos 1)) *ℤ t)) ≤ℤ (((pos 2) *ℤ N) *ℤ g)
end_of_half_most N j f t g h = prove_le_by (N ∷ j ∷ f ∷ t ∷ g ∷ []) (Le (Add (Mul (Sub (Var 0) (Add (Var 1) (Num (pos 1)))) (Var 2)) (Mul (Add (Var 1) (Num (pos 1))) (Var 3))) (Mul (Var 0) (Var 4)) ∷ []) (Add (Mul (Sub (Mul (Num (pos 2)) (Var 0)) (Add (Add (Mul (Num (pos 2)) (Var 1)) (Num (pos 1))) (Num (pos 1)))) (Var 2)) (Mul (Add (Add (Mul (Num (pos 2)) (Var 1)) (Num (pos 1))) (Num (pos 1))) (Var 3))) (Mul (Mul (Num (pos 2)) (Var 0)) (Var 4)) (Plus (Hyp 0) (Times (Lit 2) (Hyp 1))) 0 (h, tt) refl

-- vars N m e q z; hyp hn: 0 <= N; hyp he: e <= q; hyp h: z - N*m <= N*e; goal z <= N*(m+q); mul hn * he
pub end_near_most : (N m e q z : ℤ) → (pos 0) ≤ℤ N → e ≤ℤ q → (z -ℤ (N *ℤ m)) ≤ℤ (N *ℤ e) → z ≤ℤ (N *ℤ (m +ℤ q))
end_near_most N m e q z hn he h = prove_le_by (N ∷ m ∷ e ∷ q ∷ z ∷ []) (Le (Num (pos 0)) (Var 0) ∷ Le (Var 2) (Var 3) ∷ Le (Sub (Var 4) (Mul (Var 0) (Var 1))) (Mul (Var 0) (Var 2)) ∷ []) (Var 4) (Mul (Var 0) (Add (Var 1) (Var 3))) (Plus (Hyp 0) (Plus (Hyp 3) (Times (Hyp 1) (Hyp 2)))) 0 (hn, (he, (h, tt))) refl

-- vars N m e q z; hyp hn: 0 <= N; hyp he: e <= q; hyp h: 0 - (z - N*m) <= N*e; goal N*(m-q) <= z; mul hn * he
pub end_near_least : (N m e q z : ℤ) → (pos 0) ≤ℤ N → e ≤ℤ q → ((pos 0) -ℤ (z -ℤ (N *ℤ m))) ≤ℤ (N *ℤ e) → (N *ℤ (m -ℤ q)) ≤ℤ z
end_near_least N m e q z hn he h = prove_le_by (N ∷ m ∷ e ∷ q ∷ z ∷ []) (Le (Num (pos 0)) (Var 0) ∷ Le (Var 2) (Var 3) ∷ Le (Sub (Num (pos 0)) (Sub (Var 4) (Mul (Var 0) (Var 1)))) (Mul (Var 0) (Var 2)) ∷ []) (Mul (Var 0) (Sub (Var 1) (Var 3))) (Var 4) (Plus (Hyp 0) (Plus (Hyp 3) (Times (Hyp 1) (Hyp 2)))) 0 (hn, (he, (h, tt))) refl
