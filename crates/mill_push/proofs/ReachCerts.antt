-- Written by tools/certificates.py from tools/certificates/mill_push_reach.spec.
use Rattle.std.proofs.Common.{[], ◌∷◌, refl}
use lib.IntN.{ℤ, pos, ◌+ℤ◌, ◌-ℤ◌, ◌*ℤ◌}
use lib.Signed.{◌<ℤ◌, ◌≤ℤ◌}
use Rattle.mill_base.proofs.Ring.{Var, Num, Add, Sub, Mul}
use Rattle.mill_base.proofs.Cert.{Le, Lt, Hyp, Sq, Lit, Plus, Times, refute, prove_le_by, prove_lt_by}

-- vars p n t z; hyp h: p <= n*t; goal 1*p - n*z <= (1*n)*(t-z)
pub under_rise : (p n t z : ℤ) → p ≤ℤ (n *ℤ t) → (((pos 1) *ℤ p) -ℤ (n *ℤ z)) ≤ℤ (((pos 1) *ℤ n) *ℤ (t -ℤ z))
under_rise p n t z h = prove_le_by (p ∷ n ∷ t ∷ z ∷ []) (Le (Var 0) (Mul (Var 1) (Var 2)) ∷ []) (Sub (Mul (Num (pos 1)) (Var 0)) (Mul (Var 1) (Var 3))) (Mul (Mul (Num (pos 1)) (Var 1)) (Sub (Var 2) (Var 3))) (Plus (Hyp 0) (Hyp 1)) 0 (h, tt) refl

-- vars s r k n; hyp h: s < (r*r)*(n*n); hyp hk: r*r <= k*k; goal s < (k*k)*(n*n); mul hk * sq(n)
pub no_wider : (s r k n : ℤ) → s <ℤ ((r *ℤ r) *ℤ (n *ℤ n)) → (r *ℤ r) ≤ℤ (k *ℤ k) → s <ℤ ((k *ℤ k) *ℤ (n *ℤ n))
no_wider s r k n h hk = prove_lt_by (s ∷ r ∷ k ∷ n ∷ []) (Lt (Var 0) (Mul (Mul (Var 1) (Var 1)) (Mul (Var 3) (Var 3))) ∷ Le (Mul (Var 1) (Var 1)) (Mul (Var 2) (Var 2)) ∷ []) (Var 0) (Mul (Mul (Var 2) (Var 2)) (Mul (Var 3) (Var 3))) (Plus (Hyp 0) (Plus (Hyp 1) (Times (Hyp 2) (Sq (Var 3))))) 0 (h, (hk, tt)) refl

-- vars z r n c; hyp hn: 0 < n; hyp low: z <= n*c; hyp less: c < r; hyp high: r*n <= z; goal false; mul hn+ * less; mul hn+ * less+
pub under_centre : (z r n c : ℤ) → (pos 0) <ℤ n → z ≤ℤ (n *ℤ c) → c <ℤ r → (r *ℤ n) ≤ℤ z → ⊥
under_centre z r n c hn low less high = refute (z ∷ r ∷ n ∷ c ∷ []) (Lt (Num (pos 0)) (Var 2) ∷ Le (Var 0) (Mul (Var 2) (Var 3)) ∷ Lt (Var 3) (Var 1) ∷ Le (Mul (Var 1) (Var 2)) (Var 0) ∷ []) (Plus (Hyp 0) (Plus (Hyp 1) (Plus (Hyp 3) (Times (Plus (Hyp 0) (Lit 1)) (Hyp 2))))) 0 (hn, (low, (less, (high, tt)))) refl

-- vars s z r n c k; hyp hn: 0 < n; hyp low: z <= n*c; hyp less: c < r; hyp deep: s + (z-r*n)*(z-r*n) < (r*r)*(n*n); hyp root: c*(2*r-c) <= k*k; goal s < (k*k)*(n*n); mul low * low; mul low * hn+ * less+; mul root * sq(n)
pub in_sphere_under : (s z r n c k : ℤ) → (pos 0) <ℤ n → z ≤ℤ (n *ℤ c) → c <ℤ r → (s +ℤ ((z -ℤ (r *ℤ n)) *ℤ (z -ℤ (r *ℤ n)))) <ℤ ((r *ℤ r) *ℤ (n *ℤ n)) → (c *ℤ (((pos 2) *ℤ r) -ℤ c)) ≤ℤ (k *ℤ k) → s <ℤ ((k *ℤ k) *ℤ (n *ℤ n))
in_sphere_under s z r n c k hn low less deep root = prove_lt_by (s ∷ z ∷ r ∷ n ∷ c ∷ k ∷ []) (Lt (Num (pos 0)) (Var 3) ∷ Le (Var 1) (Mul (Var 3) (Var 4)) ∷ Lt (Var 4) (Var 2) ∷ Lt (Add (Var 0) (Mul (Sub (Var 1) (Mul (Var 2) (Var 3))) (Sub (Var 1) (Mul (Var 2) (Var 3))))) (Mul (Mul (Var 2) (Var 2)) (Mul (Var 3) (Var 3))) ∷ Le (Mul (Var 4) (Sub (Mul (Num (pos 2)) (Var 2)) (Var 4))) (Mul (Var 5) (Var 5)) ∷ []) (Var 0) (Mul (Mul (Var 5) (Var 5)) (Mul (Var 3) (Var 3))) (Plus (Hyp 0) (Plus (Hyp 4) (Plus (Times (Hyp 2) (Hyp 2)) (Plus (Times (Lit 2) (Times (Times (Hyp 2) (Plus (Hyp 1) (Lit 1))) (Plus (Hyp 3) (Lit 1)))) (Times (Hyp 5) (Sq (Var 3))))))) 0 (hn, (low, (less, (deep, (root, tt))))) refl

-- vars s z a b n c k; hyp hc: 0 < c; hyp hb: 0 < b; hyp hz: 0 < z; hyp low: z <= n*c; hyp wall: c*b <= k*a; hyp steep: (a*a)*s < (b*b)*(z*z); goal s < (k*k)*(n*n); mul goal * sq(a); mul low * low * sq(b); mul low * hz+ * sq(b); mul wall * wall * sq(n); mul wall * hc+ * hb+ * sq(n)
pub on_wall_under : (s z a b n c k : ℤ) → (pos 0) <ℤ c → (pos 0) <ℤ b → (pos 0) <ℤ z → z ≤ℤ (n *ℤ c) → (c *ℤ b) ≤ℤ (k *ℤ a) → ((a *ℤ a) *ℤ s) <ℤ ((b *ℤ b) *ℤ (z *ℤ z)) → s <ℤ ((k *ℤ k) *ℤ (n *ℤ n))
on_wall_under s z a b n c k hc hb hz low wall steep = prove_lt_by (s ∷ z ∷ a ∷ b ∷ n ∷ c ∷ k ∷ []) (Lt (Num (pos 0)) (Var 5) ∷ Lt (Num (pos 0)) (Var 3) ∷ Lt (Num (pos 0)) (Var 1) ∷ Le (Var 1) (Mul (Var 4) (Var 5)) ∷ Le (Mul (Var 5) (Var 3)) (Mul (Var 6) (Var 2)) ∷ Lt (Mul (Mul (Var 2) (Var 2)) (Var 0)) (Mul (Mul (Var 3) (Var 3)) (Mul (Var 1) (Var 1))) ∷ []) (Var 0) (Mul (Mul (Var 6) (Var 6)) (Mul (Var 4) (Var 4))) (Plus (Hyp 6) (Plus (Times (Hyp 0) (Sq (Var 2))) (Plus (Times (Times (Hyp 4) (Hyp 4)) (Sq (Var 3))) (Plus (Times (Lit 2) (Times (Times (Hyp 4) (Plus (Hyp 3) (Lit 1))) (Sq (Var 3)))) (Plus (Times (Times (Hyp 5) (Hyp 5)) (Sq (Var 4))) (Times (Lit 2) (Times (Times (Times (Hyp 5) (Plus (Hyp 1) (Lit 1))) (Plus (Hyp 2) (Lit 1))) (Sq (Var 4))))))))) 0 (hc, (hb, (hz, (low, (wall, (steep, tt)))))) refl

-- vars n h z; hyp hn: 0 < n; hyp hh: h <= 0; hyp low: z <= n*h; hyp hz: 0 < z; goal false; mul hn+ * hh
pub sunk : (n h z : ℤ) → (pos 0) <ℤ n → h ≤ℤ (pos 0) → z ≤ℤ (n *ℤ h) → (pos 0) <ℤ z → ⊥
sunk n h z hn hh low hz = refute (n ∷ h ∷ z ∷ []) (Lt (Num (pos 0)) (Var 0) ∷ Le (Var 1) (Num (pos 0)) ∷ Le (Var 2) (Mul (Var 0) (Var 1)) ∷ Lt (Num (pos 0)) (Var 2) ∷ []) (Plus (Hyp 2) (Plus (Hyp 3) (Times (Plus (Hyp 0) (Lit 1)) (Hyp 1)))) 0 (hn, (hh, (low, (hz, tt)))) refl

-- vars k c r; hyp hr: 0 < r; hyp root: (k-1)*(k-1) < c*(2*r-c); goal k <= r; square r-c; mul goal * goal; mul goal * hr+
pub root_most : (k c r : ℤ) → (pos 0) <ℤ r → ((k -ℤ (pos 1)) *ℤ (k -ℤ (pos 1))) <ℤ (c *ℤ (((pos 2) *ℤ r) -ℤ c)) → k ≤ℤ r
root_most k c r hr root = prove_le_by (k ∷ c ∷ r ∷ []) (Lt (Num (pos 0)) (Var 2) ∷ Lt (Mul (Sub (Var 0) (Num (pos 1))) (Sub (Var 0) (Num (pos 1)))) (Mul (Var 1) (Sub (Mul (Num (pos 2)) (Var 2)) (Var 1))) ∷ []) (Var 0) (Var 2) (Plus (Hyp 2) (Plus (Sq (Sub (Var 2) (Var 1))) (Plus (Times (Hyp 0) (Hyp 0)) (Times (Lit 2) (Times (Hyp 0) (Plus (Hyp 1) (Lit 1))))))) 0 (hr, (root, tt)) refl
