-- Polynomial facts behind the law that a cutter holds what is straight over a point that it holds.
-- Written by tools/certificates.py from tools/certificates/mill_shape_over.spec.
use Rattle.std.proofs.Common.{◌≡◌, [], ◌∷◌, refl}
use lib.IntN.{ℤ, pos, ◌+ℤ◌, ◌-ℤ◌, ◌*ℤ◌}
use lib.Signed.{◌<ℤ◌, ◌≤ℤ◌}
use Rattle.mill_base.proofs.Ring.{Var, Num, Add, Sub, Mul, ring}
use Rattle.mill_base.proofs.Cert.{Le, Lt, Hyp, Sq, Lit, Plus, Times, prove_le_by, prove_lt_by}

-- vars x y r n k; hyp hk: 0 < k; hyp h: x*x+y*y < (r*r)*(n*n); goal (k*x)*(k*x)+(k*y)*(k*y) < (r*r)*((k*n)*(k*n)); mul sq(k) * h; mul hk * hk
pub scaled_near : (x y r n k : ℤ) → (pos 0) <ℤ k → ((x *ℤ x) +ℤ (y *ℤ y)) <ℤ ((r *ℤ r) *ℤ (n *ℤ n)) → (((k *ℤ x) *ℤ (k *ℤ x)) +ℤ ((k *ℤ y) *ℤ (k *ℤ y))) <ℤ ((r *ℤ r) *ℤ ((k *ℤ n) *ℤ (k *ℤ n)))
scaled_near x y r n k hk h = prove_lt_by (x ∷ y ∷ r ∷ n ∷ k ∷ []) (Lt (Num (pos 0)) (Var 4) ∷ Lt (Add (Mul (Var 0) (Var 0)) (Mul (Var 1) (Var 1))) (Mul (Mul (Var 2) (Var 2)) (Mul (Var 3) (Var 3))) ∷ []) (Add (Mul (Mul (Var 4) (Var 0)) (Mul (Var 4) (Var 0))) (Mul (Mul (Var 4) (Var 1)) (Mul (Var 4) (Var 1)))) (Mul (Mul (Var 2) (Var 2)) (Mul (Mul (Var 4) (Var 3)) (Mul (Var 4) (Var 3)))) (Plus (Hyp 0) (Plus (Times (Lit 2) (Hyp 1)) (Plus (Times (Sq (Var 4)) (Hyp 2)) (Times (Hyp 1) (Hyp 1))))) 0 (hk, (h, tt)) refl

-- vars z u r n k; hyp hk: 0 < k; hyp h: r*n <= z; hyp hu: k*z <= u; goal r*(k*n) <= u; mul hk+ * h
pub scaled_centre : (z u r n k : ℤ) → (pos 0) <ℤ k → (r *ℤ n) ≤ℤ z → (k *ℤ z) ≤ℤ u → (r *ℤ (k *ℤ n)) ≤ℤ u
scaled_centre z u r n k hk h hu = prove_le_by (z ∷ u ∷ r ∷ n ∷ k ∷ []) (Lt (Num (pos 0)) (Var 4) ∷ Le (Mul (Var 2) (Var 3)) (Var 0) ∷ Le (Mul (Var 4) (Var 0)) (Var 1) ∷ []) (Mul (Var 2) (Mul (Var 4) (Var 3))) (Var 1) (Plus (Hyp 0) (Plus (Hyp 3) (Times (Plus (Hyp 1) (Lit 1)) (Hyp 2)))) 0 (hk, (h, (hu, tt))) refl

-- vars x y z u r n k; hyp hk: 0 < k; hyp h: (x*x+y*y)+(z-r*n)*(z-r*n) < (r*r)*(n*n); hyp hu: k*z <= u; hyp low: u < r*(k*n); goal ((k*x)*(k*x)+(k*y)*(k*y))+(u-r*(k*n))*(u-r*(k*n)) < (r*r)*((k*n)*(k*n)); mul sq(k) * h; mul hk * hk; mul hu * hu; mul hu * low+
pub raised_sphere : (x y z u r n k : ℤ) → (pos 0) <ℤ k → (((x *ℤ x) +ℤ (y *ℤ y)) +ℤ ((z -ℤ (r *ℤ n)) *ℤ (z -ℤ (r *ℤ n)))) <ℤ ((r *ℤ r) *ℤ (n *ℤ n)) → (k *ℤ z) ≤ℤ u → u <ℤ (r *ℤ (k *ℤ n)) → ((((k *ℤ x) *ℤ (k *ℤ x)) +ℤ ((k *ℤ y) *ℤ (k *ℤ y))) +ℤ ((u -ℤ (r *ℤ (k *ℤ n))) *ℤ (u -ℤ (r *ℤ (k *ℤ n))))) <ℤ ((r *ℤ r) *ℤ ((k *ℤ n) *ℤ (k *ℤ n)))
raised_sphere x y z u r n k hk h hu low = prove_lt_by (x ∷ y ∷ z ∷ u ∷ r ∷ n ∷ k ∷ []) (Lt (Num (pos 0)) (Var 6) ∷ Lt (Add (Add (Mul (Var 0) (Var 0)) (Mul (Var 1) (Var 1))) (Mul (Sub (Var 2) (Mul (Var 4) (Var 5))) (Sub (Var 2) (Mul (Var 4) (Var 5))))) (Mul (Mul (Var 4) (Var 4)) (Mul (Var 5) (Var 5))) ∷ Le (Mul (Var 6) (Var 2)) (Var 3) ∷ Lt (Var 3) (Mul (Var 4) (Mul (Var 6) (Var 5))) ∷ []) (Add (Add (Mul (Mul (Var 6) (Var 0)) (Mul (Var 6) (Var 0))) (Mul (Mul (Var 6) (Var 1)) (Mul (Var 6) (Var 1)))) (Mul (Sub (Var 3) (Mul (Var 4) (Mul (Var 6) (Var 5)))) (Sub (Var 3) (Mul (Var 4) (Mul (Var 6) (Var 5)))))) (Mul (Mul (Var 4) (Var 4)) (Mul (Mul (Var 6) (Var 5)) (Mul (Var 6) (Var 5)))) (Plus (Hyp 0) (Plus (Times (Lit 2) (Hyp 1)) (Plus (Times (Sq (Var 6)) (Hyp 2)) (Plus (Times (Hyp 1) (Hyp 1)) (Plus (Times (Hyp 3) (Hyp 3)) (Times (Lit 2) (Times (Hyp 3) (Plus (Hyp 4) (Lit 1))))))))) 0 (hk, (h, (hu, (low, tt)))) refl

-- vars z u k; hyp hk: 0 < k; hyp hz: 0 < z; hyp hu: k*z <= u; goal 0 < u; mul hk+ * hz+; mul hk * hz
pub raised_plane : (z u k : ℤ) → (pos 0) <ℤ k → (pos 0) <ℤ z → (k *ℤ z) ≤ℤ u → (pos 0) <ℤ u
raised_plane z u k hk hz hu = prove_lt_by (z ∷ u ∷ k ∷ []) (Lt (Num (pos 0)) (Var 2) ∷ Lt (Num (pos 0)) (Var 0) ∷ Le (Mul (Var 2) (Var 0)) (Var 1) ∷ []) (Num (pos 0)) (Var 1) (Plus (Hyp 0) (Plus (Hyp 1) (Plus (Hyp 2) (Plus (Hyp 3) (Times (Hyp 1) (Hyp 2)))))) 0 (hk, (hz, (hu, tt))) refl

-- vars x y z u a b k; hyp hk: 0 < k; hyp h: (a*a)*(x*x+y*y) < (b*b)*(z*z); hyp hz: 0 < z; hyp hu: k*z <= u; goal (a*a)*((k*x)*(k*x)+(k*y)*(k*y)) < (b*b)*(u*u); mul sq(k) * h; mul hk * hk; mul hu * hu * sq(b); mul hu * hk+ * hz+ * sq(b)
pub raised_wall : (x y z u a b k : ℤ) → (pos 0) <ℤ k → ((a *ℤ a) *ℤ ((x *ℤ x) +ℤ (y *ℤ y))) <ℤ ((b *ℤ b) *ℤ (z *ℤ z)) → (pos 0) <ℤ z → (k *ℤ z) ≤ℤ u → ((a *ℤ a) *ℤ (((k *ℤ x) *ℤ (k *ℤ x)) +ℤ ((k *ℤ y) *ℤ (k *ℤ y)))) <ℤ ((b *ℤ b) *ℤ (u *ℤ u))
raised_wall x y z u a b k hk h hz hu = prove_lt_by (x ∷ y ∷ z ∷ u ∷ a ∷ b ∷ k ∷ []) (Lt (Num (pos 0)) (Var 6) ∷ Lt (Mul (Mul (Var 4) (Var 4)) (Add (Mul (Var 0) (Var 0)) (Mul (Var 1) (Var 1)))) (Mul (Mul (Var 5) (Var 5)) (Mul (Var 2) (Var 2))) ∷ Lt (Num (pos 0)) (Var 2) ∷ Le (Mul (Var 6) (Var 2)) (Var 3) ∷ []) (Mul (Mul (Var 4) (Var 4)) (Add (Mul (Mul (Var 6) (Var 0)) (Mul (Var 6) (Var 0))) (Mul (Mul (Var 6) (Var 1)) (Mul (Var 6) (Var 1))))) (Mul (Mul (Var 5) (Var 5)) (Mul (Var 3) (Var 3))) (Plus (Hyp 0) (Plus (Times (Lit 2) (Hyp 1)) (Plus (Times (Sq (Var 6)) (Hyp 2)) (Plus (Times (Hyp 1) (Hyp 1)) (Plus (Times (Times (Hyp 4) (Hyp 4)) (Sq (Var 5))) (Times (Lit 2) (Times (Times (Times (Hyp 4) (Plus (Hyp 1) (Lit 1))) (Plus (Hyp 3) (Lit 1))) (Sq (Var 5))))))))) 0 (hk, (h, (hz, (hu, tt)))) refl

pub scaled_offset : (m n x t : ℤ) → ((m *ℤ (n *ℤ x)) -ℤ (n *ℤ t)) ≡ (n *ℤ ((m *ℤ x) -ℤ ((pos 1) *ℤ t)))
scaled_offset m n x t = ring (m ∷ n ∷ x ∷ t ∷ []) (Sub (Mul (Var 0) (Mul (Var 1) (Var 2))) (Mul (Var 1) (Var 3))) (Mul (Var 1) (Sub (Mul (Var 0) (Var 2)) (Mul (Num (pos 1)) (Var 3)))) refl

pub scaled_denominator : (m n : ℤ) → (m *ℤ n) ≡ (n *ℤ (m *ℤ (pos 1)))
scaled_denominator m n = ring (m ∷ n ∷ []) (Mul (Var 0) (Var 1)) (Mul (Var 1) (Mul (Var 0) (Num (pos 1)))) refl

-- vars m n h t z; hyp hm: 0 < m; hyp hz: n*h <= z; goal n*(m*h - 1*t) <= m*z - n*t; mul hm+ * hz
pub raised_height : (m n h t z : ℤ) → (pos 0) <ℤ m → (n *ℤ h) ≤ℤ z → (n *ℤ ((m *ℤ h) -ℤ ((pos 1) *ℤ t))) ≤ℤ ((m *ℤ z) -ℤ (n *ℤ t))
raised_height m n h t z hm hz = prove_le_by (m ∷ n ∷ h ∷ t ∷ z ∷ []) (Lt (Num (pos 0)) (Var 0) ∷ Le (Mul (Var 1) (Var 2)) (Var 4) ∷ []) (Mul (Var 1) (Sub (Mul (Var 0) (Var 2)) (Mul (Num (pos 1)) (Var 3)))) (Sub (Mul (Var 0) (Var 4)) (Mul (Var 1) (Var 3))) (Plus (Hyp 0) (Times (Plus (Hyp 1) (Lit 1)) (Hyp 2))) 0 (hm, (hz, tt)) refl
