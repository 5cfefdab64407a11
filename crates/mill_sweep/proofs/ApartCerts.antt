-- Polynomial facts behind what a dogleg passes.
-- Written by tools/certificates.py from tools/certificates/mill_sweep_apart.spec.
use Rattle.std.proofs.Common.{[], ◌∷◌, refl}
use lib.IntN.{ℤ, pos, ◌+ℤ◌, ◌-ℤ◌, ◌*ℤ◌}
use lib.Signed.{◌<ℤ◌, ◌≤ℤ◌}
use Rattle.mill_base.proofs.Ring.{Var, Num, Add, Sub, Mul}
use Rattle.mill_base.proofs.Cert.{Le, Lt, Hyp, Lit, Plus, Times, refute}

-- vars n m g r s t; hyp hn: 0 < n; hyp hm: 0 < m; hyp h1: n*(g+r) <= s; hyp h2: t <= m*g; hyp h3: m*s - n*t < r*(m*n); goal false; mul hm * h1; mul hm+ * h1; mul hn+ * h2; mul hn * h2
pub off_east : (n m g r s t : ℤ) → (pos 0) <ℤ n → (pos 0) <ℤ m → (n *ℤ (g +ℤ r)) ≤ℤ s → t ≤ℤ (m *ℤ g) → ((m *ℤ s) -ℤ (n *ℤ t)) <ℤ (r *ℤ (m *ℤ n)) → ⊥
off_east n m g r s t hn hm h1 h2 h3 = refute (n ∷ m ∷ g ∷ r ∷ s ∷ t ∷ []) (Lt (Num (pos 0)) (Var 0) ∷ Lt (Num (pos 0)) (Var 1) ∷ Le (Mul (Var 0) (Add (Var 2) (Var 3))) (Var 4) ∷ Le (Var 5) (Mul (Var 1) (Var 2)) ∷ Lt (Sub (Mul (Var 1) (Var 4)) (Mul (Var 0) (Var 5))) (Mul (Var 3) (Mul (Var 1) (Var 0))) ∷ []) (Plus (Hyp 2) (Plus (Hyp 4) (Plus (Times (Hyp 1) (Hyp 2)) (Times (Plus (Hyp 0) (Lit 1)) (Hyp 3))))) 0 (hn, (hm, (h1, (h2, (h3, tt))))) refl

-- vars n m g r s t; hyp hn: 0 < n; hyp hm: 0 < m; hyp h1: s <= n*(g-r); hyp h2: m*g <= t; hyp h3: 0 - (m*s - n*t) < r*(m*n); goal false; mul hm * h1; mul hm+ * h1; mul hn+ * h2; mul hn * h2
pub off_west : (n m g r s t : ℤ) → (pos 0) <ℤ n → (pos 0) <ℤ m → s ≤ℤ (n *ℤ (g -ℤ r)) → (m *ℤ g) ≤ℤ t → ((pos 0) -ℤ ((m *ℤ s) -ℤ (n *ℤ t))) <ℤ (r *ℤ (m *ℤ n)) → ⊥
off_west n m g r s t hn hm h1 h2 h3 = refute (n ∷ m ∷ g ∷ r ∷ s ∷ t ∷ []) (Lt (Num (pos 0)) (Var 0) ∷ Lt (Num (pos 0)) (Var 1) ∷ Le (Var 4) (Mul (Var 0) (Sub (Var 2) (Var 3))) ∷ Le (Mul (Var 1) (Var 2)) (Var 5) ∷ Lt (Sub (Num (pos 0)) (Sub (Mul (Var 1) (Var 4)) (Mul (Var 0) (Var 5)))) (Mul (Var 3) (Mul (Var 1) (Var 0))) ∷ []) (Plus (Hyp 2) (Plus (Hyp 4) (Plus (Times (Hyp 1) (Hyp 2)) (Times (Plus (Hyp 0) (Lit 1)) (Hyp 3))))) 0 (hn, (hm, (h1, (h2, (h3, tt))))) refl

-- vars n m g h s t; hyp hn: 0 < n; hyp hm: 0 < m; hyp h0: h <= g; hyp h1: s <= n*h; hyp h2: m*g <= t; hyp h3: n*t < m*s; goal false; mul hm+ * h1; mul hn+ * h2; mul hm+ * hn+ * h0
pub not_over : (n m g h s t : ℤ) → (pos 0) <ℤ n → (pos 0) <ℤ m → h ≤ℤ g → s ≤ℤ (n *ℤ h) → (m *ℤ g) ≤ℤ t → (n *ℤ t) <ℤ (m *ℤ s) → ⊥
not_over n m g h s t hn hm h0 h1 h2 h3 = refute (n ∷ m ∷ g ∷ h ∷ s ∷ t ∷ []) (Lt (Num (pos 0)) (Var 0) ∷ Lt (Num (pos 0)) (Var 1) ∷ Le (Var 3) (Var 2) ∷ Le (Var 4) (Mul (Var 0) (Var 3)) ∷ Le (Mul (Var 1) (Var 2)) (Var 5) ∷ Lt (Mul (Var 0) (Var 5)) (Mul (Var 1) (Var 4)) ∷ []) (Plus (Hyp 5) (Plus (Times (Plus (Hyp 1) (Lit 1)) (Hyp 3)) (Plus (Times (Plus (Hyp 0) (Lit 1)) (Hyp 4)) (Times (Times (Plus (Hyp 1) (Lit 1)) (Plus (Hyp 0) (Lit 1))) (Hyp 2))))) 0 (hn, (hm, (h0, (h1, (h2, (h3, tt)))))) refl
