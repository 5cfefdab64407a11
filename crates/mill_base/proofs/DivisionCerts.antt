-- Polynomial facts behind rounding and division.
-- Written by tools/certificates.py from tools/certificates/mill_base_divisions.spec.
use Rattle.std.proofs.Common.{[], ◌∷◌, refl}
use lib.IntN.{ℤ, pos, ◌+ℤ◌, ◌-ℤ◌, ◌*ℤ◌}
use lib.Signed.{◌<ℤ◌, ◌≤ℤ◌}
use Rattle.mill_base.proofs.Ring.{Var, Num, Add, Sub, Mul}
use Rattle.mill_base.proofs.Cert.{Le, Lt, Hyp, Lit, Plus, Times, prove_le_by}

-- vars n g r z; hyp hn: 0 < n; hyp hr: 2*(n*r) <= 2*z+n; hyp hz: z <= n*g; goal r <= g; mul goal * hn; mul goal * hn+
pub half_most : (n g r z : ℤ) → (pos 0) <ℤ n → ((pos 2) *ℤ (n *ℤ r)) ≤ℤ (((pos 2) *ℤ z) +ℤ n) → z ≤ℤ (n *ℤ g) → r ≤ℤ g
half_most n g r z hn hr hz = prove_le_by (n ∷ g ∷ r ∷ z ∷ []) (Lt (Num (pos 0)) (Var 0) ∷ Le (Mul (Num (pos 2)) (Mul (Var 0) (Var 2))) (Add (Mul (Num (pos 2)) (Var 3)) (Var 0)) ∷ Le (Var 3) (Mul (Var 0) (Var 1)) ∷ []) (Var 2) (Var 1) (Plus (Times (Lit 2) (Hyp 0)) (Plus (Hyp 1) (Plus (Hyp 2) (Plus (Times (Lit 2) (Hyp 3)) (Times (Lit 2) (Times (Hyp 0) (Hyp 1))))))) 0 (hn, (hr, (hz, tt))) refl

-- vars n g r z; hyp hn: 0 < n; hyp hr: 2*z < 2*(n*r)+n; hyp hz: 0-z <= n*g; goal 0-r <= g; mul goal * hn; mul goal * hn+
pub half_least : (n g r z : ℤ) → (pos 0) <ℤ n → ((pos 2) *ℤ z) <ℤ (((pos 2) *ℤ (n *ℤ r)) +ℤ n) → ((pos 0) -ℤ z) ≤ℤ (n *ℤ g) → ((pos 0) -ℤ r) ≤ℤ g
half_least n g r z hn hr hz = prove_le_by (n ∷ g ∷ r ∷ z ∷ []) (Lt (Num (pos 0)) (Var 0) ∷ Lt (Mul (Num (pos 2)) (Var 3)) (Add (Mul (Num (pos 2)) (Mul (Var 0) (Var 2))) (Var 0)) ∷ Le (Sub (Num (pos 0)) (Var 3)) (Mul (Var 0) (Var 1)) ∷ []) (Sub (Num (pos 0)) (Var 2)) (Var 1) (Plus (Times (Lit 2) (Hyp 0)) (Plus (Hyp 1) (Plus (Hyp 2) (Plus (Times (Lit 2) (Hyp 3)) (Times (Lit 2) (Times (Hyp 0) (Hyp 1))))))) 1 (hn, (hr, (hz, tt))) refl
