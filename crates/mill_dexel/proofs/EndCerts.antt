-- Polynomial facts behind whole places at a move's ends.
-- Written by tools/certificates.py from tools/certificates/mill_dexel_ends.spec.
use Rattle.std.proofs.Common.{◌≡◌, [], ◌∷◌, refl}
use lib.IntN.{ℤ, pos, ◌+ℤ◌, ◌-ℤ◌, ◌*ℤ◌}
use lib.Signed.{◌<ℤ◌, ◌≤ℤ◌}
use Rattle.mill_base.proofs.Ring.{Var, Num, Add, Sub, Mul, ring}
use Rattle.mill_base.proofs.Cert.{Le, Lt, Hyp, Plus, Times, prove_le_by}

pub weighed_start : (n f t : ℤ) → (((n -ℤ (pos 0)) *ℤ f) +ℤ ((pos 0) *ℤ t)) ≡ (n *ℤ f)
weighed_start n f t = ring (n ∷ f ∷ t ∷ []) (Add (Mul (Sub (Var 0) (Num (pos 0))) (Var 1)) (Mul (Num (pos 0)) (Var 2))) (Mul (Var 0) (Var 1)) refl

pub weighed_end : (n f t : ℤ) → (((n -ℤ n) *ℤ f) +ℤ (n *ℤ t)) ≡ (n *ℤ t)
weighed_end n f t = ring (n ∷ f ∷ t ∷ []) (Add (Mul (Sub (Var 0) (Var 0)) (Var 1)) (Mul (Var 0) (Var 2))) (Mul (Var 0) (Var 2)) refl

-- vars n c d; hyp hn: 0 < n; hyp h: n*d <= n*c; goal d <= c; mul goal * hn; mul goal * hn+
pub whole_least : (n c d : ℤ) → (pos 0) <ℤ n → (n *ℤ d) ≤ℤ (n *ℤ c) → d ≤ℤ c
whole_least n c d hn h = prove_le_by (n ∷ c ∷ d ∷ []) (Lt (Num (pos 0)) (Var 0) ∷ Le (Mul (Var 0) (Var 2)) (Mul (Var 0) (Var 1)) ∷ []) (Var 2) (Var 1) (Plus (Hyp 0) (Plus (Hyp 1) (Plus (Hyp 2) (Times (Hyp 0) (Hyp 1))))) 0 (hn, (h, tt)) refl

-- vars n c d; hyp hn: 0 < n; hyp h: n*c < n*d+n; goal c <= d; mul goal * hn; mul goal * hn+
pub whole_most : (n c d : ℤ) → (pos 0) <ℤ n → (n *ℤ c) <ℤ ((n *ℤ d) +ℤ n) → c ≤ℤ d
whole_most n c d hn h = prove_le_by (n ∷ c ∷ d ∷ []) (Lt (Num (pos 0)) (Var 0) ∷ Lt (Mul (Var 0) (Var 1)) (Add (Mul (Var 0) (Var 2)) (Var 0)) ∷ []) (Var 1) (Var 2) (Plus (Hyp 0) (Plus (Hyp 2) (Times (Hyp 0) (Hyp 1)))) 0 (hn, (h, tt)) refl
