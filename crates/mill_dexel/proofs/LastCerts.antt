-- Polynomial facts behind a move's last sample.
-- Written by tools/certificates.py from tools/certificates/mill_dexel_last.spec.
use Rattle.std.proofs.Common.{◌≡◌, [], ◌∷◌, refl}
use lib.IntN.{ℤ, pos, ◌+ℤ◌, ◌-ℤ◌, ◌*ℤ◌}
use lib.Signed.{◌<ℤ◌, ◌≤ℤ◌}
use Rattle.mill_base.proofs.Ring.{Var, Num, Add, Sub, Mul, ring}
use Rattle.mill_base.proofs.Cert.{Lt, Hyp, Lit, Plus, Times, prove_le_by}

pub last_end : (n f t : ℤ) → (((n -ℤ n) *ℤ f) +ℤ (n *ℤ t)) ≡ (n *ℤ t)
last_end n f t = ring (n ∷ f ∷ t ∷ []) (Add (Mul (Sub (Var 0) (Var 0)) (Var 1)) (Mul (Var 0) (Var 2))) (Mul (Var 0) (Var 2)) refl

-- vars n f w; hyp hn: 0 < n; hyp h: n*w < n*f + n; goal w <= f; mul goal * hn+
pub under_next : (n f w : ℤ) → (pos 0) <ℤ n → (n *ℤ w) <ℤ ((n *ℤ f) +ℤ n) → w ≤ℤ f
under_next n f w hn h = prove_le_by (n ∷ f ∷ w ∷ []) (Lt (Num (pos 0)) (Var 0) ∷ Lt (Mul (Var 0) (Var 2)) (Add (Mul (Var 0) (Var 1)) (Var 0)) ∷ []) (Var 2) (Var 1) (Plus (Hyp 2) (Times (Hyp 0) (Plus (Hyp 1) (Lit 1)))) 0 (hn, (h, tt)) refl
