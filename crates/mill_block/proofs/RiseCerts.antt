-- A polynomial fact behind the way up.
-- Written by tools/certificates.py from tools/certificates/mill_block_rise.spec.
use Rattle.std.proofs.Common.{[], ◌∷◌, refl}
use lib.IntN.{ℤ, pos, ◌*ℤ◌}
use lib.Signed.{◌<ℤ◌, ◌≤ℤ◌}
use Rattle.mill_base.proofs.Ring.{Var, Num, Mul}
use Rattle.mill_base.proofs.Cert.{Le, Lt, Hyp, Plus, Times, prove_le_by}

-- vars a b n; hyp hn: 0 < n; hyp h: a*n <= b*n; goal a <= b; mul goal * hn; mul goal * hn+
pub unscaled : (a b n : ℤ) → (pos 0) <ℤ n → (a *ℤ n) ≤ℤ (b *ℤ n) → a ≤ℤ b
unscaled a b n hn h = prove_le_by (a ∷ b ∷ n ∷ []) (Lt (Num (pos 0)) (Var 2) ∷ Le (Mul (Var 0) (Var 2)) (Mul (Var 1) (Var 2)) ∷ []) (Var 0) (Var 1) (Plus (Hyp 0) (Plus (Hyp 1) (Plus (Hyp 2) (Times (Hyp 0) (Hyp 1))))) 0 (hn, (h, tt)) refl
