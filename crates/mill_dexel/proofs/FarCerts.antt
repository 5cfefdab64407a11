-- Polynomial facts behind what stands far from a move.
-- Written by tools/certificates.py from tools/certificates/mill_dexel_far.spec.
use Rattle.std.proofs.Common.{[], ◌∷◌, refl}
use lib.IntN.{ℤ, pos, ◌+ℤ◌, ◌-ℤ◌, ◌*ℤ◌}
use lib.Signed.{◌≤ℤ◌}
use Rattle.mill_base.proofs.Ring.{Var, Num, Add, Sub, Mul}
use Rattle.mill_base.proofs.Cert.{Le, Hyp, Lit, Plus, Times, prove_le_by}

-- vars x t r; hyp r0: 0 <= r; hyp h: x+r <= t; goal r*r <= (x-t)*(x-t); mul h * h; mul r0 * h
pub far_under : (x t r : ℤ) → (pos 0) ≤ℤ r → (x +ℤ r) ≤ℤ t → (r *ℤ r) ≤ℤ ((x -ℤ t) *ℤ (x -ℤ t))
far_under x t r r0 h = prove_le_by (x ∷ t ∷ r ∷ []) (Le (Num (pos 0)) (Var 2) ∷ Le (Add (Var 0) (Var 2)) (Var 1) ∷ []) (Mul (Var 2) (Var 2)) (Mul (Sub (Var 0) (Var 1)) (Sub (Var 0) (Var 1))) (Plus (Hyp 0) (Plus (Times (Hyp 2) (Hyp 2)) (Times (Lit 2) (Times (Hyp 1) (Hyp 2))))) 0 (r0, (h, tt)) refl

-- vars x t r; hyp r0: 0 <= r; hyp h: t+r <= x; goal r*r <= (x-t)*(x-t); mul h * h; mul r0 * h
pub far_over : (x t r : ℤ) → (pos 0) ≤ℤ r → (t +ℤ r) ≤ℤ x → (r *ℤ r) ≤ℤ ((x -ℤ t) *ℤ (x -ℤ t))
far_over x t r r0 h = prove_le_by (x ∷ t ∷ r ∷ []) (Le (Num (pos 0)) (Var 2) ∷ Le (Add (Var 1) (Var 2)) (Var 0) ∷ []) (Mul (Var 2) (Var 2)) (Mul (Sub (Var 0) (Var 1)) (Sub (Var 0) (Var 1))) (Plus (Hyp 0) (Plus (Times (Hyp 2) (Hyp 2)) (Times (Lit 2) (Times (Hyp 1) (Hyp 2))))) 0 (r0, (h, tt)) refl
