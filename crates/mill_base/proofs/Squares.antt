use Rattle.std.proofs.Common.{[], ◌∷◌, refl}
use lib.IntN.{ℤ, pos, ◌*ℤ◌}
use lib.Signed.{◌≤ℤ◌}
use Rattle.mill_base.proofs.Ring.{Var, Num, Mul}
use Rattle.mill_base.proofs.Cert.{Le, Hyp, Lit, Plus, Times, prove_le_by}

-- vars x y; hyp h0: 0 <= x; hyp h1: x <= y; goal x*x <= y*y; pairs
pub sq_mono : (x y : ℤ) → (pos 0) ≤ℤ x → x ≤ℤ y → (x *ℤ x) ≤ℤ (y *ℤ y)
sq_mono x y h0 h1 = prove_le_by (x ∷ y ∷ []) (Le (Num (pos 0)) (Var 0) ∷ Le (Var 0) (Var 1) ∷ []) (Mul (Var 0) (Var 0)) (Mul (Var 1) (Var 1)) (Plus (Hyp 0) (Plus (Times (Lit 2) (Times (Hyp 1) (Hyp 2))) (Times (Hyp 2) (Hyp 2)))) 0 (h0, (h1, tt)) refl
