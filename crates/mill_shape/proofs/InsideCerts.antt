-- Polynomial facts behind the tests of what is inside a cutter.
-- Written by tools/certificates.py from tools/certificates/mill_shape_inside.spec.
use Rattle.std.proofs.Common.{◌≡◌, [], ◌∷◌, refl}
use lib.IntN.{ℤ, ◌+ℤ◌, ◌-ℤ◌, ◌*ℤ◌}
use lib.Signed.{◌<ℤ◌}
use Rattle.mill_base.proofs.Ring.{Var, Add, Sub, Mul, ring}
use Rattle.mill_base.proofs.Cert.{Lt, Hyp, Sq, Plus, prove_lt_by}

pub scaled_square : (r n : ℤ) → ((r *ℤ n) *ℤ (r *ℤ n)) ≡ ((r *ℤ r) *ℤ (n *ℤ n))
scaled_square r n = ring (r ∷ n ∷ []) (Mul (Mul (Var 0) (Var 1)) (Mul (Var 0) (Var 1))) (Mul (Mul (Var 0) (Var 0)) (Mul (Var 1) (Var 1))) refl

-- vars x y z r n; hyp h: (x*x+y*y)+(z-r*n)*(z-r*n) < (r*r)*(n*n); goal x*x+y*y < (r*r)*(n*n); square z-r*n
pub in_sphere_near : (x y z r n : ℤ) → (((x *ℤ x) +ℤ (y *ℤ y)) +ℤ ((z -ℤ (r *ℤ n)) *ℤ (z -ℤ (r *ℤ n)))) <ℤ ((r *ℤ r) *ℤ (n *ℤ n)) → ((x *ℤ x) +ℤ (y *ℤ y)) <ℤ ((r *ℤ r) *ℤ (n *ℤ n))
in_sphere_near x y z r n h = prove_lt_by (x ∷ y ∷ z ∷ r ∷ n ∷ []) (Lt (Add (Add (Mul (Var 0) (Var 0)) (Mul (Var 1) (Var 1))) (Mul (Sub (Var 2) (Mul (Var 3) (Var 4))) (Sub (Var 2) (Mul (Var 3) (Var 4))))) (Mul (Mul (Var 3) (Var 3)) (Mul (Var 4) (Var 4))) ∷ []) (Add (Mul (Var 0) (Var 0)) (Mul (Var 1) (Var 1))) (Mul (Mul (Var 3) (Var 3)) (Mul (Var 4) (Var 4))) (Plus (Hyp 0) (Plus (Hyp 1) (Sq (Sub (Var 2) (Mul (Var 3) (Var 4)))))) 0 (h, tt) refl
