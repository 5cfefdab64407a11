-- Polynomial facts behind the lemmas on points that a cutter holds.
-- Written by tools/certificates.py from tools/certificates/mill_shape_holding.spec.
use Rattle.std.proofs.Common.{[], ◌∷◌, refl}
use lib.IntN.{ℤ, pos, ◌+ℤ◌, ◌-ℤ◌, ◌*ℤ◌}
use lib.Signed.{◌<ℤ◌, ◌≤ℤ◌}
use Rattle.mill_base.proofs.Ring.{Var, Num, Add, Sub, Mul}
use Rattle.mill_base.proofs.Cert.{Le, Lt, Hyp, Sq, Lit, Plus, Times, prove_lt_by}

-- vars x y r n; hyp hr: 0 < r; hyp hn: 0 < n; hyp h: x*x+y*y < (r*r)*(n*n); goal x < r*n; square y; mul goal * goal; mul goal * hr+ * hn+
pub near_east : (x y r n : ℤ) → (pos 0) <ℤ r → (pos 0) <ℤ n → ((x *ℤ x) +ℤ (y *ℤ y)) <ℤ ((r *ℤ r) *ℤ (n *ℤ n)) → x <ℤ (r *ℤ n)
near_east x y r n hr hn h = prove_lt_by (x ∷ y ∷ r ∷ n ∷ []) (Lt (Num (pos 0)) (Var 2) ∷ Lt (Num (pos 0)) (Var 3) ∷ Lt (Add (Mul (Var 0) (Var 0)) (Mul (Var 1) (Var 1))) (Mul (Mul (Var 2) (Var 2)) (Mul (Var 3) (Var 3))) ∷ []) (Var 0) (Mul (Var 2) (Var 3)) (Plus (Hyp 3) (Plus (Sq (Var 1)) (Plus (Times (Hyp 0) (Hyp 0)) (Times (Lit 2) (Times (Times (Hyp 0) (Plus (Hyp 1) (Lit 1))) (Plus (Hyp 2) (Lit 1))))))) 0 (hr, (hn, (h, tt))) refl

-- vars x y r n; hyp hr: 0 < r; hyp hn: 0 < n; hyp h: x*x+y*y < (r*r)*(n*n); goal 0-x < r*n; square y; mul goal * goal; mul goal * hr+ * hn+
pub near_west : (x y r n : ℤ) → (pos 0) <ℤ r → (pos 0) <ℤ n → ((x *ℤ x) +ℤ (y *ℤ y)) <ℤ ((r *ℤ r) *ℤ (n *ℤ n)) → ((pos 0) -ℤ x) <ℤ (r *ℤ n)
near_west x y r n hr hn h = prove_lt_by (x ∷ y ∷ r ∷ n ∷ []) (Lt (Num (pos 0)) (Var 2) ∷ Lt (Num (pos 0)) (Var 3) ∷ Lt (Add (Mul (Var 0) (Var 0)) (Mul (Var 1) (Var 1))) (Mul (Mul (Var 2) (Var 2)) (Mul (Var 3) (Var 3))) ∷ []) (Sub (Num (pos 0)) (Var 0)) (Mul (Var 2) (Var 3)) (Plus (Hyp 3) (Plus (Sq (Var 1)) (Plus (Times (Hyp 0) (Hyp 0)) (Times (Lit 2) (Times (Times (Hyp 0) (Plus (Hyp 1) (Lit 1))) (Plus (Hyp 2) (Lit 1))))))) 0 (hr, (hn, (h, tt))) refl

-- vars x y r n; hyp hr: 0 < r; hyp hn: 0 < n; hyp h: x*x+y*y < (r*r)*(n*n); goal y < r*n; square x; mul goal * goal; mul goal * hr+ * hn+
pub near_north : (x y r n : ℤ) → (pos 0) <ℤ r → (pos 0) <ℤ n → ((x *ℤ x) +ℤ (y *ℤ y)) <ℤ ((r *ℤ r) *ℤ (n *ℤ n)) → y <ℤ (r *ℤ n)
near_north x y r n hr hn h = prove_lt_by (x ∷ y ∷ r ∷ n ∷ []) (Lt (Num (pos 0)) (Var 2) ∷ Lt (Num (pos 0)) (Var 3) ∷ Lt (Add (Mul (Var 0) (Var 0)) (Mul (Var 1) (Var 1))) (Mul (Mul (Var 2) (Var 2)) (Mul (Var 3) (Var 3))) ∷ []) (Var 1) (Mul (Var 2) (Var 3)) (Plus (Hyp 3) (Plus (Sq (Var 0)) (Plus (Times (Hyp 0) (Hyp 0)) (Times (Lit 2) (Times (Times (Hyp 0) (Plus (Hyp 1) (Lit 1))) (Plus (Hyp 2) (Lit 1))))))) 0 (hr, (hn, (h, tt))) refl

-- vars x y r n; hyp hr: 0 < r; hyp hn: 0 < n; hyp h: x*x+y*y < (r*r)*(n*n); goal 0-y < r*n; square x; mul goal * goal; mul goal * hr+ * hn+
pub near_south : (x y r n : ℤ) → (pos 0) <ℤ r → (pos 0) <ℤ n → ((x *ℤ x) +ℤ (y *ℤ y)) <ℤ ((r *ℤ r) *ℤ (n *ℤ n)) → ((pos 0) -ℤ y) <ℤ (r *ℤ n)
near_south x y r n hr hn h = prove_lt_by (x ∷ y ∷ r ∷ n ∷ []) (Lt (Num (pos 0)) (Var 2) ∷ Lt (Num (pos 0)) (Var 3) ∷ Lt (Add (Mul (Var 0) (Var 0)) (Mul (Var 1) (Var 1))) (Mul (Mul (Var 2) (Var 2)) (Mul (Var 3) (Var 3))) ∷ []) (Sub (Num (pos 0)) (Var 1)) (Mul (Var 2) (Var 3)) (Plus (Hyp 3) (Plus (Sq (Var 0)) (Plus (Times (Hyp 0) (Hyp 0)) (Times (Lit 2) (Times (Times (Hyp 0) (Plus (Hyp 1) (Lit 1))) (Plus (Hyp 2) (Lit 1))))))) 0 (hr, (hn, (h, tt))) refl

-- vars z r n; hyp hr: 0 < r; hyp hn: 0 < n; hyp h: r*n <= z; goal 0 < z; mul hr+ * hn+; mul hr * hn; mul hr * hn+; mul hr+ * hn
pub over_centre : (z r n : ℤ) → (pos 0) <ℤ r → (pos 0) <ℤ n → (r *ℤ n) ≤ℤ z → (pos 0) <ℤ z
over_centre z r n hr hn h = prove_lt_by (z ∷ r ∷ n ∷ []) (Lt (Num (pos 0)) (Var 1) ∷ Lt (Num (pos 0)) (Var 2) ∷ Le (Mul (Var 1) (Var 2)) (Var 0) ∷ []) (Num (pos 0)) (Var 0) (Plus (Hyp 0) (Plus (Hyp 1) (Plus (Hyp 2) (Plus (Hyp 3) (Times (Hyp 1) (Hyp 2)))))) 0 (hr, (hn, (h, tt))) refl

-- vars x y z r n; hyp hr: 0 < r; hyp hn: 0 < n; hyp h: (x*x+y*y)+(z-r*n)*(z-r*n) < (r*r)*(n*n); goal 0 < z; square x; square y; square z; mul goal * hr+ * hn+
pub in_sphere : (x y z r n : ℤ) → (pos 0) <ℤ r → (pos 0) <ℤ n → (((x *ℤ x) +ℤ (y *ℤ y)) +ℤ ((z -ℤ (r *ℤ n)) *ℤ (z -ℤ (r *ℤ n)))) <ℤ ((r *ℤ r) *ℤ (n *ℤ n)) → (pos 0) <ℤ z
in_sphere x y z r n hr hn h = prove_lt_by (x ∷ y ∷ z ∷ r ∷ n ∷ []) (Lt (Num (pos 0)) (Var 3) ∷ Lt (Num (pos 0)) (Var 4) ∷ Lt (Add (Add (Mul (Var 0) (Var 0)) (Mul (Var 1) (Var 1))) (Mul (Sub (Var 2) (Mul (Var 3) (Var 4))) (Sub (Var 2) (Mul (Var 3) (Var 4))))) (Mul (Mul (Var 3) (Var 3)) (Mul (Var 4) (Var 4))) ∷ []) (Num (pos 0)) (Var 2) (Plus (Hyp 3) (Plus (Sq (Var 0)) (Plus (Sq (Var 1)) (Plus (Sq (Var 2)) (Times (Lit 2) (Times (Times (Hyp 0) (Plus (Hyp 1) (Lit 1))) (Plus (Hyp 2) (Lit 1)))))))) 0 (hr, (hn, (h, tt))) refl
