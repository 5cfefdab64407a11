-- Polynomial facts behind a box that keeps off the sphere.
-- Written by tools/certificates.py from tools/certificates/mill_contact_ball_gap.spec.
use Rattle.std.proofs.Common.{[], ◌∷◌, refl}
use lib.IntN.{ℤ, pos, ◌+ℤ◌, ◌*ℤ◌}
use lib.Signed.{◌<ℤ◌, ◌≤ℤ◌}
use Rattle.mill_base.proofs.Ring.{Var, Num, Add, Mul}
use Rattle.mill_base.proofs.Cert.{Le, Lt, Hyp, Sq, Lit, Plus, Times, refute}

-- vars x y z n g t r; hyp hn: 0 <= n; hyp ht: t <= 0; hyp hg: g*(n*n) <= x*x+y*y; hyp hz: z <= t*n; hyp far: r*r <= t*t+g; hyp h: (x*x+y*y)+z*z < (r*r)*(n*n); goal false; mul hz * hz; mul hz * ht * hn; mul far * sq(n)
pub under_far : (x y z n g t r : ℤ) → (pos 0) ≤ℤ n → t ≤ℤ (pos 0) → (g *ℤ (n *ℤ n)) ≤ℤ ((x *ℤ x) +ℤ (y *ℤ y)) → z ≤ℤ (t *ℤ n) → (r *ℤ r) ≤ℤ ((t *ℤ t) +ℤ g) → (((x *ℤ x) +ℤ (y *ℤ y)) +ℤ (z *ℤ z)) <ℤ ((r *ℤ r) *ℤ (n *ℤ n)) → ⊥
under_far x y z n g t r hn ht hg hz far h = refute (x ∷ y ∷ z ∷ n ∷ g ∷ t ∷ r ∷ []) (Le (Num (pos 0)) (Var 3) ∷ Le (Var 5) (Num (pos 0)) ∷ Le (Mul (Var 4) (Mul (Var 3) (Var 3))) (Add (Mul (Var 0) (Var 0)) (Mul (Var 1) (Var 1))) ∷ Le (Var 2) (Mul (Var 5) (Var 3)) ∷ Le (Mul (Var 6) (Var 6)) (Add (Mul (Var 5) (Var 5)) (Var 4)) ∷ Lt (Add (Add (Mul (Var 0) (Var 0)) (Mul (Var 1) (Var 1))) (Mul (Var 2) (Var 2))) (Mul (Mul (Var 6) (Var 6)) (Mul (Var 3) (Var 3))) ∷ []) (Plus (Hyp 2) (Plus (Hyp 5) (Plus (Times (Hyp 3) (Hyp 3)) (Plus (Times (Lit 2) (Times (Times (Hyp 3) (Hyp 1)) (Hyp 0))) (Times (Hyp 4) (Sq (Var 3))))))) 0 (hn, (ht, (hg, (hz, (far, (h, tt)))))) refl

-- vars x y z n g r; hyp hg: g*(n*n) <= x*x+y*y; hyp far: r*r <= 0*0+g; hyp h: (x*x+y*y)+z*z < (r*r)*(n*n); goal false; square z; mul far * sq(n)
pub beside_far : (x y z n g r : ℤ) → (g *ℤ (n *ℤ n)) ≤ℤ ((x *ℤ x) +ℤ (y *ℤ y)) → (r *ℤ r) ≤ℤ (((pos 0) *ℤ (pos 0)) +ℤ g) → (((x *ℤ x) +ℤ (y *ℤ y)) +ℤ (z *ℤ z)) <ℤ ((r *ℤ r) *ℤ (n *ℤ n)) → ⊥
beside_far x y z n g r hg far h = refute (x ∷ y ∷ z ∷ n ∷ g ∷ r ∷ []) (Le (Mul (Var 4) (Mul (Var 3) (Var 3))) (Add (Mul (Var 0) (Var 0)) (Mul (Var 1) (Var 1))) ∷ Le (Mul (Var 5) (Var 5)) (Add (Mul (Num (pos 0)) (Num (pos 0))) (Var 4)) ∷ Lt (Add (Add (Mul (Var 0) (Var 0)) (Mul (Var 1) (Var 1))) (Mul (Var 2) (Var 2))) (Mul (Mul (Var 5) (Var 5)) (Mul (Var 3) (Var 3))) ∷ []) (Plus (Hyp 0) (Plus (Hyp 2) (Plus (Sq (Var 2)) (Times (Hyp 1) (Sq (Var 3)))))) 0 (hg, (far, (h, tt))) refl

-- vars x y n g r; hyp hg: g*(n*n) <= x*x+y*y; hyp far: r*r <= 0*0+g; hyp h: x*x+y*y < (r*r)*(n*n); goal false; mul far * sq(n)
pub axis_far : (x y n g r : ℤ) → (g *ℤ (n *ℤ n)) ≤ℤ ((x *ℤ x) +ℤ (y *ℤ y)) → (r *ℤ r) ≤ℤ (((pos 0) *ℤ (pos 0)) +ℤ g) → ((x *ℤ x) +ℤ (y *ℤ y)) <ℤ ((r *ℤ r) *ℤ (n *ℤ n)) → ⊥
axis_far x y n g r hg far h = refute (x ∷ y ∷ n ∷ g ∷ r ∷ []) (Le (Mul (Var 3) (Mul (Var 2) (Var 2))) (Add (Mul (Var 0) (Var 0)) (Mul (Var 1) (Var 1))) ∷ Le (Mul (Var 4) (Var 4)) (Add (Mul (Num (pos 0)) (Num (pos 0))) (Var 3)) ∷ Lt (Add (Mul (Var 0) (Var 0)) (Mul (Var 1) (Var 1))) (Mul (Mul (Var 4) (Var 4)) (Mul (Var 2) (Var 2))) ∷ []) (Plus (Hyp 0) (Plus (Hyp 2) (Times (Hyp 1) (Sq (Var 2))))) 0 (hg, (far, (h, tt))) refl

-- vars z n t; hyp hn: 0 <= n; hyp ht: t <= 0; hyp hz: z <= t*n; hyp h: 0 < z; goal false; mul ht * hn
pub under_centre : (z n t : ℤ) → (pos 0) ≤ℤ n → t ≤ℤ (pos 0) → z ≤ℤ (t *ℤ n) → (pos 0) <ℤ z → ⊥
under_centre z n t hn ht hz h = refute (z ∷ n ∷ t ∷ []) (Le (Num (pos 0)) (Var 1) ∷ Le (Var 2) (Num (pos 0)) ∷ Le (Var 0) (Mul (Var 2) (Var 1)) ∷ Lt (Num (pos 0)) (Var 0) ∷ []) (Plus (Hyp 2) (Plus (Hyp 3) (Times (Hyp 1) (Hyp 0)))) 0 (hn, (ht, (hz, (h, tt)))) refl
