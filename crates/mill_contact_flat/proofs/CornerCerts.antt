-- Polynomial facts behind corners and boxes.
-- Written by tools/certificates.py from tools/certificates/mill_contact_flat_corner.spec.
use Rattle.std.proofs.Common.{[], ◌∷◌, refl}
use lib.IntN.{ℤ, pos, ◌+ℤ◌, ◌*ℤ◌}
use lib.Signed.{◌<ℤ◌, ◌≤ℤ◌}
use Rattle.mill_base.proofs.Ring.{Var, Num, Add, Mul}
use Rattle.mill_base.proofs.Cert.{Le, Lt, Hyp, Sq, Plus, Times, refute, prove_lt_by}

-- vars ax ay bx by cx cy r; hyp h: ax*ax+ay*ay < r*r; goal ((1*ax+0*bx)+0*cx)*((1*ax+0*bx)+0*cx)+((1*ay+0*by)+0*cy)*((1*ay+0*by)+0*cy) < (r*r)*(((1+0)+0)*((1+0)+0))
pub corner_near : (ax ay bx by cx cy r : ℤ) → ((ax *ℤ ax) +ℤ (ay *ℤ ay)) <ℤ (r *ℤ r) → ((((((pos 1) *ℤ ax) +ℤ ((pos 0) *ℤ bx)) +ℤ ((pos 0) *ℤ cx)) *ℤ ((((pos 1) *ℤ ax) +ℤ ((pos 0) *ℤ bx)) +ℤ ((pos 0) *ℤ cx))) +ℤ (((((pos 1) *ℤ ay) +ℤ ((pos 0) *ℤ by)) +ℤ ((pos 0) *ℤ cy)) *ℤ ((((pos 1) *ℤ ay) +ℤ ((pos 0) *ℤ by)) +ℤ ((pos 0) *ℤ cy)))) <ℤ ((r *ℤ r) *ℤ ((((pos 1) +ℤ (pos 0)) +ℤ (pos 0)) *ℤ (((pos 1) +ℤ (pos 0)) +ℤ (pos 0))))
corner_near ax ay bx by cx cy r h = prove_lt_by (ax ∷ ay ∷ bx ∷ by ∷ cx ∷ cy ∷ r ∷ []) (Lt (Add (Mul (Var 0) (Var 0)) (Mul (Var 1) (Var 1))) (Mul (Var 6) (Var 6)) ∷ []) (Add (Mul (Add (Add (Mul (Num (pos 1)) (Var 0)) (Mul (Num (pos 0)) (Var 2))) (Mul (Num (pos 0)) (Var 4))) (Add (Add (Mul (Num (pos 1)) (Var 0)) (Mul (Num (pos 0)) (Var 2))) (Mul (Num (pos 0)) (Var 4)))) (Mul (Add (Add (Mul (Num (pos 1)) (Var 1)) (Mul (Num (pos 0)) (Var 3))) (Mul (Num (pos 0)) (Var 5))) (Add (Add (Mul (Num (pos 1)) (Var 1)) (Mul (Num (pos 0)) (Var 3))) (Mul (Num (pos 0)) (Var 5))))) (Mul (Mul (Var 6) (Var 6)) (Mul (Add (Add (Num (pos 1)) (Num (pos 0))) (Num (pos 0))) (Add (Add (Num (pos 1)) (Num (pos 0))) (Num (pos 0))))) (Plus (Hyp 0) (Hyp 1)) 0 (h, tt) refl

-- vars az bz cz; hyp h: 0 < az; goal 0 < (1*az+0*bz)+0*cz
pub corner_over : (az bz cz : ℤ) → (pos 0) <ℤ az → (pos 0) <ℤ ((((pos 1) *ℤ az) +ℤ ((pos 0) *ℤ bz)) +ℤ ((pos 0) *ℤ cz))
corner_over az bz cz h = prove_lt_by (az ∷ bz ∷ cz ∷ []) (Lt (Num (pos 0)) (Var 0) ∷ []) (Num (pos 0)) (Add (Add (Mul (Num (pos 1)) (Var 0)) (Mul (Num (pos 0)) (Var 1))) (Mul (Num (pos 0)) (Var 2))) (Plus (Hyp 0) (Hyp 1)) 0 (h, tt) refl

-- vars x y n g r; hyp hg: g*(n*n) <= x*x+y*y; hyp far: r*r <= g; hyp h: x*x+y*y < (r*r)*(n*n); goal false; mul far * sq(n)
pub axis_far : (x y n g r : ℤ) → (g *ℤ (n *ℤ n)) ≤ℤ ((x *ℤ x) +ℤ (y *ℤ y)) → (r *ℤ r) ≤ℤ g → ((x *ℤ x) +ℤ (y *ℤ y)) <ℤ ((r *ℤ r) *ℤ (n *ℤ n)) → ⊥
axis_far x y n g r hg far h = refute (x ∷ y ∷ n ∷ g ∷ r ∷ []) (Le (Mul (Var 3) (Mul (Var 2) (Var 2))) (Add (Mul (Var 0) (Var 0)) (Mul (Var 1) (Var 1))) ∷ Le (Mul (Var 4) (Var 4)) (Var 3) ∷ Lt (Add (Mul (Var 0) (Var 0)) (Mul (Var 1) (Var 1))) (Mul (Mul (Var 4) (Var 4)) (Mul (Var 2) (Var 2))) ∷ []) (Plus (Hyp 0) (Plus (Hyp 2) (Times (Hyp 1) (Sq (Var 2))))) 0 (hg, (far, (h, tt))) refl

-- vars z n t; hyp hn: 0 <= n; hyp ht: t <= 0; hyp hz: z <= t*n; hyp h: 0 < z; goal false; mul ht * hn
pub under_level : (z n t : ℤ) → (pos 0) ≤ℤ n → t ≤ℤ (pos 0) → z ≤ℤ (t *ℤ n) → (pos 0) <ℤ z → ⊥
under_level z n t hn ht hz h = refute (z ∷ n ∷ t ∷ []) (Le (Num (pos 0)) (Var 1) ∷ Le (Var 2) (Num (pos 0)) ∷ Le (Var 0) (Mul (Var 2) (Var 1)) ∷ Lt (Num (pos 0)) (Var 0) ∷ []) (Plus (Hyp 2) (Plus (Hyp 3) (Times (Hyp 1) (Hyp 0)))) 0 (hn, (ht, (hz, (h, tt)))) refl
