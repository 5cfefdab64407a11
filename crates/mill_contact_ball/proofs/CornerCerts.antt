-- Polynomial facts behind a triangle's corner in the sphere.
-- Written by tools/certificates.py from tools/certificates/mill_contact_ball_corner.spec.
use Rattle.std.proofs.Common.{[], ◌∷◌, refl}
use lib.IntN.{ℤ, pos, ◌+ℤ◌, ◌-ℤ◌, ◌*ℤ◌}
use lib.Signed.{◌<ℤ◌}
use Rattle.mill_base.proofs.Ring.{Var, Num, Add, Sub, Mul}
use Rattle.mill_base.proofs.Cert.{Lt, Hyp, Plus, prove_lt_by}

-- vars ax ay az bx by bz cx cy cz r; hyp h: ((ax*ax+ay*ay)+az*az)-r*r < 0; goal (((1*ax+0*bx)+0*cx)*((1*ax+0*bx)+0*cx)+((1*ay+0*by)+0*cy)*((1*ay+0*by)+0*cy))+((1*az+0*bz)+0*cz)*((1*az+0*bz)+0*cz) < (r*r)*(((1+0)+0)*((1+0)+0))
pub corner_first : (ax ay az bx by bz cx cy cz r : ℤ) → ((((ax *ℤ ax) +ℤ (ay *ℤ ay)) +ℤ (az *ℤ az)) -ℤ (r *ℤ r)) <ℤ (pos 0) → (((((((pos 1) *ℤ ax) +ℤ ((pos 0) *ℤ bx)) +ℤ ((pos 0) *ℤ cx)) *ℤ ((((pos 1) *ℤ ax) +ℤ ((pos 0) *ℤ bx)) +ℤ ((pos 0) *ℤ cx))) +ℤ (((((pos 1) *ℤ ay) +ℤ ((pos 0) *ℤ by)) +ℤ ((pos 0) *ℤ cy)) *ℤ ((((pos 1) *ℤ ay) +ℤ ((pos 0) *ℤ by)) +ℤ ((pos 0) *ℤ cy)))) +ℤ (((((pos 1) *ℤ az) +ℤ ((pos 0) *ℤ bz)) +ℤ ((pos 0) *ℤ cz)) *ℤ ((((pos 1) *ℤ az) +ℤ ((pos 0) *ℤ bz)) +ℤ ((pos 0) *ℤ cz)))) <ℤ ((r *ℤ r) *ℤ ((((pos 1) +ℤ (pos 0)) +ℤ (pos 0)) *ℤ (((pos 1) +ℤ (pos 0)) +ℤ (pos 0))))
corner_first ax ay az bx by bz cx cy cz r h = prove_lt_by (ax ∷ ay ∷ az ∷ bx ∷ by ∷ bz ∷ cx ∷ cy ∷ cz ∷ r ∷ []) (Lt (Sub (Add (Add (Mul (Var 0) (Var 0)) (Mul (Var 1) (Var 1))) (Mul (Var 2) (Var 2))) (Mul (Var 9) (Var 9))) (Num (pos 0)) ∷ []) (Add (Add (Mul (Add (Add (Mul (Num (pos 1)) (Var 0)) (Mul (Num (pos 0)) (Var 3))) (Mul (Num (pos 0)) (Var 6))) (Add (Add (Mul (Num (pos 1)) (Var 0)) (Mul (Num (pos 0)) (Var 3))) (Mul (Num (pos 0)) (Var 6)))) (Mul (Add (Add (Mul (Num (pos 1)) (Var 1)) (Mul (Num (pos 0)) (Var 4))) (Mul (Num (pos 0)) (Var 7))) (Add (Add (Mul (Num (pos 1)) (Var 1)) (Mul (Num (pos 0)) (Var 4))) (Mul (Num (pos 0)) (Var 7))))) (Mul (Add (Add (Mul (Num (pos 1)) (Var 2)) (Mul (Num (pos 0)) (Var 5))) (Mul (Num (pos 0)) (Var 8))) (Add (Add (Mul (Num (pos 1)) (Var 2)) (Mul (Num (pos 0)) (Var 5))) (Mul (Num (pos 0)) (Var 8))))) (Mul (Mul (Var 9) (Var 9)) (Mul (Add (Add (Num (pos 1)) (Num (pos 0))) (Num (pos 0))) (Add (Add (Num (pos 1)) (Num (pos 0))) (Num (pos 0))))) (Plus (Hyp 0) (Hyp 1)) 0 (h, tt) refl

-- vars ax ay az bx by bz cx cy cz r; hyp h: ((bx*bx+by*by)+bz*bz)-r*r < 0; goal (((0*ax+1*bx)+0*cx)*((0*ax+1*bx)+0*cx)+((0*ay+1*by)+0*cy)*((0*ay+1*by)+0*cy))+((0*az+1*bz)+0*cz)*((0*az+1*bz)+0*cz) < (r*r)*(((0+1)+0)*((0+1)+0))
pub corner_second : (ax ay az bx by bz cx cy cz r : ℤ) → ((((bx *ℤ bx) +ℤ (by *ℤ by)) +ℤ (bz *ℤ bz)) -ℤ (r *ℤ r)) <ℤ (pos 0) → (((((((pos 0) *ℤ ax) +ℤ ((pos 1) *ℤ bx)) +ℤ ((pos 0) *ℤ cx)) *ℤ ((((pos 0) *ℤ ax) +ℤ ((pos 1) *ℤ bx)) +ℤ ((pos 0) *ℤ cx))) +ℤ (((((pos 0) *ℤ ay) +ℤ ((pos 1) *ℤ by)) +ℤ ((pos 0) *ℤ cy)) *ℤ ((((pos 0) *ℤ ay) +ℤ ((pos 1) *ℤ by)) +ℤ ((pos 0) *ℤ cy)))) +ℤ (((((pos 0) *ℤ az) +ℤ ((pos 1) *ℤ bz)) +ℤ ((pos 0) *ℤ cz)) *ℤ ((((pos 0) *ℤ az) +ℤ ((pos 1) *ℤ bz)) +ℤ ((pos 0) *ℤ cz)))) <ℤ ((r *ℤ r) *ℤ ((((pos 0) +ℤ (pos 1)) +ℤ (pos 0)) *ℤ (((pos 0) +ℤ (pos 1)) +ℤ (pos 0))))
corner_second ax ay az bx by bz cx cy cz r h = prove_lt_by (ax ∷ ay ∷ az ∷ bx ∷ by ∷ bz ∷ cx ∷ cy ∷ cz ∷ r ∷ []) (Lt (Sub (Add (Add (Mul (Var 3) (Var 3)) (Mul (Var 4) (Var 4))) (Mul (Var 5) (Var 5))) (Mul (Var 9) (Var 9))) (Num (pos 0)) ∷ []) (Add (Add (Mul (Add (Add (Mul (Num (pos 0)) (Var 0)) (Mul (Num (pos 1)) (Var 3))) (Mul (Num (pos 0)) (Var 6))) (Add (Add (Mul (Num (pos 0)) (Var 0)) (Mul (Num (pos 1)) (Var 3))) (Mul (Num (pos 0)) (Var 6)))) (Mul (Add (Add (Mul (Num (pos 0)) (Var 1)) (Mul (Num (pos 1)) (Var 4))) (Mul (Num (pos 0)) (Var 7))) (Add (Add (Mul (Num (pos 0)) (Var 1)) (Mul (Num (pos 1)) (Var 4))) (Mul (Num (pos 0)) (Var 7))))) (Mul (Add (Add (Mul (Num (pos 0)) (Var 2)) (Mul (Num (pos 1)) (Var 5))) (Mul (Num (pos 0)) (Var 8))) (Add (Add (Mul (Num (pos 0)) (Var 2)) (Mul (Num (pos 1)) (Var 5))) (Mul (Num (pos 0)) (Var 8))))) (Mul (Mul (Var 9) (Var 9)) (Mul (Add (Add (Num (pos 0)) (Num (pos 1))) (Num (pos 0))) (Add (Add (Num (pos 0)) (Num (pos 1))) (Num (pos 0))))) (Plus (Hyp 0) (Hyp 1)) 0 (h, tt) refl

-- vars ax ay az bx by bz cx cy cz r; hyp h: ((cx*cx+cy*cy)+cz*cz)-r*r < 0; goal (((0*ax+0*bx)+1*cx)*((0*ax+0*bx)+1*cx)+((0*ay+0*by)+1*cy)*((0*ay+0*by)+1*cy))+((0*az+0*bz)+1*cz)*((0*az+0*bz)+1*cz) < (r*r)*(((0+0)+1)*((0+0)+1))
pub corner_third : (ax ay az bx by bz cx cy cz r : ℤ) → ((((cx *ℤ cx) +ℤ (cy *ℤ cy)) +ℤ (cz *ℤ cz)) -ℤ (r *ℤ r)) <ℤ (pos 0) → (((((((pos 0) *ℤ ax) +ℤ ((pos 0) *ℤ bx)) +ℤ ((pos 1) *ℤ cx)) *ℤ ((((pos 0) *ℤ ax) +ℤ ((pos 0) *ℤ bx)) +ℤ ((pos 1) *ℤ cx))) +ℤ (((((pos 0) *ℤ ay) +ℤ ((pos 0) *ℤ by)) +ℤ ((pos 1) *ℤ cy)) *ℤ ((((pos 0) *ℤ ay) +ℤ ((pos 0) *ℤ by)) +ℤ ((pos 1) *ℤ cy)))) +ℤ (((((pos 0) *ℤ az) +ℤ ((pos 0) *ℤ bz)) +ℤ ((pos 1) *ℤ cz)) *ℤ ((((pos 0) *ℤ az) +ℤ ((pos 0) *ℤ bz)) +ℤ ((pos 1) *ℤ cz)))) <ℤ ((r *ℤ r) *ℤ ((((pos 0) +ℤ (pos 0)) +ℤ (pos 1)) *ℤ (((pos 0) +ℤ (pos 0)) +ℤ (pos 1))))
corner_third ax ay az bx by bz cx cy cz r h = prove_lt_by (ax ∷ ay ∷ az ∷ bx ∷ by ∷ bz ∷ cx ∷ cy ∷ cz ∷ r ∷ []) (Lt (Sub (Add (Add (Mul (Var 6) (Var 6)) (Mul (Var 7) (Var 7))) (Mul (Var 8) (Var 8))) (Mul (Var 9) (Var 9))) (Num (pos 0)) ∷ []) (Add (Add (Mul (Add (Add (Mul (Num (pos 0)) (Var 0)) (Mul (Num (pos 0)) (Var 3))) (Mul (Num (pos 1)) (Var 6))) (Add (Add (Mul (Num (pos 0)) (Var 0)) (Mul (Num (pos 0)) (Var 3))) (Mul (Num (pos 1)) (Var 6)))) (Mul (Add (Add (Mul (Num (pos 0)) (Var 1)) (Mul (Num (pos 0)) (Var 4))) (Mul (Num (pos 1)) (Var 7))) (Add (Add (Mul (Num (pos 0)) (Var 1)) (Mul (Num (pos 0)) (Var 4))) (Mul (Num (pos 1)) (Var 7))))) (Mul (Add (Add (Mul (Num (pos 0)) (Var 2)) (Mul (Num (pos 0)) (Var 5))) (Mul (Num (pos 1)) (Var 8))) (Add (Add (Mul (Num (pos 0)) (Var 2)) (Mul (Num (pos 0)) (Var 5))) (Mul (Num (pos 1)) (Var 8))))) (Mul (Mul (Var 9) (Var 9)) (Mul (Add (Add (Num (pos 0)) (Num (pos 0))) (Num (pos 1))) (Add (Add (Num (pos 0)) (Num (pos 0))) (Num (pos 1))))) (Plus (Hyp 0) (Hyp 1)) 0 (h, tt) refl
