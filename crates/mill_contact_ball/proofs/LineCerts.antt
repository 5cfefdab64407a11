-- Polynomial facts behind triangles whose corners lie on one line.
-- Written by tools/certificates.py from tools/certificates/mill_contact_ball_line.spec.
use Rattle.std.proofs.Common.{◌≡◌, [], ◌∷◌, refl}
use lib.IntN.{ℤ, pos, negsuc, ◌+ℤ◌, ◌-ℤ◌, ◌*ℤ◌}
use lib.Signed.{◌≤ℤ◌}
use Rattle.mill_base.proofs.Ring.{Var, Num, Add, Sub, Mul, Neg, ring}
use Rattle.mill_base.proofs.Cert.{Le, Eq, Hyp, TimesEq, Sq, Lit, Plus, Times, prove_le_by}

-- vars ax ay az bx by bz cx cy cz; hyp e1: (((bz*cx-bx*cz)+(cz*ax-cx*az))+(az*bx-ax*bz)) == 0; hyp e2: (((bx*cy-by*cx)+(cx*ay-cy*ax))+(ax*by-ay*bx)) == 0; goal (((bx-cx)*(bx-ax)+(by-cy)*(by-ay)+(bz-cz)*(bz-az))*ax+((cx-ax)*(bx-ax)+(cy-ay)*(by-ay)+(cz-az)*(bz-az))*bx)+((ax-bx)*(bx-ax)+(ay-by)*(by-ay)+(az-bz)*(bz-az))*cx <= 0; eqmul e1 * (bz-az); eqmul e2 * (by-ay)
pub deg_x_le : (ax ay az bx by bz cx cy cz : ℤ) → ((((bz *ℤ cx) -ℤ (bx *ℤ cz)) +ℤ ((cz *ℤ ax) -ℤ (cx *ℤ az))) +ℤ ((az *ℤ bx) -ℤ (ax *ℤ bz))) ≡ (pos 0) → ((((bx *ℤ cy) -ℤ (by *ℤ cx)) +ℤ ((cx *ℤ ay) -ℤ (cy *ℤ ax))) +ℤ ((ax *ℤ by) -ℤ (ay *ℤ bx))) ≡ (pos 0) → (((((((bx -ℤ cx) *ℤ (bx -ℤ ax)) +ℤ ((by -ℤ cy) *ℤ (by -ℤ ay))) +ℤ ((bz -ℤ cz) *ℤ (bz -ℤ az))) *ℤ ax) +ℤ (((((cx -ℤ ax) *ℤ (bx -ℤ ax)) +ℤ ((cy -ℤ ay) *ℤ (by -ℤ ay))) +ℤ ((cz -ℤ az) *ℤ (bz -ℤ az))) *ℤ bx)) +ℤ (((((ax -ℤ bx) *ℤ (bx -ℤ ax)) +ℤ ((ay -ℤ by) *ℤ (by -ℤ ay))) +ℤ ((az -ℤ bz) *ℤ (bz -ℤ az))) *ℤ cx)) ≤ℤ (pos 0)
deg_x_le ax ay az bx by bz cx cy cz e1 e2 = prove_le_by (ax ∷ ay ∷ az ∷ bx ∷ by ∷ bz ∷ cx ∷ cy ∷ cz ∷ []) (Eq (Add (Add (Sub (Mul (Var 5) (Var 6)) (Mul (Var 3) (Var 8))) (Sub (Mul (Var 8) (Var 0)) (Mul (Var 6) (Var 2)))) (Sub (Mul (Var 2) (Var 3)) (Mul (Var 0) (Var 5)))) (Num (pos 0)) ∷ Eq (Add (Add (Sub (Mul (Var 3) (Var 7)) (Mul (Var 4) (Var 6))) (Sub (Mul (Var 6) (Var 1)) (Mul (Var 7) (Var 0)))) (Sub (Mul (Var 0) (Var 4)) (Mul (Var 1) (Var 3)))) (Num (pos 0)) ∷ []) (Add (Add (Mul (Add (Add (Mul (Sub (Var 3) (Var 6)) (Sub (Var 3) (Var 0))) (Mul (Sub (Var 4) (Var 7)) (Sub (Var 4) (Var 1)))) (Mul (Sub (Var 5) (Var 8)) (Sub (Var 5) (Var 2)))) (Var 0)) (Mul (Add (Add (Mul (Sub (Var 6) (Var 0)) (Sub (Var 3) (Var 0))) (Mul (Sub (Var 7) (Var 1)) (Sub (Var 4) (Var 1)))) (Mul (Sub (Var 8) (Var 2)) (Sub (Var 5) (Var 2)))) (Var 3))) (Mul (Add (Add (Mul (Sub (Var 0) (Var 3)) (Sub (Var 3) (Var 0))) (Mul (Sub (Var 1) (Var 4)) (Sub (Var 4) (Var 1)))) (Mul (Sub (Var 2) (Var 5)) (Sub (Var 5) (Var 2)))) (Var 6))) (Num (pos 0)) (Plus (Hyp 0) (Plus (TimesEq 1 (Neg (Sub (Var 5) (Var 2)))) (TimesEq 2 (Sub (Var 4) (Var 1))))) 0 (e1, (e2, tt)) refl

-- vars ax ay az bx by bz cx cy cz; hyp e1: (((bz*cx-bx*cz)+(cz*ax-cx*az))+(az*bx-ax*bz)) == 0; hyp e2: (((bx*cy-by*cx)+(cx*ay-cy*ax))+(ax*by-ay*bx)) == 0; goal 0 <= (((bx-cx)*(bx-ax)+(by-cy)*(by-ay)+(bz-cz)*(bz-az))*ax+((cx-ax)*(bx-ax)+(cy-ay)*(by-ay)+(cz-az)*(bz-az))*bx)+((ax-bx)*(bx-ax)+(ay-by)*(by-ay)+(az-bz)*(bz-az))*cx; eqmul e1 * (bz-az); eqmul e2 * (by-ay)
pub deg_x_ge : (ax ay az bx by bz cx cy cz : ℤ) → ((((bz *ℤ cx) -ℤ (bx *ℤ cz)) +ℤ ((cz *ℤ ax) -ℤ (cx *ℤ az))) +ℤ ((az *ℤ bx) -ℤ (ax *ℤ bz))) ≡ (pos 0) → ((((bx *ℤ cy) -ℤ (by *ℤ cx)) +ℤ ((cx *ℤ ay) -ℤ (cy *ℤ ax))) +ℤ ((ax *ℤ by) -ℤ (ay *ℤ bx))) ≡ (pos 0) → (pos 0) ≤ℤ (((((((bx -ℤ cx) *ℤ (bx -ℤ ax)) +ℤ ((by -ℤ cy) *ℤ (by -ℤ ay))) +ℤ ((bz -ℤ cz) *ℤ (bz -ℤ az))) *ℤ ax) +ℤ (((((cx -ℤ ax) *ℤ (bx -ℤ ax)) +ℤ ((cy -ℤ ay) *ℤ (by -ℤ ay))) +ℤ ((cz -ℤ az) *ℤ (bz -ℤ az))) *ℤ bx)) +ℤ (((((ax -ℤ bx) *ℤ (bx -ℤ ax)) +ℤ ((ay -ℤ by) *ℤ (by -ℤ ay))) +ℤ ((az -ℤ bz) *ℤ (bz -ℤ az))) *ℤ cx))
deg_x_ge ax ay az bx by bz cx cy cz e1 e2 = prove_le_by (ax ∷ ay ∷ az ∷ bx ∷ by ∷ bz ∷ cx ∷ cy ∷ cz ∷ []) (Eq (Add (Add (Sub (Mul (Var 5) (Var 6)) (Mul (Var 3) (Var 8))) (Sub (Mul (Var 8) (Var 0)) (Mul (Var 6) (Var 2)))) (Sub (Mul (Var 2) (Var 3)) (Mul (Var 0) (Var 5)))) (Num (pos 0)) ∷ Eq (Add (Add (Sub (Mul (Var 3) (Var 7)) (Mul (Var 4) (Var 6))) (Sub (Mul (Var 6) (Var 1)) (Mul (Var 7) (Var 0)))) (Sub (Mul (Var 0) (Var 4)) (Mul (Var 1) (Var 3)))) (Num (pos 0)) ∷ []) (Num (pos 0)) (Add (Add (Mul (Add (Add (Mul (Sub (Var 3) (Var 6)) (Sub (Var 3) (Var 0))) (Mul (Sub (Var 4) (Var 7)) (Sub (Var 4) (Var 1)))) (Mul (Sub (Var 5) (Var 8)) (Sub (Var 5) (Var 2)))) (Var 0)) (Mul (Add (Add (Mul (Sub (Var 6) (Var 0)) (Sub (Var 3) (Var 0))) (Mul (Sub (Var 7) (Var 1)) (Sub (Var 4) (Var 1)))) (Mul (Sub (Var 8) (Var 2)) (Sub (Var 5) (Var 2)))) (Var 3))) (Mul (Add (Add (Mul (Sub (Var 0) (Var 3)) (Sub (Var 3) (Var 0))) (Mul (Sub (Var 1) (Var 4)) (Sub (Var 4) (Var 1)))) (Mul (Sub (Var 2) (Var 5)) (Sub (Var 5) (Var 2)))) (Var 6))) (Plus (Hyp 0) (Plus (TimesEq 1 (Sub (Var 5) (Var 2))) (TimesEq 2 (Neg (Sub (Var 4) (Var 1)))))) 0 (e1, (e2, tt)) refl

-- vars ax ay az bx by bz cx cy cz; hyp e1: (((bx*cy-by*cx)+(cx*ay-cy*ax))+(ax*by-ay*bx)) == 0; hyp e2: (((by*cz-bz*cy)+(cy*az-cz*ay))+(ay*bz-az*by)) == 0; goal (((bx-cx)*(bx-ax)+(by-cy)*(by-ay)+(bz-cz)*(bz-az))*ay+((cx-ax)*(bx-ax)+(cy-ay)*(by-ay)+(cz-az)*(bz-az))*by)+((ax-bx)*(bx-ax)+(ay-by)*(by-ay)+(az-bz)*(bz-az))*cy <= 0; eqmul e1 * (bx-ax); eqmul e2 * (bz-az)
pub deg_y_le : (ax ay az bx by bz cx cy cz : ℤ) → ((((bx *ℤ cy) -ℤ (by *ℤ cx)) +ℤ ((cx *ℤ ay) -ℤ (cy *ℤ ax))) +ℤ ((ax *ℤ by) -ℤ (ay *ℤ bx))) ≡ (pos 0) → ((((by *ℤ cz) -ℤ (bz *ℤ cy)) +ℤ ((cy *ℤ az) -ℤ (cz *ℤ ay))) +ℤ ((ay *ℤ bz) -ℤ (az *ℤ by))) ≡ (pos 0) → (((((((bx -ℤ cx) *ℤ (bx -ℤ ax)) +ℤ ((by -ℤ cy) *ℤ (by -ℤ ay))) +ℤ ((bz -ℤ cz) *ℤ (bz -ℤ az))) *ℤ ay) +ℤ (((((cx -ℤ ax) *ℤ (bx -ℤ ax)) +ℤ ((cy -ℤ ay) *ℤ (by -ℤ ay))) +ℤ ((cz -ℤ az) *ℤ (bz -ℤ az))) *ℤ by)) +ℤ (((((ax -ℤ bx) *ℤ (bx -ℤ ax)) +ℤ ((ay -ℤ by) *ℤ (by -ℤ ay))) +ℤ ((az -ℤ bz) *ℤ (bz -ℤ az))) *ℤ cy)) ≤ℤ (pos 0)
deg_y_le ax ay az bx by bz cx cy cz e1 e2 = prove_le_by (ax ∷ ay ∷ az ∷ bx ∷ by ∷ bz ∷ cx ∷ cy ∷ cz ∷ []) (Eq (Add (Add (Sub (Mul (Var 3) (Var 7)) (Mul (Var 4) (Var 6))) (Sub (Mul (Var 6) (Var 1)) (Mul (Var 7) (Var 0)))) (Sub (Mul (Var 0) (Var 4)) (Mul (Var 1) (Var 3)))) (Num (pos 0)) ∷ Eq (Add (Add (Sub (Mul (Var 4) (Var 8)) (Mul (Var 5) (Var 7))) (Sub (Mul (Var 7) (Var 2)) (Mul (Var 8) (Var 1)))) (Sub (Mul (Var 1) (Var 5)) (Mul (Var 2) (Var 4)))) (Num (pos 0)) ∷ []) (Add (Add (Mul (Add (Add (Mul (Sub (Var 3) (Var 6)) (Sub (Var 3) (Var 0))) (Mul (Sub (Var 4) (Var 7)) (Sub (Var 4) (Var 1)))) (Mul (Sub (Var 5) (Var 8)) (Sub (Var 5) (Var 2)))) (Var 1)) (Mul (Add (Add (Mul (Sub (Var 6) (Var 0)) (Sub (Var 3) (Var 0))) (Mul (Sub (Var 7) (Var 1)) (Sub (Var 4) (Var 1)))) (Mul (Sub (Var 8) (Var 2)) (Sub (Var 5) (Var 2)))) (Var 4))) (Mul (Add (Add (Mul (Sub (Var 0) (Var 3)) (Sub (Var 3) (Var 0))) (Mul (Sub (Var 1) (Var 4)) (Sub (Var 4) (Var 1)))) (Mul (Sub (Var 2) (Var 5)) (Sub (Var 5) (Var 2)))) (Var 7))) (Num (pos 0)) (Plus (Hyp 0) (Plus (TimesEq 1 (Neg (Sub (Var 3) (Var 0)))) (TimesEq 2 (Sub (Var 5) (Var 2))))) 0 (e1, (e2, tt)) refl

-- vars ax ay az bx by bz cx cy cz; hyp e1: (((bx*cy-by*cx)+(cx*ay-cy*ax))+(ax*by-ay*bx)) == 0; hyp e2: (((by*cz-bz*cy)+(cy*az-cz*ay))+(ay*bz-az*by)) == 0; goal 0 <= (((bx-cx)*(bx-ax)+(by-cy)*(by-ay)+(bz-cz)*(bz-az))*ay+((cx-ax)*(bx-ax)+(cy-ay)*(by-ay)+(cz-az)*(bz-az))*by)+((ax-bx)*(bx-ax)+(ay-by)*(by-ay)+(az-bz)*(bz-az))*cy; eqmul e1 * (bx-ax); eqmul e2 * (bz-az)
pub deg_y_ge : (ax ay az bx by bz cx cy cz : ℤ) → ((((bx *ℤ cy) -ℤ (by *ℤ cx)) +ℤ ((cx *ℤ ay) -ℤ (cy *ℤ ax))) +ℤ ((ax *ℤ by) -ℤ (ay *ℤ bx))) ≡ (pos 0) → ((((by *ℤ cz) -ℤ (bz *ℤ cy)) +ℤ ((cy *ℤ az) -ℤ (cz *ℤ ay))) +ℤ ((ay *ℤ bz) -ℤ (az *ℤ by))) ≡ (pos 0) → (pos 0) ≤ℤ (((((((bx -ℤ cx) *ℤ (bx -ℤ ax)) +ℤ ((by -ℤ cy) *ℤ (by -ℤ ay))) +ℤ ((bz -ℤ cz) *ℤ (bz -ℤ az))) *ℤ ay) +ℤ (((((cx -ℤ ax) *ℤ (bx -ℤ ax)) +ℤ ((cy -ℤ ay) *ℤ (by -ℤ ay))) +ℤ ((cz -ℤ az) *ℤ (bz -ℤ az))) *ℤ by)) +ℤ (((((ax -ℤ bx) *ℤ (bx -ℤ ax)) +ℤ ((ay -ℤ by) *ℤ (by -ℤ ay))) +ℤ ((az -ℤ bz) *ℤ (bz -ℤ az))) *ℤ cy))
deg_y_ge ax ay az bx by bz cx cy cz e1 e2 = prove_le_by (ax ∷ ay ∷ az ∷ bx ∷ by ∷ bz ∷ cx ∷ cy ∷ cz ∷ []) (Eq (Add (Add (Sub (Mul (Var 3) (Var 7)) (Mul (Var 4) (Var 6))) (Sub (Mul (Var 6) (Var 1)) (Mul (Var 7) (Var 0)))) (Sub (Mul (Var 0) (Var 4)) (Mul (Var 1) (Var 3)))) (Num (pos 0)) ∷ Eq (Add (Add (Sub (Mul (Var 4) (Var 8)) (Mul (Var 5) (Var 7))) (Sub (Mul (Var 7) (Var 2)) (Mul (Var 8) (Var 1)))) (Sub (Mul (Var 1) (Var 5)) (Mul (Var 2) (Var 4)))) (Num (pos 0)) ∷ []) (Num (pos 0)) (Add (Add (Mul (Add (Add (Mul (Sub (Var 3) (Var 6)) (Sub (Var 3) (Var 0))) (Mul (Sub (Var 4) (Var 7)) (Sub (Var 4) (Var 1)))) (Mul (Sub (Var 5) (Var 8)) (Sub (Var 5) (Var 2)))) (Var 1)) (Mul (Add (Add (Mul (Sub (Var 6) (Var 0)) (Sub (Var 3) (Var 0))) (Mul (Sub (Var 7) (Var 1)) (Sub (Var 4) (Var 1)))) (Mul (Sub (Var 8) (Var 2)) (Sub (Var 5) (Var 2)))) (Var 4))) (Mul (Add (Add (Mul (Sub (Var 0) (Var 3)) (Sub (Var 3) (Var 0))) (Mul (Sub (Var 1) (Var 4)) (Sub (Var 4) (Var 1)))) (Mul (Sub (Var 2) (Var 5)) (Sub (Var 5) (Var 2)))) (Var 7))) (Plus (Hyp 0) (Plus (TimesEq 1 (Sub (Var 3) (Var 0))) (TimesEq 2 (Neg (Sub (Var 5) (Var 2)))))) 0 (e1, (e2, tt)) refl

-- vars ax ay az bx by bz cx cy cz; hyp e1: (((by*cz-bz*cy)+(cy*az-cz*ay))+(ay*bz-az*by)) == 0; hyp e2: (((bz*cx-bx*cz)+(cz*ax-cx*az))+(az*bx-ax*bz)) == 0; goal (((bx-cx)*(bx-ax)+(by-cy)*(by-ay)+(bz-cz)*(bz-az))*az+((cx-ax)*(bx-ax)+(cy-ay)*(by-ay)+(cz-az)*(bz-az))*bz)+((ax-bx)*(bx-ax)+(ay-by)*(by-ay)+(az-bz)*(bz-az))*cz <= 0; eqmul e1 * (by-ay); eqmul e2 * (bx-ax)
pub deg_z_le : (ax ay az bx by bz cx cy cz : ℤ) → ((((by *ℤ cz) -ℤ (bz *ℤ cy)) +ℤ ((cy *ℤ az) -ℤ (cz *ℤ ay))) +ℤ ((ay *ℤ bz) -ℤ (az *ℤ by))) ≡ (pos 0) → ((((bz *ℤ cx) -ℤ (bx *ℤ cz)) +ℤ ((cz *ℤ ax) -ℤ (cx *ℤ az))) +ℤ ((az *ℤ bx) -ℤ (ax *ℤ bz))) ≡ (pos 0) → (((((((bx -ℤ cx) *ℤ (bx -ℤ ax)) +ℤ ((by -ℤ cy) *ℤ (by -ℤ ay))) +ℤ ((bz -ℤ cz) *ℤ (bz -ℤ az))) *ℤ az) +ℤ (((((cx -ℤ ax) *ℤ (bx -ℤ ax)) +ℤ ((cy -ℤ ay) *ℤ (by -ℤ ay))) +ℤ ((cz -ℤ az) *ℤ (bz -ℤ az))) *ℤ bz)) +ℤ (((((ax -ℤ bx) *ℤ (bx -ℤ ax)) +ℤ ((ay -ℤ by) *ℤ (by -ℤ ay))) +ℤ ((az -ℤ bz) *ℤ (bz -ℤ az))) *ℤ cz)) ≤ℤ (pos 0)
deg_z_le ax ay az bx by bz cx cy cz e1 e2 = prove_le_by (ax ∷ ay ∷ az ∷ bx ∷ by ∷ bz ∷ cx ∷ cy ∷ cz ∷ []) (Eq (Add (Add (Sub (Mul (Var 4) (Var 8)) (Mul (Var 5) (Var 7))) (Sub (Mul (Var 7) (Var 2)) (Mul (Var 8) (Var 1)))) (Sub (Mul (Var 1) (Var 5)) (Mul (Var 2) (Var 4)))) (Num (pos 0)) ∷ Eq (Add (Add (Sub (Mul (Var 5) (Var 6)) (Mul (Var 3) (Var 8))) (Sub (Mul (Var 8) (Var 0)) (Mul (Var 6) (Var 2)))) (Sub (Mul (Var 2) (Var 3)) (Mul (Var 0) (Var 5)))) (Num (pos 0)) ∷ []) (Add (Add (Mul (Add (Add (Mul (Sub (Var 3) (Var 6)) (Sub (Var 3) (Var 0))) (Mul (Sub (Var 4) (Var 7)) (Sub (Var 4) (Var 1)))) (Mul (Sub (Var 5) (Var 8)) (Sub (Var 5) (Var 2)))) (Var 2)) (Mul (Add (Add (Mul (Sub (Var 6) (Var 0)) (Sub (Var 3) (Var 0))) (Mul (Sub (Var 7) (Var 1)) (Sub (Var 4) (Var 1)))) (Mul (Sub (Var 8) (Var 2)) (Sub (Var 5) (Var 2)))) (Var 5))) (Mul (Add (Add (Mul (Sub (Var 0) (Var 3)) (Sub (Var 3) (Var 0))) (Mul (Sub (Var 1) (Var 4)) (Sub (Var 4) (Var 1)))) (Mul (Sub (Var 2) (Var 5)) (Sub (Var 5) (Var 2)))) (Var 8))) (Num (pos 0)) (Plus (Hyp 0) (Plus (TimesEq 1 (Neg (Sub (Var 4) (Var 1)))) (TimesEq 2 (Sub (Var 3) (Var 0))))) 0 (e1, (e2, tt)) refl

-- vars ax ay az bx by bz cx cy cz; hyp e1: (((by*cz-bz*cy)+(cy*az-cz*ay))+(ay*bz-az*by)) == 0; hyp e2: (((bz*cx-bx*cz)+(cz*ax-cx*az))+(az*bx-ax*bz)) == 0; goal 0 <= (((bx-cx)*(bx-ax)+(by-cy)*(by-ay)+(bz-cz)*(bz-az))*az+((cx-ax)*(bx-ax)+(cy-ay)*(by-ay)+(cz-az)*(bz-az))*bz)+((ax-bx)*(bx-ax)+(ay-by)*(by-ay)+(az-bz)*(bz-az))*cz; eqmul e1 * (by-ay); eqmul e2 * (bx-ax)
pub deg_z_ge : (ax ay az bx by bz cx cy cz : ℤ) → ((((by *ℤ cz) -ℤ (bz *ℤ cy)) +ℤ ((cy *ℤ az) -ℤ (cz *ℤ ay))) +ℤ ((ay *ℤ bz) -ℤ (az *ℤ by))) ≡ (pos 0) → ((((bz *ℤ cx) -ℤ (bx *ℤ cz)) +ℤ ((cz *ℤ ax) -ℤ (cx *ℤ az))) +ℤ ((az *ℤ bx) -ℤ (ax *ℤ bz))) ≡ (pos 0) → (pos 0) ≤ℤ (((((((bx -ℤ cx) *ℤ (bx -ℤ ax)) +ℤ ((by -ℤ cy) *ℤ (by -ℤ ay))) +ℤ ((bz -ℤ cz) *ℤ (bz -ℤ az))) *ℤ az) +ℤ (((((cx -ℤ ax) *ℤ (bx -ℤ ax)) +ℤ ((cy -ℤ ay) *ℤ (by -ℤ ay))) +ℤ ((cz -ℤ az) *ℤ (bz -ℤ az))) *ℤ bz)) +ℤ (((((ax -ℤ bx) *ℤ (bx -ℤ ax)) +ℤ ((ay -ℤ by) *ℤ (by -ℤ ay))) +ℤ ((az -ℤ bz) *ℤ (bz -ℤ az))) *ℤ cz))
deg_z_ge ax ay az bx by bz cx cy cz e1 e2 = prove_le_by (ax ∷ ay ∷ az ∷ bx ∷ by ∷ bz ∷ cx ∷ cy ∷ cz ∷ []) (Eq (Add (Add (Sub (Mul (Var 4) (Var 8)) (Mul (Var 5) (Var 7))) (Sub (Mul (Var 7) (Var 2)) (Mul (Var 8) (Var 1)))) (Sub (Mul (Var 1) (Var 5)) (Mul (Var 2) (Var 4)))) (Num (pos 0)) ∷ Eq (Add (Add (Sub (Mul (Var 5) (Var 6)) (Mul (Var 3) (Var 8))) (Sub (Mul (Var 8) (Var 0)) (Mul (Var 6) (Var 2)))) (Sub (Mul (Var 2) (Var 3)) (Mul (Var 0) (Var 5)))) (Num (pos 0)) ∷ []) (Num (pos 0)) (Add (Add (Mul (Add (Add (Mul (Sub (Var 3) (Var 6)) (Sub (Var 3) (Var 0))) (Mul (Sub (Var 4) (Var 7)) (Sub (Var 4) (Var 1)))) (Mul (Sub (Var 5) (Var 8)) (Sub (Var 5) (Var 2)))) (Var 2)) (Mul (Add (Add (Mul (Sub (Var 6) (Var 0)) (Sub (Var 3) (Var 0))) (Mul (Sub (Var 7) (Var 1)) (Sub (Var 4) (Var 1)))) (Mul (Sub (Var 8) (Var 2)) (Sub (Var 5) (Var 2)))) (Var 5))) (Mul (Add (Add (Mul (Sub (Var 0) (Var 3)) (Sub (Var 3) (Var 0))) (Mul (Sub (Var 1) (Var 4)) (Sub (Var 4) (Var 1)))) (Mul (Sub (Var 2) (Var 5)) (Sub (Var 5) (Var 2)))) (Var 8))) (Plus (Hyp 0) (Plus (TimesEq 1 (Sub (Var 4) (Var 1))) (TimesEq 2 (Neg (Sub (Var 3) (Var 0)))))) 0 (e1, (e2, tt)) refl

pub deg_sum : (ax ay az bx by bz cx cy cz : ℤ) → ((((((bx -ℤ cx) *ℤ (bx -ℤ ax)) +ℤ ((by -ℤ cy) *ℤ (by -ℤ ay))) +ℤ ((bz -ℤ cz) *ℤ (bz -ℤ az))) +ℤ ((((cx -ℤ ax) *ℤ (bx -ℤ ax)) +ℤ ((cy -ℤ ay) *ℤ (by -ℤ ay))) +ℤ ((cz -ℤ az) *ℤ (bz -ℤ az)))) +ℤ ((((ax -ℤ bx) *ℤ (bx -ℤ ax)) +ℤ ((ay -ℤ by) *ℤ (by -ℤ ay))) +ℤ ((az -ℤ bz) *ℤ (bz -ℤ az)))) ≡ (pos 0)
deg_sum ax ay az bx by bz cx cy cz = ring (ax ∷ ay ∷ az ∷ bx ∷ by ∷ bz ∷ cx ∷ cy ∷ cz ∷ []) (Add (Add (Add (Add (Mul (Sub (Var 3) (Var 6)) (Sub (Var 3) (Var 0))) (Mul (Sub (Var 4) (Var 7)) (Sub (Var 4) (Var 1)))) (Mul (Sub (Var 5) (Var 8)) (Sub (Var 5) (Var 2)))) (Add (Add (Mul (Sub (Var 6) (Var 0)) (Sub (Var 3) (Var 0))) (Mul (Sub (Var 7) (Var 1)) (Sub (Var 4) (Var 1)))) (Mul (Sub (Var 8) (Var 2)) (Sub (Var 5) (Var 2))))) (Add (Add (Mul (Sub (Var 0) (Var 3)) (Sub (Var 3) (Var 0))) (Mul (Sub (Var 1) (Var 4)) (Sub (Var 4) (Var 1)))) (Mul (Sub (Var 2) (Var 5)) (Sub (Var 5) (Var 2))))) (Num (pos 0)) refl

-- vars x y z; hyp h: (x*x+y*y)+z*z <= 0; goal x <= 0; square x; square y; square z; square x-1
pub zero_x_le : (x y z : ℤ) → (((x *ℤ x) +ℤ (y *ℤ y)) +ℤ (z *ℤ z)) ≤ℤ (pos 0) → x ≤ℤ (pos 0)
zero_x_le x y z h = prove_le_by (x ∷ y ∷ z ∷ []) (Le (Add (Add (Mul (Var 0) (Var 0)) (Mul (Var 1) (Var 1))) (Mul (Var 2) (Var 2))) (Num (pos 0)) ∷ []) (Var 0) (Num (pos 0)) (Plus (Times (Lit 2) (Hyp 0)) (Plus (Hyp 1) (Plus (Sq (Var 1)) (Plus (Sq (Var 2)) (Sq (Sub (Var 0) (Num (pos 1)))))))) 0 (h, tt) refl

-- vars x y z; hyp h: (x*x+y*y)+z*z <= 0; goal 0 <= x; square x; square y; square z; square x+1
pub zero_x_ge : (x y z : ℤ) → (((x *ℤ x) +ℤ (y *ℤ y)) +ℤ (z *ℤ z)) ≤ℤ (pos 0) → (pos 0) ≤ℤ x
zero_x_ge x y z h = prove_le_by (x ∷ y ∷ z ∷ []) (Le (Add (Add (Mul (Var 0) (Var 0)) (Mul (Var 1) (Var 1))) (Mul (Var 2) (Var 2))) (Num (pos 0)) ∷ []) (Num (pos 0)) (Var 0) (Plus (Times (Lit 2) (Hyp 0)) (Plus (Hyp 1) (Plus (Sq (Var 1)) (Plus (Sq (Var 2)) (Sq (Add (Var 0) (Num (pos 1)))))))) 0 (h, tt) refl

-- vars x y z; hyp h: (x*x+y*y)+z*z <= 0; goal y <= 0; square x; square y; square z; square y-1
pub zero_y_le : (x y z : ℤ) → (((x *ℤ x) +ℤ (y *ℤ y)) +ℤ (z *ℤ z)) ≤ℤ (pos 0) → y ≤ℤ (pos 0)
zero_y_le x y z h = prove_le_by (x ∷ y ∷ z ∷ []) (Le (Add (Add (Mul (Var 0) (Var 0)) (Mul (Var 1) (Var 1))) (Mul (Var 2) (Var 2))) (Num (pos 0)) ∷ []) (Var 1) (Num (pos 0)) (Plus (Times (Lit 2) (Hyp 0)) (Plus (Hyp 1) (Plus (Sq (Var 0)) (Plus (Sq (Var 2)) (Sq (Sub (Var 1) (Num (pos 1)))))))) 0 (h, tt) refl

-- vars x y z; hyp h: (x*x+y*y)+z*z <= 0; goal 0 <= y; square x; square y; square z; square y+1
pub zero_y_ge : (x y z : ℤ) → (((x *ℤ x) +ℤ (y *ℤ y)) +ℤ (z *ℤ z)) ≤ℤ (pos 0) → (pos 0) ≤ℤ y
zero_y_ge x y z h = prove_le_by (x ∷ y ∷ z ∷ []) (Le (Add (Add (Mul (Var 0) (Var 0)) (Mul (Var 1) (Var 1))) (Mul (Var 2) (Var 2))) (Num (pos 0)) ∷ []) (Num (pos 0)) (Var 1) (Plus (Times (Lit 2) (Hyp 0)) (Plus (Hyp 1) (Plus (Sq (Var 0)) (Plus (Sq (Var 2)) (Sq (Add (Var 1) (Num (pos 1)))))))) 0 (h, tt) refl

-- vars x y z; hyp h: (x*x+y*y)+z*z <= 0; goal z <= 0; square x; square y; square z; square z-1
pub zero_z_le : (x y z : ℤ) → (((x *ℤ x) +ℤ (y *ℤ y)) +ℤ (z *ℤ z)) ≤ℤ (pos 0) → z ≤ℤ (pos 0)
zero_z_le x y z h = prove_le_by (x ∷ y ∷ z ∷ []) (Le (Add (Add (Mul (Var 0) (Var 0)) (Mul (Var 1) (Var 1))) (Mul (Var 2) (Var 2))) (Num (pos 0)) ∷ []) (Var 2) (Num (pos 0)) (Plus (Times (Lit 2) (Hyp 0)) (Plus (Hyp 1) (Plus (Sq (Var 0)) (Plus (Sq (Var 1)) (Sq (Sub (Var 2) (Num (pos 1)))))))) 0 (h, tt) refl

-- vars x y z; hyp h: (x*x+y*y)+z*z <= 0; goal 0 <= z; square x; square y; square z; square z+1
pub zero_z_ge : (x y z : ℤ) → (((x *ℤ x) +ℤ (y *ℤ y)) +ℤ (z *ℤ z)) ≤ℤ (pos 0) → (pos 0) ≤ℤ z
zero_z_ge x y z h = prove_le_by (x ∷ y ∷ z ∷ []) (Le (Add (Add (Mul (Var 0) (Var 0)) (Mul (Var 1) (Var 1))) (Mul (Var 2) (Var 2))) (Num (pos 0)) ∷ []) (Num (pos 0)) (Var 2) (Plus (Times (Lit 2) (Hyp 0)) (Plus (Hyp 1) (Plus (Sq (Var 0)) (Plus (Sq (Var 1)) (Sq (Add (Var 2) (Num (pos 1)))))))) 0 (h, tt) refl

-- vars X Y Z N x y z n; hyp ex: x == 0; hyp ey: y == 0; hyp ez: z == 0; hyp en: n == 0; goal (X*x+Y*y+Z*z)-N*n <= 0; eqmul ex * X; eqmul ey * Y; eqmul ez * Z; eqmul en * N
pub flat_mixed : (X Y Z N x y z n : ℤ) → x ≡ (pos 0) → y ≡ (pos 0) → z ≡ (pos 0) → n ≡ (pos 0) → ((((X *ℤ x) +ℤ (Y *ℤ y)) +ℤ (Z *ℤ z)) -ℤ (N *ℤ n)) ≤ℤ (pos 0)
flat_mixed X Y Z N x y z n ex ey ez en = prove_le_by (X ∷ Y ∷ Z ∷ N ∷ x ∷ y ∷ z ∷ n ∷ []) (Eq (Var 4) (Num (pos 0)) ∷ Eq (Var 5) (Num (pos 0)) ∷ Eq (Var 6) (Num (pos 0)) ∷ Eq (Var 7) (Num (pos 0)) ∷ []) (Sub (Add (Add (Mul (Var 0) (Var 4)) (Mul (Var 1) (Var 5))) (Mul (Var 2) (Var 6))) (Mul (Var 3) (Var 7))) (Num (pos 0)) (Plus (Hyp 0) (Plus (TimesEq 1 (Var 0)) (Plus (TimesEq 2 (Var 1)) (Plus (TimesEq 3 (Var 2)) (TimesEq 4 (Neg (Var 3))))))) 0 (ex, (ey, (ez, (en, tt)))) refl

-- vars i j k x y z; hyp e: (i*x+j*y)+k*z == 0; goal ((0-i)*x+(0-j)*y)+(0-k)*z <= 0
pub minus_le : (i j k x y z : ℤ) → (((i *ℤ x) +ℤ (j *ℤ y)) +ℤ (k *ℤ z)) ≡ (pos 0) → (((((pos 0) -ℤ i) *ℤ x) +ℤ (((pos 0) -ℤ j) *ℤ y)) +ℤ (((pos 0) -ℤ k) *ℤ z)) ≤ℤ (pos 0)
minus_le i j k x y z e = prove_le_by (i ∷ j ∷ k ∷ x ∷ y ∷ z ∷ []) (Eq (Add (Add (Mul (Var 0) (Var 3)) (Mul (Var 1) (Var 4))) (Mul (Var 2) (Var 5))) (Num (pos 0)) ∷ []) (Add (Add (Mul (Sub (Num (pos 0)) (Var 0)) (Var 3)) (Mul (Sub (Num (pos 0)) (Var 1)) (Var 4))) (Mul (Sub (Num (pos 0)) (Var 2)) (Var 5))) (Num (pos 0)) (Plus (Hyp 0) (TimesEq 1 (Num (negsuc 0)))) 0 (e, tt) refl

-- vars i j k x y z; hyp e: (i*x+j*y)+k*z == 0; goal 0 <= ((0-i)*x+(0-j)*y)+(0-k)*z
pub minus_ge : (i j k x y z : ℤ) → (((i *ℤ x) +ℤ (j *ℤ y)) +ℤ (k *ℤ z)) ≡ (pos 0) → (pos 0) ≤ℤ (((((pos 0) -ℤ i) *ℤ x) +ℤ (((pos 0) -ℤ j) *ℤ y)) +ℤ (((pos 0) -ℤ k) *ℤ z))
minus_ge i j k x y z e = prove_le_by (i ∷ j ∷ k ∷ x ∷ y ∷ z ∷ []) (Eq (Add (Add (Mul (Var 0) (Var 3)) (Mul (Var 1) (Var 4))) (Mul (Var 2) (Var 5))) (Num (pos 0)) ∷ []) (Num (pos 0)) (Add (Add (Mul (Sub (Num (pos 0)) (Var 0)) (Var 3)) (Mul (Sub (Num (pos 0)) (Var 1)) (Var 4))) (Mul (Sub (Num (pos 0)) (Var 2)) (Var 5))) (Plus (Hyp 0) (TimesEq 1 (Num (pos 1)))) 0 (e, tt) refl

pub third_is : (ax ay az bx by bz : ℤ) → ((((ax -ℤ bx) *ℤ (bx -ℤ ax)) +ℤ ((ay -ℤ by) *ℤ (by -ℤ ay))) +ℤ ((az -ℤ bz) *ℤ (bz -ℤ az))) ≡ ((pos 0) -ℤ ((((bx -ℤ ax) *ℤ (bx -ℤ ax)) +ℤ ((by -ℤ ay) *ℤ (by -ℤ ay))) +ℤ ((bz -ℤ az) *ℤ (bz -ℤ az))))
third_is ax ay az bx by bz = ring (ax ∷ ay ∷ az ∷ bx ∷ by ∷ bz ∷ []) (Add (Add (Mul (Sub (Var 0) (Var 3)) (Sub (Var 3) (Var 0))) (Mul (Sub (Var 1) (Var 4)) (Sub (Var 4) (Var 1)))) (Mul (Sub (Var 2) (Var 5)) (Sub (Var 5) (Var 2)))) (Sub (Num (pos 0)) (Add (Add (Mul (Sub (Var 3) (Var 0)) (Sub (Var 3) (Var 0))) (Mul (Sub (Var 4) (Var 1)) (Sub (Var 4) (Var 1)))) (Mul (Sub (Var 5) (Var 2)) (Sub (Var 5) (Var 2))))) refl

-- vars x y z; hyp e: y == x; goal (1*x+(0-1)*y)+0*z <= 0
pub one_only : (x y z : ℤ) → y ≡ x → ((((pos 1) *ℤ x) +ℤ (((pos 0) -ℤ (pos 1)) *ℤ y)) +ℤ ((pos 0) *ℤ z)) ≤ℤ (pos 0)
one_only x y z e = prove_le_by (x ∷ y ∷ z ∷ []) (Eq (Var 1) (Var 0) ∷ []) (Add (Add (Mul (Num (pos 1)) (Var 0)) (Mul (Sub (Num (pos 0)) (Num (pos 1))) (Var 1))) (Mul (Num (pos 0)) (Var 2))) (Num (pos 0)) (Plus (Hyp 0) (TimesEq 1 (Num (negsuc 0)))) 0 (e, tt) refl

-- vars x y z; hyp e: y == x; goal 0 <= (1*x+(0-1)*y)+0*z
pub one_only2 : (x y z : ℤ) → y ≡ x → (pos 0) ≤ℤ ((((pos 1) *ℤ x) +ℤ (((pos 0) -ℤ (pos 1)) *ℤ y)) +ℤ ((pos 0) *ℤ z))
one_only2 x y z e = prove_le_by (x ∷ y ∷ z ∷ []) (Eq (Var 1) (Var 0) ∷ []) (Num (pos 0)) (Add (Add (Mul (Num (pos 1)) (Var 0)) (Mul (Sub (Num (pos 0)) (Num (pos 1))) (Var 1))) (Mul (Num (pos 0)) (Var 2))) (Plus (Hyp 0) (TimesEq 1 (Num (pos 1)))) 0 (e, tt) refl
