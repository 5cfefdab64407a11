-- Polynomial facts behind the place where the axis meets a triangle.
-- Written by tools/certificates.py from tools/certificates/mill_geom_triangle.spec.
use Rattle.std.proofs.Common.{◌≡◌, [], ◌∷◌, refl}
use lib.IntN.{ℤ, pos, negsuc, ◌+ℤ◌, ◌-ℤ◌, ◌*ℤ◌}
use lib.Signed.{◌<ℤ◌, ◌≤ℤ◌}
use Rattle.mill_base.proofs.Ring.{Var, Num, Add, Sub, Mul, Neg, ring}
use Rattle.mill_base.proofs.Cert.{Le, Lt, Eq, Hyp, TimesEq, Sq, Lit, Plus, Times, prove_le_by, prove_lt_by}

-- vars i j k x y z; hyp e: (i*x+j*y)+k*z == 0; goal ((0-i)*x+(0-j)*y)+(0-k)*z <= 0
pub opp_zero : (i j k x y z : ℤ) → (((i *ℤ x) +ℤ (j *ℤ y)) +ℤ (k *ℤ z)) ≡ (pos 0) → (((((pos 0) -ℤ i) *ℤ x) +ℤ (((pos 0) -ℤ j) *ℤ y)) +ℤ (((pos 0) -ℤ k) *ℤ z)) ≤ℤ (pos 0)
opp_zero i j k x y z e = prove_le_by (i ∷ j ∷ k ∷ x ∷ y ∷ z ∷ []) (Eq (Add (Add (Mul (Var 0) (Var 3)) (Mul (Var 1) (Var 4))) (Mul (Var 2) (Var 5))) (Num (pos 0)) ∷ []) (Add (Add (Mul (Sub (Num (pos 0)) (Var 0)) (Var 3)) (Mul (Sub (Num (pos 0)) (Var 1)) (Var 4))) (Mul (Sub (Num (pos 0)) (Var 2)) (Var 5))) (Num (pos 0)) (Plus (Hyp 0) (TimesEq 1 (Num (negsuc 0)))) 0 (e, tt) refl

-- vars i j k x y z; hyp e: (i*x+j*y)+k*z == 0; goal 0 <= ((0-i)*x+(0-j)*y)+(0-k)*z
pub opp_zero2 : (i j k x y z : ℤ) → (((i *ℤ x) +ℤ (j *ℤ y)) +ℤ (k *ℤ z)) ≡ (pos 0) → (pos 0) ≤ℤ (((((pos 0) -ℤ i) *ℤ x) +ℤ (((pos 0) -ℤ j) *ℤ y)) +ℤ (((pos 0) -ℤ k) *ℤ z))
opp_zero2 i j k x y z e = prove_le_by (i ∷ j ∷ k ∷ x ∷ y ∷ z ∷ []) (Eq (Add (Add (Mul (Var 0) (Var 3)) (Mul (Var 1) (Var 4))) (Mul (Var 2) (Var 5))) (Num (pos 0)) ∷ []) (Num (pos 0)) (Add (Add (Mul (Sub (Num (pos 0)) (Var 0)) (Var 3)) (Mul (Sub (Num (pos 0)) (Var 1)) (Var 4))) (Mul (Sub (Num (pos 0)) (Var 2)) (Var 5))) (Plus (Hyp 0) (TimesEq 1 (Num (pos 1)))) 0 (e, tt) refl

-- vars i j k x y z; hyp e: (i*x+j*y)+k*z <= 0; goal 0 <= ((0-i)*x+(0-j)*y)+(0-k)*z
pub opp_rises : (i j k x y z : ℤ) → (((i *ℤ x) +ℤ (j *ℤ y)) +ℤ (k *ℤ z)) ≤ℤ (pos 0) → (pos 0) ≤ℤ (((((pos 0) -ℤ i) *ℤ x) +ℤ (((pos 0) -ℤ j) *ℤ y)) +ℤ (((pos 0) -ℤ k) *ℤ z))
opp_rises i j k x y z e = prove_le_by (i ∷ j ∷ k ∷ x ∷ y ∷ z ∷ []) (Le (Add (Add (Mul (Var 0) (Var 3)) (Mul (Var 1) (Var 4))) (Mul (Var 2) (Var 5))) (Num (pos 0)) ∷ []) (Num (pos 0)) (Add (Add (Mul (Sub (Num (pos 0)) (Var 0)) (Var 3)) (Mul (Sub (Num (pos 0)) (Var 1)) (Var 4))) (Mul (Sub (Num (pos 0)) (Var 2)) (Var 5))) (Plus (Hyp 0) (Hyp 1)) 0 (e, tt) refl

pub cross_x : (ax ay bx by cx cy : ℤ) → (((((bx *ℤ cy) -ℤ (by *ℤ cx)) *ℤ ax) +ℤ (((cx *ℤ ay) -ℤ (cy *ℤ ax)) *ℤ bx)) +ℤ (((ax *ℤ by) -ℤ (ay *ℤ bx)) *ℤ cx)) ≡ (pos 0)
cross_x ax ay bx by cx cy = ring (ax ∷ ay ∷ bx ∷ by ∷ cx ∷ cy ∷ []) (Add (Add (Mul (Sub (Mul (Var 2) (Var 5)) (Mul (Var 3) (Var 4))) (Var 0)) (Mul (Sub (Mul (Var 4) (Var 1)) (Mul (Var 5) (Var 0))) (Var 2))) (Mul (Sub (Mul (Var 0) (Var 3)) (Mul (Var 1) (Var 2))) (Var 4))) (Num (pos 0)) refl

pub cross_y : (ax ay bx by cx cy : ℤ) → (((((bx *ℤ cy) -ℤ (by *ℤ cx)) *ℤ ay) +ℤ (((cx *ℤ ay) -ℤ (cy *ℤ ax)) *ℤ by)) +ℤ (((ax *ℤ by) -ℤ (ay *ℤ bx)) *ℤ cy)) ≡ (pos 0)
cross_y ax ay bx by cx cy = ring (ax ∷ ay ∷ bx ∷ by ∷ cx ∷ cy ∷ []) (Add (Add (Mul (Sub (Mul (Var 2) (Var 5)) (Mul (Var 3) (Var 4))) (Var 1)) (Mul (Sub (Mul (Var 4) (Var 1)) (Mul (Var 5) (Var 0))) (Var 3))) (Mul (Sub (Mul (Var 0) (Var 3)) (Mul (Var 1) (Var 2))) (Var 5))) (Num (pos 0)) refl

-- vars x y n; hyp ex: x == 0; hyp ey: y == 0; hyp en: 0 < n; goal x*x+y*y < n*n; eqmul ex * x; eqmul ey * y; mul en * en
pub axis_near : (x y n : ℤ) → x ≡ (pos 0) → y ≡ (pos 0) → (pos 0) <ℤ n → ((x *ℤ x) +ℤ (y *ℤ y)) <ℤ (n *ℤ n)
axis_near x y n ex ey en = prove_lt_by (x ∷ y ∷ n ∷ []) (Eq (Var 0) (Num (pos 0)) ∷ Eq (Var 1) (Num (pos 0)) ∷ Lt (Num (pos 0)) (Var 2) ∷ []) (Add (Mul (Var 0) (Var 0)) (Mul (Var 1) (Var 1))) (Mul (Var 2) (Var 2)) (Plus (Hyp 0) (Plus (Times (Lit 2) (Hyp 3)) (Plus (TimesEq 1 (Var 0)) (Plus (TimesEq 2 (Var 1)) (Times (Hyp 3) (Hyp 3)))))) 0 (ex, (ey, (en, tt))) refl

-- vars ax ay bx by cx; hyp e: ax*by-ay*bx == 0; goal ((bx*ax+by*ay)*ax+(0-(ax*ax+ay*ay))*bx)+0*cx <= 0; eqmul e * ay
pub deg_x_le : (ax ay bx by cx : ℤ) → ((ax *ℤ by) -ℤ (ay *ℤ bx)) ≡ (pos 0) → (((((bx *ℤ ax) +ℤ (by *ℤ ay)) *ℤ ax) +ℤ (((pos 0) -ℤ ((ax *ℤ ax) +ℤ (ay *ℤ ay))) *ℤ bx)) +ℤ ((pos 0) *ℤ cx)) ≤ℤ (pos 0)
deg_x_le ax ay bx by cx e = prove_le_by (ax ∷ ay ∷ bx ∷ by ∷ cx ∷ []) (Eq (Sub (Mul (Var 0) (Var 3)) (Mul (Var 1) (Var 2))) (Num (pos 0)) ∷ []) (Add (Add (Mul (Add (Mul (Var 2) (Var 0)) (Mul (Var 3) (Var 1))) (Var 0)) (Mul (Sub (Num (pos 0)) (Add (Mul (Var 0) (Var 0)) (Mul (Var 1) (Var 1)))) (Var 2))) (Mul (Num (pos 0)) (Var 4))) (Num (pos 0)) (Plus (Hyp 0) (TimesEq 1 (Var 1))) 0 (e, tt) refl

-- vars ax ay bx by cx; hyp e: ax*by-ay*bx == 0; goal 0 <= ((bx*ax+by*ay)*ax+(0-(ax*ax+ay*ay))*bx)+0*cx; eqmul e * ay
pub deg_x_ge : (ax ay bx by cx : ℤ) → ((ax *ℤ by) -ℤ (ay *ℤ bx)) ≡ (pos 0) → (pos 0) ≤ℤ (((((bx *ℤ ax) +ℤ (by *ℤ ay)) *ℤ ax) +ℤ (((pos 0) -ℤ ((ax *ℤ ax) +ℤ (ay *ℤ ay))) *ℤ bx)) +ℤ ((pos 0) *ℤ cx))
deg_x_ge ax ay bx by cx e = prove_le_by (ax ∷ ay ∷ bx ∷ by ∷ cx ∷ []) (Eq (Sub (Mul (Var 0) (Var 3)) (Mul (Var 1) (Var 2))) (Num (pos 0)) ∷ []) (Num (pos 0)) (Add (Add (Mul (Add (Mul (Var 2) (Var 0)) (Mul (Var 3) (Var 1))) (Var 0)) (Mul (Sub (Num (pos 0)) (Add (Mul (Var 0) (Var 0)) (Mul (Var 1) (Var 1)))) (Var 2))) (Mul (Num (pos 0)) (Var 4))) (Plus (Hyp 0) (TimesEq 1 (Neg (Var 1)))) 0 (e, tt) refl

-- vars ax ay bx by cy; hyp e: ax*by-ay*bx == 0; goal ((bx*ax+by*ay)*ay+(0-(ax*ax+ay*ay))*by)+0*cy <= 0; eqmul e * ax
pub deg_y_le : (ax ay bx by cy : ℤ) → ((ax *ℤ by) -ℤ (ay *ℤ bx)) ≡ (pos 0) → (((((bx *ℤ ax) +ℤ (by *ℤ ay)) *ℤ ay) +ℤ (((pos 0) -ℤ ((ax *ℤ ax) +ℤ (ay *ℤ ay))) *ℤ by)) +ℤ ((pos 0) *ℤ cy)) ≤ℤ (pos 0)
deg_y_le ax ay bx by cy e = prove_le_by (ax ∷ ay ∷ bx ∷ by ∷ cy ∷ []) (Eq (Sub (Mul (Var 0) (Var 3)) (Mul (Var 1) (Var 2))) (Num (pos 0)) ∷ []) (Add (Add (Mul (Add (Mul (Var 2) (Var 0)) (Mul (Var 3) (Var 1))) (Var 1)) (Mul (Sub (Num (pos 0)) (Add (Mul (Var 0) (Var 0)) (Mul (Var 1) (Var 1)))) (Var 3))) (Mul (Num (pos 0)) (Var 4))) (Num (pos 0)) (Plus (Hyp 0) (TimesEq 1 (Neg (Var 0)))) 0 (e, tt) refl

-- vars ax ay bx by cy; hyp e: ax*by-ay*bx == 0; goal 0 <= ((bx*ax+by*ay)*ay+(0-(ax*ax+ay*ay))*by)+0*cy; eqmul e * ax
pub deg_y_ge : (ax ay bx by cy : ℤ) → ((ax *ℤ by) -ℤ (ay *ℤ bx)) ≡ (pos 0) → (pos 0) ≤ℤ (((((bx *ℤ ax) +ℤ (by *ℤ ay)) *ℤ ay) +ℤ (((pos 0) -ℤ ((ax *ℤ ax) +ℤ (ay *ℤ ay))) *ℤ by)) +ℤ ((pos 0) *ℤ cy))
deg_y_ge ax ay bx by cy e = prove_le_by (ax ∷ ay ∷ bx ∷ by ∷ cy ∷ []) (Eq (Sub (Mul (Var 0) (Var 3)) (Mul (Var 1) (Var 2))) (Num (pos 0)) ∷ []) (Num (pos 0)) (Add (Add (Mul (Add (Mul (Var 2) (Var 0)) (Mul (Var 3) (Var 1))) (Var 1)) (Mul (Sub (Num (pos 0)) (Add (Mul (Var 0) (Var 0)) (Mul (Var 1) (Var 1)))) (Var 3))) (Mul (Num (pos 0)) (Var 4))) (Plus (Hyp 0) (TimesEq 1 (Var 0))) 0 (e, tt) refl

-- vars x y; hyp h: x*x+y*y <= 0; goal x <= 0; square x; square y; square x-1
pub sq_zero : (x y : ℤ) → ((x *ℤ x) +ℤ (y *ℤ y)) ≤ℤ (pos 0) → x ≤ℤ (pos 0)
sq_zero x y h = prove_le_by (x ∷ y ∷ []) (Le (Add (Mul (Var 0) (Var 0)) (Mul (Var 1) (Var 1))) (Num (pos 0)) ∷ []) (Var 0) (Num (pos 0)) (Plus (Times (Lit 2) (Hyp 0)) (Plus (Hyp 1) (Plus (Sq (Var 1)) (Sq (Sub (Var 0) (Num (pos 1))))))) 0 (h, tt) refl

-- vars x y; hyp h: x*x+y*y <= 0; goal 0 <= x; square x; square y; square x+1
pub sq_zero2 : (x y : ℤ) → ((x *ℤ x) +ℤ (y *ℤ y)) ≤ℤ (pos 0) → (pos 0) ≤ℤ x
sq_zero2 x y h = prove_le_by (x ∷ y ∷ []) (Le (Add (Mul (Var 0) (Var 0)) (Mul (Var 1) (Var 1))) (Num (pos 0)) ∷ []) (Num (pos 0)) (Var 0) (Plus (Times (Lit 2) (Hyp 0)) (Plus (Hyp 1) (Plus (Sq (Var 1)) (Sq (Add (Var 0) (Num (pos 1))))))) 0 (h, tt) refl

pub one_x : (ax bx cx : ℤ) → ((((pos 1) *ℤ ax) +ℤ ((pos 0) *ℤ bx)) +ℤ ((pos 0) *ℤ cx)) ≡ ax
one_x ax bx cx = ring (ax ∷ bx ∷ cx ∷ []) (Add (Add (Mul (Num (pos 1)) (Var 0)) (Mul (Num (pos 0)) (Var 1))) (Mul (Num (pos 0)) (Var 2))) (Var 0) refl

-- vars i j k x y z; hyp h: (i*x+j*y)+k*z < 0; goal 0 < ((0-i)*x+(0-j)*y)+(0-k)*z
pub turn_lt : (i j k x y z : ℤ) → (((i *ℤ x) +ℤ (j *ℤ y)) +ℤ (k *ℤ z)) <ℤ (pos 0) → (pos 0) <ℤ (((((pos 0) -ℤ i) *ℤ x) +ℤ (((pos 0) -ℤ j) *ℤ y)) +ℤ (((pos 0) -ℤ k) *ℤ z))
turn_lt i j k x y z h = prove_lt_by (i ∷ j ∷ k ∷ x ∷ y ∷ z ∷ []) (Lt (Add (Add (Mul (Var 0) (Var 3)) (Mul (Var 1) (Var 4))) (Mul (Var 2) (Var 5))) (Num (pos 0)) ∷ []) (Num (pos 0)) (Add (Add (Mul (Sub (Num (pos 0)) (Var 0)) (Var 3)) (Mul (Sub (Num (pos 0)) (Var 1)) (Var 4))) (Mul (Sub (Num (pos 0)) (Var 2)) (Var 5))) (Plus (Hyp 0) (Hyp 1)) 0 (h, tt) refl
