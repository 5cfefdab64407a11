-- Polynomial facts behind the foot of the centre on a triangle's plane.
-- Written by tools/certificates.py from tools/certificates/mill_contact_ball_foot.spec.
use Rattle.std.proofs.Common.{◌≡◌, [], ◌∷◌, refl}
use lib.IntN.{ℤ, pos, ◌+ℤ◌, ◌-ℤ◌, ◌*ℤ◌}
use lib.Signed.{◌<ℤ◌, ◌≤ℤ◌}
use Rattle.mill_base.proofs.Ring.{Var, Num, Add, Sub, Mul, Neg, ring}
use Rattle.mill_base.proofs.Cert.{Le, Lt, Eq, Hyp, TimesEq, Sq, Plus, Times, prove_le_by, prove_lt_by}

-- vars X Y Z N vx vy vz W D F r; hyp h: (X*X+Y*Y+Z*Z)-N*N < 0; hyp eN: N == r*W; hyp eD: vx*X+vy*Y+vz*Z == W*D; hyp eF: F == vx*vx+vy*vy+vz*vz; hyp pF: 0 < F; goal (W*W)*(D*D) < (W*W)*((r*r)*F); square vx*Y-vy*X; square vx*Z-vz*X; square vy*Z-vz*Y; mul h+ * pF+; mul h * pF+; mul h * pF; mul pF * pF; mul h+ * pF; eqmul eN * (F*(N+r*W)); eqmul eD * (vx*X+vy*Y+vz*Z+W*D); eqmul eF * (X*X+Y*Y+Z*Z)
pub cauchy_plane : (X Y Z N vx vy vz W D F r : ℤ) → ((((X *ℤ X) +ℤ (Y *ℤ Y)) +ℤ (Z *ℤ Z)) -ℤ (N *ℤ N)) <ℤ (pos 0) → N ≡ (r *ℤ W) → (((vx *ℤ X) +ℤ (vy *ℤ Y)) +ℤ (vz *ℤ Z)) ≡ (W *ℤ D) → F ≡ (((vx *ℤ vx) +ℤ (vy *ℤ vy)) +ℤ (vz *ℤ vz)) → (pos 0) <ℤ F → ((W *ℤ W) *ℤ (D *ℤ D)) <ℤ ((W *ℤ W) *ℤ ((r *ℤ r) *ℤ F))
cauchy_plane X Y Z N vx vy vz W D F r h eN eD eF pF = prove_lt_by (X ∷ Y ∷ Z ∷ N ∷ vx ∷ vy ∷ vz ∷ W ∷ D ∷ F ∷ r ∷ []) (Lt (Sub (Add (Add (Mul (Var 0) (Var 0)) (Mul (Var 1) (Var 1))) (Mul (Var 2) (Var 2))) (Mul (Var 3) (Var 3))) (Num (pos 0)) ∷ Eq (Var 3) (Mul (Var 10) (Var 7)) ∷ Eq (Add (Add (Mul (Var 4) (Var 0)) (Mul (Var 5) (Var 1))) (Mul (Var 6) (Var 2))) (Mul (Var 7) (Var 8)) ∷ Eq (Var 9) (Add (Add (Mul (Var 4) (Var 4)) (Mul (Var 5) (Var 5))) (Mul (Var 6) (Var 6))) ∷ Lt (Num (pos 0)) (Var 9) ∷ []) (Mul (Mul (Var 7) (Var 7)) (Mul (Var 8) (Var 8))) (Mul (Mul (Var 7) (Var 7)) (Mul (Mul (Var 10) (Var 10)) (Var 9))) (Plus (Hyp 0) (Plus (Hyp 1) (Plus (Hyp 5) (Plus (Sq (Sub (Mul (Var 4) (Var 1)) (Mul (Var 5) (Var 0)))) (Plus (Sq (Sub (Mul (Var 4) (Var 2)) (Mul (Var 6) (Var 0)))) (Plus (Sq (Sub (Mul (Var 5) (Var 2)) (Mul (Var 6) (Var 1)))) (Plus (Times (Hyp 1) (Hyp 5)) (Plus (TimesEq 2 (Mul (Var 9) (Add (Var 3) (Mul (Var 10) (Var 7))))) (Plus (TimesEq 3 (Neg (Add (Add (Add (Mul (Var 4) (Var 0)) (Mul (Var 5) (Var 1))) (Mul (Var 6) (Var 2))) (Mul (Var 7) (Var 8))))) (TimesEq 4 (Neg (Add (Add (Mul (Var 0) (Var 0)) (Mul (Var 1) (Var 1))) (Mul (Var 2) (Var 2)))))))))))))) 0 (h, (eN, (eD, (eF, (pF, tt))))) refl

-- vars W a b; hyp h: (W*W)*a < (W*W)*b; goal a < b; mul goal * sq(W)
pub square_down : (W a b : ℤ) → ((W *ℤ W) *ℤ a) <ℤ ((W *ℤ W) *ℤ b) → a <ℤ b
square_down W a b h = prove_lt_by (W ∷ a ∷ b ∷ []) (Lt (Mul (Mul (Var 0) (Var 0)) (Var 1)) (Mul (Mul (Var 0) (Var 0)) (Var 2)) ∷ []) (Var 1) (Var 2) (Plus (Hyp 1) (Times (Hyp 0) (Sq (Var 0)))) 0 (h, tt) refl

-- vars X Y Z N vx vy vz x y z n W D F r; hyp ex: x == D*vx; hyp ey: y == D*vy; hyp ez: z == D*vz; hyp en: n == r*F; hyp eN: N == r*W; hyp eD: vx*X+vy*Y+vz*Z == W*D; hyp hW: 0 <= W; hyp h: D*D <= (r*r)*F; goal (X*x+Y*y+Z*z)-N*n <= 0; mul hW * h; eqmul ex * X; eqmul ey * Y; eqmul ez * Z; eqmul en * N; eqmul eN * (r*F); eqmul eD * D
pub foot_mixed : (X Y Z N vx vy vz x y z n W D F r : ℤ) → x ≡ (D *ℤ vx) → y ≡ (D *ℤ vy) → z ≡ (D *ℤ vz) → n ≡ (r *ℤ F) → N ≡ (r *ℤ W) → (((vx *ℤ X) +ℤ (vy *ℤ Y)) +ℤ (vz *ℤ Z)) ≡ (W *ℤ D) → (pos 0) ≤ℤ W → (D *ℤ D) ≤ℤ ((r *ℤ r) *ℤ F) → ((((X *ℤ x) +ℤ (Y *ℤ y)) +ℤ (Z *ℤ z)) -ℤ (N *ℤ n)) ≤ℤ (pos 0)
foot_mixed X Y Z N vx vy vz x y z n W D F r ex ey ez en eN eD hW h = prove_le_by (X ∷ Y ∷ Z ∷ N ∷ vx ∷ vy ∷ vz ∷ x ∷ y ∷ z ∷ n ∷ W ∷ D ∷ F ∷ r ∷ []) (Eq (Var 7) (Mul (Var 12) (Var 4)) ∷ Eq (Var 8) (Mul (Var 12) (Var 5)) ∷ Eq (Var 9) (Mul (Var 12) (Var 6)) ∷ Eq (Var 10) (Mul (Var 14) (Var 13)) ∷ Eq (Var 3) (Mul (Var 14) (Var 11)) ∷ Eq (Add (Add (Mul (Var 4) (Var 0)) (Mul (Var 5) (Var 1))) (Mul (Var 6) (Var 2))) (Mul (Var 11) (Var 12)) ∷ Le (Num (pos 0)) (Var 11) ∷ Le (Mul (Var 12) (Var 12)) (Mul (Mul (Var 14) (Var 14)) (Var 13)) ∷ []) (Sub (Add (Add (Mul (Var 0) (Var 7)) (Mul (Var 1) (Var 8))) (Mul (Var 2) (Var 9))) (Mul (Var 3) (Var 10))) (Num (pos 0)) (Plus (Hyp 0) (Plus (Times (Hyp 7) (Hyp 8)) (Plus (TimesEq 1 (Var 0)) (Plus (TimesEq 2 (Var 1)) (Plus (TimesEq 3 (Var 2)) (Plus (TimesEq 4 (Neg (Var 3))) (Plus (TimesEq 5 (Neg (Mul (Var 14) (Var 13)))) (TimesEq 6 (Var 12))))))))) 0 (ex, (ey, (ez, (en, (eN, (eD, (hW, (h, tt)))))))) refl

-- vars vx vy vz x y z n D F r; hyp ex: x == D*vx; hyp ey: y == D*vy; hyp ez: z == D*vz; hyp en: n == r*F; hyp eF: F == vx*vx+vy*vy+vz*vz; hyp pF: 0 <= F; hyp h: D*D <= (r*r)*F; goal (x*x+y*y+z*z)-n*n <= 0; mul pF * h; eqmul ex * (x+D*vx); eqmul ey * (y+D*vy); eqmul ez * (z+D*vz); eqmul en * (n+r*F); eqmul eF * (D*D)
pub foot_form : (vx vy vz x y z n D F r : ℤ) → x ≡ (D *ℤ vx) → y ≡ (D *ℤ vy) → z ≡ (D *ℤ vz) → n ≡ (r *ℤ F) → F ≡ (((vx *ℤ vx) +ℤ (vy *ℤ vy)) +ℤ (vz *ℤ vz)) → (pos 0) ≤ℤ F → (D *ℤ D) ≤ℤ ((r *ℤ r) *ℤ F) → ((((x *ℤ x) +ℤ (y *ℤ y)) +ℤ (z *ℤ z)) -ℤ (n *ℤ n)) ≤ℤ (pos 0)
foot_form vx vy vz x y z n D F r ex ey ez en eF pF h = prove_le_by (vx ∷ vy ∷ vz ∷ x ∷ y ∷ z ∷ n ∷ D ∷ F ∷ r ∷ []) (Eq (Var 3) (Mul (Var 7) (Var 0)) ∷ Eq (Var 4) (Mul (Var 7) (Var 1)) ∷ Eq (Var 5) (Mul (Var 7) (Var 2)) ∷ Eq (Var 6) (Mul (Var 9) (Var 8)) ∷ Eq (Var 8) (Add (Add (Mul (Var 0) (Var 0)) (Mul (Var 1) (Var 1))) (Mul (Var 2) (Var 2))) ∷ Le (Num (pos 0)) (Var 8) ∷ Le (Mul (Var 7) (Var 7)) (Mul (Mul (Var 9) (Var 9)) (Var 8)) ∷ []) (Sub (Add (Add (Mul (Var 3) (Var 3)) (Mul (Var 4) (Var 4))) (Mul (Var 5) (Var 5))) (Mul (Var 6) (Var 6))) (Num (pos 0)) (Plus (Hyp 0) (Plus (Times (Hyp 6) (Hyp 7)) (Plus (TimesEq 1 (Add (Var 3) (Mul (Var 7) (Var 0)))) (Plus (TimesEq 2 (Add (Var 4) (Mul (Var 7) (Var 1)))) (Plus (TimesEq 3 (Add (Var 5) (Mul (Var 7) (Var 2)))) (Plus (TimesEq 4 (Neg (Add (Var 6) (Mul (Var 9) (Var 8))))) (TimesEq 5 (Neg (Mul (Var 7) (Var 7)))))))))) 0 (ex, (ey, (ez, (en, (eF, (pF, (h, tt))))))) refl

-- vars u v w ax ay az bx by bz cx cy cz vx vy vz D; hyp e1: (vx*ax+vy*ay)+vz*az == D; hyp e2: (vx*bx+vy*by)+vz*bz == D; hyp e3: (vx*cx+vy*cy)+vz*cz == D; goal (vx*((u*ax+v*bx)+w*cx)+vy*((u*ay+v*by)+w*cy))+vz*((u*az+v*bz)+w*cz) <= ((u+v)+w)*D; eqmul e1 * u; eqmul e2 * v; eqmul e3 * w
pub plane_le : (u v w ax ay az bx by bz cx cy cz vx vy vz D : ℤ) → (((vx *ℤ ax) +ℤ (vy *ℤ ay)) +ℤ (vz *ℤ az)) ≡ D → (((vx *ℤ bx) +ℤ (vy *ℤ by)) +ℤ (vz *ℤ bz)) ≡ D → (((vx *ℤ cx) +ℤ (vy *ℤ cy)) +ℤ (vz *ℤ cz)) ≡ D → (((vx *ℤ (((u *ℤ ax) +ℤ (v *ℤ bx)) +ℤ (w *ℤ cx))) +ℤ (vy *ℤ (((u *ℤ ay) +ℤ (v *ℤ by)) +ℤ (w *ℤ cy)))) +ℤ (vz *ℤ (((u *ℤ az) +ℤ (v *ℤ bz)) +ℤ (w *ℤ cz)))) ≤ℤ (((u +ℤ v) +ℤ w) *ℤ D)
plane_le u v w ax ay az bx by bz cx cy cz vx vy vz D e1 e2 e3 = prove_le_by (u ∷ v ∷ w ∷ ax ∷ ay ∷ az ∷ bx ∷ by ∷ bz ∷ cx ∷ cy ∷ cz ∷ vx ∷ vy ∷ vz ∷ D ∷ []) (Eq (Add (Add (Mul (Var 12) (Var 3)) (Mul (Var 13) (Var 4))) (Mul (Var 14) (Var 5))) (Var 15) ∷ Eq (Add (Add (Mul (Var 12) (Var 6)) (Mul (Var 13) (Var 7))) (Mul (Var 14) (Var 8))) (Var 15) ∷ Eq (Add (Add (Mul (Var 12) (Var 9)) (Mul (Var 13) (Var 10))) (Mul (Var 14) (Var 11))) (Var 15) ∷ []) (Add (Add (Mul (Var 12) (Add (Add (Mul (Var 0) (Var 3)) (Mul (Var 1) (Var 6))) (Mul (Var 2) (Var 9)))) (Mul (Var 13) (Add (Add (Mul (Var 0) (Var 4)) (Mul (Var 1) (Var 7))) (Mul (Var 2) (Var 10))))) (Mul (Var 14) (Add (Add (Mul (Var 0) (Var 5)) (Mul (Var 1) (Var 8))) (Mul (Var 2) (Var 11))))) (Mul (Add (Add (Var 0) (Var 1)) (Var 2)) (Var 15)) (Plus (Hyp 0) (Plus (TimesEq 1 (Var 0)) (Plus (TimesEq 2 (Var 1)) (TimesEq 3 (Var 2))))) 0 (e1, (e2, (e3, tt))) refl

-- vars u v w ax ay az bx by bz cx cy cz vx vy vz D; hyp e1: (vx*ax+vy*ay)+vz*az == D; hyp e2: (vx*bx+vy*by)+vz*bz == D; hyp e3: (vx*cx+vy*cy)+vz*cz == D; goal ((u+v)+w)*D <= (vx*((u*ax+v*bx)+w*cx)+vy*((u*ay+v*by)+w*cy))+vz*((u*az+v*bz)+w*cz); eqmul e1 * u; eqmul e2 * v; eqmul e3 * w
pub plane_ge : (u v w ax ay az bx by bz cx cy cz vx vy vz D : ℤ) → (((vx *ℤ ax) +ℤ (vy *ℤ ay)) +ℤ (vz *ℤ az)) ≡ D → (((vx *ℤ bx) +ℤ (vy *ℤ by)) +ℤ (vz *ℤ bz)) ≡ D → (((vx *ℤ cx) +ℤ (vy *ℤ cy)) +ℤ (vz *ℤ cz)) ≡ D → (((u +ℤ v) +ℤ w) *ℤ D) ≤ℤ (((vx *ℤ (((u *ℤ ax) +ℤ (v *ℤ bx)) +ℤ (w *ℤ cx))) +ℤ (vy *ℤ (((u *ℤ ay) +ℤ (v *ℤ by)) +ℤ (w *ℤ cy)))) +ℤ (vz *ℤ (((u *ℤ az) +ℤ (v *ℤ bz)) +ℤ (w *ℤ cz))))
plane_ge u v w ax ay az bx by bz cx cy cz vx vy vz D e1 e2 e3 = prove_le_by (u ∷ v ∷ w ∷ ax ∷ ay ∷ az ∷ bx ∷ by ∷ bz ∷ cx ∷ cy ∷ cz ∷ vx ∷ vy ∷ vz ∷ D ∷ []) (Eq (Add (Add (Mul (Var 12) (Var 3)) (Mul (Var 13) (Var 4))) (Mul (Var 14) (Var 5))) (Var 15) ∷ Eq (Add (Add (Mul (Var 12) (Var 6)) (Mul (Var 13) (Var 7))) (Mul (Var 14) (Var 8))) (Var 15) ∷ Eq (Add (Add (Mul (Var 12) (Var 9)) (Mul (Var 13) (Var 10))) (Mul (Var 14) (Var 11))) (Var 15) ∷ []) (Mul (Add (Add (Var 0) (Var 1)) (Var 2)) (Var 15)) (Add (Add (Mul (Var 12) (Add (Add (Mul (Var 0) (Var 3)) (Mul (Var 1) (Var 6))) (Mul (Var 2) (Var 9)))) (Mul (Var 13) (Add (Add (Mul (Var 0) (Var 4)) (Mul (Var 1) (Var 7))) (Mul (Var 2) (Var 10))))) (Mul (Var 14) (Add (Add (Mul (Var 0) (Var 5)) (Mul (Var 1) (Var 8))) (Mul (Var 2) (Var 11))))) (Plus (Hyp 0) (Plus (TimesEq 1 (Neg (Var 0))) (Plus (TimesEq 2 (Neg (Var 1))) (TimesEq 3 (Neg (Var 2)))))) 0 (e1, (e2, (e3, tt))) refl

pub normal_a : (ax ay az bx by bz cx cy cz : ℤ) → (((((((by *ℤ cz) -ℤ (bz *ℤ cy)) +ℤ ((cy *ℤ az) -ℤ (cz *ℤ ay))) +ℤ ((ay *ℤ bz) -ℤ (az *ℤ by))) *ℤ ax) +ℤ (((((bz *ℤ cx) -ℤ (bx *ℤ cz)) +ℤ ((cz *ℤ ax) -ℤ (cx *ℤ az))) +ℤ ((az *ℤ bx) -ℤ (ax *ℤ bz))) *ℤ ay)) +ℤ (((((bx *ℤ cy) -ℤ (by *ℤ cx)) +ℤ ((cx *ℤ ay) -ℤ (cy *ℤ ax))) +ℤ ((ax *ℤ by) -ℤ (ay *ℤ bx))) *ℤ az)) ≡ (((((by *ℤ cz) -ℤ (bz *ℤ cy)) *ℤ ax) +ℤ (((bz *ℤ cx) -ℤ (bx *ℤ cz)) *ℤ ay)) +ℤ (((bx *ℤ cy) -ℤ (by *ℤ cx)) *ℤ az))
normal_a ax ay az bx by bz cx cy cz = ring (ax ∷ ay ∷ az ∷ bx ∷ by ∷ bz ∷ cx ∷ cy ∷ cz ∷ []) (Add (Add (Mul (Add (Add (Sub (Mul (Var 4) (Var 8)) (Mul (Var 5) (Var 7))) (Sub (Mul (Var 7) (Var 2)) (Mul (Var 8) (Var 1)))) (Sub (Mul (Var 1) (Var 5)) (Mul (Var 2) (Var 4)))) (Var 0)) (Mul (Add (Add (Sub (Mul (Var 5) (Var 6)) (Mul (Var 3) (Var 8))) (Sub (Mul (Var 8) (Var 0)) (Mul (Var 6) (Var 2)))) (Sub (Mul (Var 2) (Var 3)) (Mul (Var 0) (Var 5)))) (Var 1))) (Mul (Add (Add (Sub (Mul (Var 3) (Var 7)) (Mul (Var 4) (Var 6))) (Sub (Mul (Var 6) (Var 1)) (Mul (Var 7) (Var 0)))) (Sub (Mul (Var 0) (Var 4)) (Mul (Var 1) (Var 3)))) (Var 2))) (Add (Add (Mul (Sub (Mul (Var 4) (Var 8)) (Mul (Var 5) (Var 7))) (Var 0)) (Mul (Sub (Mul (Var 5) (Var 6)) (Mul (Var 3) (Var 8))) (Var 1))) (Mul (Sub (Mul (Var 3) (Var 7)) (Mul (Var 4) (Var 6))) (Var 2))) refl

pub normal_b : (ax ay az bx by bz cx cy cz : ℤ) → (((((((by *ℤ cz) -ℤ (bz *ℤ cy)) +ℤ ((cy *ℤ az) -ℤ (cz *ℤ ay))) +ℤ ((ay *ℤ bz) -ℤ (az *ℤ by))) *ℤ bx) +ℤ (((((bz *ℤ cx) -ℤ (bx *ℤ cz)) +ℤ ((cz *ℤ ax) -ℤ (cx *ℤ az))) +ℤ ((az *ℤ bx) -ℤ (ax *ℤ bz))) *ℤ by)) +ℤ (((((bx *ℤ cy) -ℤ (by *ℤ cx)) +ℤ ((cx *ℤ ay) -ℤ (cy *ℤ ax))) +ℤ ((ax *ℤ by) -ℤ (ay *ℤ bx))) *ℤ bz)) ≡ (((((by *ℤ cz) -ℤ (bz *ℤ cy)) *ℤ ax) +ℤ (((bz *ℤ cx) -ℤ (bx *ℤ cz)) *ℤ ay)) +ℤ (((bx *ℤ cy) -ℤ (by *ℤ cx)) *ℤ az))
normal_b ax ay az bx by bz cx cy cz = ring (ax ∷ ay ∷ az ∷ bx ∷ by ∷ bz ∷ cx ∷ cy ∷ cz ∷ []) (Add (Add (Mul (Add (Add (Sub (Mul (Var 4) (Var 8)) (Mul (Var 5) (Var 7))) (Sub (Mul (Var 7) (Var 2)) (Mul (Var 8) (Var 1)))) (Sub (Mul (Var 1) (Var 5)) (Mul (Var 2) (Var 4)))) (Var 3)) (Mul (Add (Add (Sub (Mul (Var 5) (Var 6)) (Mul (Var 3) (Var 8))) (Sub (Mul (Var 8) (Var 0)) (Mul (Var 6) (Var 2)))) (Sub (Mul (Var 2) (Var 3)) (Mul (Var 0) (Var 5)))) (Var 4))) (Mul (Add (Add (Sub (Mul (Var 3) (Var 7)) (Mul (Var 4) (Var 6))) (Sub (Mul (Var 6) (Var 1)) (Mul (Var 7) (Var 0)))) (Sub (Mul (Var 0) (Var 4)) (Mul (Var 1) (Var 3)))) (Var 5))) (Add (Add (Mul (Sub (Mul (Var 4) (Var 8)) (Mul (Var 5) (Var 7))) (Var 0)) (Mul (Sub (Mul (Var 5) (Var 6)) (Mul (Var 3) (Var 8))) (Var 1))) (Mul (Sub (Mul (Var 3) (Var 7)) (Mul (Var 4) (Var 6))) (Var 2))) refl

pub normal_c : (ax ay az bx by bz cx cy cz : ℤ) → (((((((by *ℤ cz) -ℤ (bz *ℤ cy)) +ℤ ((cy *ℤ az) -ℤ (cz *ℤ ay))) +ℤ ((ay *ℤ bz) -ℤ (az *ℤ by))) *ℤ cx) +ℤ (((((bz *ℤ cx) -ℤ (bx *ℤ cz)) +ℤ ((cz *ℤ ax) -ℤ (cx *ℤ az))) +ℤ ((az *ℤ bx) -ℤ (ax *ℤ bz))) *ℤ cy)) +ℤ (((((bx *ℤ cy) -ℤ (by *ℤ cx)) +ℤ ((cx *ℤ ay) -ℤ (cy *ℤ ax))) +ℤ ((ax *ℤ by) -ℤ (ay *ℤ bx))) *ℤ cz)) ≡ (((((by *ℤ cz) -ℤ (bz *ℤ cy)) *ℤ ax) +ℤ (((bz *ℤ cx) -ℤ (bx *ℤ cz)) *ℤ ay)) +ℤ (((bx *ℤ cy) -ℤ (by *ℤ cx)) *ℤ az))
normal_c ax ay az bx by bz cx cy cz = ring (ax ∷ ay ∷ az ∷ bx ∷ by ∷ bz ∷ cx ∷ cy ∷ cz ∷ []) (Add (Add (Mul (Add (Add (Sub (Mul (Var 4) (Var 8)) (Mul (Var 5) (Var 7))) (Sub (Mul (Var 7) (Var 2)) (Mul (Var 8) (Var 1)))) (Sub (Mul (Var 1) (Var 5)) (Mul (Var 2) (Var 4)))) (Var 6)) (Mul (Add (Add (Sub (Mul (Var 5) (Var 6)) (Mul (Var 3) (Var 8))) (Sub (Mul (Var 8) (Var 0)) (Mul (Var 6) (Var 2)))) (Sub (Mul (Var 2) (Var 3)) (Mul (Var 0) (Var 5)))) (Var 7))) (Mul (Add (Add (Sub (Mul (Var 3) (Var 7)) (Mul (Var 4) (Var 6))) (Sub (Mul (Var 6) (Var 1)) (Mul (Var 7) (Var 0)))) (Sub (Mul (Var 0) (Var 4)) (Mul (Var 1) (Var 3)))) (Var 8))) (Add (Add (Mul (Sub (Mul (Var 4) (Var 8)) (Mul (Var 5) (Var 7))) (Var 0)) (Mul (Sub (Mul (Var 5) (Var 6)) (Mul (Var 3) (Var 8))) (Var 1))) (Mul (Sub (Mul (Var 3) (Var 7)) (Mul (Var 4) (Var 6))) (Var 2))) refl

pub foot_at : (v1 v2 v3 bc1 bc2 bc3 ca1 ca2 ca3 ab1 ab2 ab3 : ℤ) → (((((v1 *ℤ bc1) +ℤ (v2 *ℤ bc2)) +ℤ (v3 *ℤ bc3)) +ℤ (((v1 *ℤ ca1) +ℤ (v2 *ℤ ca2)) +ℤ (v3 *ℤ ca3))) +ℤ (((v1 *ℤ ab1) +ℤ (v2 *ℤ ab2)) +ℤ (v3 *ℤ ab3))) ≡ (((v1 *ℤ ((bc1 +ℤ ca1) +ℤ ab1)) +ℤ (v2 *ℤ ((bc2 +ℤ ca2) +ℤ ab2))) +ℤ (v3 *ℤ ((bc3 +ℤ ca3) +ℤ ab3)))
foot_at v1 v2 v3 bc1 bc2 bc3 ca1 ca2 ca3 ab1 ab2 ab3 = ring (v1 ∷ v2 ∷ v3 ∷ bc1 ∷ bc2 ∷ bc3 ∷ ca1 ∷ ca2 ∷ ca3 ∷ ab1 ∷ ab2 ∷ ab3 ∷ []) (Add (Add (Add (Add (Mul (Var 0) (Var 3)) (Mul (Var 1) (Var 4))) (Mul (Var 2) (Var 5))) (Add (Add (Mul (Var 0) (Var 6)) (Mul (Var 1) (Var 7))) (Mul (Var 2) (Var 8)))) (Add (Add (Mul (Var 0) (Var 9)) (Mul (Var 1) (Var 10))) (Mul (Var 2) (Var 11)))) (Add (Add (Mul (Var 0) (Add (Add (Var 3) (Var 6)) (Var 9))) (Mul (Var 1) (Add (Add (Var 4) (Var 7)) (Var 10)))) (Mul (Var 2) (Add (Add (Var 5) (Var 8)) (Var 11)))) refl

pub cramer_x : (vx vy vz ax ay az bx by bz cx cy cz : ℤ) → ((((((vx *ℤ ((by *ℤ cz) -ℤ (bz *ℤ cy))) +ℤ (vy *ℤ ((bz *ℤ cx) -ℤ (bx *ℤ cz)))) +ℤ (vz *ℤ ((bx *ℤ cy) -ℤ (by *ℤ cx)))) *ℤ ax) +ℤ ((((vx *ℤ ((cy *ℤ az) -ℤ (cz *ℤ ay))) +ℤ (vy *ℤ ((cz *ℤ ax) -ℤ (cx *ℤ az)))) +ℤ (vz *ℤ ((cx *ℤ ay) -ℤ (cy *ℤ ax)))) *ℤ bx)) +ℤ ((((vx *ℤ ((ay *ℤ bz) -ℤ (az *ℤ by))) +ℤ (vy *ℤ ((az *ℤ bx) -ℤ (ax *ℤ bz)))) +ℤ (vz *ℤ ((ax *ℤ by) -ℤ (ay *ℤ bx)))) *ℤ cx)) ≡ ((((((by *ℤ cz) -ℤ (bz *ℤ cy)) *ℤ ax) +ℤ (((bz *ℤ cx) -ℤ (bx *ℤ cz)) *ℤ ay)) +ℤ (((bx *ℤ cy) -ℤ (by *ℤ cx)) *ℤ az)) *ℤ vx)
cramer_x vx vy vz ax ay az bx by bz cx cy cz = ring (vx ∷ vy ∷ vz ∷ ax ∷ ay ∷ az ∷ bx ∷ by ∷ bz ∷ cx ∷ cy ∷ cz ∷ []) (Add (Add (Mul (Add (Add (Mul (Var 0) (Sub (Mul (Var 7) (Var 11)) (Mul (Var 8) (Var 10)))) (Mul (Var 1) (Sub (Mul (Var 8) (Var 9)) (Mul (Var 6) (Var 11))))) (Mul (Var 2) (Sub (Mul (Var 6) (Var 10)) (Mul (Var 7) (Var 9))))) (Var 3)) (Mul (Add (Add (Mul (Var 0) (Sub (Mul (Var 10) (Var 5)) (Mul (Var 11) (Var 4)))) (Mul (Var 1) (Sub (Mul (Var 11) (Var 3)) (Mul (Var 9) (Var 5))))) (Mul (Var 2) (Sub (Mul (Var 9) (Var 4)) (Mul (Var 10) (Var 3))))) (Var 6))) (Mul (Add (Add (Mul (Var 0) (Sub (Mul (Var 4) (Var 8)) (Mul (Var 5) (Var 7)))) (Mul (Var 1) (Sub (Mul (Var 5) (Var 6)) (Mul (Var 3) (Var 8))))) (Mul (Var 2) (Sub (Mul (Var 3) (Var 7)) (Mul (Var 4) (Var 6))))) (Var 9))) (Mul (Add (Add (Mul (Sub (Mul (Var 7) (Var 11)) (Mul (Var 8) (Var 10))) (Var 3)) (Mul (Sub (Mul (Var 8) (Var 9)) (Mul (Var 6) (Var 11))) (Var 4))) (Mul (Sub (Mul (Var 6) (Var 10)) (Mul (Var 7) (Var 9))) (Var 5))) (Var 0)) refl

pub cramer_y : (vx vy vz ax ay az bx by bz cx cy cz : ℤ) → ((((((vx *ℤ ((by *ℤ cz) -ℤ (bz *ℤ cy))) +ℤ (vy *ℤ ((bz *ℤ cx) -ℤ (bx *ℤ cz)))) +ℤ (vz *ℤ ((bx *ℤ cy) -ℤ (by *ℤ cx)))) *ℤ ay) +ℤ ((((vx *ℤ ((cy *ℤ az) -ℤ (cz *ℤ ay))) +ℤ (vy *ℤ ((cz *ℤ ax) -ℤ (cx *ℤ az)))) +ℤ (vz *ℤ ((cx *ℤ ay) -ℤ (cy *ℤ ax)))) *ℤ by)) +ℤ ((((vx *ℤ ((ay *ℤ bz) -ℤ (az *ℤ by))) +ℤ (vy *ℤ ((az *ℤ bx) -ℤ (ax *ℤ bz)))) +ℤ (vz *ℤ ((ax *ℤ by) -ℤ (ay *ℤ bx)))) *ℤ cy)) ≡ ((((((by *ℤ cz) -ℤ (bz *ℤ cy)) *ℤ ax) +ℤ (((bz *ℤ cx) -ℤ (bx *ℤ cz)) *ℤ ay)) +ℤ (((bx *ℤ cy) -ℤ (by *ℤ cx)) *ℤ az)) *ℤ vy)
cramer_y vx vy vz ax ay az bx by bz cx cy cz = ring (vx ∷ vy ∷ vz ∷ ax ∷ ay ∷ az ∷ bx ∷ by ∷ bz ∷ cx ∷ cy ∷ cz ∷ []) (Add (Add (Mul (Add (Add (Mul (Var 0) (Sub (Mul (Var 7) (Var 11)) (Mul (Var 8) (Var 10)))) (Mul (Var 1) (Sub (Mul (Var 8) (Var 9)) (Mul (Var 6) (Var 11))))) (Mul (Var 2) (Sub (Mul (Var 6) (Var 10)) (Mul (Var 7) (Var 9))))) (Var 4)) (Mul (Add (Add (Mul (Var 0) (Sub (Mul (Var 10) (Var 5)) (Mul (Var 11) (Var 4)))) (Mul (Var 1) (Sub (Mul (Var 11) (Var 3)) (Mul (Var 9) (Var 5))))) (Mul (Var 2) (Sub (Mul (Var 9) (Var 4)) (Mul (Var 10) (Var 3))))) (Var 7))) (Mul (Add (Add (Mul (Var 0) (Sub (Mul (Var 4) (Var 8)) (Mul (Var 5) (Var 7)))) (Mul (Var 1) (Sub (Mul (Var 5) (Var 6)) (Mul (Var 3) (Var 8))))) (Mul (Var 2) (Sub (Mul (Var 3) (Var 7)) (Mul (Var 4) (Var 6))))) (Var 10))) (Mul (Add (Add (Mul (Sub (Mul (Var 7) (Var 11)) (Mul (Var 8) (Var 10))) (Var 3)) (Mul (Sub (Mul (Var 8) (Var 9)) (Mul (Var 6) (Var 11))) (Var 4))) (Mul (Sub (Mul (Var 6) (Var 10)) (Mul (Var 7) (Var 9))) (Var 5))) (Var 1)) refl

pub cramer_z : (vx vy vz ax ay az bx by bz cx cy cz : ℤ) → ((((((vx *ℤ ((by *ℤ cz) -ℤ (bz *ℤ cy))) +ℤ (vy *ℤ ((bz *ℤ cx) -ℤ (bx *ℤ cz)))) +ℤ (vz *ℤ ((bx *ℤ cy) -ℤ (by *ℤ cx)))) *ℤ az) +ℤ ((((vx *ℤ ((cy *ℤ az) -ℤ (cz *ℤ ay))) +ℤ (vy *ℤ ((cz *ℤ ax) -ℤ (cx *ℤ az)))) +ℤ (vz *ℤ ((cx *ℤ ay) -ℤ (cy *ℤ ax)))) *ℤ bz)) +ℤ ((((vx *ℤ ((ay *ℤ bz) -ℤ (az *ℤ by))) +ℤ (vy *ℤ ((az *ℤ bx) -ℤ (ax *ℤ bz)))) +ℤ (vz *ℤ ((ax *ℤ by) -ℤ (ay *ℤ bx)))) *ℤ cz)) ≡ ((((((by *ℤ cz) -ℤ (bz *ℤ cy)) *ℤ ax) +ℤ (((bz *ℤ cx) -ℤ (bx *ℤ cz)) *ℤ ay)) +ℤ (((bx *ℤ cy) -ℤ (by *ℤ cx)) *ℤ az)) *ℤ vz)
cramer_z vx vy vz ax ay az bx by bz cx cy cz = ring (vx ∷ vy ∷ vz ∷ ax ∷ ay ∷ az ∷ bx ∷ by ∷ bz ∷ cx ∷ cy ∷ cz ∷ []) (Add (Add (Mul (Add (Add (Mul (Var 0) (Sub (Mul (Var 7) (Var 11)) (Mul (Var 8) (Var 10)))) (Mul (Var 1) (Sub (Mul (Var 8) (Var 9)) (Mul (Var 6) (Var 11))))) (Mul (Var 2) (Sub (Mul (Var 6) (Var 10)) (Mul (Var 7) (Var 9))))) (Var 5)) (Mul (Add (Add (Mul (Var 0) (Sub (Mul (Var 10) (Var 5)) (Mul (Var 11) (Var 4)))) (Mul (Var 1) (Sub (Mul (Var 11) (Var 3)) (Mul (Var 9) (Var 5))))) (Mul (Var 2) (Sub (Mul (Var 9) (Var 4)) (Mul (Var 10) (Var 3))))) (Var 8))) (Mul (Add (Add (Mul (Var 0) (Sub (Mul (Var 4) (Var 8)) (Mul (Var 5) (Var 7)))) (Mul (Var 1) (Sub (Mul (Var 5) (Var 6)) (Mul (Var 3) (Var 8))))) (Mul (Var 2) (Sub (Mul (Var 3) (Var 7)) (Mul (Var 4) (Var 6))))) (Var 11))) (Mul (Add (Add (Mul (Sub (Mul (Var 7) (Var 11)) (Mul (Var 8) (Var 10))) (Var 3)) (Mul (Sub (Mul (Var 8) (Var 9)) (Mul (Var 6) (Var 11))) (Var 4))) (Mul (Sub (Mul (Var 6) (Var 10)) (Mul (Var 7) (Var 9))) (Var 5))) (Var 2)) refl

pub same_radius : (r u v w : ℤ) → (((u *ℤ r) +ℤ (v *ℤ r)) +ℤ (w *ℤ r)) ≡ (r *ℤ ((u +ℤ v) +ℤ w))
same_radius r u v w = ring (r ∷ u ∷ v ∷ w ∷ []) (Add (Add (Mul (Var 1) (Var 0)) (Mul (Var 2) (Var 0))) (Mul (Var 3) (Var 0))) (Mul (Var 0) (Add (Add (Var 1) (Var 2)) (Var 3))) refl

-- vars u v w; hyp hu: 0 <= u; hyp hv: 0 <= v; hyp hw: 0 <= w; goal 0 <= (u+v)+w
pub add3_nonneg : (u v w : ℤ) → (pos 0) ≤ℤ u → (pos 0) ≤ℤ v → (pos 0) ≤ℤ w → (pos 0) ≤ℤ ((u +ℤ v) +ℤ w)
add3_nonneg u v w hu hv hw = prove_le_by (u ∷ v ∷ w ∷ []) (Le (Num (pos 0)) (Var 0) ∷ Le (Num (pos 0)) (Var 1) ∷ Le (Num (pos 0)) (Var 2) ∷ []) (Num (pos 0)) (Add (Add (Var 0) (Var 1)) (Var 2)) (Plus (Hyp 0) (Plus (Hyp 1) (Plus (Hyp 2) (Hyp 3)))) 0 (hu, (hv, (hw, tt))) refl

-- vars vx vy vz x y z n D F r; hyp ex: x == D*vx; hyp ey: y == D*vy; hyp ez: z == D*vz; hyp en: n == r*F; hyp eF: F == vx*vx+vy*vy+vz*vz; hyp pF: 0 < F; hyp h: D*D < (r*r)*F; goal (x*x+y*y+z*z)-n*n < 0; mul pF+ * h+; mul pF * h; mul pF * h+; mul pF+ * h; eqmul ex * (x+D*vx); eqmul ey * (y+D*vy); eqmul ez * (z+D*vz); eqmul en * (n+r*F); eqmul eF * (D*D)
pub foot_inside : (vx vy vz x y z n D F r : ℤ) → x ≡ (D *ℤ vx) → y ≡ (D *ℤ vy) → z ≡ (D *ℤ vz) → n ≡ (r *ℤ F) → F ≡ (((vx *ℤ vx) +ℤ (vy *ℤ vy)) +ℤ (vz *ℤ vz)) → (pos 0) <ℤ F → (D *ℤ D) <ℤ ((r *ℤ r) *ℤ F) → ((((x *ℤ x) +ℤ (y *ℤ y)) +ℤ (z *ℤ z)) -ℤ (n *ℤ n)) <ℤ (pos 0)
foot_inside vx vy vz x y z n D F r ex ey ez en eF pF h = prove_lt_by (vx ∷ vy ∷ vz ∷ x ∷ y ∷ z ∷ n ∷ D ∷ F ∷ r ∷ []) (Eq (Var 3) (Mul (Var 7) (Var 0)) ∷ Eq (Var 4) (Mul (Var 7) (Var 1)) ∷ Eq (Var 5) (Mul (Var 7) (Var 2)) ∷ Eq (Var 6) (Mul (Var 9) (Var 8)) ∷ Eq (Var 8) (Add (Add (Mul (Var 0) (Var 0)) (Mul (Var 1) (Var 1))) (Mul (Var 2) (Var 2))) ∷ Lt (Num (pos 0)) (Var 8) ∷ Lt (Mul (Var 7) (Var 7)) (Mul (Mul (Var 9) (Var 9)) (Var 8)) ∷ []) (Sub (Add (Add (Mul (Var 3) (Var 3)) (Mul (Var 4) (Var 4))) (Mul (Var 5) (Var 5))) (Mul (Var 6) (Var 6))) (Num (pos 0)) (Plus (Hyp 0) (Plus (Hyp 6) (Plus (Hyp 7) (Plus (Times (Hyp 6) (Hyp 7)) (Plus (TimesEq 1 (Add (Var 3) (Mul (Var 7) (Var 0)))) (Plus (TimesEq 2 (Add (Var 4) (Mul (Var 7) (Var 1)))) (Plus (TimesEq 3 (Add (Var 5) (Mul (Var 7) (Var 2)))) (Plus (TimesEq 4 (Neg (Add (Var 6) (Mul (Var 9) (Var 8))))) (TimesEq 5 (Neg (Mul (Var 7) (Var 7)))))))))))) 0 (ex, (ey, (ez, (en, (eF, (pF, (h, tt))))))) refl

-- vars d r f; hyp h: d*d < (r*r)*f; goal 0 < f; mul goal * sq(r); square d
pub size_some : (d r f : ℤ) → (d *ℤ d) <ℤ ((r *ℤ r) *ℤ f) → (pos 0) <ℤ f
size_some d r f h = prove_lt_by (d ∷ r ∷ f ∷ []) (Lt (Mul (Var 0) (Var 0)) (Mul (Mul (Var 1) (Var 1)) (Var 2)) ∷ []) (Num (pos 0)) (Var 2) (Plus (Hyp 1) (Plus (Times (Hyp 0) (Sq (Var 1))) (Sq (Var 0)))) 0 (h, tt) refl
