-- Polynomial facts behind the cutter's solid and the sphere about its centre.
-- Written by tools/certificates.py from tools/certificates/mill_contact_ball_place.spec.
use Rattle.std.proofs.Common.{◌≡◌, [], ◌∷◌, refl}
use lib.IntN.{ℤ, pos, ◌+ℤ◌, ◌-ℤ◌, ◌*ℤ◌}
use lib.Signed.{◌<ℤ◌, ◌≤ℤ◌}
use Rattle.mill_base.proofs.Ring.{Var, Num, Add, Sub, Mul, Neg, ring}
use Rattle.mill_base.proofs.Cert.{Le, Lt, Eq, Hyp, TimesEq, Sq, Lit, Plus, Times, prove_lt_by}

pub raised : (p n t r : ℤ) → ((((pos 1) *ℤ p) -ℤ (n *ℤ t)) -ℤ (r *ℤ ((pos 1) *ℤ n))) ≡ (((pos 1) *ℤ p) -ℤ (n *ℤ (t +ℤ r)))
raised p n t r = ring (p ∷ n ∷ t ∷ r ∷ []) (Sub (Sub (Mul (Num (pos 1)) (Var 0)) (Mul (Var 1) (Var 2))) (Mul (Var 3) (Mul (Num (pos 1)) (Var 1)))) (Sub (Mul (Num (pos 1)) (Var 0)) (Mul (Var 1) (Add (Var 2) (Var 3)))) refl

-- vars X Y D N x y z n r; hyp eX: X == x; hyp eY: Y == y; hyp eD: D-r*N == z; hyp eN: N == n; hyp h: (x*x+y*y)+z*z < (r*r)*(n*n); goal (X*X+Y*Y)+(D-r*N)*(D-r*N) < (r*r)*(N*N); eqmul eX * (x+X); eqmul eY * (y+Y); eqmul eD * (z+D-r*N); eqmul eN * ((r*r)*(n+N))
pub sphere_there : (X Y D N x y z n r : ℤ) → X ≡ x → Y ≡ y → (D -ℤ (r *ℤ N)) ≡ z → N ≡ n → (((x *ℤ x) +ℤ (y *ℤ y)) +ℤ (z *ℤ z)) <ℤ ((r *ℤ r) *ℤ (n *ℤ n)) → (((X *ℤ X) +ℤ (Y *ℤ Y)) +ℤ ((D -ℤ (r *ℤ N)) *ℤ (D -ℤ (r *ℤ N)))) <ℤ ((r *ℤ r) *ℤ (N *ℤ N))
sphere_there X Y D N x y z n r eX eY eD eN h = prove_lt_by (X ∷ Y ∷ D ∷ N ∷ x ∷ y ∷ z ∷ n ∷ r ∷ []) (Eq (Var 0) (Var 4) ∷ Eq (Var 1) (Var 5) ∷ Eq (Sub (Var 2) (Mul (Var 8) (Var 3))) (Var 6) ∷ Eq (Var 3) (Var 7) ∷ Lt (Add (Add (Mul (Var 4) (Var 4)) (Mul (Var 5) (Var 5))) (Mul (Var 6) (Var 6))) (Mul (Mul (Var 8) (Var 8)) (Mul (Var 7) (Var 7))) ∷ []) (Add (Add (Mul (Var 0) (Var 0)) (Mul (Var 1) (Var 1))) (Mul (Sub (Var 2) (Mul (Var 8) (Var 3))) (Sub (Var 2) (Mul (Var 8) (Var 3))))) (Mul (Mul (Var 8) (Var 8)) (Mul (Var 3) (Var 3))) (Plus (Hyp 0) (Plus (Hyp 5) (Plus (TimesEq 1 (Add (Var 4) (Var 0))) (Plus (TimesEq 2 (Add (Var 5) (Var 1))) (Plus (TimesEq 3 (Sub (Add (Var 6) (Var 2)) (Mul (Var 8) (Var 3)))) (TimesEq 4 (Neg (Mul (Mul (Var 8) (Var 8)) (Add (Var 7) (Var 3)))))))))) 0 (eX, (eY, (eD, (eN, (h, tt))))) refl

-- vars X Y N x y z n r; hyp eX: X == x; hyp eY: Y == y; hyp eN: N == n; hyp h: (x*x+y*y)+z*z < (r*r)*(n*n); goal X*X+Y*Y < (r*r)*(N*N); square z; eqmul eX * (x+X); eqmul eY * (y+Y); eqmul eN * ((r*r)*(n+N))
pub sphere_near : (X Y N x y z n r : ℤ) → X ≡ x → Y ≡ y → N ≡ n → (((x *ℤ x) +ℤ (y *ℤ y)) +ℤ (z *ℤ z)) <ℤ ((r *ℤ r) *ℤ (n *ℤ n)) → ((X *ℤ X) +ℤ (Y *ℤ Y)) <ℤ ((r *ℤ r) *ℤ (N *ℤ N))
sphere_near X Y N x y z n r eX eY eN h = prove_lt_by (X ∷ Y ∷ N ∷ x ∷ y ∷ z ∷ n ∷ r ∷ []) (Eq (Var 0) (Var 3) ∷ Eq (Var 1) (Var 4) ∷ Eq (Var 2) (Var 6) ∷ Lt (Add (Add (Mul (Var 3) (Var 3)) (Mul (Var 4) (Var 4))) (Mul (Var 5) (Var 5))) (Mul (Mul (Var 7) (Var 7)) (Mul (Var 6) (Var 6))) ∷ []) (Add (Mul (Var 0) (Var 0)) (Mul (Var 1) (Var 1))) (Mul (Mul (Var 7) (Var 7)) (Mul (Var 2) (Var 2))) (Plus (Hyp 0) (Plus (Hyp 4) (Plus (Sq (Var 5)) (Plus (TimesEq 1 (Add (Var 3) (Var 0))) (Plus (TimesEq 2 (Add (Var 4) (Var 1))) (TimesEq 3 (Neg (Mul (Mul (Var 7) (Var 7)) (Add (Var 6) (Var 2)))))))))) 0 (eX, (eY, (eN, (h, tt)))) refl

-- vars X Y D N x y z n r; hyp eX: X == x; hyp eY: Y == y; hyp eD: D-r*N == z; hyp eN: N == n; hyp h: (X*X+Y*Y)+(D-r*N)*(D-r*N) < (r*r)*(N*N); goal (x*x+y*y)+z*z < (r*r)*(n*n); eqmul eX * (x+X); eqmul eY * (y+Y); eqmul eD * (z+D-r*N); eqmul eN * ((r*r)*(n+N))
pub sphere_back : (X Y D N x y z n r : ℤ) → X ≡ x → Y ≡ y → (D -ℤ (r *ℤ N)) ≡ z → N ≡ n → (((X *ℤ X) +ℤ (Y *ℤ Y)) +ℤ ((D -ℤ (r *ℤ N)) *ℤ (D -ℤ (r *ℤ N)))) <ℤ ((r *ℤ r) *ℤ (N *ℤ N)) → (((x *ℤ x) +ℤ (y *ℤ y)) +ℤ (z *ℤ z)) <ℤ ((r *ℤ r) *ℤ (n *ℤ n))
sphere_back X Y D N x y z n r eX eY eD eN h = prove_lt_by (X ∷ Y ∷ D ∷ N ∷ x ∷ y ∷ z ∷ n ∷ r ∷ []) (Eq (Var 0) (Var 4) ∷ Eq (Var 1) (Var 5) ∷ Eq (Sub (Var 2) (Mul (Var 8) (Var 3))) (Var 6) ∷ Eq (Var 3) (Var 7) ∷ Lt (Add (Add (Mul (Var 0) (Var 0)) (Mul (Var 1) (Var 1))) (Mul (Sub (Var 2) (Mul (Var 8) (Var 3))) (Sub (Var 2) (Mul (Var 8) (Var 3))))) (Mul (Mul (Var 8) (Var 8)) (Mul (Var 3) (Var 3))) ∷ []) (Add (Add (Mul (Var 4) (Var 4)) (Mul (Var 5) (Var 5))) (Mul (Var 6) (Var 6))) (Mul (Mul (Var 8) (Var 8)) (Mul (Var 7) (Var 7))) (Plus (Hyp 0) (Plus (Hyp 5) (Plus (TimesEq 1 (Neg (Add (Var 4) (Var 0)))) (Plus (TimesEq 2 (Neg (Add (Var 5) (Var 1)))) (Plus (TimesEq 3 (Neg (Sub (Add (Var 6) (Var 2)) (Mul (Var 8) (Var 3))))) (TimesEq 4 (Mul (Mul (Var 8) (Var 8)) (Add (Var 7) (Var 3))))))))) 0 (eX, (eY, (eD, (eN, (h, tt))))) refl

-- vars X Y N x y z n r; hyp eX: X == x; hyp eY: Y == y; hyp eN: N == n; hyp low: z <= 0; hyp up: 0 <= z; hyp h: X*X+Y*Y < (r*r)*(N*N); goal (x*x+y*y)+z*z < (r*r)*(n*n); mul low * up; eqmul eX * (x+X); eqmul eY * (y+Y); eqmul eN * ((r*r)*(n+N))
pub level_back : (X Y N x y z n r : ℤ) → X ≡ x → Y ≡ y → N ≡ n → z ≤ℤ (pos 0) → (pos 0) ≤ℤ z → ((X *ℤ X) +ℤ (Y *ℤ Y)) <ℤ ((r *ℤ r) *ℤ (N *ℤ N)) → (((x *ℤ x) +ℤ (y *ℤ y)) +ℤ (z *ℤ z)) <ℤ ((r *ℤ r) *ℤ (n *ℤ n))
level_back X Y N x y z n r eX eY eN low up h = prove_lt_by (X ∷ Y ∷ N ∷ x ∷ y ∷ z ∷ n ∷ r ∷ []) (Eq (Var 0) (Var 3) ∷ Eq (Var 1) (Var 4) ∷ Eq (Var 2) (Var 6) ∷ Le (Var 5) (Num (pos 0)) ∷ Le (Num (pos 0)) (Var 5) ∷ Lt (Add (Mul (Var 0) (Var 0)) (Mul (Var 1) (Var 1))) (Mul (Mul (Var 7) (Var 7)) (Mul (Var 2) (Var 2))) ∷ []) (Add (Add (Mul (Var 3) (Var 3)) (Mul (Var 4) (Var 4))) (Mul (Var 5) (Var 5))) (Mul (Mul (Var 7) (Var 7)) (Mul (Var 6) (Var 6))) (Plus (Hyp 0) (Plus (Hyp 6) (Plus (Times (Hyp 4) (Hyp 5)) (Plus (TimesEq 1 (Neg (Add (Var 3) (Var 0)))) (Plus (TimesEq 2 (Neg (Add (Var 4) (Var 1)))) (TimesEq 3 (Mul (Mul (Var 7) (Var 7)) (Add (Var 6) (Var 2))))))))) 0 (eX, (eY, (eN, (low, (up, (h, tt)))))) refl

-- vars x y z u v w r; hyp hu: 0 <= u; hyp hv: 0 <= v; hyp hw: 0 <= w; hyp h: (x*x+y*y)+z*z < (r*r)*(((u+v)+w)*((u+v)+w)); goal 0 < (u+v)+w; square x; square y; square z; mul goal * hu; mul goal * hv; mul goal * hw; mul goal * hu * sq(r); mul goal * hv * sq(r); mul goal * hw * sq(r); mul goal * goal * sq(r)
pub some_weight : (x y z u v w r : ℤ) → (pos 0) ≤ℤ u → (pos 0) ≤ℤ v → (pos 0) ≤ℤ w → (((x *ℤ x) +ℤ (y *ℤ y)) +ℤ (z *ℤ z)) <ℤ ((r *ℤ r) *ℤ (((u +ℤ v) +ℤ w) *ℤ ((u +ℤ v) +ℤ w))) → (pos 0) <ℤ ((u +ℤ v) +ℤ w)
some_weight x y z u v w r hu hv hw h = prove_lt_by (x ∷ y ∷ z ∷ u ∷ v ∷ w ∷ r ∷ []) (Le (Num (pos 0)) (Var 3) ∷ Le (Num (pos 0)) (Var 4) ∷ Le (Num (pos 0)) (Var 5) ∷ Lt (Add (Add (Mul (Var 0) (Var 0)) (Mul (Var 1) (Var 1))) (Mul (Var 2) (Var 2))) (Mul (Mul (Var 6) (Var 6)) (Mul (Add (Add (Var 3) (Var 4)) (Var 5)) (Add (Add (Var 3) (Var 4)) (Var 5)))) ∷ []) (Num (pos 0)) (Add (Add (Var 3) (Var 4)) (Var 5)) (Plus (Hyp 4) (Plus (Sq (Var 0)) (Plus (Sq (Var 1)) (Plus (Sq (Var 2)) (Plus (Times (Times (Hyp 0) (Hyp 1)) (Sq (Var 6))) (Plus (Times (Times (Hyp 0) (Hyp 2)) (Sq (Var 6))) (Times (Times (Hyp 0) (Hyp 3)) (Sq (Var 6))))))))) 0 (hu, (hv, (hw, (h, tt)))) refl

-- vars z r n; hyp hr: 0 < r; hyp hn: 0 < n; hyp h: r*n <= z; goal 0 < z; mul hr+ * hn+; mul hr * hn; mul hr * hn+; mul hr+ * hn
pub over_centre : (z r n : ℤ) → (pos 0) <ℤ r → (pos 0) <ℤ n → (r *ℤ n) ≤ℤ z → (pos 0) <ℤ z
over_centre z r n hr hn h = prove_lt_by (z ∷ r ∷ n ∷ []) (Lt (Num (pos 0)) (Var 1) ∷ Lt (Num (pos 0)) (Var 2) ∷ Le (Mul (Var 1) (Var 2)) (Var 0) ∷ []) (Num (pos 0)) (Var 0) (Plus (Hyp 0) (Plus (Hyp 1) (Plus (Hyp 2) (Plus (Hyp 3) (Times (Hyp 1) (Hyp 2)))))) 0 (hr, (hn, (h, tt))) refl

-- vars x y z r n; hyp hr: 0 < r; hyp hn: 0 < n; hyp h: (x*x+y*y)+(z-r*n)*(z-r*n) < (r*r)*(n*n); goal 0 < z; square x; square y; square z; mul goal * hr+ * hn+
pub in_sphere : (x y z r n : ℤ) → (pos 0) <ℤ r → (pos 0) <ℤ n → (((x *ℤ x) +ℤ (y *ℤ y)) +ℤ ((z -ℤ (r *ℤ n)) *ℤ (z -ℤ (r *ℤ n)))) <ℤ ((r *ℤ r) *ℤ (n *ℤ n)) → (pos 0) <ℤ z
in_sphere x y z r n hr hn h = prove_lt_by (x ∷ y ∷ z ∷ r ∷ n ∷ []) (Lt (Num (pos 0)) (Var 3) ∷ Lt (Num (pos 0)) (Var 4) ∷ Lt (Add (Add (Mul (Var 0) (Var 0)) (Mul (Var 1) (Var 1))) (Mul (Sub (Var 2) (Mul (Var 3) (Var 4))) (Sub (Var 2) (Mul (Var 3) (Var 4))))) (Mul (Mul (Var 3) (Var 3)) (Mul (Var 4) (Var 4))) ∷ []) (Num (pos 0)) (Var 2) (Plus (Hyp 3) (Plus (Sq (Var 0)) (Plus (Sq (Var 1)) (Plus (Sq (Var 2)) (Times (Lit 2) (Times (Times (Hyp 0) (Plus (Hyp 1) (Lit 1))) (Plus (Hyp 2) (Lit 1)))))))) 0 (hr, (hn, (h, tt))) refl
