-- Polynomial facts behind triangles beside the cylinder, and offsets from a centre.
-- Written by tools/certificates.py from tools/certificates/mill_geom_place.spec.
use Rattle.std.proofs.Common.{◌≡◌, [], ◌∷◌, refl}
use lib.IntN.{ℤ, pos, ◌+ℤ◌, ◌-ℤ◌, ◌*ℤ◌}
use lib.Signed.{◌<ℤ◌, ◌≤ℤ◌}
use Rattle.mill_base.proofs.Ring.{Var, Num, Add, Sub, Mul, ring}
use Rattle.mill_base.proofs.Cert.{Le, Lt, Hyp, Sq, Lit, Plus, Times, refute, prove_le_by, prove_lt_by}

pub shifted : (u v w a b c t : ℤ) → (((pos 1) *ℤ (((u *ℤ a) +ℤ (v *ℤ b)) +ℤ (w *ℤ c))) -ℤ (((u +ℤ v) +ℤ w) *ℤ t)) ≡ (((u *ℤ (a -ℤ t)) +ℤ (v *ℤ (b -ℤ t))) +ℤ (w *ℤ (c -ℤ t)))
shifted u v w a b c t = ring (u ∷ v ∷ w ∷ a ∷ b ∷ c ∷ t ∷ []) (Sub (Mul (Num (pos 1)) (Add (Add (Mul (Var 0) (Var 3)) (Mul (Var 1) (Var 4))) (Mul (Var 2) (Var 5)))) (Mul (Add (Add (Var 0) (Var 1)) (Var 2)) (Var 6))) (Add (Add (Mul (Var 0) (Sub (Var 3) (Var 6))) (Mul (Var 1) (Sub (Var 4) (Var 6)))) (Mul (Var 2) (Sub (Var 5) (Var 6)))) refl

-- vars u v w x y z r; hyp hu: 0 <= u; hyp hv: 0 <= v; hyp hw: 0 <= w; hyp hr: 0 <= r; hyp hx: r <= x; hyp hy: r <= y; hyp hz: r <= z; goal r*((u+v)+w) <= (u*x+v*y)+w*z; mul hu * hx; mul hv * hy; mul hw * hz
pub high_x : (u v w x y z r : ℤ) → (pos 0) ≤ℤ u → (pos 0) ≤ℤ v → (pos 0) ≤ℤ w → (pos 0) ≤ℤ r → r ≤ℤ x → r ≤ℤ y → r ≤ℤ z → (r *ℤ ((u +ℤ v) +ℤ w)) ≤ℤ (((u *ℤ x) +ℤ (v *ℤ y)) +ℤ (w *ℤ z))
high_x u v w x y z r hu hv hw hr hx hy hz = prove_le_by (u ∷ v ∷ w ∷ x ∷ y ∷ z ∷ r ∷ []) (Le (Num (pos 0)) (Var 0) ∷ Le (Num (pos 0)) (Var 1) ∷ Le (Num (pos 0)) (Var 2) ∷ Le (Num (pos 0)) (Var 6) ∷ Le (Var 6) (Var 3) ∷ Le (Var 6) (Var 4) ∷ Le (Var 6) (Var 5) ∷ []) (Mul (Var 6) (Add (Add (Var 0) (Var 1)) (Var 2))) (Add (Add (Mul (Var 0) (Var 3)) (Mul (Var 1) (Var 4))) (Mul (Var 2) (Var 5))) (Plus (Hyp 0) (Plus (Times (Hyp 1) (Hyp 5)) (Plus (Times (Hyp 2) (Hyp 6)) (Times (Hyp 3) (Hyp 7))))) 0 (hu, (hv, (hw, (hr, (hx, (hy, (hz, tt))))))) refl

-- vars u v w x y z r; hyp hu: 0 <= u; hyp hv: 0 <= v; hyp hw: 0 <= w; hyp hx: x <= 0-r; hyp hy: y <= 0-r; hyp hz: z <= 0-r; goal (u*x+v*y)+w*z <= 0-r*((u+v)+w); mul hu * hx; mul hv * hy; mul hw * hz
pub low_x : (u v w x y z r : ℤ) → (pos 0) ≤ℤ u → (pos 0) ≤ℤ v → (pos 0) ≤ℤ w → x ≤ℤ ((pos 0) -ℤ r) → y ≤ℤ ((pos 0) -ℤ r) → z ≤ℤ ((pos 0) -ℤ r) → (((u *ℤ x) +ℤ (v *ℤ y)) +ℤ (w *ℤ z)) ≤ℤ ((pos 0) -ℤ (r *ℤ ((u +ℤ v) +ℤ w)))
low_x u v w x y z r hu hv hw hx hy hz = prove_le_by (u ∷ v ∷ w ∷ x ∷ y ∷ z ∷ r ∷ []) (Le (Num (pos 0)) (Var 0) ∷ Le (Num (pos 0)) (Var 1) ∷ Le (Num (pos 0)) (Var 2) ∷ Le (Var 3) (Sub (Num (pos 0)) (Var 6)) ∷ Le (Var 4) (Sub (Num (pos 0)) (Var 6)) ∷ Le (Var 5) (Sub (Num (pos 0)) (Var 6)) ∷ []) (Add (Add (Mul (Var 0) (Var 3)) (Mul (Var 1) (Var 4))) (Mul (Var 2) (Var 5))) (Sub (Num (pos 0)) (Mul (Var 6) (Add (Add (Var 0) (Var 1)) (Var 2)))) (Plus (Hyp 0) (Plus (Times (Hyp 1) (Hyp 4)) (Plus (Times (Hyp 2) (Hyp 5)) (Times (Hyp 3) (Hyp 6))))) 0 (hu, (hv, (hw, (hx, (hy, (hz, tt)))))) refl

-- vars X Y r s; hyp hr: 0 <= r; hyp hs: 0 <= s; hyp hX: r*s <= X; hyp h: X*X+Y*Y < (r*r)*(s*s); goal false; square Y; mul hX * hX; mul hX * hr * hs
pub far_high : (X Y r s : ℤ) → (pos 0) ≤ℤ r → (pos 0) ≤ℤ s → (r *ℤ s) ≤ℤ X → ((X *ℤ X) +ℤ (Y *ℤ Y)) <ℤ ((r *ℤ r) *ℤ (s *ℤ s)) → ⊥
far_high X Y r s hr hs hX h = refute (X ∷ Y ∷ r ∷ s ∷ []) (Le (Num (pos 0)) (Var 2) ∷ Le (Num (pos 0)) (Var 3) ∷ Le (Mul (Var 2) (Var 3)) (Var 0) ∷ Lt (Add (Mul (Var 0) (Var 0)) (Mul (Var 1) (Var 1))) (Mul (Mul (Var 2) (Var 2)) (Mul (Var 3) (Var 3))) ∷ []) (Plus (Hyp 3) (Plus (Sq (Var 1)) (Plus (Times (Hyp 2) (Hyp 2)) (Times (Lit 2) (Times (Times (Hyp 2) (Hyp 0)) (Hyp 1)))))) 0 (hr, (hs, (hX, (h, tt)))) refl

-- vars X Y r s; hyp hr: 0 <= r; hyp hs: 0 <= s; hyp hX: X <= 0-r*s; hyp h: X*X+Y*Y < (r*r)*(s*s); goal false; square Y; mul hX * hX; mul hX * hr * hs
pub far_low : (X Y r s : ℤ) → (pos 0) ≤ℤ r → (pos 0) ≤ℤ s → X ≤ℤ ((pos 0) -ℤ (r *ℤ s)) → ((X *ℤ X) +ℤ (Y *ℤ Y)) <ℤ ((r *ℤ r) *ℤ (s *ℤ s)) → ⊥
far_low X Y r s hr hs hX h = refute (X ∷ Y ∷ r ∷ s ∷ []) (Le (Num (pos 0)) (Var 2) ∷ Le (Num (pos 0)) (Var 3) ∷ Le (Var 0) (Sub (Num (pos 0)) (Mul (Var 2) (Var 3))) ∷ Lt (Add (Mul (Var 0) (Var 0)) (Mul (Var 1) (Var 1))) (Mul (Mul (Var 2) (Var 2)) (Mul (Var 3) (Var 3))) ∷ []) (Plus (Hyp 3) (Plus (Sq (Var 1)) (Plus (Times (Hyp 2) (Hyp 2)) (Times (Lit 2) (Times (Times (Hyp 2) (Hyp 0)) (Hyp 1)))))) 0 (hr, (hs, (hX, (h, tt)))) refl

-- vars X Y q; hyp h: X*X+Y*Y < q; goal Y*Y+X*X < q
pub swap_near : (X Y q : ℤ) → ((X *ℤ X) +ℤ (Y *ℤ Y)) <ℤ q → ((Y *ℤ Y) +ℤ (X *ℤ X)) <ℤ q
swap_near X Y q h = prove_lt_by (X ∷ Y ∷ q ∷ []) (Lt (Add (Mul (Var 0) (Var 0)) (Mul (Var 1) (Var 1))) (Var 2) ∷ []) (Add (Mul (Var 1) (Var 1)) (Mul (Var 0) (Var 0))) (Var 2) (Plus (Hyp 0) (Hyp 1)) 0 (h, tt) refl
