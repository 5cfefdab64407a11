-- Polynomial facts behind points on the level or over it.
-- Written by tools/certificates.py from tools/certificates/mill_geom_reach.spec.
use Rattle.std.proofs.Common.{◌≡◌, [], ◌∷◌, refl}
use lib.IntN.{ℤ, pos, ◌+ℤ◌, ◌-ℤ◌, ◌*ℤ◌}
use lib.Signed.{◌<ℤ◌, ◌≤ℤ◌}
use Rattle.mill_base.proofs.Ring.{Var, Num, Add, Sub, Mul, Neg, ring}
use Rattle.mill_base.proofs.Cert.{Le, Lt, Eq, Hyp, TimesEq, Sq, Lit, Plus, Times, prove_le_by, prove_lt_by}

-- vars u v w a b c; hyp hu: 0 <= u; hyp hv: 0 <= v; hyp hw: 0 <= w; hyp ha: a < 0; hyp hb: b <= 0; hyp hc: c <= 0; hyp h: 0 <= (u*a+v*b)+w*c; goal u <= 0; mul hu * ha; mul hv * hb; mul hw * hc
pub sunk_first : (u v w a b c : ℤ) → (pos 0) ≤ℤ u → (pos 0) ≤ℤ v → (pos 0) ≤ℤ w → a <ℤ (pos 0) → b ≤ℤ (pos 0) → c ≤ℤ (pos 0) → (pos 0) ≤ℤ (((u *ℤ a) +ℤ (v *ℤ b)) +ℤ (w *ℤ c)) → u ≤ℤ (pos 0)
sunk_first u v w a b c hu hv hw ha hb hc h = prove_le_by (u ∷ v ∷ w ∷ a ∷ b ∷ c ∷ []) (Le (Num (pos 0)) (Var 0) ∷ Le (Num (pos 0)) (Var 1) ∷ Le (Num (pos 0)) (Var 2) ∷ Lt (Var 3) (Num (pos 0)) ∷ Le (Var 4) (Num (pos 0)) ∷ Le (Var 5) (Num (pos 0)) ∷ Le (Num (pos 0)) (Add (Add (Mul (Var 0) (Var 3)) (Mul (Var 1) (Var 4))) (Mul (Var 2) (Var 5))) ∷ []) (Var 0) (Num (pos 0)) (Plus (Hyp 0) (Plus (Hyp 7) (Plus (Times (Hyp 1) (Hyp 4)) (Plus (Times (Hyp 2) (Hyp 5)) (Times (Hyp 3) (Hyp 6)))))) 0 (hu, (hv, (hw, (ha, (hb, (hc, (h, tt))))))) refl

-- vars u v a b; hyp hu: 0 <= u; hyp hv: 0 <= v; hyp ha: a < 0; hyp hb: b <= 0; hyp h: 0 <= u*a+v*b; goal u <= 0; mul hu * ha; mul hv * hb
pub sunk_end : (u v a b : ℤ) → (pos 0) ≤ℤ u → (pos 0) ≤ℤ v → a <ℤ (pos 0) → b ≤ℤ (pos 0) → (pos 0) ≤ℤ ((u *ℤ a) +ℤ (v *ℤ b)) → u ≤ℤ (pos 0)
sunk_end u v a b hu hv ha hb h = prove_le_by (u ∷ v ∷ a ∷ b ∷ []) (Le (Num (pos 0)) (Var 0) ∷ Le (Num (pos 0)) (Var 1) ∷ Lt (Var 2) (Num (pos 0)) ∷ Le (Var 3) (Num (pos 0)) ∷ Le (Num (pos 0)) (Add (Mul (Var 0) (Var 2)) (Mul (Var 1) (Var 3))) ∷ []) (Var 0) (Num (pos 0)) (Plus (Hyp 0) (Plus (Hyp 5) (Plus (Times (Hyp 1) (Hyp 3)) (Times (Hyp 2) (Hyp 4))))) 0 (hu, (hv, (ha, (hb, (h, tt))))) refl

-- vars v x y r; hyp hv: 0 <= v; hyp h: (v*x)*(v*x)+(v*y)*(v*y) < (r*r)*(v*v); goal (x*x+y*y)-r*r < 0; mul goal * sq(v)
pub lone_near : (v x y r : ℤ) → (pos 0) ≤ℤ v → (((v *ℤ x) *ℤ (v *ℤ x)) +ℤ ((v *ℤ y) *ℤ (v *ℤ y))) <ℤ ((r *ℤ r) *ℤ (v *ℤ v)) → (((x *ℤ x) +ℤ (y *ℤ y)) -ℤ (r *ℤ r)) <ℤ (pos 0)
lone_near v x y r hv h = prove_lt_by (v ∷ x ∷ y ∷ r ∷ []) (Le (Num (pos 0)) (Var 0) ∷ Lt (Add (Mul (Mul (Var 0) (Var 1)) (Mul (Var 0) (Var 1))) (Mul (Mul (Var 0) (Var 2)) (Mul (Var 0) (Var 2)))) (Mul (Mul (Var 3) (Var 3)) (Mul (Var 0) (Var 0))) ∷ []) (Sub (Add (Mul (Var 1) (Var 1)) (Mul (Var 2) (Var 2))) (Mul (Var 3) (Var 3))) (Num (pos 0)) (Plus (Hyp 2) (Times (Hyp 0) (Sq (Var 0)))) 0 (hv, (h, tt)) refl

-- vars v z; hyp hv: 0 < v; hyp h: 0 <= v*z; goal 0 <= z; mul goal * hv+
pub lone_level : (v z : ℤ) → (pos 0) <ℤ v → (pos 0) ≤ℤ (v *ℤ z) → (pos 0) ≤ℤ z
lone_level v z hv h = prove_le_by (v ∷ z ∷ []) (Lt (Num (pos 0)) (Var 0) ∷ Le (Num (pos 0)) (Mul (Var 0) (Var 1)) ∷ []) (Num (pos 0)) (Var 1) (Plus (Hyp 1) (Plus (Hyp 2) (Times (Hyp 0) (Plus (Hyp 1) (Lit 1))))) 0 (hv, (h, tt)) refl

-- vars x y X Y r; hyp ex: X == x; hyp ey: Y == y; hyp h: (x*x+y*y)-r*r < 0; goal X*X+Y*Y < (r*r)*(1*1); eqmul ex * (x+X); eqmul ey * (y+Y)
pub corner_near : (x y X Y r : ℤ) → X ≡ x → Y ≡ y → (((x *ℤ x) +ℤ (y *ℤ y)) -ℤ (r *ℤ r)) <ℤ (pos 0) → ((X *ℤ X) +ℤ (Y *ℤ Y)) <ℤ ((r *ℤ r) *ℤ ((pos 1) *ℤ (pos 1)))
corner_near x y X Y r ex ey h = prove_lt_by (x ∷ y ∷ X ∷ Y ∷ r ∷ []) (Eq (Var 2) (Var 0) ∷ Eq (Var 3) (Var 1) ∷ Lt (Sub (Add (Mul (Var 0) (Var 0)) (Mul (Var 1) (Var 1))) (Mul (Var 4) (Var 4))) (Num (pos 0)) ∷ []) (Add (Mul (Var 2) (Var 2)) (Mul (Var 3) (Var 3))) (Mul (Mul (Var 4) (Var 4)) (Mul (Num (pos 1)) (Num (pos 1)))) (Plus (Hyp 0) (Plus (Hyp 3) (Plus (TimesEq 1 (Add (Var 0) (Var 2))) (TimesEq 2 (Add (Var 1) (Var 3)))))) 0 (ex, (ey, (h, tt))) refl

pub placed : (u v w a b c t : ℤ) → ((((u *ℤ a) +ℤ (v *ℤ b)) +ℤ (w *ℤ c)) -ℤ (((u +ℤ v) +ℤ w) *ℤ t)) ≡ (((u *ℤ (a -ℤ t)) +ℤ (v *ℤ (b -ℤ t))) +ℤ (w *ℤ (c -ℤ t)))
placed u v w a b c t = ring (u ∷ v ∷ w ∷ a ∷ b ∷ c ∷ t ∷ []) (Sub (Add (Add (Mul (Var 0) (Var 3)) (Mul (Var 1) (Var 4))) (Mul (Var 2) (Var 5))) (Mul (Add (Add (Var 0) (Var 1)) (Var 2)) (Var 6))) (Add (Add (Mul (Var 0) (Sub (Var 3) (Var 6))) (Mul (Var 1) (Sub (Var 4) (Var 6)))) (Mul (Var 2) (Sub (Var 5) (Var 6)))) refl

-- vars X Y n x y s r; hyp ex: X == x; hyp ey: Y == y; hyp en: n == s; hyp h: x*x+y*y < (r*r)*(s*s); goal X*X+Y*Y < (n*r)*(n*r); eqmul ex * (x+X); eqmul ey * (y+Y); eqmul en * (r*r*(s+n))
pub placed_near : (X Y n x y s r : ℤ) → X ≡ x → Y ≡ y → n ≡ s → ((x *ℤ x) +ℤ (y *ℤ y)) <ℤ ((r *ℤ r) *ℤ (s *ℤ s)) → ((X *ℤ X) +ℤ (Y *ℤ Y)) <ℤ ((n *ℤ r) *ℤ (n *ℤ r))
placed_near X Y n x y s r ex ey en h = prove_lt_by (X ∷ Y ∷ n ∷ x ∷ y ∷ s ∷ r ∷ []) (Eq (Var 0) (Var 3) ∷ Eq (Var 1) (Var 4) ∷ Eq (Var 2) (Var 5) ∷ Lt (Add (Mul (Var 3) (Var 3)) (Mul (Var 4) (Var 4))) (Mul (Mul (Var 6) (Var 6)) (Mul (Var 5) (Var 5))) ∷ []) (Add (Mul (Var 0) (Var 0)) (Mul (Var 1) (Var 1))) (Mul (Mul (Var 2) (Var 6)) (Mul (Var 2) (Var 6))) (Plus (Hyp 0) (Plus (Hyp 4) (Plus (TimesEq 1 (Add (Var 3) (Var 0))) (Plus (TimesEq 2 (Add (Var 4) (Var 1))) (TimesEq 3 (Neg (Mul (Mul (Var 6) (Var 6)) (Add (Var 5) (Var 2))))))))) 0 (ex, (ey, (en, (h, tt)))) refl

-- vars X Y n x y s r; hyp ex: X == x; hyp ey: Y == y; hyp en: n == s; hyp h: X*X+Y*Y < (n*r)*(n*r); goal x*x+y*y < (r*r)*(s*s); eqmul ex * (x+X); eqmul ey * (y+Y); eqmul en * (r*r*(s+n))
pub near_placed : (X Y n x y s r : ℤ) → X ≡ x → Y ≡ y → n ≡ s → ((X *ℤ X) +ℤ (Y *ℤ Y)) <ℤ ((n *ℤ r) *ℤ (n *ℤ r)) → ((x *ℤ x) +ℤ (y *ℤ y)) <ℤ ((r *ℤ r) *ℤ (s *ℤ s))
near_placed X Y n x y s r ex ey en h = prove_lt_by (X ∷ Y ∷ n ∷ x ∷ y ∷ s ∷ r ∷ []) (Eq (Var 0) (Var 3) ∷ Eq (Var 1) (Var 4) ∷ Eq (Var 2) (Var 5) ∷ Lt (Add (Mul (Var 0) (Var 0)) (Mul (Var 1) (Var 1))) (Mul (Mul (Var 2) (Var 6)) (Mul (Var 2) (Var 6))) ∷ []) (Add (Mul (Var 3) (Var 3)) (Mul (Var 4) (Var 4))) (Mul (Mul (Var 6) (Var 6)) (Mul (Var 5) (Var 5))) (Plus (Hyp 0) (Plus (Hyp 4) (Plus (TimesEq 1 (Neg (Add (Var 3) (Var 0)))) (Plus (TimesEq 2 (Neg (Add (Var 4) (Var 1)))) (TimesEq 3 (Mul (Mul (Var 6) (Var 6)) (Add (Var 5) (Var 2)))))))) 0 (ex, (ey, (en, (h, tt)))) refl
