-- Polynomial facts behind the box of three corners.
-- Written by tools/certificates.py from tools/certificates/mill_geom_gap.spec.
use Rattle.std.proofs.Common.{◌≡◌, [], ◌∷◌, refl}
use lib.IntN.{ℤ, pos, ◌+ℤ◌, ◌-ℤ◌, ◌*ℤ◌}
use lib.Signed.{◌≤ℤ◌}
use Rattle.mill_base.proofs.Ring.{Var, Num, Add, Sub, Mul}
use Rattle.mill_base.proofs.Cert.{Le, Eq, Hyp, TimesEq, Sq, Lit, Plus, Times, prove_le_by}

-- vars u v w a b c g; hyp hu: 0 <= u; hyp hv: 0 <= v; hyp hw: 0 <= w; hyp hg: 0 <= g; hyp ha: g <= a; hyp hb: g <= b; hyp hc: g <= c; goal (g*g)*(((u+v)+w)*((u+v)+w)) <= ((u*a+v*b)+w*c)*((u*a+v*b)+w*c); mul hu * ha * hu * hg; mul hu * ha * hv * hg; mul hu * ha * hw * hg; mul hv * hb * hu * hg; mul hv * hb * hv * hg; mul hv * hb * hw * hg; mul hw * hc * hu * hg; mul hw * hc * hv * hg; mul hw * hc * hw * hg; mul hu * ha * hu * ha; mul hu * ha * hv * hb; mul hu * ha * hw * hc; mul hv * hb * hv * hb; mul hv * hb * hw * hc; mul hw * hc * hw * hc
pub beyond : (u v w a b c g : ℤ) → (pos 0) ≤ℤ u → (pos 0) ≤ℤ v → (pos 0) ≤ℤ w → (pos 0) ≤ℤ g → g ≤ℤ a → g ≤ℤ b → g ≤ℤ c → ((g *ℤ g) *ℤ (((u +ℤ v) +ℤ w) *ℤ ((u +ℤ v) +ℤ w))) ≤ℤ ((((u *ℤ a) +ℤ (v *ℤ b)) +ℤ (w *ℤ c)) *ℤ (((u *ℤ a) +ℤ (v *ℤ b)) +ℤ (w *ℤ c)))
beyond u v w a b c g hu hv hw hg ha hb hc = prove_le_by (u ∷ v ∷ w ∷ a ∷ b ∷ c ∷ g ∷ []) (Le (Num (pos 0)) (Var 0) ∷ Le (Num (pos 0)) (Var 1) ∷ Le (Num (pos 0)) (Var 2) ∷ Le (Num (pos 0)) (Var 6) ∷ Le (Var 6) (Var 3) ∷ Le (Var 6) (Var 4) ∷ Le (Var 6) (Var 5) ∷ []) (Mul (Mul (Var 6) (Var 6)) (Mul (Add (Add (Var 0) (Var 1)) (Var 2)) (Add (Add (Var 0) (Var 1)) (Var 2)))) (Mul (Add (Add (Mul (Var 0) (Var 3)) (Mul (Var 1) (Var 4))) (Mul (Var 2) (Var 5))) (Add (Add (Mul (Var 0) (Var 3)) (Mul (Var 1) (Var 4))) (Mul (Var 2) (Var 5)))) (Plus (Hyp 0) (Plus (Times (Lit 2) (Times (Times (Times (Hyp 1) (Hyp 5)) (Hyp 1)) (Hyp 4))) (Plus (Times (Lit 2) (Times (Times (Times (Hyp 1) (Hyp 5)) (Hyp 2)) (Hyp 4))) (Plus (Times (Lit 2) (Times (Times (Times (Hyp 1) (Hyp 5)) (Hyp 3)) (Hyp 4))) (Plus (Times (Lit 2) (Times (Times (Times (Hyp 2) (Hyp 6)) (Hyp 1)) (Hyp 4))) (Plus (Times (Lit 2) (Times (Times (Times (Hyp 2) (Hyp 6)) (Hyp 2)) (Hyp 4))) (Plus (Times (Lit 2) (Times (Times (Times (Hyp 2) (Hyp 6)) (Hyp 3)) (Hyp 4))) (Plus (Times (Lit 2) (Times (Times (Times (Hyp 3) (Hyp 7)) (Hyp 1)) (Hyp 4))) (Plus (Times (Lit 2) (Times (Times (Times (Hyp 3) (Hyp 7)) (Hyp 2)) (Hyp 4))) (Plus (Times (Lit 2) (Times (Times (Times (Hyp 3) (Hyp 7)) (Hyp 3)) (Hyp 4))) (Plus (Times (Times (Times (Hyp 1) (Hyp 5)) (Hyp 1)) (Hyp 5)) (Plus (Times (Lit 2) (Times (Times (Times (Hyp 1) (Hyp 5)) (Hyp 2)) (Hyp 6))) (Plus (Times (Lit 2) (Times (Times (Times (Hyp 1) (Hyp 5)) (Hyp 3)) (Hyp 7))) (Plus (Times (Times (Times (Hyp 2) (Hyp 6)) (Hyp 2)) (Hyp 6)) (Plus (Times (Lit 2) (Times (Times (Times (Hyp 2) (Hyp 6)) (Hyp 3)) (Hyp 7))) (Times (Times (Times (Hyp 3) (Hyp 7)) (Hyp 3)) (Hyp 7))))))))))))))))) 0 (hu, (hv, (hw, (hg, (ha, (hb, (hc, tt))))))) refl

-- vars u v w a b c g; hyp hu: 0 <= u; hyp hv: 0 <= v; hyp hw: 0 <= w; hyp hg: 0 <= g; hyp ha: a <= 0-g; hyp hb: b <= 0-g; hyp hc: c <= 0-g; goal (g*g)*(((u+v)+w)*((u+v)+w)) <= ((u*a+v*b)+w*c)*((u*a+v*b)+w*c); mul hu * ha * hu * hg; mul hu * ha * hv * hg; mul hu * ha * hw * hg; mul hv * hb * hu * hg; mul hv * hb * hv * hg; mul hv * hb * hw * hg; mul hw * hc * hu * hg; mul hw * hc * hv * hg; mul hw * hc * hw * hg; mul hu * ha * hu * ha; mul hu * ha * hv * hb; mul hu * ha * hw * hc; mul hv * hb * hv * hb; mul hv * hb * hw * hc; mul hw * hc * hw * hc
pub beyond_back : (u v w a b c g : ℤ) → (pos 0) ≤ℤ u → (pos 0) ≤ℤ v → (pos 0) ≤ℤ w → (pos 0) ≤ℤ g → a ≤ℤ ((pos 0) -ℤ g) → b ≤ℤ ((pos 0) -ℤ g) → c ≤ℤ ((pos 0) -ℤ g) → ((g *ℤ g) *ℤ (((u +ℤ v) +ℤ w) *ℤ ((u +ℤ v) +ℤ w))) ≤ℤ ((((u *ℤ a) +ℤ (v *ℤ b)) +ℤ (w *ℤ c)) *ℤ (((u *ℤ a) +ℤ (v *ℤ b)) +ℤ (w *ℤ c)))
beyond_back u v w a b c g hu hv hw hg ha hb hc = prove_le_by (u ∷ v ∷ w ∷ a ∷ b ∷ c ∷ g ∷ []) (Le (Num (pos 0)) (Var 0) ∷ Le (Num (pos 0)) (Var 1) ∷ Le (Num (pos 0)) (Var 2) ∷ Le (Num (pos 0)) (Var 6) ∷ Le (Var 3) (Sub (Num (pos 0)) (Var 6)) ∷ Le (Var 4) (Sub (Num (pos 0)) (Var 6)) ∷ Le (Var 5) (Sub (Num (pos 0)) (Var 6)) ∷ []) (Mul (Mul (Var 6) (Var 6)) (Mul (Add (Add (Var 0) (Var 1)) (Var 2)) (Add (Add (Var 0) (Var 1)) (Var 2)))) (Mul (Add (Add (Mul (Var 0) (Var 3)) (Mul (Var 1) (Var 4))) (Mul (Var 2) (Var 5))) (Add (Add (Mul (Var 0) (Var 3)) (Mul (Var 1) (Var 4))) (Mul (Var 2) (Var 5)))) (Plus (Hyp 0) (Plus (Times (Lit 2) (Times (Times (Times (Hyp 1) (Hyp 5)) (Hyp 1)) (Hyp 4))) (Plus (Times (Lit 2) (Times (Times (Times (Hyp 1) (Hyp 5)) (Hyp 2)) (Hyp 4))) (Plus (Times (Lit 2) (Times (Times (Times (Hyp 1) (Hyp 5)) (Hyp 3)) (Hyp 4))) (Plus (Times (Lit 2) (Times (Times (Times (Hyp 2) (Hyp 6)) (Hyp 1)) (Hyp 4))) (Plus (Times (Lit 2) (Times (Times (Times (Hyp 2) (Hyp 6)) (Hyp 2)) (Hyp 4))) (Plus (Times (Lit 2) (Times (Times (Times (Hyp 2) (Hyp 6)) (Hyp 3)) (Hyp 4))) (Plus (Times (Lit 2) (Times (Times (Times (Hyp 3) (Hyp 7)) (Hyp 1)) (Hyp 4))) (Plus (Times (Lit 2) (Times (Times (Times (Hyp 3) (Hyp 7)) (Hyp 2)) (Hyp 4))) (Plus (Times (Lit 2) (Times (Times (Times (Hyp 3) (Hyp 7)) (Hyp 3)) (Hyp 4))) (Plus (Times (Times (Times (Hyp 1) (Hyp 5)) (Hyp 1)) (Hyp 5)) (Plus (Times (Lit 2) (Times (Times (Times (Hyp 1) (Hyp 5)) (Hyp 2)) (Hyp 6))) (Plus (Times (Lit 2) (Times (Times (Times (Hyp 1) (Hyp 5)) (Hyp 3)) (Hyp 7))) (Plus (Times (Times (Times (Hyp 2) (Hyp 6)) (Hyp 2)) (Hyp 6)) (Plus (Times (Lit 2) (Times (Times (Times (Hyp 2) (Hyp 6)) (Hyp 3)) (Hyp 7))) (Times (Times (Times (Hyp 3) (Hyp 7)) (Hyp 3)) (Hyp 7))))))))))))))))) 0 (hu, (hv, (hw, (hg, (ha, (hb, (hc, tt))))))) refl

-- vars X g s; hyp hg: g == 0; goal (g*g)*(s*s) <= X*X; square X; eqmul hg * (g*(s*s))
pub gap_is_zero : (X g s : ℤ) → g ≡ (pos 0) → ((g *ℤ g) *ℤ (s *ℤ s)) ≤ℤ (X *ℤ X)
gap_is_zero X g s hg = prove_le_by (X ∷ g ∷ s ∷ []) (Eq (Var 1) (Num (pos 0)) ∷ []) (Mul (Mul (Var 1) (Var 1)) (Mul (Var 2) (Var 2))) (Mul (Var 0) (Var 0)) (Plus (Hyp 0) (Plus (Sq (Var 0)) (TimesEq 1 (Mul (Var 1) (Mul (Var 2) (Var 2)))))) 0 (hg, tt) refl

-- vars f g s x y; hyp hx: f*s <= x; hyp hy: g*s <= y; goal (f+g)*s <= x+y
pub both_gaps : (f g s x y : ℤ) → (f *ℤ s) ≤ℤ x → (g *ℤ s) ≤ℤ y → ((f +ℤ g) *ℤ s) ≤ℤ (x +ℤ y)
both_gaps f g s x y hx hy = prove_le_by (f ∷ g ∷ s ∷ x ∷ y ∷ []) (Le (Mul (Var 0) (Var 2)) (Var 3) ∷ Le (Mul (Var 1) (Var 2)) (Var 4) ∷ []) (Mul (Add (Var 0) (Var 1)) (Var 2)) (Add (Var 3) (Var 4)) (Plus (Hyp 0) (Plus (Hyp 1) (Hyp 2))) 0 (hx, (hy, tt)) refl

-- vars x y; goal 0 <= x*x+y*y; square x; square y
pub squares : (x y : ℤ) → (pos 0) ≤ℤ ((x *ℤ x) +ℤ (y *ℤ y))
squares x y = prove_le_by (x ∷ y ∷ []) ([]) (Num (pos 0)) (Add (Mul (Var 0) (Var 0)) (Mul (Var 1) (Var 1))) (Plus (Hyp 0) (Plus (Sq (Var 0)) (Sq (Var 1)))) 0 tt refl

-- vars u v w a b c t; hyp hu: 0 <= u; hyp hv: 0 <= v; hyp hw: 0 <= w; hyp ha: a <= t; hyp hb: b <= t; hyp hc: c <= t; goal (u*a+v*b)+w*c <= t*((u+v)+w); mul hu * ha; mul hv * hb; mul hw * hc
pub up_to : (u v w a b c t : ℤ) → (pos 0) ≤ℤ u → (pos 0) ≤ℤ v → (pos 0) ≤ℤ w → a ≤ℤ t → b ≤ℤ t → c ≤ℤ t → (((u *ℤ a) +ℤ (v *ℤ b)) +ℤ (w *ℤ c)) ≤ℤ (t *ℤ ((u +ℤ v) +ℤ w))
up_to u v w a b c t hu hv hw ha hb hc = prove_le_by (u ∷ v ∷ w ∷ a ∷ b ∷ c ∷ t ∷ []) (Le (Num (pos 0)) (Var 0) ∷ Le (Num (pos 0)) (Var 1) ∷ Le (Num (pos 0)) (Var 2) ∷ Le (Var 3) (Var 6) ∷ Le (Var 4) (Var 6) ∷ Le (Var 5) (Var 6) ∷ []) (Add (Add (Mul (Var 0) (Var 3)) (Mul (Var 1) (Var 4))) (Mul (Var 2) (Var 5))) (Mul (Var 6) (Add (Add (Var 0) (Var 1)) (Var 2))) (Plus (Hyp 0) (Plus (Times (Hyp 1) (Hyp 4)) (Plus (Times (Hyp 2) (Hyp 5)) (Times (Hyp 3) (Hyp 6))))) 0 (hu, (hv, (hw, (ha, (hb, (hc, tt)))))) refl
