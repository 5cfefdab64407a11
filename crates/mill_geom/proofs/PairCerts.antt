-- Polynomial facts behind the signs of a quadratic form at weights that are not negative.
-- Written by tools/certificates.py from tools/certificates/mill_geom_pair.spec.
use Rattle.std.proofs.Common.{[], ◌∷◌, refl}
use lib.IntN.{ℤ, pos, ◌+ℤ◌, ◌-ℤ◌, ◌*ℤ◌}
use lib.Signed.{◌<ℤ◌, ◌≤ℤ◌}
use Rattle.mill_base.proofs.Ring.{Var, Num, Add, Sub, Mul}
use Rattle.mill_base.proofs.Cert.{Le, Lt, Hyp, Sq, Lit, Plus, Times, prove_le_by, prove_lt_by}

-- vars a h b u v; hyp ha: 0 <= a; hyp hb: 0 <= b; hyp hh: 0 <= h; hyp hu: 0 <= u; hyp hv: 0 <= v; goal 0 <= a*(u*u)+2*(h*(u*v))+b*(v*v); mul ha * sq(u); mul hb * sq(v); mul hh * hu * hv
pub pair_free_plus : (a h b u v : ℤ) → (pos 0) ≤ℤ a → (pos 0) ≤ℤ b → (pos 0) ≤ℤ h → (pos 0) ≤ℤ u → (pos 0) ≤ℤ v → (pos 0) ≤ℤ (((a *ℤ (u *ℤ u)) +ℤ ((pos 2) *ℤ (h *ℤ (u *ℤ v)))) +ℤ (b *ℤ (v *ℤ v)))
pair_free_plus a h b u v ha hb hh hu hv = prove_le_by (a ∷ h ∷ b ∷ u ∷ v ∷ []) (Le (Num (pos 0)) (Var 0) ∷ Le (Num (pos 0)) (Var 2) ∷ Le (Num (pos 0)) (Var 1) ∷ Le (Num (pos 0)) (Var 3) ∷ Le (Num (pos 0)) (Var 4) ∷ []) (Num (pos 0)) (Add (Add (Mul (Var 0) (Mul (Var 3) (Var 3))) (Mul (Num (pos 2)) (Mul (Var 1) (Mul (Var 3) (Var 4))))) (Mul (Var 2) (Mul (Var 4) (Var 4)))) (Plus (Hyp 0) (Plus (Times (Hyp 1) (Sq (Var 3))) (Plus (Times (Hyp 2) (Sq (Var 4))) (Times (Lit 2) (Times (Times (Hyp 3) (Hyp 4)) (Hyp 5)))))) 0 (ha, (hb, (hh, (hu, (hv, tt))))) refl

-- vars a h b u v; hyp ha: 0 < a; hyp hm: h*h <= a*b; goal 0 <= a*(u*u)+2*(h*(u*v))+b*(v*v); square a*u+h*v; mul hm * sq(v); mul goal * ha; mul goal * ha+
pub pair_free_minor : (a h b u v : ℤ) → (pos 0) <ℤ a → (h *ℤ h) ≤ℤ (a *ℤ b) → (pos 0) ≤ℤ (((a *ℤ (u *ℤ u)) +ℤ ((pos 2) *ℤ (h *ℤ (u *ℤ v)))) +ℤ (b *ℤ (v *ℤ v)))
pair_free_minor a h b u v ha hm = prove_le_by (a ∷ h ∷ b ∷ u ∷ v ∷ []) (Lt (Num (pos 0)) (Var 0) ∷ Le (Mul (Var 1) (Var 1)) (Mul (Var 0) (Var 2)) ∷ []) (Num (pos 0)) (Add (Add (Mul (Var 0) (Mul (Var 3) (Var 3))) (Mul (Num (pos 2)) (Mul (Var 1) (Mul (Var 3) (Var 4))))) (Mul (Var 2) (Mul (Var 4) (Var 4)))) (Plus (Hyp 0) (Plus (Hyp 1) (Plus (Sq (Add (Mul (Var 0) (Var 3)) (Mul (Var 1) (Var 4)))) (Plus (Times (Hyp 2) (Sq (Var 4))) (Times (Hyp 0) (Hyp 1)))))) 0 (ha, (hm, tt)) refl

-- vars h b u v; hyp hb: 0 <= b; hyp hm: h*h <= 0*b; goal 0 <= 0*(u*u)+2*(h*(u*v))+b*(v*v); mul hb * sq(v); mul hm * sq(u*v); square 2*h*u*v+1; mul hm * sq(u); mul hm * sq(v)
pub pair_free_zero : (h b u v : ℤ) → (pos 0) ≤ℤ b → (h *ℤ h) ≤ℤ ((pos 0) *ℤ b) → (pos 0) ≤ℤ ((((pos 0) *ℤ (u *ℤ u)) +ℤ ((pos 2) *ℤ (h *ℤ (u *ℤ v)))) +ℤ (b *ℤ (v *ℤ v)))
pair_free_zero h b u v hb hm = prove_le_by (h ∷ b ∷ u ∷ v ∷ []) (Le (Num (pos 0)) (Var 1) ∷ Le (Mul (Var 0) (Var 0)) (Mul (Num (pos 0)) (Var 1)) ∷ []) (Num (pos 0)) (Add (Add (Mul (Num (pos 0)) (Mul (Var 2) (Var 2))) (Mul (Num (pos 2)) (Mul (Var 0) (Mul (Var 2) (Var 3))))) (Mul (Var 1) (Mul (Var 3) (Var 3)))) (Plus (Times (Lit 2) (Hyp 0)) (Plus (Times (Lit 2) (Times (Hyp 1) (Sq (Var 3)))) (Plus (Times (Lit 4) (Times (Hyp 2) (Sq (Mul (Var 2) (Var 3))))) (Sq (Add (Mul (Mul (Mul (Num (pos 2)) (Var 0)) (Var 2)) (Var 3)) (Num (pos 1))))))) 0 (hb, (hm, tt)) refl

-- vars a h b; hyp hb: b < 0; goal a*(1*1)+2*(h*(1*(a*a+h*h+3)))+b*((a*a+h*h+3)*(a*a+h*h+3)) < 0; square a; square h; square h-1; square a-1; square a*a; square a*h; square h*h; square a*(h-1); square h*(h-1); mul hb * sq(a*a+h*h+3)
pub pair_hit_far : (a h b : ℤ) → b <ℤ (pos 0) → (((a *ℤ ((pos 1) *ℤ (pos 1))) +ℤ ((pos 2) *ℤ (h *ℤ ((pos 1) *ℤ (((a *ℤ a) +ℤ (h *ℤ h)) +ℤ (pos 3)))))) +ℤ (b *ℤ ((((a *ℤ a) +ℤ (h *ℤ h)) +ℤ (pos 3)) *ℤ (((a *ℤ a) +ℤ (h *ℤ h)) +ℤ (pos 3))))) <ℤ (pos 0)
pair_hit_far a h b hb = prove_lt_by (a ∷ h ∷ b ∷ []) (Lt (Var 2) (Num (pos 0)) ∷ []) (Add (Add (Mul (Var 0) (Mul (Num (pos 1)) (Num (pos 1)))) (Mul (Num (pos 2)) (Mul (Var 1) (Mul (Num (pos 1)) (Add (Add (Mul (Var 0) (Var 0)) (Mul (Var 1) (Var 1))) (Num (pos 3))))))) (Mul (Var 2) (Mul (Add (Add (Mul (Var 0) (Var 0)) (Mul (Var 1) (Var 1))) (Num (pos 3))) (Add (Add (Mul (Var 0) (Var 0)) (Mul (Var 1) (Var 1))) (Num (pos 3)))))) (Num (pos 0)) (Plus (Times (Lit 2) (Hyp 0)) (Plus (Times (Lit 9) (Sq (Var 0))) (Plus (Times (Lit 4) (Sq (Var 1))) (Plus (Times (Lit 6) (Sq (Sub (Var 1) (Num (pos 1))))) (Plus (Sq (Sub (Var 0) (Num (pos 1)))) (Plus (Times (Lit 2) (Sq (Mul (Var 0) (Var 0)))) (Plus (Times (Lit 2) (Sq (Mul (Var 0) (Var 1)))) (Plus (Times (Lit 2) (Sq (Mul (Var 0) (Sub (Var 1) (Num (pos 1)))))) (Plus (Times (Lit 2) (Sq (Mul (Var 1) (Sub (Var 1) (Num (pos 1)))))) (Times (Lit 2) (Times (Hyp 1) (Sq (Add (Add (Mul (Var 0) (Var 0)) (Mul (Var 1) (Var 1))) (Num (pos 3))))))))))))))) 10 (hb, tt) refl

-- vars a h b; hyp ha: 0 < a; hyp hm: a*b < h*h; goal a*((0-h)*(0-h))+2*(h*((0-h)*a))+b*(a*a) < 0; mul ha * hm; mul ha+ * hm+
pub pair_hit_minor : (a h b : ℤ) → (pos 0) <ℤ a → (a *ℤ b) <ℤ (h *ℤ h) → (((a *ℤ (((pos 0) -ℤ h) *ℤ ((pos 0) -ℤ h))) +ℤ ((pos 2) *ℤ (h *ℤ (((pos 0) -ℤ h) *ℤ a)))) +ℤ (b *ℤ (a *ℤ a))) <ℤ (pos 0)
pair_hit_minor a h b ha hm = prove_lt_by (a ∷ h ∷ b ∷ []) (Lt (Num (pos 0)) (Var 0) ∷ Lt (Mul (Var 0) (Var 2)) (Mul (Var 1) (Var 1)) ∷ []) (Add (Add (Mul (Var 0) (Mul (Sub (Num (pos 0)) (Var 1)) (Sub (Num (pos 0)) (Var 1)))) (Mul (Num (pos 2)) (Mul (Var 1) (Mul (Sub (Num (pos 0)) (Var 1)) (Var 0))))) (Mul (Var 2) (Mul (Var 0) (Var 0)))) (Num (pos 0)) (Plus (Hyp 0) (Plus (Hyp 1) (Plus (Hyp 2) (Times (Hyp 1) (Hyp 2))))) 0 (ha, (hm, tt)) refl

-- vars h b; hyp hh: h < 0; hyp hb: 0 <= b; goal 0*((b+1)*(b+1))+2*(h*((b+1)*1))+b*(1*1) < 0; mul hh * hb
pub pair_hit_zero : (h b : ℤ) → h <ℤ (pos 0) → (pos 0) ≤ℤ b → ((((pos 0) *ℤ ((b +ℤ (pos 1)) *ℤ (b +ℤ (pos 1)))) +ℤ ((pos 2) *ℤ (h *ℤ ((b +ℤ (pos 1)) *ℤ (pos 1))))) +ℤ (b *ℤ ((pos 1) *ℤ (pos 1)))) <ℤ (pos 0)
pair_hit_zero h b hh hb = prove_lt_by (h ∷ b ∷ []) (Lt (Var 0) (Num (pos 0)) ∷ Le (Num (pos 0)) (Var 1) ∷ []) (Add (Add (Mul (Num (pos 0)) (Mul (Add (Var 1) (Num (pos 1))) (Add (Var 1) (Num (pos 1))))) (Mul (Num (pos 2)) (Mul (Var 0) (Mul (Add (Var 1) (Num (pos 1))) (Num (pos 1)))))) (Mul (Var 1) (Mul (Num (pos 1)) (Num (pos 1))))) (Num (pos 0)) (Plus (Hyp 0) (Plus (Times (Lit 2) (Hyp 1)) (Plus (Hyp 2) (Times (Lit 2) (Times (Hyp 1) (Hyp 2)))))) 1 (hh, (hb, tt)) refl
