-- Polynomial facts behind the lemmas on quadratic forms on parts of segments.
-- Written by tools/certificates.py from tools/certificates/mill_contact_cone_parts.spec.
use Rattle.std.proofs.Common.{◌≡◌, [], ◌∷◌, refl}
use lib.IntN.{ℤ, pos, ◌+ℤ◌, ◌-ℤ◌, ◌*ℤ◌}
use lib.Signed.{◌<ℤ◌, ◌≤ℤ◌}
use Rattle.mill_base.proofs.Ring.{Var, Num, Add, Sub, Mul, Neg, ring}
use Rattle.mill_base.proofs.Cert.{Le, Lt, Eq, Hyp, TimesEq, Sq, Lit, Plus, Times, refute, prove_le_by, prove_lt_by}

pub polar_value : (a h b gu gv eu ev U V : ℤ) → (((((((gu *ℤ gu) *ℤ a) +ℤ (((gu *ℤ gv) +ℤ (gv *ℤ gu)) *ℤ h)) +ℤ ((gv *ℤ gv) *ℤ b)) *ℤ (U *ℤ U)) +ℤ ((pos 2) *ℤ (((((gu *ℤ eu) *ℤ a) +ℤ (((gu *ℤ ev) +ℤ (gv *ℤ eu)) *ℤ h)) +ℤ ((gv *ℤ ev) *ℤ b)) *ℤ (U *ℤ V)))) +ℤ (((((eu *ℤ eu) *ℤ a) +ℤ (((eu *ℤ ev) +ℤ (ev *ℤ eu)) *ℤ h)) +ℤ ((ev *ℤ ev) *ℤ b)) *ℤ (V *ℤ V))) ≡ (((a *ℤ (((U *ℤ gu) +ℤ (V *ℤ eu)) *ℤ ((U *ℤ gu) +ℤ (V *ℤ eu)))) +ℤ ((pos 2) *ℤ (h *ℤ (((U *ℤ gu) +ℤ (V *ℤ eu)) *ℤ ((U *ℤ gv) +ℤ (V *ℤ ev)))))) +ℤ (b *ℤ (((U *ℤ gv) +ℤ (V *ℤ ev)) *ℤ ((U *ℤ gv) +ℤ (V *ℤ ev)))))
polar_value a h b gu gv eu ev U V = ring (a ∷ h ∷ b ∷ gu ∷ gv ∷ eu ∷ ev ∷ U ∷ V ∷ []) (Add (Add (Mul (Add (Add (Mul (Mul (Var 3) (Var 3)) (Var 0)) (Mul (Add (Mul (Var 3) (Var 4)) (Mul (Var 4) (Var 3))) (Var 1))) (Mul (Mul (Var 4) (Var 4)) (Var 2))) (Mul (Var 7) (Var 7))) (Mul (Num (pos 2)) (Mul (Add (Add (Mul (Mul (Var 3) (Var 5)) (Var 0)) (Mul (Add (Mul (Var 3) (Var 6)) (Mul (Var 4) (Var 5))) (Var 1))) (Mul (Mul (Var 4) (Var 6)) (Var 2))) (Mul (Var 7) (Var 8))))) (Mul (Add (Add (Mul (Mul (Var 5) (Var 5)) (Var 0)) (Mul (Add (Mul (Var 5) (Var 6)) (Mul (Var 6) (Var 5))) (Var 1))) (Mul (Mul (Var 6) (Var 6)) (Var 2))) (Mul (Var 8) (Var 8)))) (Add (Add (Mul (Var 0) (Mul (Add (Mul (Var 7) (Var 3)) (Mul (Var 8) (Var 5))) (Add (Mul (Var 7) (Var 3)) (Mul (Var 8) (Var 5))))) (Mul (Num (pos 2)) (Mul (Var 1) (Mul (Add (Mul (Var 7) (Var 3)) (Mul (Var 8) (Var 5))) (Add (Mul (Var 7) (Var 4)) (Mul (Var 8) (Var 6))))))) (Mul (Var 2) (Mul (Add (Mul (Var 7) (Var 4)) (Mul (Var 8) (Var 6))) (Add (Mul (Var 7) (Var 4)) (Mul (Var 8) (Var 6)))))) refl

pub polar_scaled : (a h b gu gv eu ev u v : ℤ) → (((((((gu *ℤ gu) *ℤ a) +ℤ (((gu *ℤ gv) +ℤ (gv *ℤ gu)) *ℤ h)) +ℤ ((gv *ℤ gv) *ℤ b)) *ℤ (((u *ℤ ev) -ℤ (v *ℤ eu)) *ℤ ((u *ℤ ev) -ℤ (v *ℤ eu)))) +ℤ ((pos 2) *ℤ (((((gu *ℤ eu) *ℤ a) +ℤ (((gu *ℤ ev) +ℤ (gv *ℤ eu)) *ℤ h)) +ℤ ((gv *ℤ ev) *ℤ b)) *ℤ (((u *ℤ ev) -ℤ (v *ℤ eu)) *ℤ ((gu *ℤ v) -ℤ (gv *ℤ u)))))) +ℤ (((((eu *ℤ eu) *ℤ a) +ℤ (((eu *ℤ ev) +ℤ (ev *ℤ eu)) *ℤ h)) +ℤ ((ev *ℤ ev) *ℤ b)) *ℤ (((gu *ℤ v) -ℤ (gv *ℤ u)) *ℤ ((gu *ℤ v) -ℤ (gv *ℤ u))))) ≡ ((((gu *ℤ ev) -ℤ (gv *ℤ eu)) *ℤ ((gu *ℤ ev) -ℤ (gv *ℤ eu))) *ℤ (((a *ℤ (u *ℤ u)) +ℤ ((pos 2) *ℤ (h *ℤ (u *ℤ v)))) +ℤ (b *ℤ (v *ℤ v))))
polar_scaled a h b gu gv eu ev u v = ring (a ∷ h ∷ b ∷ gu ∷ gv ∷ eu ∷ ev ∷ u ∷ v ∷ []) (Add (Add (Mul (Add (Add (Mul (Mul (Var 3) (Var 3)) (Var 0)) (Mul (Add (Mul (Var 3) (Var 4)) (Mul (Var 4) (Var 3))) (Var 1))) (Mul (Mul (Var 4) (Var 4)) (Var 2))) (Mul (Sub (Mul (Var 7) (Var 6)) (Mul (Var 8) (Var 5))) (Sub (Mul (Var 7) (Var 6)) (Mul (Var 8) (Var 5))))) (Mul (Num (pos 2)) (Mul (Add (Add (Mul (Mul (Var 3) (Var 5)) (Var 0)) (Mul (Add (Mul (Var 3) (Var 6)) (Mul (Var 4) (Var 5))) (Var 1))) (Mul (Mul (Var 4) (Var 6)) (Var 2))) (Mul (Sub (Mul (Var 7) (Var 6)) (Mul (Var 8) (Var 5))) (Sub (Mul (Var 3) (Var 8)) (Mul (Var 4) (Var 7))))))) (Mul (Add (Add (Mul (Mul (Var 5) (Var 5)) (Var 0)) (Mul (Add (Mul (Var 5) (Var 6)) (Mul (Var 6) (Var 5))) (Var 1))) (Mul (Mul (Var 6) (Var 6)) (Var 2))) (Mul (Sub (Mul (Var 3) (Var 8)) (Mul (Var 4) (Var 7))) (Sub (Mul (Var 3) (Var 8)) (Mul (Var 4) (Var 7)))))) (Mul (Mul (Sub (Mul (Var 3) (Var 6)) (Mul (Var 4) (Var 5))) (Sub (Mul (Var 3) (Var 6)) (Mul (Var 4) (Var 5)))) (Add (Add (Mul (Var 0) (Mul (Var 7) (Var 7))) (Mul (Num (pos 2)) (Mul (Var 1) (Mul (Var 7) (Var 8))))) (Mul (Var 2) (Mul (Var 8) (Var 8))))) refl

pub polar_minor : (a h b gu gv eu ev : ℤ) → ((((((gu *ℤ eu) *ℤ a) +ℤ (((gu *ℤ ev) +ℤ (gv *ℤ eu)) *ℤ h)) +ℤ ((gv *ℤ ev) *ℤ b)) *ℤ ((((gu *ℤ eu) *ℤ a) +ℤ (((gu *ℤ ev) +ℤ (gv *ℤ eu)) *ℤ h)) +ℤ ((gv *ℤ ev) *ℤ b))) -ℤ (((((gu *ℤ gu) *ℤ a) +ℤ (((gu *ℤ gv) +ℤ (gv *ℤ gu)) *ℤ h)) +ℤ ((gv *ℤ gv) *ℤ b)) *ℤ ((((eu *ℤ eu) *ℤ a) +ℤ (((eu *ℤ ev) +ℤ (ev *ℤ eu)) *ℤ h)) +ℤ ((ev *ℤ ev) *ℤ b)))) ≡ ((((gu *ℤ ev) -ℤ (gv *ℤ eu)) *ℤ ((gu *ℤ ev) -ℤ (gv *ℤ eu))) *ℤ ((h *ℤ h) -ℤ (a *ℤ b)))
polar_minor a h b gu gv eu ev = ring (a ∷ h ∷ b ∷ gu ∷ gv ∷ eu ∷ ev ∷ []) (Sub (Mul (Add (Add (Mul (Mul (Var 3) (Var 5)) (Var 0)) (Mul (Add (Mul (Var 3) (Var 6)) (Mul (Var 4) (Var 5))) (Var 1))) (Mul (Mul (Var 4) (Var 6)) (Var 2))) (Add (Add (Mul (Mul (Var 3) (Var 5)) (Var 0)) (Mul (Add (Mul (Var 3) (Var 6)) (Mul (Var 4) (Var 5))) (Var 1))) (Mul (Mul (Var 4) (Var 6)) (Var 2)))) (Mul (Add (Add (Mul (Mul (Var 3) (Var 3)) (Var 0)) (Mul (Add (Mul (Var 3) (Var 4)) (Mul (Var 4) (Var 3))) (Var 1))) (Mul (Mul (Var 4) (Var 4)) (Var 2))) (Add (Add (Mul (Mul (Var 5) (Var 5)) (Var 0)) (Mul (Add (Mul (Var 5) (Var 6)) (Mul (Var 6) (Var 5))) (Var 1))) (Mul (Mul (Var 6) (Var 6)) (Var 2))))) (Mul (Mul (Sub (Mul (Var 3) (Var 6)) (Mul (Var 4) (Var 5))) (Sub (Mul (Var 3) (Var 6)) (Mul (Var 4) (Var 5)))) (Sub (Mul (Var 1) (Var 1)) (Mul (Var 0) (Var 2)))) refl

-- vars D q x; hyp hD: 0 < D; hyp hq: q < 0; hyp e: x == (D*D)*q; hyp hx: 0 <= x; goal false; mul hq * sq(D); mul hD * hD
pub scaled_negative : (D q x : ℤ) → (pos 0) <ℤ D → q <ℤ (pos 0) → x ≡ ((D *ℤ D) *ℤ q) → (pos 0) ≤ℤ x → ⊥
scaled_negative D q x hD hq e hx = refute (D ∷ q ∷ x ∷ []) (Lt (Num (pos 0)) (Var 0) ∷ Lt (Var 1) (Num (pos 0)) ∷ Eq (Var 2) (Mul (Mul (Var 0) (Var 0)) (Var 1)) ∷ Le (Num (pos 0)) (Var 2) ∷ []) (Plus (Times (Lit 2) (Hyp 0)) (Plus (TimesEq 2 (Num (pos 1))) (Plus (Hyp 3) (Plus (Times (Hyp 1) (Sq (Var 0))) (Times (Hyp 0) (Hyp 0)))))) 0 (hD, (hq, (e, (hx, tt)))) refl

-- vars gu gv eu ev U V; hyp hV: 0 <= V; hyp hD: 0 < gu*ev-gv*eu; goal 0 <= gu*(U*gv+V*ev)-gv*(U*gu+V*eu); mul hV * hD+
pub blend_after : (gu gv eu ev U V : ℤ) → (pos 0) ≤ℤ V → (pos 0) <ℤ ((gu *ℤ ev) -ℤ (gv *ℤ eu)) → (pos 0) ≤ℤ ((gu *ℤ ((U *ℤ gv) +ℤ (V *ℤ ev))) -ℤ (gv *ℤ ((U *ℤ gu) +ℤ (V *ℤ eu))))
blend_after gu gv eu ev U V hV hD = prove_le_by (gu ∷ gv ∷ eu ∷ ev ∷ U ∷ V ∷ []) (Le (Num (pos 0)) (Var 5) ∷ Lt (Num (pos 0)) (Sub (Mul (Var 0) (Var 3)) (Mul (Var 1) (Var 2))) ∷ []) (Num (pos 0)) (Sub (Mul (Var 0) (Add (Mul (Var 4) (Var 1)) (Mul (Var 5) (Var 3)))) (Mul (Var 1) (Add (Mul (Var 4) (Var 0)) (Mul (Var 5) (Var 2))))) (Plus (Hyp 0) (Times (Hyp 1) (Plus (Hyp 2) (Lit 1)))) 0 (hV, (hD, tt)) refl

-- vars gu gv eu ev U V; hyp hU: 0 <= U; hyp hD: 0 < gu*ev-gv*eu; goal 0 <= (U*gu+V*eu)*ev-(U*gv+V*ev)*eu; mul hU * hD+
pub blend_before : (gu gv eu ev U V : ℤ) → (pos 0) ≤ℤ U → (pos 0) <ℤ ((gu *ℤ ev) -ℤ (gv *ℤ eu)) → (pos 0) ≤ℤ ((((U *ℤ gu) +ℤ (V *ℤ eu)) *ℤ ev) -ℤ (((U *ℤ gv) +ℤ (V *ℤ ev)) *ℤ eu))
blend_before gu gv eu ev U V hU hD = prove_le_by (gu ∷ gv ∷ eu ∷ ev ∷ U ∷ V ∷ []) (Le (Num (pos 0)) (Var 4) ∷ Lt (Num (pos 0)) (Sub (Mul (Var 0) (Var 3)) (Mul (Var 1) (Var 2))) ∷ []) (Num (pos 0)) (Sub (Mul (Add (Mul (Var 4) (Var 0)) (Mul (Var 5) (Var 2))) (Var 3)) (Mul (Add (Mul (Var 4) (Var 1)) (Mul (Var 5) (Var 3))) (Var 2))) (Plus (Hyp 0) (Times (Hyp 1) (Plus (Hyp 2) (Lit 1)))) 0 (hU, (hD, tt)) refl

-- vars U V g e; hyp hU: 0 <= U; hyp hV: 0 <= V; hyp hg: 0 <= g; hyp he: 0 <= e; goal 0 <= U*g+V*e; mul hU * hg; mul hV * he
pub blend_least : (U V g e : ℤ) → (pos 0) ≤ℤ U → (pos 0) ≤ℤ V → (pos 0) ≤ℤ g → (pos 0) ≤ℤ e → (pos 0) ≤ℤ ((U *ℤ g) +ℤ (V *ℤ e))
blend_least U V g e hU hV hg he = prove_le_by (U ∷ V ∷ g ∷ e ∷ []) (Le (Num (pos 0)) (Var 0) ∷ Le (Num (pos 0)) (Var 1) ∷ Le (Num (pos 0)) (Var 2) ∷ Le (Num (pos 0)) (Var 3) ∷ []) (Num (pos 0)) (Add (Mul (Var 0) (Var 2)) (Mul (Var 1) (Var 3))) (Plus (Hyp 0) (Plus (Times (Hyp 1) (Hyp 3)) (Times (Hyp 2) (Hyp 4)))) 0 (hU, (hV, (hg, (he, tt)))) refl

-- vars f g pu pv u v; hyp eu: pu == 1; hyp ev: pv == 0; hyp hv: 0 <= v; goal 0 <= pu*v-pv*u; eqmul eu * v; eqmul ev * u
pub start_zone_up : (f g pu pv u v : ℤ) → pu ≡ (pos 1) → pv ≡ (pos 0) → (pos 0) ≤ℤ v → (pos 0) ≤ℤ ((pu *ℤ v) -ℤ (pv *ℤ u))
start_zone_up f g pu pv u v eu ev hv = prove_le_by (f ∷ g ∷ pu ∷ pv ∷ u ∷ v ∷ []) (Eq (Var 2) (Num (pos 1)) ∷ Eq (Var 3) (Num (pos 0)) ∷ Le (Num (pos 0)) (Var 5) ∷ []) (Num (pos 0)) (Sub (Mul (Var 2) (Var 5)) (Mul (Var 3) (Var 4))) (Plus (Hyp 0) (Plus (Hyp 3) (Plus (TimesEq 1 (Neg (Var 5))) (TimesEq 2 (Var 4))))) 0 (eu, (ev, (hv, tt))) refl

-- vars f g pu pv u v; hyp eu: pu == g; hyp ev: pv == 0-f; hyp h: 0 <= u*f+v*g; goal 0 <= pu*v-pv*u; eqmul eu * v; eqmul ev * u
pub start_zone_down : (f g pu pv u v : ℤ) → pu ≡ g → pv ≡ ((pos 0) -ℤ f) → (pos 0) ≤ℤ ((u *ℤ f) +ℤ (v *ℤ g)) → (pos 0) ≤ℤ ((pu *ℤ v) -ℤ (pv *ℤ u))
start_zone_down f g pu pv u v eu ev h = prove_le_by (f ∷ g ∷ pu ∷ pv ∷ u ∷ v ∷ []) (Eq (Var 2) (Var 1) ∷ Eq (Var 3) (Sub (Num (pos 0)) (Var 0)) ∷ Le (Num (pos 0)) (Add (Mul (Var 4) (Var 0)) (Mul (Var 5) (Var 1))) ∷ []) (Num (pos 0)) (Sub (Mul (Var 2) (Var 5)) (Mul (Var 3) (Var 4))) (Plus (Hyp 0) (Plus (Hyp 3) (Plus (TimesEq 1 (Neg (Var 5))) (TimesEq 2 (Var 4))))) 0 (eu, (ev, (h, tt))) refl

-- vars f g u v; hyp hf: 0 <= f; hyp hg: 0 <= g; hyp hu: 0 <= u; hyp hv: 0 <= v; goal 0 <= u*f+v*g; mul hu * hf; mul hv * hg
pub start_back_up : (f g u v : ℤ) → (pos 0) ≤ℤ f → (pos 0) ≤ℤ g → (pos 0) ≤ℤ u → (pos 0) ≤ℤ v → (pos 0) ≤ℤ ((u *ℤ f) +ℤ (v *ℤ g))
start_back_up f g u v hf hg hu hv = prove_le_by (f ∷ g ∷ u ∷ v ∷ []) (Le (Num (pos 0)) (Var 0) ∷ Le (Num (pos 0)) (Var 1) ∷ Le (Num (pos 0)) (Var 2) ∷ Le (Num (pos 0)) (Var 3) ∷ []) (Num (pos 0)) (Add (Mul (Var 2) (Var 0)) (Mul (Var 3) (Var 1))) (Plus (Hyp 0) (Plus (Times (Hyp 3) (Hyp 1)) (Times (Hyp 4) (Hyp 2)))) 0 (hf, (hg, (hu, (hv, tt)))) refl

-- vars f g pu pv u v; hyp eu: pu == g; hyp ev: pv == 0-f; hyp h: 0 <= pu*v-pv*u; goal 0 <= u*f+v*g; eqmul eu * v; eqmul ev * u
pub start_back_down : (f g pu pv u v : ℤ) → pu ≡ g → pv ≡ ((pos 0) -ℤ f) → (pos 0) ≤ℤ ((pu *ℤ v) -ℤ (pv *ℤ u)) → (pos 0) ≤ℤ ((u *ℤ f) +ℤ (v *ℤ g))
start_back_down f g pu pv u v eu ev h = prove_le_by (f ∷ g ∷ pu ∷ pv ∷ u ∷ v ∷ []) (Eq (Var 2) (Var 1) ∷ Eq (Var 3) (Sub (Num (pos 0)) (Var 0)) ∷ Le (Num (pos 0)) (Sub (Mul (Var 2) (Var 5)) (Mul (Var 3) (Var 4))) ∷ []) (Num (pos 0)) (Add (Mul (Var 4) (Var 0)) (Mul (Var 5) (Var 1))) (Plus (Hyp 0) (Plus (Hyp 3) (Plus (TimesEq 1 (Var 5)) (TimesEq 2 (Neg (Var 4)))))) 0 (eu, (ev, (h, tt))) refl

-- vars pu pv u v; hyp eu: pu == 1; hyp ev: pv == 0; hyp hv: 0 < v; goal 0 < pu*v-pv*u; eqmul eu * v; eqmul ev * u
pub start_apart_up : (pu pv u v : ℤ) → pu ≡ (pos 1) → pv ≡ (pos 0) → (pos 0) <ℤ v → (pos 0) <ℤ ((pu *ℤ v) -ℤ (pv *ℤ u))
start_apart_up pu pv u v eu ev hv = prove_lt_by (pu ∷ pv ∷ u ∷ v ∷ []) (Eq (Var 0) (Num (pos 1)) ∷ Eq (Var 1) (Num (pos 0)) ∷ Lt (Num (pos 0)) (Var 3) ∷ []) (Num (pos 0)) (Sub (Mul (Var 0) (Var 3)) (Mul (Var 1) (Var 2))) (Plus (Hyp 0) (Plus (Hyp 3) (Plus (TimesEq 1 (Neg (Var 3))) (TimesEq 2 (Var 2))))) 0 (eu, (ev, (hv, tt))) refl

-- vars f g pu pv u v; hyp eu: pu == g; hyp ev: pv == 0-f; hyp h: 0 < u*f+v*g; goal 0 < pu*v-pv*u; eqmul eu * v; eqmul ev * u
pub start_apart_down : (f g pu pv u v : ℤ) → pu ≡ g → pv ≡ ((pos 0) -ℤ f) → (pos 0) <ℤ ((u *ℤ f) +ℤ (v *ℤ g)) → (pos 0) <ℤ ((pu *ℤ v) -ℤ (pv *ℤ u))
start_apart_down f g pu pv u v eu ev h = prove_lt_by (f ∷ g ∷ pu ∷ pv ∷ u ∷ v ∷ []) (Eq (Var 2) (Var 1) ∷ Eq (Var 3) (Sub (Num (pos 0)) (Var 0)) ∷ Lt (Num (pos 0)) (Add (Mul (Var 4) (Var 0)) (Mul (Var 5) (Var 1))) ∷ []) (Num (pos 0)) (Sub (Mul (Var 2) (Var 5)) (Mul (Var 3) (Var 4))) (Plus (Hyp 0) (Plus (Hyp 3) (Plus (TimesEq 1 (Neg (Var 5))) (TimesEq 2 (Var 4))))) 0 (eu, (ev, (h, tt))) refl

-- vars f g pu pv; hyp eu: pu == 1; hyp ev: pv == 0; hyp hg: 0 < g; goal 0 < pv*f+pu*g; eqmul eu * g; eqmul ev * f
pub end_height_level : (f g pu pv : ℤ) → pu ≡ (pos 1) → pv ≡ (pos 0) → (pos 0) <ℤ g → (pos 0) <ℤ ((pv *ℤ f) +ℤ (pu *ℤ g))
end_height_level f g pu pv eu ev hg = prove_lt_by (f ∷ g ∷ pu ∷ pv ∷ []) (Eq (Var 2) (Num (pos 1)) ∷ Eq (Var 3) (Num (pos 0)) ∷ Lt (Num (pos 0)) (Var 1) ∷ []) (Num (pos 0)) (Add (Mul (Var 3) (Var 0)) (Mul (Var 2) (Var 1))) (Plus (Hyp 0) (Plus (Hyp 3) (Plus (TimesEq 1 (Neg (Var 1))) (TimesEq 2 (Neg (Var 0)))))) 0 (eu, (ev, (hg, tt))) refl

-- vars f g pu pv p q k m; hyp eu: pu == 0-p; hyp ev: pv == 0-(0-q); hyp ep: p == k*f-m; hyp eq: q == k*g-m; hyp hm: 0 < m; hyp h: f < g; goal 0 < pv*f+pu*g; eqmul eu * g; eqmul ev * f; eqmul ep * g; eqmul eq * f; mul hm+ * h+; mul hm * h
pub end_height_cut : (f g pu pv p q k m : ℤ) → pu ≡ ((pos 0) -ℤ p) → pv ≡ ((pos 0) -ℤ ((pos 0) -ℤ q)) → p ≡ ((k *ℤ f) -ℤ m) → q ≡ ((k *ℤ g) -ℤ m) → (pos 0) <ℤ m → f <ℤ g → (pos 0) <ℤ ((pv *ℤ f) +ℤ (pu *ℤ g))
end_height_cut f g pu pv p q k m eu ev ep eq hm h = prove_lt_by (f ∷ g ∷ pu ∷ pv ∷ p ∷ q ∷ k ∷ m ∷ []) (Eq (Var 2) (Sub (Num (pos 0)) (Var 4)) ∷ Eq (Var 3) (Sub (Num (pos 0)) (Sub (Num (pos 0)) (Var 5))) ∷ Eq (Var 4) (Sub (Mul (Var 6) (Var 0)) (Var 7)) ∷ Eq (Var 5) (Sub (Mul (Var 6) (Var 1)) (Var 7)) ∷ Lt (Num (pos 0)) (Var 7) ∷ Lt (Var 0) (Var 1) ∷ []) (Num (pos 0)) (Add (Mul (Var 3) (Var 0)) (Mul (Var 2) (Var 1))) (Plus (Hyp 0) (Plus (Hyp 5) (Plus (Hyp 6) (Plus (TimesEq 1 (Neg (Var 1))) (Plus (TimesEq 2 (Neg (Var 0))) (Plus (TimesEq 3 (Var 1)) (Plus (TimesEq 4 (Neg (Var 0))) (Times (Hyp 5) (Hyp 6))))))))) 0 (eu, (ev, (ep, (eq, (hm, (h, tt)))))) refl

-- vars pu pv u v; hyp eu: pu == 0; hyp ev: pv == 1; hyp hu: 0 <= u; goal 0 <= u*pv-v*pu; eqmul eu * v; eqmul ev * u
pub last_before : (pu pv u v : ℤ) → pu ≡ (pos 0) → pv ≡ (pos 1) → (pos 0) ≤ℤ u → (pos 0) ≤ℤ ((u *ℤ pv) -ℤ (v *ℤ pu))
last_before pu pv u v eu ev hu = prove_le_by (pu ∷ pv ∷ u ∷ v ∷ []) (Eq (Var 0) (Num (pos 0)) ∷ Eq (Var 1) (Num (pos 1)) ∷ Le (Num (pos 0)) (Var 2) ∷ []) (Num (pos 0)) (Sub (Mul (Var 2) (Var 1)) (Mul (Var 3) (Var 0))) (Plus (Hyp 0) (Plus (Hyp 3) (Plus (TimesEq 1 (Var 3)) (TimesEq 2 (Neg (Var 2)))))) 0 (eu, (ev, (hu, tt))) refl

-- vars f g pu pv; hyp eu: pu == 0; hyp ev: pv == 1; hyp hg: 0 < g; goal 0 < pu*f+pv*g; eqmul eu * f; eqmul ev * g
pub last_height : (f g pu pv : ℤ) → pu ≡ (pos 0) → pv ≡ (pos 1) → (pos 0) <ℤ g → (pos 0) <ℤ ((pu *ℤ f) +ℤ (pv *ℤ g))
last_height f g pu pv eu ev hg = prove_lt_by (f ∷ g ∷ pu ∷ pv ∷ []) (Eq (Var 2) (Num (pos 0)) ∷ Eq (Var 3) (Num (pos 1)) ∷ Lt (Num (pos 0)) (Var 1) ∷ []) (Num (pos 0)) (Add (Mul (Var 2) (Var 0)) (Mul (Var 3) (Var 1))) (Plus (Hyp 0) (Plus (Hyp 3) (Plus (TimesEq 1 (Neg (Var 0))) (TimesEq 2 (Neg (Var 1)))))) 0 (eu, (ev, (hg, tt))) refl

-- vars tu tv bu bv u v; hyp eu: tu == bv; hyp ev: tv == bu; hyp h: 0 <= u*tv-v*tu; goal 0 <= bu*u-bv*v; eqmul eu * v; eqmul ev * u
pub turned_before : (tu tv bu bv u v : ℤ) → tu ≡ bv → tv ≡ bu → (pos 0) ≤ℤ ((u *ℤ tv) -ℤ (v *ℤ tu)) → (pos 0) ≤ℤ ((bu *ℤ u) -ℤ (bv *ℤ v))
turned_before tu tv bu bv u v eu ev h = prove_le_by (tu ∷ tv ∷ bu ∷ bv ∷ u ∷ v ∷ []) (Eq (Var 0) (Var 3) ∷ Eq (Var 1) (Var 2) ∷ Le (Num (pos 0)) (Sub (Mul (Var 4) (Var 1)) (Mul (Var 5) (Var 0))) ∷ []) (Num (pos 0)) (Sub (Mul (Var 2) (Var 4)) (Mul (Var 3) (Var 5))) (Plus (Hyp 0) (Plus (Hyp 3) (Plus (TimesEq 1 (Neg (Var 5))) (TimesEq 2 (Var 4))))) 0 (eu, (ev, (h, tt))) refl

-- vars tu tv bu bv u v; hyp eu: tu == bv; hyp ev: tv == bu; hyp h: 0 <= bu*u-bv*v; goal 0 <= u*tv-v*tu; eqmul eu * v; eqmul ev * u
pub before_turned : (tu tv bu bv u v : ℤ) → tu ≡ bv → tv ≡ bu → (pos 0) ≤ℤ ((bu *ℤ u) -ℤ (bv *ℤ v)) → (pos 0) ≤ℤ ((u *ℤ tv) -ℤ (v *ℤ tu))
before_turned tu tv bu bv u v eu ev h = prove_le_by (tu ∷ tv ∷ bu ∷ bv ∷ u ∷ v ∷ []) (Eq (Var 0) (Var 3) ∷ Eq (Var 1) (Var 2) ∷ Le (Num (pos 0)) (Sub (Mul (Var 2) (Var 4)) (Mul (Var 3) (Var 5))) ∷ []) (Num (pos 0)) (Sub (Mul (Var 4) (Var 1)) (Mul (Var 5) (Var 0))) (Plus (Hyp 0) (Plus (Hyp 3) (Plus (TimesEq 1 (Var 5)) (TimesEq 2 (Neg (Var 4)))))) 0 (eu, (ev, (h, tt))) refl

-- vars tu tv bu bv f g; hyp eu: tu == bv; hyp ev: tv == bu; hyp h: 0 < bv*f+bu*g; goal 0 < tu*f+tv*g; eqmul eu * f; eqmul ev * g
pub turned_height : (tu tv bu bv f g : ℤ) → tu ≡ bv → tv ≡ bu → (pos 0) <ℤ ((bv *ℤ f) +ℤ (bu *ℤ g)) → (pos 0) <ℤ ((tu *ℤ f) +ℤ (tv *ℤ g))
turned_height tu tv bu bv f g eu ev h = prove_lt_by (tu ∷ tv ∷ bu ∷ bv ∷ f ∷ g ∷ []) (Eq (Var 0) (Var 3) ∷ Eq (Var 1) (Var 2) ∷ Lt (Num (pos 0)) (Add (Mul (Var 3) (Var 4)) (Mul (Var 2) (Var 5))) ∷ []) (Num (pos 0)) (Add (Mul (Var 0) (Var 4)) (Mul (Var 1) (Var 5))) (Plus (Hyp 0) (Plus (Hyp 3) (Plus (TimesEq 1 (Neg (Var 4))) (TimesEq 2 (Neg (Var 5)))))) 0 (eu, (ev, (h, tt))) refl
