-- Polynomial facts behind a segment against the cylinder.
-- Written by tools/certificates.py from tools/certificates/mill_geom_segment.spec.
use Rattle.std.proofs.Common.{◌≡◌, [], ◌∷◌, refl}
use lib.IntN.{ℤ, pos, ◌+ℤ◌, ◌-ℤ◌, ◌*ℤ◌}
use lib.Signed.{◌<ℤ◌, ◌≤ℤ◌}
use Rattle.mill_base.proofs.Ring.{Var, Num, Add, Sub, Mul, Neg}
use Rattle.mill_base.proofs.Cert.{Le, Lt, Eq, Hyp, TimesEq, Sq, Lit, Plus, Times, refute, prove_le_by, prove_lt_by}

-- vars px py qx qy r u v; hyp h: (px*px+py*py-r*r)*(u*u)+2*((px*qx+py*qy-r*r)*(u*v))+(qx*qx+qy*qy-r*r)*(v*v) < 0; goal (u*px+v*qx)*(u*px+v*qx)+(u*py+v*qy)*(u*py+v*qy) < (r*r)*((u+v)*(u+v))
pub seg_near : (px py qx qy r u v : ℤ) → ((((((px *ℤ px) +ℤ (py *ℤ py)) -ℤ (r *ℤ r)) *ℤ (u *ℤ u)) +ℤ ((pos 2) *ℤ ((((px *ℤ qx) +ℤ (py *ℤ qy)) -ℤ (r *ℤ r)) *ℤ (u *ℤ v)))) +ℤ ((((qx *ℤ qx) +ℤ (qy *ℤ qy)) -ℤ (r *ℤ r)) *ℤ (v *ℤ v))) <ℤ (pos 0) → ((((u *ℤ px) +ℤ (v *ℤ qx)) *ℤ ((u *ℤ px) +ℤ (v *ℤ qx))) +ℤ (((u *ℤ py) +ℤ (v *ℤ qy)) *ℤ ((u *ℤ py) +ℤ (v *ℤ qy)))) <ℤ ((r *ℤ r) *ℤ ((u +ℤ v) *ℤ (u +ℤ v)))
seg_near px py qx qy r u v h = prove_lt_by (px ∷ py ∷ qx ∷ qy ∷ r ∷ u ∷ v ∷ []) (Lt (Add (Add (Mul (Sub (Add (Mul (Var 0) (Var 0)) (Mul (Var 1) (Var 1))) (Mul (Var 4) (Var 4))) (Mul (Var 5) (Var 5))) (Mul (Num (pos 2)) (Mul (Sub (Add (Mul (Var 0) (Var 2)) (Mul (Var 1) (Var 3))) (Mul (Var 4) (Var 4))) (Mul (Var 5) (Var 6))))) (Mul (Sub (Add (Mul (Var 2) (Var 2)) (Mul (Var 3) (Var 3))) (Mul (Var 4) (Var 4))) (Mul (Var 6) (Var 6)))) (Num (pos 0)) ∷ []) (Add (Mul (Add (Mul (Var 5) (Var 0)) (Mul (Var 6) (Var 2))) (Add (Mul (Var 5) (Var 0)) (Mul (Var 6) (Var 2)))) (Mul (Add (Mul (Var 5) (Var 1)) (Mul (Var 6) (Var 3))) (Add (Mul (Var 5) (Var 1)) (Mul (Var 6) (Var 3))))) (Mul (Mul (Var 4) (Var 4)) (Mul (Add (Var 5) (Var 6)) (Add (Var 5) (Var 6)))) (Plus (Hyp 0) (Hyp 1)) 0 (h, tt) refl

-- vars px py qx qy r u v; hyp h: (u*px+v*qx)*(u*px+v*qx)+(u*py+v*qy)*(u*py+v*qy) < (r*r)*((u+v)*(u+v)); hyp g: 0 <= (px*px+py*py-r*r)*(u*u)+2*((px*qx+py*qy-r*r)*(u*v))+(qx*qx+qy*qy-r*r)*(v*v); goal false
pub seg_far : (px py qx qy r u v : ℤ) → ((((u *ℤ px) +ℤ (v *ℤ qx)) *ℤ ((u *ℤ px) +ℤ (v *ℤ qx))) +ℤ (((u *ℤ py) +ℤ (v *ℤ qy)) *ℤ ((u *ℤ py) +ℤ (v *ℤ qy)))) <ℤ ((r *ℤ r) *ℤ ((u +ℤ v) *ℤ (u +ℤ v))) → (pos 0) ≤ℤ ((((((px *ℤ px) +ℤ (py *ℤ py)) -ℤ (r *ℤ r)) *ℤ (u *ℤ u)) +ℤ ((pos 2) *ℤ ((((px *ℤ qx) +ℤ (py *ℤ qy)) -ℤ (r *ℤ r)) *ℤ (u *ℤ v)))) +ℤ ((((qx *ℤ qx) +ℤ (qy *ℤ qy)) -ℤ (r *ℤ r)) *ℤ (v *ℤ v))) → ⊥
seg_far px py qx qy r u v h g = refute (px ∷ py ∷ qx ∷ qy ∷ r ∷ u ∷ v ∷ []) (Lt (Add (Mul (Add (Mul (Var 5) (Var 0)) (Mul (Var 6) (Var 2))) (Add (Mul (Var 5) (Var 0)) (Mul (Var 6) (Var 2)))) (Mul (Add (Mul (Var 5) (Var 1)) (Mul (Var 6) (Var 3))) (Add (Mul (Var 5) (Var 1)) (Mul (Var 6) (Var 3))))) (Mul (Mul (Var 4) (Var 4)) (Mul (Add (Var 5) (Var 6)) (Add (Var 5) (Var 6)))) ∷ Le (Num (pos 0)) (Add (Add (Mul (Sub (Add (Mul (Var 0) (Var 0)) (Mul (Var 1) (Var 1))) (Mul (Var 4) (Var 4))) (Mul (Var 5) (Var 5))) (Mul (Num (pos 2)) (Mul (Sub (Add (Mul (Var 0) (Var 2)) (Mul (Var 1) (Var 3))) (Mul (Var 4) (Var 4))) (Mul (Var 5) (Var 6))))) (Mul (Sub (Add (Mul (Var 2) (Var 2)) (Mul (Var 3) (Var 3))) (Mul (Var 4) (Var 4))) (Mul (Var 6) (Var 6)))) ∷ []) (Plus (Hyp 0) (Hyp 1)) 0 (h, (g, tt)) refl

-- vars u v z w; hyp hu: 0 < u; hyp hv: 0 <= v; hyp hz: 0 < z; hyp hw: 0 <= w; goal 0 < u*z+v*w; mul hu+ * hz+; mul hv * hw; mul hu * hz
pub seg_over : (u v z w : ℤ) → (pos 0) <ℤ u → (pos 0) ≤ℤ v → (pos 0) <ℤ z → (pos 0) ≤ℤ w → (pos 0) <ℤ ((u *ℤ z) +ℤ (v *ℤ w))
seg_over u v z w hu hv hz hw = prove_lt_by (u ∷ v ∷ z ∷ w ∷ []) (Lt (Num (pos 0)) (Var 0) ∷ Le (Num (pos 0)) (Var 1) ∷ Lt (Num (pos 0)) (Var 2) ∷ Le (Num (pos 0)) (Var 3) ∷ []) (Num (pos 0)) (Add (Mul (Var 0) (Var 2)) (Mul (Var 1) (Var 3))) (Plus (Hyp 0) (Plus (Hyp 1) (Plus (Hyp 3) (Plus (Times (Hyp 2) (Hyp 4)) (Times (Hyp 1) (Hyp 3)))))) 0 (hu, (hv, (hz, (hw, tt)))) refl

-- vars u v; hyp hu: 0 < u; hyp hv: 0 <= v; goal 0 < u+v
pub seg_some : (u v : ℤ) → (pos 0) <ℤ u → (pos 0) ≤ℤ v → (pos 0) <ℤ (u +ℤ v)
seg_some u v hu hv = prove_lt_by (u ∷ v ∷ []) (Lt (Num (pos 0)) (Var 0) ∷ Le (Num (pos 0)) (Var 1) ∷ []) (Num (pos 0)) (Add (Var 0) (Var 1)) (Plus (Hyp 0) (Plus (Hyp 1) (Hyp 2))) 0 (hu, (hv, tt)) refl

-- vars u v z w; hyp hu: 0 <= u; hyp hv: 0 <= v; hyp hz: z <= 0; hyp hw: w <= 0; hyp h: 0 < u*z+v*w; goal false; mul hu * hz; mul hv * hw
pub seg_low : (u v z w : ℤ) → (pos 0) ≤ℤ u → (pos 0) ≤ℤ v → z ≤ℤ (pos 0) → w ≤ℤ (pos 0) → (pos 0) <ℤ ((u *ℤ z) +ℤ (v *ℤ w)) → ⊥
seg_low u v z w hu hv hz hw h = refute (u ∷ v ∷ z ∷ w ∷ []) (Le (Num (pos 0)) (Var 0) ∷ Le (Num (pos 0)) (Var 1) ∷ Le (Var 2) (Num (pos 0)) ∷ Le (Var 3) (Num (pos 0)) ∷ Lt (Num (pos 0)) (Add (Mul (Var 0) (Var 2)) (Mul (Var 1) (Var 3))) ∷ []) (Plus (Hyp 4) (Plus (Times (Hyp 0) (Hyp 2)) (Times (Hyp 1) (Hyp 3)))) 0 (hu, (hv, (hz, (hw, (h, tt))))) refl

-- vars px py qx qy r a b U V; hyp h: (px*px+py*py-r*r)*(U*U)+2*((b*(px*px+py*py-r*r)+a*(px*qx+py*qy-r*r))*(U*V))+(b*b*(px*px+py*py-r*r)+2*(a*b*(px*qx+py*qy-r*r))+a*a*(qx*qx+qy*qy-r*r))*(V*V) < 0; goal ((U+b*V)*px+(a*V)*qx)*((U+b*V)*px+(a*V)*qx)+((U+b*V)*py+(a*V)*qy)*((U+b*V)*py+(a*V)*qy) < (r*r)*(((U+b*V)+a*V)*((U+b*V)+a*V))
pub cut_near : (px py qx qy r a b U V : ℤ) → ((((((px *ℤ px) +ℤ (py *ℤ py)) -ℤ (r *ℤ r)) *ℤ (U *ℤ U)) +ℤ ((pos 2) *ℤ (((b *ℤ (((px *ℤ px) +ℤ (py *ℤ py)) -ℤ (r *ℤ r))) +ℤ (a *ℤ (((px *ℤ qx) +ℤ (py *ℤ qy)) -ℤ (r *ℤ r)))) *ℤ (U *ℤ V)))) +ℤ (((((b *ℤ b) *ℤ (((px *ℤ px) +ℤ (py *ℤ py)) -ℤ (r *ℤ r))) +ℤ ((pos 2) *ℤ ((a *ℤ b) *ℤ (((px *ℤ qx) +ℤ (py *ℤ qy)) -ℤ (r *ℤ r))))) +ℤ ((a *ℤ a) *ℤ (((qx *ℤ qx) +ℤ (qy *ℤ qy)) -ℤ (r *ℤ r)))) *ℤ (V *ℤ V))) <ℤ (pos 0) → (((((U +ℤ (b *ℤ V)) *ℤ px) +ℤ ((a *ℤ V) *ℤ qx)) *ℤ (((U +ℤ (b *ℤ V)) *ℤ px) +ℤ ((a *ℤ V) *ℤ qx))) +ℤ ((((U +ℤ (b *ℤ V)) *ℤ py) +ℤ ((a *ℤ V) *ℤ qy)) *ℤ (((U +ℤ (b *ℤ V)) *ℤ py) +ℤ ((a *ℤ V) *ℤ qy)))) <ℤ ((r *ℤ r) *ℤ (((U +ℤ (b *ℤ V)) +ℤ (a *ℤ V)) *ℤ ((U +ℤ (b *ℤ V)) +ℤ (a *ℤ V))))
cut_near px py qx qy r a b U V h = prove_lt_by (px ∷ py ∷ qx ∷ qy ∷ r ∷ a ∷ b ∷ U ∷ V ∷ []) (Lt (Add (Add (Mul (Sub (Add (Mul (Var 0) (Var 0)) (Mul (Var 1) (Var 1))) (Mul (Var 4) (Var 4))) (Mul (Var 7) (Var 7))) (Mul (Num (pos 2)) (Mul (Add (Mul (Var 6) (Sub (Add (Mul (Var 0) (Var 0)) (Mul (Var 1) (Var 1))) (Mul (Var 4) (Var 4)))) (Mul (Var 5) (Sub (Add (Mul (Var 0) (Var 2)) (Mul (Var 1) (Var 3))) (Mul (Var 4) (Var 4))))) (Mul (Var 7) (Var 8))))) (Mul (Add (Add (Mul (Mul (Var 6) (Var 6)) (Sub (Add (Mul (Var 0) (Var 0)) (Mul (Var 1) (Var 1))) (Mul (Var 4) (Var 4)))) (Mul (Num (pos 2)) (Mul (Mul (Var 5) (Var 6)) (Sub (Add (Mul (Var 0) (Var 2)) (Mul (Var 1) (Var 3))) (Mul (Var 4) (Var 4)))))) (Mul (Mul (Var 5) (Var 5)) (Sub (Add (Mul (Var 2) (Var 2)) (Mul (Var 3) (Var 3))) (Mul (Var 4) (Var 4))))) (Mul (Var 8) (Var 8)))) (Num (pos 0)) ∷ []) (Add (Mul (Add (Mul (Add (Var 7) (Mul (Var 6) (Var 8))) (Var 0)) (Mul (Mul (Var 5) (Var 8)) (Var 2))) (Add (Mul (Add (Var 7) (Mul (Var 6) (Var 8))) (Var 0)) (Mul (Mul (Var 5) (Var 8)) (Var 2)))) (Mul (Add (Mul (Add (Var 7) (Mul (Var 6) (Var 8))) (Var 1)) (Mul (Mul (Var 5) (Var 8)) (Var 3))) (Add (Mul (Add (Var 7) (Mul (Var 6) (Var 8))) (Var 1)) (Mul (Mul (Var 5) (Var 8)) (Var 3))))) (Mul (Mul (Var 4) (Var 4)) (Mul (Add (Add (Var 7) (Mul (Var 6) (Var 8))) (Mul (Var 5) (Var 8))) (Add (Add (Var 7) (Mul (Var 6) (Var 8))) (Mul (Var 5) (Var 8))))) (Plus (Hyp 0) (Hyp 1)) 0 (h, tt) refl

-- vars U V a b z w; hyp ea: a == z; hyp eb: b == 0-w; hyp hU: 0 < U; hyp hz: 0 < z; goal 0 < (U+b*V)*z+(a*V)*w; mul hU * hz; eqmul ea * (V*w); eqmul eb * (V*z)
pub cut_over : (U V a b z w : ℤ) → a ≡ z → b ≡ ((pos 0) -ℤ w) → (pos 0) <ℤ U → (pos 0) <ℤ z → (pos 0) <ℤ (((U +ℤ (b *ℤ V)) *ℤ z) +ℤ ((a *ℤ V) *ℤ w))
cut_over U V a b z w ea eb hU hz = prove_lt_by (U ∷ V ∷ a ∷ b ∷ z ∷ w ∷ []) (Eq (Var 2) (Var 4) ∷ Eq (Var 3) (Sub (Num (pos 0)) (Var 5)) ∷ Lt (Num (pos 0)) (Var 0) ∷ Lt (Num (pos 0)) (Var 4) ∷ []) (Num (pos 0)) (Add (Mul (Add (Var 0) (Mul (Var 3) (Var 1))) (Var 4)) (Mul (Mul (Var 2) (Var 1)) (Var 5))) (Plus (Hyp 0) (Plus (Hyp 3) (Plus (Hyp 4) (Plus (Times (Hyp 3) (Hyp 4)) (Plus (TimesEq 1 (Neg (Mul (Var 1) (Var 5)))) (TimesEq 2 (Neg (Mul (Var 1) (Var 4))))))))) 0 (ea, (eb, (hU, (hz, tt)))) refl

-- vars U V a b; hyp hU: 0 < U; hyp hV: 0 <= V; hyp hb: 0 < b; goal 0 <= U+b*V; mul hV * hb
pub cut_first : (U V a b : ℤ) → (pos 0) <ℤ U → (pos 0) ≤ℤ V → (pos 0) <ℤ b → (pos 0) ≤ℤ (U +ℤ (b *ℤ V))
cut_first U V a b hU hV hb = prove_le_by (U ∷ V ∷ a ∷ b ∷ []) (Lt (Num (pos 0)) (Var 0) ∷ Le (Num (pos 0)) (Var 1) ∷ Lt (Num (pos 0)) (Var 3) ∷ []) (Num (pos 0)) (Add (Var 0) (Mul (Var 3) (Var 1))) (Plus (Hyp 0) (Plus (Hyp 1) (Plus (Hyp 2) (Times (Hyp 2) (Hyp 3))))) 1 (hU, (hV, (hb, tt))) refl

-- vars V a; hyp hV: 0 <= V; hyp ha: 0 < a; goal 0 <= a*V; mul hV * ha
pub cut_second : (V a : ℤ) → (pos 0) ≤ℤ V → (pos 0) <ℤ a → (pos 0) ≤ℤ (a *ℤ V)
cut_second V a hV ha = prove_le_by (V ∷ a ∷ []) (Le (Num (pos 0)) (Var 0) ∷ Lt (Num (pos 0)) (Var 1) ∷ []) (Num (pos 0)) (Mul (Var 1) (Var 0)) (Plus (Hyp 0) (Plus (Hyp 1) (Times (Hyp 1) (Hyp 2)))) 0 (hV, (ha, tt)) refl

-- vars U V a b; hyp hU: 0 < U; hyp hV: 0 <= V; hyp hb: 0 < b; hyp ha: 0 < a; goal 0 < (U+b*V)+a*V; mul hV * hb; mul hV * ha
pub cut_some : (U V a b : ℤ) → (pos 0) <ℤ U → (pos 0) ≤ℤ V → (pos 0) <ℤ b → (pos 0) <ℤ a → (pos 0) <ℤ ((U +ℤ (b *ℤ V)) +ℤ (a *ℤ V))
cut_some U V a b hU hV hb ha = prove_lt_by (U ∷ V ∷ a ∷ b ∷ []) (Lt (Num (pos 0)) (Var 0) ∷ Le (Num (pos 0)) (Var 1) ∷ Lt (Num (pos 0)) (Var 3) ∷ Lt (Num (pos 0)) (Var 2) ∷ []) (Num (pos 0)) (Add (Add (Var 0) (Mul (Var 3) (Var 1))) (Mul (Var 2) (Var 1))) (Plus (Hyp 0) (Plus (Hyp 1) (Plus (Times (Lit 2) (Hyp 2)) (Plus (Times (Hyp 2) (Hyp 3)) (Times (Hyp 2) (Hyp 4)))))) 0 (hU, (hV, (hb, (ha, tt)))) refl

-- vars px py qx qy r a b u v; hyp ha: 0 < a; hyp h: (u*px+v*qx)*(u*px+v*qx)+(u*py+v*qy)*(u*py+v*qy) < (r*r)*((u+v)*(u+v)); hyp g: 0 <= (px*px+py*py-r*r)*((a*u-b*v)*(a*u-b*v))+2*((b*(px*px+py*py-r*r)+a*(px*qx+py*qy-r*r))*((a*u-b*v)*v))+(b*b*(px*px+py*py-r*r)+2*(a*b*(px*qx+py*qy-r*r))+a*a*(qx*qx+qy*qy-r*r))*(v*v); goal false; mul h * sq(a); mul ha * ha; mul h+ * sq(a)
pub cut_far : (px py qx qy r a b u v : ℤ) → (pos 0) <ℤ a → ((((u *ℤ px) +ℤ (v *ℤ qx)) *ℤ ((u *ℤ px) +ℤ (v *ℤ qx))) +ℤ (((u *ℤ py) +ℤ (v *ℤ qy)) *ℤ ((u *ℤ py) +ℤ (v *ℤ qy)))) <ℤ ((r *ℤ r) *ℤ ((u +ℤ v) *ℤ (u +ℤ v))) → (pos 0) ≤ℤ ((((((px *ℤ px) +ℤ (py *ℤ py)) -ℤ (r *ℤ r)) *ℤ (((a *ℤ u) -ℤ (b *ℤ v)) *ℤ ((a *ℤ u) -ℤ (b *ℤ v)))) +ℤ ((pos 2) *ℤ (((b *ℤ (((px *ℤ px) +ℤ (py *ℤ py)) -ℤ (r *ℤ r))) +ℤ (a *ℤ (((px *ℤ qx) +ℤ (py *ℤ qy)) -ℤ (r *ℤ r)))) *ℤ (((a *ℤ u) -ℤ (b *ℤ v)) *ℤ v)))) +ℤ (((((b *ℤ b) *ℤ (((px *ℤ px) +ℤ (py *ℤ py)) -ℤ (r *ℤ r))) +ℤ ((pos 2) *ℤ ((a *ℤ b) *ℤ (((px *ℤ qx) +ℤ (py *ℤ qy)) -ℤ (r *ℤ r))))) +ℤ ((a *ℤ a) *ℤ (((qx *ℤ qx) +ℤ (qy *ℤ qy)) -ℤ (r *ℤ r)))) *ℤ (v *ℤ v))) → ⊥
cut_far px py qx qy r a b u v ha h g = refute (px ∷ py ∷ qx ∷ qy ∷ r ∷ a ∷ b ∷ u ∷ v ∷ []) (Lt (Num (pos 0)) (Var 5) ∷ Lt (Add (Mul (Add (Mul (Var 7) (Var 0)) (Mul (Var 8) (Var 2))) (Add (Mul (Var 7) (Var 0)) (Mul (Var 8) (Var 2)))) (Mul (Add (Mul (Var 7) (Var 1)) (Mul (Var 8) (Var 3))) (Add (Mul (Var 7) (Var 1)) (Mul (Var 8) (Var 3))))) (Mul (Mul (Var 4) (Var 4)) (Mul (Add (Var 7) (Var 8)) (Add (Var 7) (Var 8)))) ∷ Le (Num (pos 0)) (Add (Add (Mul (Sub (Add (Mul (Var 0) (Var 0)) (Mul (Var 1) (Var 1))) (Mul (Var 4) (Var 4))) (Mul (Sub (Mul (Var 5) (Var 7)) (Mul (Var 6) (Var 8))) (Sub (Mul (Var 5) (Var 7)) (Mul (Var 6) (Var 8))))) (Mul (Num (pos 2)) (Mul (Add (Mul (Var 6) (Sub (Add (Mul (Var 0) (Var 0)) (Mul (Var 1) (Var 1))) (Mul (Var 4) (Var 4)))) (Mul (Var 5) (Sub (Add (Mul (Var 0) (Var 2)) (Mul (Var 1) (Var 3))) (Mul (Var 4) (Var 4))))) (Mul (Sub (Mul (Var 5) (Var 7)) (Mul (Var 6) (Var 8))) (Var 8))))) (Mul (Add (Add (Mul (Mul (Var 6) (Var 6)) (Sub (Add (Mul (Var 0) (Var 0)) (Mul (Var 1) (Var 1))) (Mul (Var 4) (Var 4)))) (Mul (Num (pos 2)) (Mul (Mul (Var 5) (Var 6)) (Sub (Add (Mul (Var 0) (Var 2)) (Mul (Var 1) (Var 3))) (Mul (Var 4) (Var 4)))))) (Mul (Mul (Var 5) (Var 5)) (Sub (Add (Mul (Var 2) (Var 2)) (Mul (Var 3) (Var 3))) (Mul (Var 4) (Var 4))))) (Mul (Var 8) (Var 8)))) ∷ []) (Plus (Times (Lit 2) (Hyp 0)) (Plus (Hyp 2) (Plus (Times (Hyp 1) (Sq (Var 5))) (Times (Hyp 0) (Hyp 0))))) 0 (ha, (h, (g, tt))) refl

-- vars u v a b z w; hyp ea: a == z; hyp eb: b == 0-w; hyp h: 0 < u*z+v*w; goal 0 <= a*u-b*v; eqmul ea * u; eqmul eb * v
pub cut_up : (u v a b z w : ℤ) → a ≡ z → b ≡ ((pos 0) -ℤ w) → (pos 0) <ℤ ((u *ℤ z) +ℤ (v *ℤ w)) → (pos 0) ≤ℤ ((a *ℤ u) -ℤ (b *ℤ v))
cut_up u v a b z w ea eb h = prove_le_by (u ∷ v ∷ a ∷ b ∷ z ∷ w ∷ []) (Eq (Var 2) (Var 4) ∷ Eq (Var 3) (Sub (Num (pos 0)) (Var 5)) ∷ Lt (Num (pos 0)) (Add (Mul (Var 0) (Var 4)) (Mul (Var 1) (Var 5))) ∷ []) (Num (pos 0)) (Sub (Mul (Var 2) (Var 0)) (Mul (Var 3) (Var 1))) (Plus (Hyp 0) (Plus (Hyp 3) (Plus (TimesEq 1 (Neg (Var 0))) (TimesEq 2 (Var 1))))) 1 (ea, (eb, (h, tt))) refl

-- vars a h b la lb; hyp hl: 0 < la; hyp hm: a*b < h*h; goal a*(lb*lb*a+2*(la*lb*h)+la*la*b) < (lb*a+la*h)*(lb*a+la*h); mul hm * hl * hl; mul hl * hl; mul hm * hl; mul hm+ * sq(la)
pub minor_to : (a h b la lb : ℤ) → (pos 0) <ℤ la → (a *ℤ b) <ℤ (h *ℤ h) → (a *ℤ ((((lb *ℤ lb) *ℤ a) +ℤ ((pos 2) *ℤ ((la *ℤ lb) *ℤ h))) +ℤ ((la *ℤ la) *ℤ b))) <ℤ (((lb *ℤ a) +ℤ (la *ℤ h)) *ℤ ((lb *ℤ a) +ℤ (la *ℤ h)))
minor_to a h b la lb hl hm = prove_lt_by (a ∷ h ∷ b ∷ la ∷ lb ∷ []) (Lt (Num (pos 0)) (Var 3) ∷ Lt (Mul (Var 0) (Var 2)) (Mul (Var 1) (Var 1)) ∷ []) (Mul (Var 0) (Add (Add (Mul (Mul (Var 4) (Var 4)) (Var 0)) (Mul (Num (pos 2)) (Mul (Mul (Var 3) (Var 4)) (Var 1)))) (Mul (Mul (Var 3) (Var 3)) (Var 2)))) (Mul (Add (Mul (Var 4) (Var 0)) (Mul (Var 3) (Var 1))) (Add (Mul (Var 4) (Var 0)) (Mul (Var 3) (Var 1)))) (Plus (Hyp 0) (Plus (Times (Lit 2) (Hyp 1)) (Plus (Hyp 2) (Plus (Times (Times (Hyp 2) (Hyp 1)) (Hyp 1)) (Plus (Times (Hyp 1) (Hyp 1)) (Times (Lit 2) (Times (Hyp 2) (Hyp 1)))))))) 0 (hl, (hm, tt)) refl

-- vars a h b la lb; hyp hl: 0 < la; hyp hm: a*(lb*lb*a+2*(la*lb*h)+la*la*b) < (lb*a+la*h)*(lb*a+la*h); goal a*b < h*h; mul goal * sq(la)
pub minor_from : (a h b la lb : ℤ) → (pos 0) <ℤ la → (a *ℤ ((((lb *ℤ lb) *ℤ a) +ℤ ((pos 2) *ℤ ((la *ℤ lb) *ℤ h))) +ℤ ((la *ℤ la) *ℤ b))) <ℤ (((lb *ℤ a) +ℤ (la *ℤ h)) *ℤ ((lb *ℤ a) +ℤ (la *ℤ h))) → (a *ℤ b) <ℤ (h *ℤ h)
minor_from a h b la lb hl hm = prove_lt_by (a ∷ h ∷ b ∷ la ∷ lb ∷ []) (Lt (Num (pos 0)) (Var 3) ∷ Lt (Mul (Var 0) (Add (Add (Mul (Mul (Var 4) (Var 4)) (Var 0)) (Mul (Num (pos 2)) (Mul (Mul (Var 3) (Var 4)) (Var 1)))) (Mul (Mul (Var 3) (Var 3)) (Var 2)))) (Mul (Add (Mul (Var 4) (Var 0)) (Mul (Var 3) (Var 1))) (Add (Mul (Var 4) (Var 0)) (Mul (Var 3) (Var 1)))) ∷ []) (Mul (Var 0) (Var 2)) (Mul (Var 1) (Var 1)) (Plus (Hyp 2) (Times (Hyp 0) (Sq (Var 3)))) 0 (hl, (hm, tt)) refl

-- vars a h; goal 0 <= a*a+h*h+3; square a; square h
pub far_weight : (a h : ℤ) → (pos 0) ≤ℤ (((a *ℤ a) +ℤ (h *ℤ h)) +ℤ (pos 3))
far_weight a h = prove_le_by (a ∷ h ∷ []) ([]) (Num (pos 0)) (Add (Add (Mul (Var 0) (Var 0)) (Mul (Var 1) (Var 1))) (Num (pos 3))) (Plus (Hyp 0) (Plus (Sq (Var 0)) (Sq (Var 1)))) 3 tt refl

-- vars u v; hyp h: 0 < u+v; goal 0 < v+u
pub turn_some : (u v : ℤ) → (pos 0) <ℤ (u +ℤ v) → (pos 0) <ℤ (v +ℤ u)
turn_some u v h = prove_lt_by (u ∷ v ∷ []) (Lt (Num (pos 0)) (Add (Var 0) (Var 1)) ∷ []) (Num (pos 0)) (Add (Var 1) (Var 0)) (Plus (Hyp 0) (Hyp 1)) 0 (h, tt) refl

-- vars u v px qx py qy r; hyp h: (u*px+v*qx)*(u*px+v*qx)+(u*py+v*qy)*(u*py+v*qy) < (r*r)*((u+v)*(u+v)); goal (v*qx+u*px)*(v*qx+u*px)+(v*qy+u*py)*(v*qy+u*py) < (r*r)*((v+u)*(v+u))
pub turn_near : (u v px qx py qy r : ℤ) → ((((u *ℤ px) +ℤ (v *ℤ qx)) *ℤ ((u *ℤ px) +ℤ (v *ℤ qx))) +ℤ (((u *ℤ py) +ℤ (v *ℤ qy)) *ℤ ((u *ℤ py) +ℤ (v *ℤ qy)))) <ℤ ((r *ℤ r) *ℤ ((u +ℤ v) *ℤ (u +ℤ v))) → ((((v *ℤ qx) +ℤ (u *ℤ px)) *ℤ ((v *ℤ qx) +ℤ (u *ℤ px))) +ℤ (((v *ℤ qy) +ℤ (u *ℤ py)) *ℤ ((v *ℤ qy) +ℤ (u *ℤ py)))) <ℤ ((r *ℤ r) *ℤ ((v +ℤ u) *ℤ (v +ℤ u)))
turn_near u v px qx py qy r h = prove_lt_by (u ∷ v ∷ px ∷ qx ∷ py ∷ qy ∷ r ∷ []) (Lt (Add (Mul (Add (Mul (Var 0) (Var 2)) (Mul (Var 1) (Var 3))) (Add (Mul (Var 0) (Var 2)) (Mul (Var 1) (Var 3)))) (Mul (Add (Mul (Var 0) (Var 4)) (Mul (Var 1) (Var 5))) (Add (Mul (Var 0) (Var 4)) (Mul (Var 1) (Var 5))))) (Mul (Mul (Var 6) (Var 6)) (Mul (Add (Var 0) (Var 1)) (Add (Var 0) (Var 1)))) ∷ []) (Add (Mul (Add (Mul (Var 1) (Var 3)) (Mul (Var 0) (Var 2))) (Add (Mul (Var 1) (Var 3)) (Mul (Var 0) (Var 2)))) (Mul (Add (Mul (Var 1) (Var 5)) (Mul (Var 0) (Var 4))) (Add (Mul (Var 1) (Var 5)) (Mul (Var 0) (Var 4))))) (Mul (Mul (Var 6) (Var 6)) (Mul (Add (Var 1) (Var 0)) (Add (Var 1) (Var 0)))) (Plus (Hyp 0) (Hyp 1)) 0 (h, tt) refl

-- vars u v z w; hyp h: 0 < u*z+v*w; goal 0 < v*w+u*z
pub turn_over : (u v z w : ℤ) → (pos 0) <ℤ ((u *ℤ z) +ℤ (v *ℤ w)) → (pos 0) <ℤ ((v *ℤ w) +ℤ (u *ℤ z))
turn_over u v z w h = prove_lt_by (u ∷ v ∷ z ∷ w ∷ []) (Lt (Num (pos 0)) (Add (Mul (Var 0) (Var 2)) (Mul (Var 1) (Var 3))) ∷ []) (Num (pos 0)) (Add (Mul (Var 1) (Var 3)) (Mul (Var 0) (Var 2))) (Plus (Hyp 0) (Hyp 1)) 0 (h, tt) refl
