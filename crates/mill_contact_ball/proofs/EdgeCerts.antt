-- Polynomial facts behind a triangle's edge in the sphere.
-- Written by tools/certificates.py from tools/certificates/mill_contact_ball_edge.spec.
use Rattle.std.proofs.Common.{[], ◌∷◌, refl}
use lib.IntN.{ℤ, pos, ◌+ℤ◌, ◌-ℤ◌, ◌*ℤ◌}
use lib.Signed.{◌<ℤ◌, ◌≤ℤ◌}
use Rattle.mill_base.proofs.Ring.{Var, Num, Add, Sub, Mul}
use Rattle.mill_base.proofs.Cert.{Le, Lt, Hyp, Lit, Plus, Times, refute, prove_lt_by}

-- vars a h b; hyp ha: 0 <= a; hyp hb: 0 <= b; hyp hh: h < 0; hyp hm: a*b < h*h; goal a*((b-h)*(b-h))+2*(h*((b-h)*(a-h)))+b*((a-h)*(a-h)) < 0; mul hm * ha; mul hm * hb; mul hm * hh; mul hm+ * ha; mul hm+ * hb; mul hm+ * hh+; mul ha * hb; mul ha * hh; mul hb * hh; mul hh * hh
pub low_minor : (a h b : ℤ) → (pos 0) ≤ℤ a → (pos 0) ≤ℤ b → h <ℤ (pos 0) → (a *ℤ b) <ℤ (h *ℤ h) → (((a *ℤ ((b -ℤ h) *ℤ (b -ℤ h))) +ℤ ((pos 2) *ℤ (h *ℤ ((b -ℤ h) *ℤ (a -ℤ h))))) +ℤ (b *ℤ ((a -ℤ h) *ℤ (a -ℤ h)))) <ℤ (pos 0)
low_minor a h b ha hb hh hm = prove_lt_by (a ∷ h ∷ b ∷ []) (Le (Num (pos 0)) (Var 0) ∷ Le (Num (pos 0)) (Var 2) ∷ Lt (Var 1) (Num (pos 0)) ∷ Lt (Mul (Var 0) (Var 2)) (Mul (Var 1) (Var 1)) ∷ []) (Add (Add (Mul (Var 0) (Mul (Sub (Var 2) (Var 1)) (Sub (Var 2) (Var 1)))) (Mul (Num (pos 2)) (Mul (Var 1) (Mul (Sub (Var 2) (Var 1)) (Sub (Var 0) (Var 1)))))) (Mul (Var 2) (Mul (Sub (Var 0) (Var 1)) (Sub (Var 0) (Var 1))))) (Num (pos 0)) (Plus (Hyp 0) (Plus (Hyp 1) (Plus (Hyp 2) (Plus (Times (Lit 2) (Hyp 3)) (Plus (Times (Lit 2) (Hyp 4)) (Plus (Times (Hyp 4) (Hyp 1)) (Plus (Times (Hyp 4) (Hyp 2)) (Times (Lit 2) (Times (Hyp 4) (Hyp 3)))))))))) 1 (ha, (hb, (hh, (hm, tt)))) refl

-- vars px py pz qx qy qz r u v; hyp h: ((px*px+py*py+pz*pz)-r*r)*(u*u)+2*(((px*qx+py*qy+pz*qz)-r*r)*(u*v))+((qx*qx+qy*qy+qz*qz)-r*r)*(v*v) < 0; goal ((u*px+v*qx)*(u*px+v*qx)+(u*py+v*qy)*(u*py+v*qy))+(u*pz+v*qz)*(u*pz+v*qz) < (r*r)*((u+v)*(u+v))
pub edge_near : (px py pz qx qy qz r u v : ℤ) → (((((((px *ℤ px) +ℤ (py *ℤ py)) +ℤ (pz *ℤ pz)) -ℤ (r *ℤ r)) *ℤ (u *ℤ u)) +ℤ ((pos 2) *ℤ (((((px *ℤ qx) +ℤ (py *ℤ qy)) +ℤ (pz *ℤ qz)) -ℤ (r *ℤ r)) *ℤ (u *ℤ v)))) +ℤ (((((qx *ℤ qx) +ℤ (qy *ℤ qy)) +ℤ (qz *ℤ qz)) -ℤ (r *ℤ r)) *ℤ (v *ℤ v))) <ℤ (pos 0) → (((((u *ℤ px) +ℤ (v *ℤ qx)) *ℤ ((u *ℤ px) +ℤ (v *ℤ qx))) +ℤ (((u *ℤ py) +ℤ (v *ℤ qy)) *ℤ ((u *ℤ py) +ℤ (v *ℤ qy)))) +ℤ (((u *ℤ pz) +ℤ (v *ℤ qz)) *ℤ ((u *ℤ pz) +ℤ (v *ℤ qz)))) <ℤ ((r *ℤ r) *ℤ ((u +ℤ v) *ℤ (u +ℤ v)))
edge_near px py pz qx qy qz r u v h = prove_lt_by (px ∷ py ∷ pz ∷ qx ∷ qy ∷ qz ∷ r ∷ u ∷ v ∷ []) (Lt (Add (Add (Mul (Sub (Add (Add (Mul (Var 0) (Var 0)) (Mul (Var 1) (Var 1))) (Mul (Var 2) (Var 2))) (Mul (Var 6) (Var 6))) (Mul (Var 7) (Var 7))) (Mul (Num (pos 2)) (Mul (Sub (Add (Add (Mul (Var 0) (Var 3)) (Mul (Var 1) (Var 4))) (Mul (Var 2) (Var 5))) (Mul (Var 6) (Var 6))) (Mul (Var 7) (Var 8))))) (Mul (Sub (Add (Add (Mul (Var 3) (Var 3)) (Mul (Var 4) (Var 4))) (Mul (Var 5) (Var 5))) (Mul (Var 6) (Var 6))) (Mul (Var 8) (Var 8)))) (Num (pos 0)) ∷ []) (Add (Add (Mul (Add (Mul (Var 7) (Var 0)) (Mul (Var 8) (Var 3))) (Add (Mul (Var 7) (Var 0)) (Mul (Var 8) (Var 3)))) (Mul (Add (Mul (Var 7) (Var 1)) (Mul (Var 8) (Var 4))) (Add (Mul (Var 7) (Var 1)) (Mul (Var 8) (Var 4))))) (Mul (Add (Mul (Var 7) (Var 2)) (Mul (Var 8) (Var 5))) (Add (Mul (Var 7) (Var 2)) (Mul (Var 8) (Var 5))))) (Mul (Mul (Var 6) (Var 6)) (Mul (Add (Var 7) (Var 8)) (Add (Var 7) (Var 8)))) (Plus (Hyp 0) (Hyp 1)) 0 (h, tt) refl

-- vars px py pz qx qy qz r u v; hyp h: ((u*px+v*qx)*(u*px+v*qx)+(u*py+v*qy)*(u*py+v*qy))+(u*pz+v*qz)*(u*pz+v*qz) < (r*r)*((u+v)*(u+v)); hyp g: 0 <= ((px*px+py*py+pz*pz)-r*r)*(u*u)+2*(((px*qx+py*qy+pz*qz)-r*r)*(u*v))+((qx*qx+qy*qy+qz*qz)-r*r)*(v*v); goal false
pub edge_far : (px py pz qx qy qz r u v : ℤ) → (((((u *ℤ px) +ℤ (v *ℤ qx)) *ℤ ((u *ℤ px) +ℤ (v *ℤ qx))) +ℤ (((u *ℤ py) +ℤ (v *ℤ qy)) *ℤ ((u *ℤ py) +ℤ (v *ℤ qy)))) +ℤ (((u *ℤ pz) +ℤ (v *ℤ qz)) *ℤ ((u *ℤ pz) +ℤ (v *ℤ qz)))) <ℤ ((r *ℤ r) *ℤ ((u +ℤ v) *ℤ (u +ℤ v))) → (pos 0) ≤ℤ (((((((px *ℤ px) +ℤ (py *ℤ py)) +ℤ (pz *ℤ pz)) -ℤ (r *ℤ r)) *ℤ (u *ℤ u)) +ℤ ((pos 2) *ℤ (((((px *ℤ qx) +ℤ (py *ℤ qy)) +ℤ (pz *ℤ qz)) -ℤ (r *ℤ r)) *ℤ (u *ℤ v)))) +ℤ (((((qx *ℤ qx) +ℤ (qy *ℤ qy)) +ℤ (qz *ℤ qz)) -ℤ (r *ℤ r)) *ℤ (v *ℤ v))) → ⊥
edge_far px py pz qx qy qz r u v h g = refute (px ∷ py ∷ pz ∷ qx ∷ qy ∷ qz ∷ r ∷ u ∷ v ∷ []) (Lt (Add (Add (Mul (Add (Mul (Var 7) (Var 0)) (Mul (Var 8) (Var 3))) (Add (Mul (Var 7) (Var 0)) (Mul (Var 8) (Var 3)))) (Mul (Add (Mul (Var 7) (Var 1)) (Mul (Var 8) (Var 4))) (Add (Mul (Var 7) (Var 1)) (Mul (Var 8) (Var 4))))) (Mul (Add (Mul (Var 7) (Var 2)) (Mul (Var 8) (Var 5))) (Add (Mul (Var 7) (Var 2)) (Mul (Var 8) (Var 5))))) (Mul (Mul (Var 6) (Var 6)) (Mul (Add (Var 7) (Var 8)) (Add (Var 7) (Var 8)))) ∷ Le (Num (pos 0)) (Add (Add (Mul (Sub (Add (Add (Mul (Var 0) (Var 0)) (Mul (Var 1) (Var 1))) (Mul (Var 2) (Var 2))) (Mul (Var 6) (Var 6))) (Mul (Var 7) (Var 7))) (Mul (Num (pos 2)) (Mul (Sub (Add (Add (Mul (Var 0) (Var 3)) (Mul (Var 1) (Var 4))) (Mul (Var 2) (Var 5))) (Mul (Var 6) (Var 6))) (Mul (Var 7) (Var 8))))) (Mul (Sub (Add (Add (Mul (Var 3) (Var 3)) (Mul (Var 4) (Var 4))) (Mul (Var 5) (Var 5))) (Mul (Var 6) (Var 6))) (Mul (Var 8) (Var 8)))) ∷ []) (Plus (Hyp 0) (Hyp 1)) 0 (h, (g, tt)) refl

-- vars v w ax ay az bx by bz cx cy cz r; hyp h: ((((0*ax+v*bx)+w*cx)*((0*ax+v*bx)+w*cx)+((0*ay+v*by)+w*cy)*((0*ay+v*by)+w*cy))+((0*az+v*bz)+w*cz)*((0*az+v*bz)+w*cz))-((0*r+v*r)+w*r)*((0*r+v*r)+w*r) < 0; goal ((v*bx+w*cx)*(v*bx+w*cx)+(v*by+w*cy)*(v*by+w*cy))+(v*bz+w*cz)*(v*bz+w*cz) < (r*r)*((v+w)*(v+w))
pub rim_bc : (v w ax ay az bx by bz cx cy cz r : ℤ) → ((((((((pos 0) *ℤ ax) +ℤ (v *ℤ bx)) +ℤ (w *ℤ cx)) *ℤ ((((pos 0) *ℤ ax) +ℤ (v *ℤ bx)) +ℤ (w *ℤ cx))) +ℤ (((((pos 0) *ℤ ay) +ℤ (v *ℤ by)) +ℤ (w *ℤ cy)) *ℤ ((((pos 0) *ℤ ay) +ℤ (v *ℤ by)) +ℤ (w *ℤ cy)))) +ℤ (((((pos 0) *ℤ az) +ℤ (v *ℤ bz)) +ℤ (w *ℤ cz)) *ℤ ((((pos 0) *ℤ az) +ℤ (v *ℤ bz)) +ℤ (w *ℤ cz)))) -ℤ (((((pos 0) *ℤ r) +ℤ (v *ℤ r)) +ℤ (w *ℤ r)) *ℤ ((((pos 0) *ℤ r) +ℤ (v *ℤ r)) +ℤ (w *ℤ r)))) <ℤ (pos 0) → (((((v *ℤ bx) +ℤ (w *ℤ cx)) *ℤ ((v *ℤ bx) +ℤ (w *ℤ cx))) +ℤ (((v *ℤ by) +ℤ (w *ℤ cy)) *ℤ ((v *ℤ by) +ℤ (w *ℤ cy)))) +ℤ (((v *ℤ bz) +ℤ (w *ℤ cz)) *ℤ ((v *ℤ bz) +ℤ (w *ℤ cz)))) <ℤ ((r *ℤ r) *ℤ ((v +ℤ w) *ℤ (v +ℤ w)))
rim_bc v w ax ay az bx by bz cx cy cz r h = prove_lt_by (v ∷ w ∷ ax ∷ ay ∷ az ∷ bx ∷ by ∷ bz ∷ cx ∷ cy ∷ cz ∷ r ∷ []) (Lt (Sub (Add (Add (Mul (Add (Add (Mul (Num (pos 0)) (Var 2)) (Mul (Var 0) (Var 5))) (Mul (Var 1) (Var 8))) (Add (Add (Mul (Num (pos 0)) (Var 2)) (Mul (Var 0) (Var 5))) (Mul (Var 1) (Var 8)))) (Mul (Add (Add (Mul (Num (pos 0)) (Var 3)) (Mul (Var 0) (Var 6))) (Mul (Var 1) (Var 9))) (Add (Add (Mul (Num (pos 0)) (Var 3)) (Mul (Var 0) (Var 6))) (Mul (Var 1) (Var 9))))) (Mul (Add (Add (Mul (Num (pos 0)) (Var 4)) (Mul (Var 0) (Var 7))) (Mul (Var 1) (Var 10))) (Add (Add (Mul (Num (pos 0)) (Var 4)) (Mul (Var 0) (Var 7))) (Mul (Var 1) (Var 10))))) (Mul (Add (Add (Mul (Num (pos 0)) (Var 11)) (Mul (Var 0) (Var 11))) (Mul (Var 1) (Var 11))) (Add (Add (Mul (Num (pos 0)) (Var 11)) (Mul (Var 0) (Var 11))) (Mul (Var 1) (Var 11))))) (Num (pos 0)) ∷ []) (Add (Add (Mul (Add (Mul (Var 0) (Var 5)) (Mul (Var 1) (Var 8))) (Add (Mul (Var 0) (Var 5)) (Mul (Var 1) (Var 8)))) (Mul (Add (Mul (Var 0) (Var 6)) (Mul (Var 1) (Var 9))) (Add (Mul (Var 0) (Var 6)) (Mul (Var 1) (Var 9))))) (Mul (Add (Mul (Var 0) (Var 7)) (Mul (Var 1) (Var 10))) (Add (Mul (Var 0) (Var 7)) (Mul (Var 1) (Var 10))))) (Mul (Mul (Var 11) (Var 11)) (Mul (Add (Var 0) (Var 1)) (Add (Var 0) (Var 1)))) (Plus (Hyp 0) (Hyp 1)) 0 (h, tt) refl

-- vars u w ax ay az bx by bz cx cy cz r; hyp h: ((((u*ax+0*bx)+w*cx)*((u*ax+0*bx)+w*cx)+((u*ay+0*by)+w*cy)*((u*ay+0*by)+w*cy))+((u*az+0*bz)+w*cz)*((u*az+0*bz)+w*cz))-((u*r+0*r)+w*r)*((u*r+0*r)+w*r) < 0; goal ((w*cx+u*ax)*(w*cx+u*ax)+(w*cy+u*ay)*(w*cy+u*ay))+(w*cz+u*az)*(w*cz+u*az) < (r*r)*((w+u)*(w+u))
pub rim_ca : (u w ax ay az bx by bz cx cy cz r : ℤ) → (((((((u *ℤ ax) +ℤ ((pos 0) *ℤ bx)) +ℤ (w *ℤ cx)) *ℤ (((u *ℤ ax) +ℤ ((pos 0) *ℤ bx)) +ℤ (w *ℤ cx))) +ℤ ((((u *ℤ ay) +ℤ ((pos 0) *ℤ by)) +ℤ (w *ℤ cy)) *ℤ (((u *ℤ ay) +ℤ ((pos 0) *ℤ by)) +ℤ (w *ℤ cy)))) +ℤ ((((u *ℤ az) +ℤ ((pos 0) *ℤ bz)) +ℤ (w *ℤ cz)) *ℤ (((u *ℤ az) +ℤ ((pos 0) *ℤ bz)) +ℤ (w *ℤ cz)))) -ℤ ((((u *ℤ r) +ℤ ((pos 0) *ℤ r)) +ℤ (w *ℤ r)) *ℤ (((u *ℤ r) +ℤ ((pos 0) *ℤ r)) +ℤ (w *ℤ r)))) <ℤ (pos 0) → (((((w *ℤ cx) +ℤ (u *ℤ ax)) *ℤ ((w *ℤ cx) +ℤ (u *ℤ ax))) +ℤ (((w *ℤ cy) +ℤ (u *ℤ ay)) *ℤ ((w *ℤ cy) +ℤ (u *ℤ ay)))) +ℤ (((w *ℤ cz) +ℤ (u *ℤ az)) *ℤ ((w *ℤ cz) +ℤ (u *ℤ az)))) <ℤ ((r *ℤ r) *ℤ ((w +ℤ u) *ℤ (w +ℤ u)))
rim_ca u w ax ay az bx by bz cx cy cz r h = prove_lt_by (u ∷ w ∷ ax ∷ ay ∷ az ∷ bx ∷ by ∷ bz ∷ cx ∷ cy ∷ cz ∷ r ∷ []) (Lt (Sub (Add (Add (Mul (Add (Add (Mul (Var 0) (Var 2)) (Mul (Num (pos 0)) (Var 5))) (Mul (Var 1) (Var 8))) (Add (Add (Mul (Var 0) (Var 2)) (Mul (Num (pos 0)) (Var 5))) (Mul (Var 1) (Var 8)))) (Mul (Add (Add (Mul (Var 0) (Var 3)) (Mul (Num (pos 0)) (Var 6))) (Mul (Var 1) (Var 9))) (Add (Add (Mul (Var 0) (Var 3)) (Mul (Num (pos 0)) (Var 6))) (Mul (Var 1) (Var 9))))) (Mul (Add (Add (Mul (Var 0) (Var 4)) (Mul (Num (pos 0)) (Var 7))) (Mul (Var 1) (Var 10))) (Add (Add (Mul (Var 0) (Var 4)) (Mul (Num (pos 0)) (Var 7))) (Mul (Var 1) (Var 10))))) (Mul (Add (Add (Mul (Var 0) (Var 11)) (Mul (Num (pos 0)) (Var 11))) (Mul (Var 1) (Var 11))) (Add (Add (Mul (Var 0) (Var 11)) (Mul (Num (pos 0)) (Var 11))) (Mul (Var 1) (Var 11))))) (Num (pos 0)) ∷ []) (Add (Add (Mul (Add (Mul (Var 1) (Var 8)) (Mul (Var 0) (Var 2))) (Add (Mul (Var 1) (Var 8)) (Mul (Var 0) (Var 2)))) (Mul (Add (Mul (Var 1) (Var 9)) (Mul (Var 0) (Var 3))) (Add (Mul (Var 1) (Var 9)) (Mul (Var 0) (Var 3))))) (Mul (Add (Mul (Var 1) (Var 10)) (Mul (Var 0) (Var 4))) (Add (Mul (Var 1) (Var 10)) (Mul (Var 0) (Var 4))))) (Mul (Mul (Var 11) (Var 11)) (Mul (Add (Var 1) (Var 0)) (Add (Var 1) (Var 0)))) (Plus (Hyp 0) (Hyp 1)) 0 (h, tt) refl

-- vars u v ax ay az bx by bz cx cy cz r; hyp h: ((((u*ax+v*bx)+0*cx)*((u*ax+v*bx)+0*cx)+((u*ay+v*by)+0*cy)*((u*ay+v*by)+0*cy))+((u*az+v*bz)+0*cz)*((u*az+v*bz)+0*cz))-((u*r+v*r)+0*r)*((u*r+v*r)+0*r) < 0; goal ((u*ax+v*bx)*(u*ax+v*bx)+(u*ay+v*by)*(u*ay+v*by))+(u*az+v*bz)*(u*az+v*bz) < (r*r)*((u+v)*(u+v))
pub rim_ab : (u v ax ay az bx by bz cx cy cz r : ℤ) → (((((((u *ℤ ax) +ℤ (v *ℤ bx)) +ℤ ((pos 0) *ℤ cx)) *ℤ (((u *ℤ ax) +ℤ (v *ℤ bx)) +ℤ ((pos 0) *ℤ cx))) +ℤ ((((u *ℤ ay) +ℤ (v *ℤ by)) +ℤ ((pos 0) *ℤ cy)) *ℤ (((u *ℤ ay) +ℤ (v *ℤ by)) +ℤ ((pos 0) *ℤ cy)))) +ℤ ((((u *ℤ az) +ℤ (v *ℤ bz)) +ℤ ((pos 0) *ℤ cz)) *ℤ (((u *ℤ az) +ℤ (v *ℤ bz)) +ℤ ((pos 0) *ℤ cz)))) -ℤ ((((u *ℤ r) +ℤ (v *ℤ r)) +ℤ ((pos 0) *ℤ r)) *ℤ (((u *ℤ r) +ℤ (v *ℤ r)) +ℤ ((pos 0) *ℤ r)))) <ℤ (pos 0) → (((((u *ℤ ax) +ℤ (v *ℤ bx)) *ℤ ((u *ℤ ax) +ℤ (v *ℤ bx))) +ℤ (((u *ℤ ay) +ℤ (v *ℤ by)) *ℤ ((u *ℤ ay) +ℤ (v *ℤ by)))) +ℤ (((u *ℤ az) +ℤ (v *ℤ bz)) *ℤ ((u *ℤ az) +ℤ (v *ℤ bz)))) <ℤ ((r *ℤ r) *ℤ ((u +ℤ v) *ℤ (u +ℤ v)))
rim_ab u v ax ay az bx by bz cx cy cz r h = prove_lt_by (u ∷ v ∷ ax ∷ ay ∷ az ∷ bx ∷ by ∷ bz ∷ cx ∷ cy ∷ cz ∷ r ∷ []) (Lt (Sub (Add (Add (Mul (Add (Add (Mul (Var 0) (Var 2)) (Mul (Var 1) (Var 5))) (Mul (Num (pos 0)) (Var 8))) (Add (Add (Mul (Var 0) (Var 2)) (Mul (Var 1) (Var 5))) (Mul (Num (pos 0)) (Var 8)))) (Mul (Add (Add (Mul (Var 0) (Var 3)) (Mul (Var 1) (Var 6))) (Mul (Num (pos 0)) (Var 9))) (Add (Add (Mul (Var 0) (Var 3)) (Mul (Var 1) (Var 6))) (Mul (Num (pos 0)) (Var 9))))) (Mul (Add (Add (Mul (Var 0) (Var 4)) (Mul (Var 1) (Var 7))) (Mul (Num (pos 0)) (Var 10))) (Add (Add (Mul (Var 0) (Var 4)) (Mul (Var 1) (Var 7))) (Mul (Num (pos 0)) (Var 10))))) (Mul (Add (Add (Mul (Var 0) (Var 11)) (Mul (Var 1) (Var 11))) (Mul (Num (pos 0)) (Var 11))) (Add (Add (Mul (Var 0) (Var 11)) (Mul (Var 1) (Var 11))) (Mul (Num (pos 0)) (Var 11))))) (Num (pos 0)) ∷ []) (Add (Add (Mul (Add (Mul (Var 0) (Var 2)) (Mul (Var 1) (Var 5))) (Add (Mul (Var 0) (Var 2)) (Mul (Var 1) (Var 5)))) (Mul (Add (Mul (Var 0) (Var 3)) (Mul (Var 1) (Var 6))) (Add (Mul (Var 0) (Var 3)) (Mul (Var 1) (Var 6))))) (Mul (Add (Mul (Var 0) (Var 4)) (Mul (Var 1) (Var 7))) (Add (Mul (Var 0) (Var 4)) (Mul (Var 1) (Var 7))))) (Mul (Mul (Var 11) (Var 11)) (Mul (Add (Var 0) (Var 1)) (Add (Var 0) (Var 1)))) (Plus (Hyp 0) (Hyp 1)) 0 (h, tt) refl

-- vars x y z u v w r; hyp h: (x*x+y*y)+z*z < (r*r)*(((u+v)+w)*((u+v)+w)); goal ((x*x+y*y)+z*z)-((u*r+v*r)+w*r)*((u*r+v*r)+w*r) < 0
pub to_form : (x y z u v w r : ℤ) → (((x *ℤ x) +ℤ (y *ℤ y)) +ℤ (z *ℤ z)) <ℤ ((r *ℤ r) *ℤ (((u +ℤ v) +ℤ w) *ℤ ((u +ℤ v) +ℤ w))) → ((((x *ℤ x) +ℤ (y *ℤ y)) +ℤ (z *ℤ z)) -ℤ ((((u *ℤ r) +ℤ (v *ℤ r)) +ℤ (w *ℤ r)) *ℤ (((u *ℤ r) +ℤ (v *ℤ r)) +ℤ (w *ℤ r)))) <ℤ (pos 0)
to_form x y z u v w r h = prove_lt_by (x ∷ y ∷ z ∷ u ∷ v ∷ w ∷ r ∷ []) (Lt (Add (Add (Mul (Var 0) (Var 0)) (Mul (Var 1) (Var 1))) (Mul (Var 2) (Var 2))) (Mul (Mul (Var 6) (Var 6)) (Mul (Add (Add (Var 3) (Var 4)) (Var 5)) (Add (Add (Var 3) (Var 4)) (Var 5)))) ∷ []) (Sub (Add (Add (Mul (Var 0) (Var 0)) (Mul (Var 1) (Var 1))) (Mul (Var 2) (Var 2))) (Mul (Add (Add (Mul (Var 3) (Var 6)) (Mul (Var 4) (Var 6))) (Mul (Var 5) (Var 6))) (Add (Add (Mul (Var 3) (Var 6)) (Mul (Var 4) (Var 6))) (Mul (Var 5) (Var 6))))) (Num (pos 0)) (Plus (Hyp 0) (Hyp 1)) 0 (h, tt) refl

-- vars x y z u v w r; hyp h: ((x*x+y*y)+z*z)-((u*r+v*r)+w*r)*((u*r+v*r)+w*r) < 0; goal (x*x+y*y)+z*z < (r*r)*(((u+v)+w)*((u+v)+w))
pub from_form : (x y z u v w r : ℤ) → ((((x *ℤ x) +ℤ (y *ℤ y)) +ℤ (z *ℤ z)) -ℤ ((((u *ℤ r) +ℤ (v *ℤ r)) +ℤ (w *ℤ r)) *ℤ (((u *ℤ r) +ℤ (v *ℤ r)) +ℤ (w *ℤ r)))) <ℤ (pos 0) → (((x *ℤ x) +ℤ (y *ℤ y)) +ℤ (z *ℤ z)) <ℤ ((r *ℤ r) *ℤ (((u +ℤ v) +ℤ w) *ℤ ((u +ℤ v) +ℤ w)))
from_form x y z u v w r h = prove_lt_by (x ∷ y ∷ z ∷ u ∷ v ∷ w ∷ r ∷ []) (Lt (Sub (Add (Add (Mul (Var 0) (Var 0)) (Mul (Var 1) (Var 1))) (Mul (Var 2) (Var 2))) (Mul (Add (Add (Mul (Var 3) (Var 6)) (Mul (Var 4) (Var 6))) (Mul (Var 5) (Var 6))) (Add (Add (Mul (Var 3) (Var 6)) (Mul (Var 4) (Var 6))) (Mul (Var 5) (Var 6))))) (Num (pos 0)) ∷ []) (Add (Add (Mul (Var 0) (Var 0)) (Mul (Var 1) (Var 1))) (Mul (Var 2) (Var 2))) (Mul (Mul (Var 6) (Var 6)) (Mul (Add (Add (Var 3) (Var 4)) (Var 5)) (Add (Add (Var 3) (Var 4)) (Var 5)))) (Plus (Hyp 0) (Hyp 1)) 0 (h, tt) refl

-- vars u v ax ay az bx by bz cx cy cz r; hyp h: ((u*ax+v*bx)*(u*ax+v*bx)+(u*ay+v*by)*(u*ay+v*by))+(u*az+v*bz)*(u*az+v*bz) < (r*r)*((u+v)*(u+v)); goal (((u*ax+v*bx)+0*cx)*((u*ax+v*bx)+0*cx)+((u*ay+v*by)+0*cy)*((u*ay+v*by)+0*cy))+((u*az+v*bz)+0*cz)*((u*az+v*bz)+0*cz) < (r*r)*(((u+v)+0)*((u+v)+0))
pub spot_ab : (u v ax ay az bx by bz cx cy cz r : ℤ) → (((((u *ℤ ax) +ℤ (v *ℤ bx)) *ℤ ((u *ℤ ax) +ℤ (v *ℤ bx))) +ℤ (((u *ℤ ay) +ℤ (v *ℤ by)) *ℤ ((u *ℤ ay) +ℤ (v *ℤ by)))) +ℤ (((u *ℤ az) +ℤ (v *ℤ bz)) *ℤ ((u *ℤ az) +ℤ (v *ℤ bz)))) <ℤ ((r *ℤ r) *ℤ ((u +ℤ v) *ℤ (u +ℤ v))) → ((((((u *ℤ ax) +ℤ (v *ℤ bx)) +ℤ ((pos 0) *ℤ cx)) *ℤ (((u *ℤ ax) +ℤ (v *ℤ bx)) +ℤ ((pos 0) *ℤ cx))) +ℤ ((((u *ℤ ay) +ℤ (v *ℤ by)) +ℤ ((pos 0) *ℤ cy)) *ℤ (((u *ℤ ay) +ℤ (v *ℤ by)) +ℤ ((pos 0) *ℤ cy)))) +ℤ ((((u *ℤ az) +ℤ (v *ℤ bz)) +ℤ ((pos 0) *ℤ cz)) *ℤ (((u *ℤ az) +ℤ (v *ℤ bz)) +ℤ ((pos 0) *ℤ cz)))) <ℤ ((r *ℤ r) *ℤ (((u +ℤ v) +ℤ (pos 0)) *ℤ ((u +ℤ v) +ℤ (pos 0))))
spot_ab u v ax ay az bx by bz cx cy cz r h = prove_lt_by (u ∷ v ∷ ax ∷ ay ∷ az ∷ bx ∷ by ∷ bz ∷ cx ∷ cy ∷ cz ∷ r ∷ []) (Lt (Add (Add (Mul (Add (Mul (Var 0) (Var 2)) (Mul (Var 1) (Var 5))) (Add (Mul (Var 0) (Var 2)) (Mul (Var 1) (Var 5)))) (Mul (Add (Mul (Var 0) (Var 3)) (Mul (Var 1) (Var 6))) (Add (Mul (Var 0) (Var 3)) (Mul (Var 1) (Var 6))))) (Mul (Add (Mul (Var 0) (Var 4)) (Mul (Var 1) (Var 7))) (Add (Mul (Var 0) (Var 4)) (Mul (Var 1) (Var 7))))) (Mul (Mul (Var 11) (Var 11)) (Mul (Add (Var 0) (Var 1)) (Add (Var 0) (Var 1)))) ∷ []) (Add (Add (Mul (Add (Add (Mul (Var 0) (Var 2)) (Mul (Var 1) (Var 5))) (Mul (Num (pos 0)) (Var 8))) (Add (Add (Mul (Var 0) (Var 2)) (Mul (Var 1) (Var 5))) (Mul (Num (pos 0)) (Var 8)))) (Mul (Add (Add (Mul (Var 0) (Var 3)) (Mul (Var 1) (Var 6))) (Mul (Num (pos 0)) (Var 9))) (Add (Add (Mul (Var 0) (Var 3)) (Mul (Var 1) (Var 6))) (Mul (Num (pos 0)) (Var 9))))) (Mul (Add (Add (Mul (Var 0) (Var 4)) (Mul (Var 1) (Var 7))) (Mul (Num (pos 0)) (Var 10))) (Add (Add (Mul (Var 0) (Var 4)) (Mul (Var 1) (Var 7))) (Mul (Num (pos 0)) (Var 10))))) (Mul (Mul (Var 11) (Var 11)) (Mul (Add (Add (Var 0) (Var 1)) (Num (pos 0))) (Add (Add (Var 0) (Var 1)) (Num (pos 0))))) (Plus (Hyp 0) (Hyp 1)) 0 (h, tt) refl

-- vars u v ax ay az bx by bz cx cy cz r; hyp h: ((u*bx+v*cx)*(u*bx+v*cx)+(u*by+v*cy)*(u*by+v*cy))+(u*bz+v*cz)*(u*bz+v*cz) < (r*r)*((u+v)*(u+v)); goal (((0*ax+u*bx)+v*cx)*((0*ax+u*bx)+v*cx)+((0*ay+u*by)+v*cy)*((0*ay+u*by)+v*cy))+((0*az+u*bz)+v*cz)*((0*az+u*bz)+v*cz) < (r*r)*(((0+u)+v)*((0+u)+v))
pub spot_bc : (u v ax ay az bx by bz cx cy cz r : ℤ) → (((((u *ℤ bx) +ℤ (v *ℤ cx)) *ℤ ((u *ℤ bx) +ℤ (v *ℤ cx))) +ℤ (((u *ℤ by) +ℤ (v *ℤ cy)) *ℤ ((u *ℤ by) +ℤ (v *ℤ cy)))) +ℤ (((u *ℤ bz) +ℤ (v *ℤ cz)) *ℤ ((u *ℤ bz) +ℤ (v *ℤ cz)))) <ℤ ((r *ℤ r) *ℤ ((u +ℤ v) *ℤ (u +ℤ v))) → (((((((pos 0) *ℤ ax) +ℤ (u *ℤ bx)) +ℤ (v *ℤ cx)) *ℤ ((((pos 0) *ℤ ax) +ℤ (u *ℤ bx)) +ℤ (v *ℤ cx))) +ℤ (((((pos 0) *ℤ ay) +ℤ (u *ℤ by)) +ℤ (v *ℤ cy)) *ℤ ((((pos 0) *ℤ ay) +ℤ (u *ℤ by)) +ℤ (v *ℤ cy)))) +ℤ (((((pos 0) *ℤ az) +ℤ (u *ℤ bz)) +ℤ (v *ℤ cz)) *ℤ ((((pos 0) *ℤ az) +ℤ (u *ℤ bz)) +ℤ (v *ℤ cz)))) <ℤ ((r *ℤ r) *ℤ ((((pos 0) +ℤ u) +ℤ v) *ℤ (((pos 0) +ℤ u) +ℤ v)))
spot_bc u v ax ay az bx by bz cx cy cz r h = prove_lt_by (u ∷ v ∷ ax ∷ ay ∷ az ∷ bx ∷ by ∷ bz ∷ cx ∷ cy ∷ cz ∷ r ∷ []) (Lt (Add (Add (Mul (Add (Mul (Var 0) (Var 5)) (Mul (Var 1) (Var 8))) (Add (Mul (Var 0) (Var 5)) (Mul (Var 1) (Var 8)))) (Mul (Add (Mul (Var 0) (Var 6)) (Mul (Var 1) (Var 9))) (Add (Mul (Var 0) (Var 6)) (Mul (Var 1) (Var 9))))) (Mul (Add (Mul (Var 0) (Var 7)) (Mul (Var 1) (Var 10))) (Add (Mul (Var 0) (Var 7)) (Mul (Var 1) (Var 10))))) (Mul (Mul (Var 11) (Var 11)) (Mul (Add (Var 0) (Var 1)) (Add (Var 0) (Var 1)))) ∷ []) (Add (Add (Mul (Add (Add (Mul (Num (pos 0)) (Var 2)) (Mul (Var 0) (Var 5))) (Mul (Var 1) (Var 8))) (Add (Add (Mul (Num (pos 0)) (Var 2)) (Mul (Var 0) (Var 5))) (Mul (Var 1) (Var 8)))) (Mul (Add (Add (Mul (Num (pos 0)) (Var 3)) (Mul (Var 0) (Var 6))) (Mul (Var 1) (Var 9))) (Add (Add (Mul (Num (pos 0)) (Var 3)) (Mul (Var 0) (Var 6))) (Mul (Var 1) (Var 9))))) (Mul (Add (Add (Mul (Num (pos 0)) (Var 4)) (Mul (Var 0) (Var 7))) (Mul (Var 1) (Var 10))) (Add (Add (Mul (Num (pos 0)) (Var 4)) (Mul (Var 0) (Var 7))) (Mul (Var 1) (Var 10))))) (Mul (Mul (Var 11) (Var 11)) (Mul (Add (Add (Num (pos 0)) (Var 0)) (Var 1)) (Add (Add (Num (pos 0)) (Var 0)) (Var 1)))) (Plus (Hyp 0) (Hyp 1)) 0 (h, tt) refl

-- vars u v ax ay az bx by bz cx cy cz r; hyp h: ((u*cx+v*ax)*(u*cx+v*ax)+(u*cy+v*ay)*(u*cy+v*ay))+(u*cz+v*az)*(u*cz+v*az) < (r*r)*((u+v)*(u+v)); goal (((v*ax+0*bx)+u*cx)*((v*ax+0*bx)+u*cx)+((v*ay+0*by)+u*cy)*((v*ay+0*by)+u*cy))+((v*az+0*bz)+u*cz)*((v*az+0*bz)+u*cz) < (r*r)*(((v+0)+u)*((v+0)+u))
pub spot_ca : (u v ax ay az bx by bz cx cy cz r : ℤ) → (((((u *ℤ cx) +ℤ (v *ℤ ax)) *ℤ ((u *ℤ cx) +ℤ (v *ℤ ax))) +ℤ (((u *ℤ cy) +ℤ (v *ℤ ay)) *ℤ ((u *ℤ cy) +ℤ (v *ℤ ay)))) +ℤ (((u *ℤ cz) +ℤ (v *ℤ az)) *ℤ ((u *ℤ cz) +ℤ (v *ℤ az)))) <ℤ ((r *ℤ r) *ℤ ((u +ℤ v) *ℤ (u +ℤ v))) → ((((((v *ℤ ax) +ℤ ((pos 0) *ℤ bx)) +ℤ (u *ℤ cx)) *ℤ (((v *ℤ ax) +ℤ ((pos 0) *ℤ bx)) +ℤ (u *ℤ cx))) +ℤ ((((v *ℤ ay) +ℤ ((pos 0) *ℤ by)) +ℤ (u *ℤ cy)) *ℤ (((v *ℤ ay) +ℤ ((pos 0) *ℤ by)) +ℤ (u *ℤ cy)))) +ℤ ((((v *ℤ az) +ℤ ((pos 0) *ℤ bz)) +ℤ (u *ℤ cz)) *ℤ (((v *ℤ az) +ℤ ((pos 0) *ℤ bz)) +ℤ (u *ℤ cz)))) <ℤ ((r *ℤ r) *ℤ (((v +ℤ (pos 0)) +ℤ u) *ℤ ((v +ℤ (pos 0)) +ℤ u)))
spot_ca u v ax ay az bx by bz cx cy cz r h = prove_lt_by (u ∷ v ∷ ax ∷ ay ∷ az ∷ bx ∷ by ∷ bz ∷ cx ∷ cy ∷ cz ∷ r ∷ []) (Lt (Add (Add (Mul (Add (Mul (Var 0) (Var 8)) (Mul (Var 1) (Var 2))) (Add (Mul (Var 0) (Var 8)) (Mul (Var 1) (Var 2)))) (Mul (Add (Mul (Var 0) (Var 9)) (Mul (Var 1) (Var 3))) (Add (Mul (Var 0) (Var 9)) (Mul (Var 1) (Var 3))))) (Mul (Add (Mul (Var 0) (Var 10)) (Mul (Var 1) (Var 4))) (Add (Mul (Var 0) (Var 10)) (Mul (Var 1) (Var 4))))) (Mul (Mul (Var 11) (Var 11)) (Mul (Add (Var 0) (Var 1)) (Add (Var 0) (Var 1)))) ∷ []) (Add (Add (Mul (Add (Add (Mul (Var 1) (Var 2)) (Mul (Num (pos 0)) (Var 5))) (Mul (Var 0) (Var 8))) (Add (Add (Mul (Var 1) (Var 2)) (Mul (Num (pos 0)) (Var 5))) (Mul (Var 0) (Var 8)))) (Mul (Add (Add (Mul (Var 1) (Var 3)) (Mul (Num (pos 0)) (Var 6))) (Mul (Var 0) (Var 9))) (Add (Add (Mul (Var 1) (Var 3)) (Mul (Num (pos 0)) (Var 6))) (Mul (Var 0) (Var 9))))) (Mul (Add (Add (Mul (Var 1) (Var 4)) (Mul (Num (pos 0)) (Var 7))) (Mul (Var 0) (Var 10))) (Add (Add (Mul (Var 1) (Var 4)) (Mul (Num (pos 0)) (Var 7))) (Mul (Var 0) (Var 10))))) (Mul (Mul (Var 11) (Var 11)) (Mul (Add (Add (Var 1) (Num (pos 0))) (Var 0)) (Add (Add (Var 1) (Num (pos 0))) (Var 0)))) (Plus (Hyp 0) (Hyp 1)) 0 (h, tt) refl
