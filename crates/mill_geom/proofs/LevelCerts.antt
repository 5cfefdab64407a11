-- Polynomial facts behind the line in which a plane meets the level.
-- Written by tools/certificates.py from tools/certificates/mill_geom_level.spec.
use Rattle.std.proofs.Common.{◌≡◌, [], ◌∷◌, refl}
use lib.IntN.{ℤ, pos, negsuc, ◌+ℤ◌, ◌-ℤ◌, ◌*ℤ◌}
use lib.Signed.{◌<ℤ◌, ◌≤ℤ◌}
use Rattle.mill_base.proofs.Ring.{Var, Num, Add, Sub, Mul, Neg, ring}
use Rattle.mill_base.proofs.Cert.{Le, Lt, Eq, Hyp, TimesEq, Sq, Lit, Plus, Times, refute, prove_le_by, prove_lt_by}

-- vars X Y u v w r; hyp h: X*X+Y*Y < (r*r)*(((u+v)+w)*((u+v)+w)); goal X*X+Y*Y < ((u*r+v*r)+w*r)*((u*r+v*r)+w*r)
pub near_to : (X Y u v w r : ℤ) → ((X *ℤ X) +ℤ (Y *ℤ Y)) <ℤ ((r *ℤ r) *ℤ (((u +ℤ v) +ℤ w) *ℤ ((u +ℤ v) +ℤ w))) → ((X *ℤ X) +ℤ (Y *ℤ Y)) <ℤ ((((u *ℤ r) +ℤ (v *ℤ r)) +ℤ (w *ℤ r)) *ℤ (((u *ℤ r) +ℤ (v *ℤ r)) +ℤ (w *ℤ r)))
near_to X Y u v w r h = prove_lt_by (X ∷ Y ∷ u ∷ v ∷ w ∷ r ∷ []) (Lt (Add (Mul (Var 0) (Var 0)) (Mul (Var 1) (Var 1))) (Mul (Mul (Var 5) (Var 5)) (Mul (Add (Add (Var 2) (Var 3)) (Var 4)) (Add (Add (Var 2) (Var 3)) (Var 4)))) ∷ []) (Add (Mul (Var 0) (Var 0)) (Mul (Var 1) (Var 1))) (Mul (Add (Add (Mul (Var 2) (Var 5)) (Mul (Var 3) (Var 5))) (Mul (Var 4) (Var 5))) (Add (Add (Mul (Var 2) (Var 5)) (Mul (Var 3) (Var 5))) (Mul (Var 4) (Var 5)))) (Plus (Hyp 0) (Hyp 1)) 0 (h, tt) refl

-- vars X Y x y N u v w r; hyp ex: X == x; hyp ey: Y == y; hyp en: N == (u*r+v*r)+w*r; hyp h: x*x+y*y < N*N; goal X*X+Y*Y < (r*r)*(((u+v)+w)*((u+v)+w)); eqmul ex * (x+X); eqmul ey * (y+Y); eqmul en * (N+((u*r+v*r)+w*r))
pub near_from : (X Y x y N u v w r : ℤ) → X ≡ x → Y ≡ y → N ≡ (((u *ℤ r) +ℤ (v *ℤ r)) +ℤ (w *ℤ r)) → ((x *ℤ x) +ℤ (y *ℤ y)) <ℤ (N *ℤ N) → ((X *ℤ X) +ℤ (Y *ℤ Y)) <ℤ ((r *ℤ r) *ℤ (((u +ℤ v) +ℤ w) *ℤ ((u +ℤ v) +ℤ w)))
near_from X Y x y N u v w r ex ey en h = prove_lt_by (X ∷ Y ∷ x ∷ y ∷ N ∷ u ∷ v ∷ w ∷ r ∷ []) (Eq (Var 0) (Var 2) ∷ Eq (Var 1) (Var 3) ∷ Eq (Var 4) (Add (Add (Mul (Var 5) (Var 8)) (Mul (Var 6) (Var 8))) (Mul (Var 7) (Var 8))) ∷ Lt (Add (Mul (Var 2) (Var 2)) (Mul (Var 3) (Var 3))) (Mul (Var 4) (Var 4)) ∷ []) (Add (Mul (Var 0) (Var 0)) (Mul (Var 1) (Var 1))) (Mul (Mul (Var 8) (Var 8)) (Mul (Add (Add (Var 5) (Var 6)) (Var 7)) (Add (Add (Var 5) (Var 6)) (Var 7)))) (Plus (Hyp 0) (Plus (Hyp 4) (Plus (TimesEq 1 (Add (Var 2) (Var 0))) (Plus (TimesEq 2 (Add (Var 3) (Var 1))) (TimesEq 3 (Add (Var 4) (Add (Add (Mul (Var 5) (Var 8)) (Mul (Var 6) (Var 8))) (Mul (Var 7) (Var 8))))))))) 0 (ex, (ey, (en, (h, tt)))) refl

-- vars X Y x y N v w r; hyp ex: X == x; hyp ey: Y == y; hyp en: N == v*r+w*r; hyp h: x*x+y*y < N*N; goal X*X+Y*Y < (r*r)*((v+w)*(v+w)); eqmul ex * (x+X); eqmul ey * (y+Y); eqmul en * (N+(v*r+w*r))
pub near_pair : (X Y x y N v w r : ℤ) → X ≡ x → Y ≡ y → N ≡ ((v *ℤ r) +ℤ (w *ℤ r)) → ((x *ℤ x) +ℤ (y *ℤ y)) <ℤ (N *ℤ N) → ((X *ℤ X) +ℤ (Y *ℤ Y)) <ℤ ((r *ℤ r) *ℤ ((v +ℤ w) *ℤ (v +ℤ w)))
near_pair X Y x y N v w r ex ey en h = prove_lt_by (X ∷ Y ∷ x ∷ y ∷ N ∷ v ∷ w ∷ r ∷ []) (Eq (Var 0) (Var 2) ∷ Eq (Var 1) (Var 3) ∷ Eq (Var 4) (Add (Mul (Var 5) (Var 7)) (Mul (Var 6) (Var 7))) ∷ Lt (Add (Mul (Var 2) (Var 2)) (Mul (Var 3) (Var 3))) (Mul (Var 4) (Var 4)) ∷ []) (Add (Mul (Var 0) (Var 0)) (Mul (Var 1) (Var 1))) (Mul (Mul (Var 7) (Var 7)) (Mul (Add (Var 5) (Var 6)) (Add (Var 5) (Var 6)))) (Plus (Hyp 0) (Plus (Hyp 4) (Plus (TimesEq 1 (Add (Var 2) (Var 0))) (Plus (TimesEq 2 (Add (Var 3) (Var 1))) (TimesEq 3 (Add (Var 4) (Add (Mul (Var 5) (Var 7)) (Mul (Var 6) (Var 7))))))))) 0 (ex, (ey, (en, (h, tt)))) refl

-- vars X Y S x y s r; hyp ex: X == x; hyp ey: Y == y; hyp es: S == s; hyp h: x*x+y*y < (r*r)*(s*s); goal X*X+Y*Y < (r*r)*(S*S); eqmul ex * (x+X); eqmul ey * (y+Y); eqmul es * (r*r*(s+S))
pub near_same : (X Y S x y s r : ℤ) → X ≡ x → Y ≡ y → S ≡ s → ((x *ℤ x) +ℤ (y *ℤ y)) <ℤ ((r *ℤ r) *ℤ (s *ℤ s)) → ((X *ℤ X) +ℤ (Y *ℤ Y)) <ℤ ((r *ℤ r) *ℤ (S *ℤ S))
near_same X Y S x y s r ex ey es h = prove_lt_by (X ∷ Y ∷ S ∷ x ∷ y ∷ s ∷ r ∷ []) (Eq (Var 0) (Var 3) ∷ Eq (Var 1) (Var 4) ∷ Eq (Var 2) (Var 5) ∷ Lt (Add (Mul (Var 3) (Var 3)) (Mul (Var 4) (Var 4))) (Mul (Mul (Var 6) (Var 6)) (Mul (Var 5) (Var 5))) ∷ []) (Add (Mul (Var 0) (Var 0)) (Mul (Var 1) (Var 1))) (Mul (Mul (Var 6) (Var 6)) (Mul (Var 2) (Var 2))) (Plus (Hyp 0) (Plus (Hyp 4) (Plus (TimesEq 1 (Add (Var 3) (Var 0))) (Plus (TimesEq 2 (Add (Var 4) (Var 1))) (TimesEq 3 (Neg (Mul (Mul (Var 6) (Var 6)) (Add (Var 5) (Var 2))))))))) 0 (ex, (ey, (es, (h, tt)))) refl

-- vars u v w r; hyp hu: 0 <= u; hyp hv: 0 <= v; hyp hw: 0 <= w; hyp hr: 0 < r; goal 0 <= (u*r+v*r)+w*r; mul hu * hr; mul hv * hr; mul hw * hr
pub time_ok : (u v w r : ℤ) → (pos 0) ≤ℤ u → (pos 0) ≤ℤ v → (pos 0) ≤ℤ w → (pos 0) <ℤ r → (pos 0) ≤ℤ (((u *ℤ r) +ℤ (v *ℤ r)) +ℤ (w *ℤ r))
time_ok u v w r hu hv hw hr = prove_le_by (u ∷ v ∷ w ∷ r ∷ []) (Le (Num (pos 0)) (Var 0) ∷ Le (Num (pos 0)) (Var 1) ∷ Le (Num (pos 0)) (Var 2) ∷ Lt (Num (pos 0)) (Var 3) ∷ []) (Num (pos 0)) (Add (Add (Mul (Var 0) (Var 3)) (Mul (Var 1) (Var 3))) (Mul (Var 2) (Var 3))) (Plus (Hyp 0) (Plus (Hyp 1) (Plus (Hyp 2) (Plus (Hyp 3) (Plus (Times (Hyp 1) (Hyp 4)) (Plus (Times (Hyp 2) (Hyp 4)) (Times (Hyp 3) (Hyp 4)))))))) 0 (hu, (hv, (hw, (hr, tt)))) refl

-- vars x y s r; hyp hs: 0 <= s; hyp h: x*x+y*y < (r*r)*(s*s); goal 0 < s; square x; square y; mul goal * hs * sq(r)
pub some_of : (x y s r : ℤ) → (pos 0) ≤ℤ s → ((x *ℤ x) +ℤ (y *ℤ y)) <ℤ ((r *ℤ r) *ℤ (s *ℤ s)) → (pos 0) <ℤ s
some_of x y s r hs h = prove_lt_by (x ∷ y ∷ s ∷ r ∷ []) (Le (Num (pos 0)) (Var 2) ∷ Lt (Add (Mul (Var 0) (Var 0)) (Mul (Var 1) (Var 1))) (Mul (Mul (Var 3) (Var 3)) (Mul (Var 2) (Var 2))) ∷ []) (Num (pos 0)) (Var 2) (Plus (Hyp 2) (Plus (Sq (Var 0)) (Plus (Sq (Var 1)) (Times (Times (Hyp 0) (Hyp 1)) (Sq (Var 3)))))) 0 (hs, (h, tt)) refl

-- vars i j k x y z r; hyp hi: 0 <= i; hyp hj: 0 <= j; hyp hk: 0 <= k; hyp hr: 0 < r; hyp hs: 0 < (i+j)+k; goal 0 < (i*r+j*r)+k*r; mul hs * hr; mul hs+ * hr+; mul hi * hr; mul hj * hr; mul hk * hr
pub pierced_time : (i j k x y z r : ℤ) → (pos 0) ≤ℤ i → (pos 0) ≤ℤ j → (pos 0) ≤ℤ k → (pos 0) <ℤ r → (pos 0) <ℤ ((i +ℤ j) +ℤ k) → (pos 0) <ℤ (((i *ℤ r) +ℤ (j *ℤ r)) +ℤ (k *ℤ r))
pierced_time i j k x y z r hi hj hk hr hs = prove_lt_by (i ∷ j ∷ k ∷ x ∷ y ∷ z ∷ r ∷ []) (Le (Num (pos 0)) (Var 0) ∷ Le (Num (pos 0)) (Var 1) ∷ Le (Num (pos 0)) (Var 2) ∷ Lt (Num (pos 0)) (Var 6) ∷ Lt (Num (pos 0)) (Add (Add (Var 0) (Var 1)) (Var 2)) ∷ []) (Num (pos 0)) (Add (Add (Mul (Var 0) (Var 6)) (Mul (Var 1) (Var 6))) (Mul (Var 2) (Var 6))) (Plus (Hyp 0) (Plus (Hyp 4) (Plus (Hyp 5) (Times (Hyp 5) (Hyp 4))))) 0 (hi, (hj, (hk, (hr, (hs, tt))))) refl

pub level_up : (px py pl qx qy ql sx sy sl r : ℤ) → (((((((pos 0) -ℤ ql) *ℤ px) +ℤ (pl *ℤ qx)) *ℤ ((((pos 0) -ℤ sl) *ℤ px) +ℤ (pl *ℤ sx))) +ℤ (((((pos 0) -ℤ ql) *ℤ py) +ℤ (pl *ℤ qy)) *ℤ ((((pos 0) -ℤ sl) *ℤ py) +ℤ (pl *ℤ sy)))) -ℤ (((((pos 0) -ℤ ql) *ℤ r) +ℤ (pl *ℤ r)) *ℤ ((((pos 0) -ℤ sl) *ℤ r) +ℤ (pl *ℤ r)))) ≡ (((((pl *ℤ pl) *ℤ (((qx *ℤ sx) +ℤ (qy *ℤ sy)) -ℤ (r *ℤ r))) -ℤ ((pl *ℤ sl) *ℤ (((px *ℤ qx) +ℤ (py *ℤ qy)) -ℤ (r *ℤ r)))) -ℤ ((pl *ℤ ql) *ℤ (((px *ℤ sx) +ℤ (py *ℤ sy)) -ℤ (r *ℤ r)))) +ℤ ((ql *ℤ sl) *ℤ (((px *ℤ px) +ℤ (py *ℤ py)) -ℤ (r *ℤ r))))
level_up px py pl qx qy ql sx sy sl r = ring (px ∷ py ∷ pl ∷ qx ∷ qy ∷ ql ∷ sx ∷ sy ∷ sl ∷ r ∷ []) (Sub (Add (Mul (Add (Mul (Sub (Num (pos 0)) (Var 5)) (Var 0)) (Mul (Var 2) (Var 3))) (Add (Mul (Sub (Num (pos 0)) (Var 8)) (Var 0)) (Mul (Var 2) (Var 6)))) (Mul (Add (Mul (Sub (Num (pos 0)) (Var 5)) (Var 1)) (Mul (Var 2) (Var 4))) (Add (Mul (Sub (Num (pos 0)) (Var 8)) (Var 1)) (Mul (Var 2) (Var 7))))) (Mul (Add (Mul (Sub (Num (pos 0)) (Var 5)) (Var 9)) (Mul (Var 2) (Var 9))) (Add (Mul (Sub (Num (pos 0)) (Var 8)) (Var 9)) (Mul (Var 2) (Var 9))))) (Add (Sub (Sub (Mul (Mul (Var 2) (Var 2)) (Sub (Add (Mul (Var 3) (Var 6)) (Mul (Var 4) (Var 7))) (Mul (Var 9) (Var 9)))) (Mul (Mul (Var 2) (Var 8)) (Sub (Add (Mul (Var 0) (Var 3)) (Mul (Var 1) (Var 4))) (Mul (Var 9) (Var 9))))) (Mul (Mul (Var 2) (Var 5)) (Sub (Add (Mul (Var 0) (Var 6)) (Mul (Var 1) (Var 7))) (Mul (Var 9) (Var 9))))) (Mul (Mul (Var 5) (Var 8)) (Sub (Add (Mul (Var 0) (Var 0)) (Mul (Var 1) (Var 1))) (Mul (Var 9) (Var 9))))) refl

pub level_down : (px py pl qx qy ql sx sy sl r : ℤ) → (((((ql *ℤ px) +ℤ (((pos 0) -ℤ pl) *ℤ qx)) *ℤ ((sl *ℤ px) +ℤ (((pos 0) -ℤ pl) *ℤ sx))) +ℤ (((ql *ℤ py) +ℤ (((pos 0) -ℤ pl) *ℤ qy)) *ℤ ((sl *ℤ py) +ℤ (((pos 0) -ℤ pl) *ℤ sy)))) -ℤ (((ql *ℤ r) +ℤ (((pos 0) -ℤ pl) *ℤ r)) *ℤ ((sl *ℤ r) +ℤ (((pos 0) -ℤ pl) *ℤ r)))) ≡ (((((pl *ℤ pl) *ℤ (((qx *ℤ sx) +ℤ (qy *ℤ sy)) -ℤ (r *ℤ r))) -ℤ ((pl *ℤ sl) *ℤ (((px *ℤ qx) +ℤ (py *ℤ qy)) -ℤ (r *ℤ r)))) -ℤ ((pl *ℤ ql) *ℤ (((px *ℤ sx) +ℤ (py *ℤ sy)) -ℤ (r *ℤ r)))) +ℤ ((ql *ℤ sl) *ℤ (((px *ℤ px) +ℤ (py *ℤ py)) -ℤ (r *ℤ r))))
level_down px py pl qx qy ql sx sy sl r = ring (px ∷ py ∷ pl ∷ qx ∷ qy ∷ ql ∷ sx ∷ sy ∷ sl ∷ r ∷ []) (Sub (Add (Mul (Add (Mul (Var 5) (Var 0)) (Mul (Sub (Num (pos 0)) (Var 2)) (Var 3))) (Add (Mul (Var 8) (Var 0)) (Mul (Sub (Num (pos 0)) (Var 2)) (Var 6)))) (Mul (Add (Mul (Var 5) (Var 1)) (Mul (Sub (Num (pos 0)) (Var 2)) (Var 4))) (Add (Mul (Var 8) (Var 1)) (Mul (Sub (Num (pos 0)) (Var 2)) (Var 7))))) (Mul (Add (Mul (Var 5) (Var 9)) (Mul (Sub (Num (pos 0)) (Var 2)) (Var 9))) (Add (Mul (Var 8) (Var 9)) (Mul (Sub (Num (pos 0)) (Var 2)) (Var 9))))) (Add (Sub (Sub (Mul (Mul (Var 2) (Var 2)) (Sub (Add (Mul (Var 3) (Var 6)) (Mul (Var 4) (Var 7))) (Mul (Var 9) (Var 9)))) (Mul (Mul (Var 2) (Var 8)) (Sub (Add (Mul (Var 0) (Var 3)) (Mul (Var 1) (Var 4))) (Mul (Var 9) (Var 9))))) (Mul (Mul (Var 2) (Var 5)) (Sub (Add (Mul (Var 0) (Var 6)) (Mul (Var 1) (Var 7))) (Mul (Var 9) (Var 9))))) (Mul (Mul (Var 5) (Var 8)) (Sub (Add (Mul (Var 0) (Var 0)) (Mul (Var 1) (Var 1))) (Mul (Var 9) (Var 9))))) refl

pub minor_up : (px py pl qx qy ql sx sy sl r : ℤ) → (((((((((pos 0) -ℤ ql) *ℤ px) +ℤ (pl *ℤ qx)) *ℤ ((((pos 0) -ℤ sl) *ℤ px) +ℤ (pl *ℤ sx))) +ℤ (((((pos 0) -ℤ ql) *ℤ py) +ℤ (pl *ℤ qy)) *ℤ ((((pos 0) -ℤ sl) *ℤ py) +ℤ (pl *ℤ sy)))) -ℤ (((((pos 0) -ℤ ql) *ℤ r) +ℤ (pl *ℤ r)) *ℤ ((((pos 0) -ℤ sl) *ℤ r) +ℤ (pl *ℤ r)))) *ℤ (((((((pos 0) -ℤ ql) *ℤ px) +ℤ (pl *ℤ qx)) *ℤ ((((pos 0) -ℤ sl) *ℤ px) +ℤ (pl *ℤ sx))) +ℤ (((((pos 0) -ℤ ql) *ℤ py) +ℤ (pl *ℤ qy)) *ℤ ((((pos 0) -ℤ sl) *ℤ py) +ℤ (pl *ℤ sy)))) -ℤ (((((pos 0) -ℤ ql) *ℤ r) +ℤ (pl *ℤ r)) *ℤ ((((pos 0) -ℤ sl) *ℤ r) +ℤ (pl *ℤ r))))) -ℤ ((((((((pos 0) -ℤ ql) *ℤ px) +ℤ (pl *ℤ qx)) *ℤ ((((pos 0) -ℤ ql) *ℤ px) +ℤ (pl *ℤ qx))) +ℤ (((((pos 0) -ℤ ql) *ℤ py) +ℤ (pl *ℤ qy)) *ℤ ((((pos 0) -ℤ ql) *ℤ py) +ℤ (pl *ℤ qy)))) -ℤ (((((pos 0) -ℤ ql) *ℤ r) +ℤ (pl *ℤ r)) *ℤ ((((pos 0) -ℤ ql) *ℤ r) +ℤ (pl *ℤ r)))) *ℤ (((((((pos 0) -ℤ sl) *ℤ px) +ℤ (pl *ℤ sx)) *ℤ ((((pos 0) -ℤ sl) *ℤ px) +ℤ (pl *ℤ sx))) +ℤ (((((pos 0) -ℤ sl) *ℤ py) +ℤ (pl *ℤ sy)) *ℤ ((((pos 0) -ℤ sl) *ℤ py) +ℤ (pl *ℤ sy)))) -ℤ (((((pos 0) -ℤ sl) *ℤ r) +ℤ (pl *ℤ r)) *ℤ ((((pos 0) -ℤ sl) *ℤ r) +ℤ (pl *ℤ r)))))) ≡ ((pl *ℤ pl) *ℤ (((r *ℤ r) *ℤ (((((pl *ℤ (sx -ℤ qx)) +ℤ (ql *ℤ (px -ℤ sx))) +ℤ (sl *ℤ (qx -ℤ px))) *ℤ (((pl *ℤ (sx -ℤ qx)) +ℤ (ql *ℤ (px -ℤ sx))) +ℤ (sl *ℤ (qx -ℤ px)))) +ℤ ((((pl *ℤ (sy -ℤ qy)) +ℤ (ql *ℤ (py -ℤ sy))) +ℤ (sl *ℤ (qy -ℤ py))) *ℤ (((pl *ℤ (sy -ℤ qy)) +ℤ (ql *ℤ (py -ℤ sy))) +ℤ (sl *ℤ (qy -ℤ py)))))) -ℤ ((((((qx *ℤ sy) -ℤ (qy *ℤ sx)) *ℤ pl) +ℤ (((sx *ℤ py) -ℤ (sy *ℤ px)) *ℤ ql)) +ℤ (((px *ℤ qy) -ℤ (py *ℤ qx)) *ℤ sl)) *ℤ (((((qx *ℤ sy) -ℤ (qy *ℤ sx)) *ℤ pl) +ℤ (((sx *ℤ py) -ℤ (sy *ℤ px)) *ℤ ql)) +ℤ (((px *ℤ qy) -ℤ (py *ℤ qx)) *ℤ sl)))))
minor_up px py pl qx qy ql sx sy sl r = ring (px ∷ py ∷ pl ∷ qx ∷ qy ∷ ql ∷ sx ∷ sy ∷ sl ∷ r ∷ []) (Sub (Mul (Sub (Add (Mul (Add (Mul (Sub (Num (pos 0)) (Var 5)) (Var 0)) (Mul (Var 2) (Var 3))) (Add (Mul (Sub (Num (pos 0)) (Var 8)) (Var 0)) (Mul (Var 2) (Var 6)))) (Mul (Add (Mul (Sub (Num (pos 0)) (Var 5)) (Var 1)) (Mul (Var 2) (Var 4))) (Add (Mul (Sub (Num (pos 0)) (Var 8)) (Var 1)) (Mul (Var 2) (Var 7))))) (Mul (Add (Mul (Sub (Num (pos 0)) (Var 5)) (Var 9)) (Mul (Var 2) (Var 9))) (Add (Mul (Sub (Num (pos 0)) (Var 8)) (Var 9)) (Mul (Var 2) (Var 9))))) (Sub (Add (Mul (Add (Mul (Sub (Num (pos 0)) (Var 5)) (Var 0)) (Mul (Var 2) (Var 3))) (Add (Mul (Sub (Num (pos 0)) (Var 8)) (Var 0)) (Mul (Var 2) (Var 6)))) (Mul (Add (Mul (Sub (Num (pos 0)) (Var 5)) (Var 1)) (Mul (Var 2) (Var 4))) (Add (Mul (Sub (Num (pos 0)) (Var 8)) (Var 1)) (Mul (Var 2) (Var 7))))) (Mul (Add (Mul (Sub (Num (pos 0)) (Var 5)) (Var 9)) (Mul (Var 2) (Var 9))) (Add (Mul (Sub (Num (pos 0)) (Var 8)) (Var 9)) (Mul (Var 2) (Var 9)))))) (Mul (Sub (Add (Mul (Add (Mul (Sub (Num (pos 0)) (Var 5)) (Var 0)) (Mul (Var 2) (Var 3))) (Add (Mul (Sub (Num (pos 0)) (Var 5)) (Var 0)) (Mul (Var 2) (Var 3)))) (Mul (Add (Mul (Sub (Num (pos 0)) (Var 5)) (Var 1)) (Mul (Var 2) (Var 4))) (Add (Mul (Sub (Num (pos 0)) (Var 5)) (Var 1)) (Mul (Var 2) (Var 4))))) (Mul (Add (Mul (Sub (Num (pos 0)) (Var 5)) (Var 9)) (Mul (Var 2) (Var 9))) (Add (Mul (Sub (Num (pos 0)) (Var 5)) (Var 9)) (Mul (Var 2) (Var 9))))) (Sub (Add (Mul (Add (Mul (Sub (Num (pos 0)) (Var 8)) (Var 0)) (Mul (Var 2) (Var 6))) (Add (Mul (Sub (Num (pos 0)) (Var 8)) (Var 0)) (Mul (Var 2) (Var 6)))) (Mul (Add (Mul (Sub (Num (pos 0)) (Var 8)) (Var 1)) (Mul (Var 2) (Var 7))) (Add (Mul (Sub (Num (pos 0)) (Var 8)) (Var 1)) (Mul (Var 2) (Var 7))))) (Mul (Add (Mul (Sub (Num (pos 0)) (Var 8)) (Var 9)) (Mul (Var 2) (Var 9))) (Add (Mul (Sub (Num (pos 0)) (Var 8)) (Var 9)) (Mul (Var 2) (Var 9))))))) (Mul (Mul (Var 2) (Var 2)) (Sub (Mul (Mul (Var 9) (Var 9)) (Add (Mul (Add (Add (Mul (Var 2) (Sub (Var 6) (Var 3))) (Mul (Var 5) (Sub (Var 0) (Var 6)))) (Mul (Var 8) (Sub (Var 3) (Var 0)))) (Add (Add (Mul (Var 2) (Sub (Var 6) (Var 3))) (Mul (Var 5) (Sub (Var 0) (Var 6)))) (Mul (Var 8) (Sub (Var 3) (Var 0))))) (Mul (Add (Add (Mul (Var 2) (Sub (Var 7) (Var 4))) (Mul (Var 5) (Sub (Var 1) (Var 7)))) (Mul (Var 8) (Sub (Var 4) (Var 1)))) (Add (Add (Mul (Var 2) (Sub (Var 7) (Var 4))) (Mul (Var 5) (Sub (Var 1) (Var 7)))) (Mul (Var 8) (Sub (Var 4) (Var 1))))))) (Mul (Add (Add (Mul (Sub (Mul (Var 3) (Var 7)) (Mul (Var 4) (Var 6))) (Var 2)) (Mul (Sub (Mul (Var 6) (Var 1)) (Mul (Var 7) (Var 0))) (Var 5))) (Mul (Sub (Mul (Var 0) (Var 4)) (Mul (Var 1) (Var 3))) (Var 8))) (Add (Add (Mul (Sub (Mul (Var 3) (Var 7)) (Mul (Var 4) (Var 6))) (Var 2)) (Mul (Sub (Mul (Var 6) (Var 1)) (Mul (Var 7) (Var 0))) (Var 5))) (Mul (Sub (Mul (Var 0) (Var 4)) (Mul (Var 1) (Var 3))) (Var 8)))))) refl

pub minor_down : (px py pl qx qy ql sx sy sl r : ℤ) → (((((((ql *ℤ px) +ℤ (((pos 0) -ℤ pl) *ℤ qx)) *ℤ ((sl *ℤ px) +ℤ (((pos 0) -ℤ pl) *ℤ sx))) +ℤ (((ql *ℤ py) +ℤ (((pos 0) -ℤ pl) *ℤ qy)) *ℤ ((sl *ℤ py) +ℤ (((pos 0) -ℤ pl) *ℤ sy)))) -ℤ (((ql *ℤ r) +ℤ (((pos 0) -ℤ pl) *ℤ r)) *ℤ ((sl *ℤ r) +ℤ (((pos 0) -ℤ pl) *ℤ r)))) *ℤ (((((ql *ℤ px) +ℤ (((pos 0) -ℤ pl) *ℤ qx)) *ℤ ((sl *ℤ px) +ℤ (((pos 0) -ℤ pl) *ℤ sx))) +ℤ (((ql *ℤ py) +ℤ (((pos 0) -ℤ pl) *ℤ qy)) *ℤ ((sl *ℤ py) +ℤ (((pos 0) -ℤ pl) *ℤ sy)))) -ℤ (((ql *ℤ r) +ℤ (((pos 0) -ℤ pl) *ℤ r)) *ℤ ((sl *ℤ r) +ℤ (((pos 0) -ℤ pl) *ℤ r))))) -ℤ ((((((ql *ℤ px) +ℤ (((pos 0) -ℤ pl) *ℤ qx)) *ℤ ((ql *ℤ px) +ℤ (((pos 0) -ℤ pl) *ℤ qx))) +ℤ (((ql *ℤ py) +ℤ (((pos 0) -ℤ pl) *ℤ qy)) *ℤ ((ql *ℤ py) +ℤ (((pos 0) -ℤ pl) *ℤ qy)))) -ℤ (((ql *ℤ r) +ℤ (((pos 0) -ℤ pl) *ℤ r)) *ℤ ((ql *ℤ r) +ℤ (((pos 0) -ℤ pl) *ℤ r)))) *ℤ (((((sl *ℤ px) +ℤ (((pos 0) -ℤ pl) *ℤ sx)) *ℤ ((sl *ℤ px) +ℤ (((pos 0) -ℤ pl) *ℤ sx))) +ℤ (((sl *ℤ py) +ℤ (((pos 0) -ℤ pl) *ℤ sy)) *ℤ ((sl *ℤ py) +ℤ (((pos 0) -ℤ pl) *ℤ sy)))) -ℤ (((sl *ℤ r) +ℤ (((pos 0) -ℤ pl) *ℤ r)) *ℤ ((sl *ℤ r) +ℤ (((pos 0) -ℤ pl) *ℤ r)))))) ≡ ((pl *ℤ pl) *ℤ (((r *ℤ r) *ℤ (((((pl *ℤ (sx -ℤ qx)) +ℤ (ql *ℤ (px -ℤ sx))) +ℤ (sl *ℤ (qx -ℤ px))) *ℤ (((pl *ℤ (sx -ℤ qx)) +ℤ (ql *ℤ (px -ℤ sx))) +ℤ (sl *ℤ (qx -ℤ px)))) +ℤ ((((pl *ℤ (sy -ℤ qy)) +ℤ (ql *ℤ (py -ℤ sy))) +ℤ (sl *ℤ (qy -ℤ py))) *ℤ (((pl *ℤ (sy -ℤ qy)) +ℤ (ql *ℤ (py -ℤ sy))) +ℤ (sl *ℤ (qy -ℤ py)))))) -ℤ ((((((qx *ℤ sy) -ℤ (qy *ℤ sx)) *ℤ pl) +ℤ (((sx *ℤ py) -ℤ (sy *ℤ px)) *ℤ ql)) +ℤ (((px *ℤ qy) -ℤ (py *ℤ qx)) *ℤ sl)) *ℤ (((((qx *ℤ sy) -ℤ (qy *ℤ sx)) *ℤ pl) +ℤ (((sx *ℤ py) -ℤ (sy *ℤ px)) *ℤ ql)) +ℤ (((px *ℤ qy) -ℤ (py *ℤ qx)) *ℤ sl)))))
minor_down px py pl qx qy ql sx sy sl r = ring (px ∷ py ∷ pl ∷ qx ∷ qy ∷ ql ∷ sx ∷ sy ∷ sl ∷ r ∷ []) (Sub (Mul (Sub (Add (Mul (Add (Mul (Var 5) (Var 0)) (Mul (Sub (Num (pos 0)) (Var 2)) (Var 3))) (Add (Mul (Var 8) (Var 0)) (Mul (Sub (Num (pos 0)) (Var 2)) (Var 6)))) (Mul (Add (Mul (Var 5) (Var 1)) (Mul (Sub (Num (pos 0)) (Var 2)) (Var 4))) (Add (Mul (Var 8) (Var 1)) (Mul (Sub (Num (pos 0)) (Var 2)) (Var 7))))) (Mul (Add (Mul (Var 5) (Var 9)) (Mul (Sub (Num (pos 0)) (Var 2)) (Var 9))) (Add (Mul (Var 8) (Var 9)) (Mul (Sub (Num (pos 0)) (Var 2)) (Var 9))))) (Sub (Add (Mul (Add (Mul (Var 5) (Var 0)) (Mul (Sub (Num (pos 0)) (Var 2)) (Var 3))) (Add (Mul (Var 8) (Var 0)) (Mul (Sub (Num (pos 0)) (Var 2)) (Var 6)))) (Mul (Add (Mul (Var 5) (Var 1)) (Mul (Sub (Num (pos 0)) (Var 2)) (Var 4))) (Add (Mul (Var 8) (Var 1)) (Mul (Sub (Num (pos 0)) (Var 2)) (Var 7))))) (Mul (Add (Mul (Var 5) (Var 9)) (Mul (Sub (Num (pos 0)) (Var 2)) (Var 9))) (Add (Mul (Var 8) (Var 9)) (Mul (Sub (Num (pos 0)) (Var 2)) (Var 9)))))) (Mul (Sub (Add (Mul (Add (Mul (Var 5) (Var 0)) (Mul (Sub (Num (pos 0)) (Var 2)) (Var 3))) (Add (Mul (Var 5) (Var 0)) (Mul (Sub (Num (pos 0)) (Var 2)) (Var 3)))) (Mul (Add (Mul (Var 5) (Var 1)) (Mul (Sub (Num (pos 0)) (Var 2)) (Var 4))) (Add (Mul (Var 5) (Var 1)) (Mul (Sub (Num (pos 0)) (Var 2)) (Var 4))))) (Mul (Add (Mul (Var 5) (Var 9)) (Mul (Sub (Num (pos 0)) (Var 2)) (Var 9))) (Add (Mul (Var 5) (Var 9)) (Mul (Sub (Num (pos 0)) (Var 2)) (Var 9))))) (Sub (Add (Mul (Add (Mul (Var 8) (Var 0)) (Mul (Sub (Num (pos 0)) (Var 2)) (Var 6))) (Add (Mul (Var 8) (Var 0)) (Mul (Sub (Num (pos 0)) (Var 2)) (Var 6)))) (Mul (Add (Mul (Var 8) (Var 1)) (Mul (Sub (Num (pos 0)) (Var 2)) (Var 7))) (Add (Mul (Var 8) (Var 1)) (Mul (Sub (Num (pos 0)) (Var 2)) (Var 7))))) (Mul (Add (Mul (Var 8) (Var 9)) (Mul (Sub (Num (pos 0)) (Var 2)) (Var 9))) (Add (Mul (Var 8) (Var 9)) (Mul (Sub (Num (pos 0)) (Var 2)) (Var 9))))))) (Mul (Mul (Var 2) (Var 2)) (Sub (Mul (Mul (Var 9) (Var 9)) (Add (Mul (Add (Add (Mul (Var 2) (Sub (Var 6) (Var 3))) (Mul (Var 5) (Sub (Var 0) (Var 6)))) (Mul (Var 8) (Sub (Var 3) (Var 0)))) (Add (Add (Mul (Var 2) (Sub (Var 6) (Var 3))) (Mul (Var 5) (Sub (Var 0) (Var 6)))) (Mul (Var 8) (Sub (Var 3) (Var 0))))) (Mul (Add (Add (Mul (Var 2) (Sub (Var 7) (Var 4))) (Mul (Var 5) (Sub (Var 1) (Var 7)))) (Mul (Var 8) (Sub (Var 4) (Var 1)))) (Add (Add (Mul (Var 2) (Sub (Var 7) (Var 4))) (Mul (Var 5) (Sub (Var 1) (Var 7)))) (Mul (Var 8) (Sub (Var 4) (Var 1))))))) (Mul (Add (Add (Mul (Sub (Mul (Var 3) (Var 7)) (Mul (Var 4) (Var 6))) (Var 2)) (Mul (Sub (Mul (Var 6) (Var 1)) (Mul (Var 7) (Var 0))) (Var 5))) (Mul (Sub (Mul (Var 0) (Var 4)) (Mul (Var 1) (Var 3))) (Var 8))) (Add (Add (Mul (Sub (Mul (Var 3) (Var 7)) (Mul (Var 4) (Var 6))) (Var 2)) (Mul (Sub (Mul (Var 6) (Var 1)) (Mul (Var 7) (Var 0))) (Var 5))) (Mul (Sub (Mul (Var 0) (Var 4)) (Mul (Var 1) (Var 3))) (Var 8)))))) refl

-- vars h a b p t k; hyp e: h - a*b == p*(t-k); hyp hp: 0 < p; hyp hk: k < t; goal a*b < h; mul hp+ * hk+; mul hp * hk
pub minor_yes : (h a b p t k : ℤ) → (h -ℤ (a *ℤ b)) ≡ (p *ℤ (t -ℤ k)) → (pos 0) <ℤ p → k <ℤ t → (a *ℤ b) <ℤ h
minor_yes h a b p t k e hp hk = prove_lt_by (h ∷ a ∷ b ∷ p ∷ t ∷ k ∷ []) (Eq (Sub (Var 0) (Mul (Var 1) (Var 2))) (Mul (Var 3) (Sub (Var 4) (Var 5))) ∷ Lt (Num (pos 0)) (Var 3) ∷ Lt (Var 5) (Var 4) ∷ []) (Mul (Var 1) (Var 2)) (Var 0) (Plus (Hyp 0) (Plus (TimesEq 1 (Num (negsuc 0))) (Plus (Hyp 2) (Plus (Hyp 3) (Times (Hyp 2) (Hyp 3)))))) 0 (e, (hp, (hk, tt))) refl

-- vars h a b p t k; hyp e: h - a*b == p*(t-k); hyp hp: 0 < p; hyp hm: a*b < h; goal k < t; mul hp+ * goal; mul hp * goal
pub minor_no : (h a b p t k : ℤ) → (h -ℤ (a *ℤ b)) ≡ (p *ℤ (t -ℤ k)) → (pos 0) <ℤ p → (a *ℤ b) <ℤ h → k <ℤ t
minor_no h a b p t k e hp hm = prove_lt_by (h ∷ a ∷ b ∷ p ∷ t ∷ k ∷ []) (Eq (Sub (Var 0) (Mul (Var 1) (Var 2))) (Mul (Var 3) (Sub (Var 4) (Var 5))) ∷ Lt (Num (pos 0)) (Var 3) ∷ Lt (Mul (Var 1) (Var 2)) (Var 0) ∷ []) (Var 5) (Var 4) (Plus (TimesEq 1 (Num (pos 1))) (Plus (Hyp 3) (Times (Plus (Hyp 2) (Lit 1)) (Hyp 0)))) 0 (e, (hp, (hm, tt))) refl

-- vars p; hyp hp: 0 < p; goal 0 < p*p; mul hp * hp
pub square_above : (p : ℤ) → (pos 0) <ℤ p → (pos 0) <ℤ (p *ℤ p)
square_above p hp = prove_lt_by (p ∷ []) (Lt (Num (pos 0)) (Var 0) ∷ []) (Num (pos 0)) (Mul (Var 0) (Var 0)) (Plus (Hyp 0) (Plus (Times (Lit 2) (Hyp 1)) (Times (Hyp 1) (Hyp 1)))) 0 (hp, tt) refl

-- vars p; hyp hp: p < 0; goal 0 < p*p; mul hp * hp
pub square_below : (p : ℤ) → p <ℤ (pos 0) → (pos 0) <ℤ (p *ℤ p)
square_below p hp = prove_lt_by (p ∷ []) (Lt (Var 0) (Num (pos 0)) ∷ []) (Num (pos 0)) (Mul (Var 0) (Var 0)) (Plus (Hyp 0) (Plus (Times (Lit 2) (Hyp 1)) (Times (Hyp 1) (Hyp 1)))) 0 (hp, tt) refl

-- vars i j k x y z; hyp h: (i*x+j*y)+k*z < 0; goal 0 < ((0-i)*x+(0-j)*y)+(0-k)*z
pub turned_over : (i j k x y z : ℤ) → (((i *ℤ x) +ℤ (j *ℤ y)) +ℤ (k *ℤ z)) <ℤ (pos 0) → (pos 0) <ℤ (((((pos 0) -ℤ i) *ℤ x) +ℤ (((pos 0) -ℤ j) *ℤ y)) +ℤ (((pos 0) -ℤ k) *ℤ z))
turned_over i j k x y z h = prove_lt_by (i ∷ j ∷ k ∷ x ∷ y ∷ z ∷ []) (Lt (Add (Add (Mul (Var 0) (Var 3)) (Mul (Var 1) (Var 4))) (Mul (Var 2) (Var 5))) (Num (pos 0)) ∷ []) (Num (pos 0)) (Add (Add (Mul (Sub (Num (pos 0)) (Var 0)) (Var 3)) (Mul (Sub (Num (pos 0)) (Var 1)) (Var 4))) (Mul (Sub (Num (pos 0)) (Var 2)) (Var 5))) (Plus (Hyp 0) (Hyp 1)) 0 (h, tt) refl

-- vars px py qx qy b p r; hyp h: ((b*px+p*qx)*(b*px+p*qx)+(b*py+p*qy)*(b*py+p*qy))-(b*r+p*r)*(b*r+p*r) < 0; goal (b*px+p*qx)*(b*px+p*qx)+(b*py+p*qy)*(b*py+p*qy) < (r*r)*((b+p)*(b+p))
pub end_near : (px py qx qy b p r : ℤ) → (((((b *ℤ px) +ℤ (p *ℤ qx)) *ℤ ((b *ℤ px) +ℤ (p *ℤ qx))) +ℤ (((b *ℤ py) +ℤ (p *ℤ qy)) *ℤ ((b *ℤ py) +ℤ (p *ℤ qy)))) -ℤ (((b *ℤ r) +ℤ (p *ℤ r)) *ℤ ((b *ℤ r) +ℤ (p *ℤ r)))) <ℤ (pos 0) → ((((b *ℤ px) +ℤ (p *ℤ qx)) *ℤ ((b *ℤ px) +ℤ (p *ℤ qx))) +ℤ (((b *ℤ py) +ℤ (p *ℤ qy)) *ℤ ((b *ℤ py) +ℤ (p *ℤ qy)))) <ℤ ((r *ℤ r) *ℤ ((b +ℤ p) *ℤ (b +ℤ p)))
end_near px py qx qy b p r h = prove_lt_by (px ∷ py ∷ qx ∷ qy ∷ b ∷ p ∷ r ∷ []) (Lt (Sub (Add (Mul (Add (Mul (Var 4) (Var 0)) (Mul (Var 5) (Var 2))) (Add (Mul (Var 4) (Var 0)) (Mul (Var 5) (Var 2)))) (Mul (Add (Mul (Var 4) (Var 1)) (Mul (Var 5) (Var 3))) (Add (Mul (Var 4) (Var 1)) (Mul (Var 5) (Var 3))))) (Mul (Add (Mul (Var 4) (Var 6)) (Mul (Var 5) (Var 6))) (Add (Mul (Var 4) (Var 6)) (Mul (Var 5) (Var 6))))) (Num (pos 0)) ∷ []) (Add (Mul (Add (Mul (Var 4) (Var 0)) (Mul (Var 5) (Var 2))) (Add (Mul (Var 4) (Var 0)) (Mul (Var 5) (Var 2)))) (Mul (Add (Mul (Var 4) (Var 1)) (Mul (Var 5) (Var 3))) (Add (Mul (Var 4) (Var 1)) (Mul (Var 5) (Var 3))))) (Mul (Mul (Var 6) (Var 6)) (Mul (Add (Var 4) (Var 5)) (Add (Var 4) (Var 5)))) (Plus (Hyp 0) (Hyp 1)) 0 (h, tt) refl

-- vars u v w x y z; hyp e: (u*(0-x)+v*(0-y))+w*(0-z) == 0; goal (u*x+v*y)+w*z <= 0
pub mirror_le : (u v w x y z : ℤ) → (((u *ℤ ((pos 0) -ℤ x)) +ℤ (v *ℤ ((pos 0) -ℤ y))) +ℤ (w *ℤ ((pos 0) -ℤ z))) ≡ (pos 0) → (((u *ℤ x) +ℤ (v *ℤ y)) +ℤ (w *ℤ z)) ≤ℤ (pos 0)
mirror_le u v w x y z e = prove_le_by (u ∷ v ∷ w ∷ x ∷ y ∷ z ∷ []) (Eq (Add (Add (Mul (Var 0) (Sub (Num (pos 0)) (Var 3))) (Mul (Var 1) (Sub (Num (pos 0)) (Var 4)))) (Mul (Var 2) (Sub (Num (pos 0)) (Var 5)))) (Num (pos 0)) ∷ []) (Add (Add (Mul (Var 0) (Var 3)) (Mul (Var 1) (Var 4))) (Mul (Var 2) (Var 5))) (Num (pos 0)) (Plus (Hyp 0) (TimesEq 1 (Num (negsuc 0)))) 0 (e, tt) refl

-- vars u v w x y z; hyp e: (u*(0-x)+v*(0-y))+w*(0-z) == 0; goal 0 <= (u*x+v*y)+w*z
pub mirror_ge : (u v w x y z : ℤ) → (((u *ℤ ((pos 0) -ℤ x)) +ℤ (v *ℤ ((pos 0) -ℤ y))) +ℤ (w *ℤ ((pos 0) -ℤ z))) ≡ (pos 0) → (pos 0) ≤ℤ (((u *ℤ x) +ℤ (v *ℤ y)) +ℤ (w *ℤ z))
mirror_ge u v w x y z e = prove_le_by (u ∷ v ∷ w ∷ x ∷ y ∷ z ∷ []) (Eq (Add (Add (Mul (Var 0) (Sub (Num (pos 0)) (Var 3))) (Mul (Var 1) (Sub (Num (pos 0)) (Var 4)))) (Mul (Var 2) (Sub (Num (pos 0)) (Var 5)))) (Num (pos 0)) ∷ []) (Num (pos 0)) (Add (Add (Mul (Var 0) (Var 3)) (Mul (Var 1) (Var 4))) (Mul (Var 2) (Var 5))) (Plus (Hyp 0) (TimesEq 1 (Num (pos 1)))) 0 (e, tt) refl

-- vars u v w x y z; hyp e: (u*x+v*y)+w*z == 0; goal (u*(0-x)+v*(0-y))+w*(0-z) <= 0
pub mirror_back_le : (u v w x y z : ℤ) → (((u *ℤ x) +ℤ (v *ℤ y)) +ℤ (w *ℤ z)) ≡ (pos 0) → (((u *ℤ ((pos 0) -ℤ x)) +ℤ (v *ℤ ((pos 0) -ℤ y))) +ℤ (w *ℤ ((pos 0) -ℤ z))) ≤ℤ (pos 0)
mirror_back_le u v w x y z e = prove_le_by (u ∷ v ∷ w ∷ x ∷ y ∷ z ∷ []) (Eq (Add (Add (Mul (Var 0) (Var 3)) (Mul (Var 1) (Var 4))) (Mul (Var 2) (Var 5))) (Num (pos 0)) ∷ []) (Add (Add (Mul (Var 0) (Sub (Num (pos 0)) (Var 3))) (Mul (Var 1) (Sub (Num (pos 0)) (Var 4)))) (Mul (Var 2) (Sub (Num (pos 0)) (Var 5)))) (Num (pos 0)) (Plus (Hyp 0) (TimesEq 1 (Num (negsuc 0)))) 0 (e, tt) refl

-- vars u v w x y z; hyp e: (u*x+v*y)+w*z == 0; goal 0 <= (u*(0-x)+v*(0-y))+w*(0-z)
pub mirror_back_ge : (u v w x y z : ℤ) → (((u *ℤ x) +ℤ (v *ℤ y)) +ℤ (w *ℤ z)) ≡ (pos 0) → (pos 0) ≤ℤ (((u *ℤ ((pos 0) -ℤ x)) +ℤ (v *ℤ ((pos 0) -ℤ y))) +ℤ (w *ℤ ((pos 0) -ℤ z)))
mirror_back_ge u v w x y z e = prove_le_by (u ∷ v ∷ w ∷ x ∷ y ∷ z ∷ []) (Eq (Add (Add (Mul (Var 0) (Var 3)) (Mul (Var 1) (Var 4))) (Mul (Var 2) (Var 5))) (Num (pos 0)) ∷ []) (Num (pos 0)) (Add (Add (Mul (Var 0) (Sub (Num (pos 0)) (Var 3))) (Mul (Var 1) (Sub (Num (pos 0)) (Var 4)))) (Mul (Var 2) (Sub (Num (pos 0)) (Var 5)))) (Plus (Hyp 0) (TimesEq 1 (Num (pos 1)))) 0 (e, tt) refl

-- vars px py qx qy b p r; hyp h: ((b*px+p*qx)*(b*px+p*qx)+(b*py+p*qy)*(b*py+p*qy))-(b*r+p*r)*(b*r+p*r) < 0; goal (p*qx+b*px)*(p*qx+b*px)+(p*qy+b*py)*(p*qy+b*py) < (r*r)*((p+b)*(p+b))
pub end_near_turned : (px py qx qy b p r : ℤ) → (((((b *ℤ px) +ℤ (p *ℤ qx)) *ℤ ((b *ℤ px) +ℤ (p *ℤ qx))) +ℤ (((b *ℤ py) +ℤ (p *ℤ qy)) *ℤ ((b *ℤ py) +ℤ (p *ℤ qy)))) -ℤ (((b *ℤ r) +ℤ (p *ℤ r)) *ℤ ((b *ℤ r) +ℤ (p *ℤ r)))) <ℤ (pos 0) → ((((p *ℤ qx) +ℤ (b *ℤ px)) *ℤ ((p *ℤ qx) +ℤ (b *ℤ px))) +ℤ (((p *ℤ qy) +ℤ (b *ℤ py)) *ℤ ((p *ℤ qy) +ℤ (b *ℤ py)))) <ℤ ((r *ℤ r) *ℤ ((p +ℤ b) *ℤ (p +ℤ b)))
end_near_turned px py qx qy b p r h = prove_lt_by (px ∷ py ∷ qx ∷ qy ∷ b ∷ p ∷ r ∷ []) (Lt (Sub (Add (Mul (Add (Mul (Var 4) (Var 0)) (Mul (Var 5) (Var 2))) (Add (Mul (Var 4) (Var 0)) (Mul (Var 5) (Var 2)))) (Mul (Add (Mul (Var 4) (Var 1)) (Mul (Var 5) (Var 3))) (Add (Mul (Var 4) (Var 1)) (Mul (Var 5) (Var 3))))) (Mul (Add (Mul (Var 4) (Var 6)) (Mul (Var 5) (Var 6))) (Add (Mul (Var 4) (Var 6)) (Mul (Var 5) (Var 6))))) (Num (pos 0)) ∷ []) (Add (Mul (Add (Mul (Var 5) (Var 2)) (Mul (Var 4) (Var 0))) (Add (Mul (Var 5) (Var 2)) (Mul (Var 4) (Var 0)))) (Mul (Add (Mul (Var 5) (Var 3)) (Mul (Var 4) (Var 1))) (Add (Mul (Var 5) (Var 3)) (Mul (Var 4) (Var 1))))) (Mul (Mul (Var 6) (Var 6)) (Mul (Add (Var 5) (Var 4)) (Add (Var 5) (Var 4)))) (Plus (Hyp 0) (Hyp 1)) 0 (h, tt) refl

-- vars p q; goal 0 <= (0-q)*p+p*q
pub end_level : (p q : ℤ) → (pos 0) ≤ℤ ((((pos 0) -ℤ q) *ℤ p) +ℤ (p *ℤ q))
end_level p q = prove_le_by (p ∷ q ∷ []) ([]) (Num (pos 0)) (Add (Mul (Sub (Num (pos 0)) (Var 1)) (Var 0)) (Mul (Var 0) (Var 1))) (Hyp 0) 0 tt refl

-- vars p q; goal 0 <= (0-p)*q+q*p
pub end_level_turned : (p q : ℤ) → (pos 0) ≤ℤ ((((pos 0) -ℤ p) *ℤ q) +ℤ (q *ℤ p))
end_level_turned p q = prove_le_by (p ∷ q ∷ []) ([]) (Num (pos 0)) (Add (Mul (Sub (Num (pos 0)) (Var 0)) (Var 1)) (Mul (Var 1) (Var 0))) (Hyp 0) 0 tt refl

-- vars u v w x y z; hyp hu: 0 <= u; hyp hv: 0 <= v; hyp hw: 0 <= w; hyp hx: 0 < x; hyp hy: 0 < y; hyp hz: 0 <= z; hyp e: (u*x+v*y)+w*z == 0; goal u <= 0; mul goal * hx; mul hv * hy; mul hw * hz
pub zero_first : (u v w x y z : ℤ) → (pos 0) ≤ℤ u → (pos 0) ≤ℤ v → (pos 0) ≤ℤ w → (pos 0) <ℤ x → (pos 0) <ℤ y → (pos 0) ≤ℤ z → (((u *ℤ x) +ℤ (v *ℤ y)) +ℤ (w *ℤ z)) ≡ (pos 0) → u ≤ℤ (pos 0)
zero_first u v w x y z hu hv hw hx hy hz e = prove_le_by (u ∷ v ∷ w ∷ x ∷ y ∷ z ∷ []) (Le (Num (pos 0)) (Var 0) ∷ Le (Num (pos 0)) (Var 1) ∷ Le (Num (pos 0)) (Var 2) ∷ Lt (Num (pos 0)) (Var 3) ∷ Lt (Num (pos 0)) (Var 4) ∷ Le (Num (pos 0)) (Var 5) ∷ Eq (Add (Add (Mul (Var 0) (Var 3)) (Mul (Var 1) (Var 4))) (Mul (Var 2) (Var 5))) (Num (pos 0)) ∷ []) (Var 0) (Num (pos 0)) (Plus (Hyp 0) (Plus (Hyp 2) (Plus (Hyp 4) (Plus (TimesEq 7 (Num (pos 1))) (Plus (Times (Hyp 0) (Hyp 4)) (Plus (Times (Hyp 2) (Hyp 5)) (Times (Hyp 3) (Hyp 6)))))))) 0 (hu, (hv, (hw, (hx, (hy, (hz, (e, tt))))))) refl

-- vars i j k x y z s; hyp hi: i == 0; hyp hj: j == 0; hyp hk: k == 0; hyp h: 0 < (i*x+j*y)+k*z; goal false; eqmul hi * x; eqmul hj * y; eqmul hk * z
pub pierced_some : (i j k x y z s : ℤ) → i ≡ (pos 0) → j ≡ (pos 0) → k ≡ (pos 0) → (pos 0) <ℤ (((i *ℤ x) +ℤ (j *ℤ y)) +ℤ (k *ℤ z)) → ⊥
pierced_some i j k x y z s hi hj hk h = refute (i ∷ j ∷ k ∷ x ∷ y ∷ z ∷ s ∷ []) (Eq (Var 0) (Num (pos 0)) ∷ Eq (Var 1) (Num (pos 0)) ∷ Eq (Var 2) (Num (pos 0)) ∷ Lt (Num (pos 0)) (Add (Add (Mul (Var 0) (Var 3)) (Mul (Var 1) (Var 4))) (Mul (Var 2) (Var 5))) ∷ []) (Plus (Hyp 3) (Plus (TimesEq 0 (Var 3)) (Plus (TimesEq 1 (Var 4)) (TimesEq 2 (Var 5))))) 0 (hi, (hj, (hk, (h, tt)))) refl

-- vars i j k x y z; hyp h: 0 < ((0-i)*x+(0-j)*y)+(0-k)*z; goal (i*x+j*y)+k*z < 0
pub turned_back : (i j k x y z : ℤ) → (pos 0) <ℤ (((((pos 0) -ℤ i) *ℤ x) +ℤ (((pos 0) -ℤ j) *ℤ y)) +ℤ (((pos 0) -ℤ k) *ℤ z)) → (((i *ℤ x) +ℤ (j *ℤ y)) +ℤ (k *ℤ z)) <ℤ (pos 0)
turned_back i j k x y z h = prove_lt_by (i ∷ j ∷ k ∷ x ∷ y ∷ z ∷ []) (Lt (Num (pos 0)) (Add (Add (Mul (Sub (Num (pos 0)) (Var 0)) (Var 3)) (Mul (Sub (Num (pos 0)) (Var 1)) (Var 4))) (Mul (Sub (Num (pos 0)) (Var 2)) (Var 5))) ∷ []) (Add (Add (Mul (Var 0) (Var 3)) (Mul (Var 1) (Var 4))) (Mul (Var 2) (Var 5))) (Num (pos 0)) (Plus (Hyp 0) (Hyp 1)) 0 (h, tt) refl

-- vars u v w x y z; hyp hu: 0 <= u; hyp hv: 0 <= v; hyp hw: 0 <= w; hyp hx: x <= 0; hyp hy: y <= 0; hyp hz: z <= 0; hyp h: 0 < (u*x+v*y)+w*z; goal false; mul hu * hx; mul hv * hy; mul hw * hz
pub low_sum : (u v w x y z : ℤ) → (pos 0) ≤ℤ u → (pos 0) ≤ℤ v → (pos 0) ≤ℤ w → x ≤ℤ (pos 0) → y ≤ℤ (pos 0) → z ≤ℤ (pos 0) → (pos 0) <ℤ (((u *ℤ x) +ℤ (v *ℤ y)) +ℤ (w *ℤ z)) → ⊥
low_sum u v w x y z hu hv hw hx hy hz h = refute (u ∷ v ∷ w ∷ x ∷ y ∷ z ∷ []) (Le (Num (pos 0)) (Var 0) ∷ Le (Num (pos 0)) (Var 1) ∷ Le (Num (pos 0)) (Var 2) ∷ Le (Var 3) (Num (pos 0)) ∷ Le (Var 4) (Num (pos 0)) ∷ Le (Var 5) (Num (pos 0)) ∷ Lt (Num (pos 0)) (Add (Add (Mul (Var 0) (Var 3)) (Mul (Var 1) (Var 4))) (Mul (Var 2) (Var 5))) ∷ []) (Plus (Hyp 6) (Plus (Times (Hyp 0) (Hyp 3)) (Plus (Times (Hyp 1) (Hyp 4)) (Times (Hyp 2) (Hyp 5))))) 0 (hu, (hv, (hw, (hx, (hy, (hz, (h, tt))))))) refl
