-- Written by tools/certificates.py from tools/certificates/mill_geom_extent.spec.
use Rattle.std.proofs.Common.{[], ◌∷◌, refl}
use lib.IntN.{ℤ, pos, ◌+ℤ◌, ◌-ℤ◌, ◌*ℤ◌}
use lib.Signed.{◌<ℤ◌, ◌≤ℤ◌}
use Rattle.mill_base.proofs.Ring.{Var, Num, Add, Sub, Mul}
use Rattle.mill_base.proofs.Cert.{Le, Lt, Hyp, Lit, Plus, Times, refute, prove_le_by, prove_lt_by}

-- vars u v w f p q; hyp hu: 0 <= u; hyp hv: 0 <= v; hyp hw: 0 <= w; hyp hf: f <= 0; hyp hp: p <= 0; hyp hq: q <= 0; goal (u*f+v*p)+w*q <= 0; mul hu * hf; mul hv * hp; mul hw * hq
pub all_within : (u v w f p q : ℤ) → (pos 0) ≤ℤ u → (pos 0) ≤ℤ v → (pos 0) ≤ℤ w → f ≤ℤ (pos 0) → p ≤ℤ (pos 0) → q ≤ℤ (pos 0) → (((u *ℤ f) +ℤ (v *ℤ p)) +ℤ (w *ℤ q)) ≤ℤ (pos 0)
all_within u v w f p q hu hv hw hf hp hq = prove_le_by (u ∷ v ∷ w ∷ f ∷ p ∷ q ∷ []) (Le (Num (pos 0)) (Var 0) ∷ Le (Num (pos 0)) (Var 1) ∷ Le (Num (pos 0)) (Var 2) ∷ Le (Var 3) (Num (pos 0)) ∷ Le (Var 4) (Num (pos 0)) ∷ Le (Var 5) (Num (pos 0)) ∷ []) (Add (Add (Mul (Var 0) (Var 3)) (Mul (Var 1) (Var 4))) (Mul (Var 2) (Var 5))) (Num (pos 0)) (Plus (Hyp 0) (Plus (Times (Hyp 1) (Hyp 4)) (Plus (Times (Hyp 2) (Hyp 5)) (Times (Hyp 3) (Hyp 6))))) 0 (hu, (hv, (hw, (hf, (hp, (hq, tt)))))) refl

-- vars u v w g h k; hyp hu: 0 <= u; hyp hv: 0 <= v; hyp hw: 0 <= w; hyp hg: g <= 0; hyp hh: h <= 0; hyp hk: k <= 0; hyp some: 0 < (u*g+v*h)+w*k; goal false; mul hu * hg; mul hv * hh; mul hw * hk
pub none_over : (u v w g h k : ℤ) → (pos 0) ≤ℤ u → (pos 0) ≤ℤ v → (pos 0) ≤ℤ w → g ≤ℤ (pos 0) → h ≤ℤ (pos 0) → k ≤ℤ (pos 0) → (pos 0) <ℤ (((u *ℤ g) +ℤ (v *ℤ h)) +ℤ (w *ℤ k)) → ⊥
none_over u v w g h k hu hv hw hg hh hk some = refute (u ∷ v ∷ w ∷ g ∷ h ∷ k ∷ []) (Le (Num (pos 0)) (Var 0) ∷ Le (Num (pos 0)) (Var 1) ∷ Le (Num (pos 0)) (Var 2) ∷ Le (Var 3) (Num (pos 0)) ∷ Le (Var 4) (Num (pos 0)) ∷ Le (Var 5) (Num (pos 0)) ∷ Lt (Num (pos 0)) (Add (Add (Mul (Var 0) (Var 3)) (Mul (Var 1) (Var 4))) (Mul (Var 2) (Var 5))) ∷ []) (Plus (Hyp 6) (Plus (Times (Hyp 0) (Hyp 3)) (Plus (Times (Hyp 1) (Hyp 4)) (Times (Hyp 2) (Hyp 5))))) 0 (hu, (hv, (hw, (hg, (hh, (hk, (some, tt))))))) refl

-- vars u v w f g p h q k; hyp hv: 0 <= v; hyp hw: 0 <= w; hyp over: 0 < g; hyp hf: f <= 0; hyp hp: p*g <= f*h; hyp hq: q*g <= f*k; hyp some: 0 < (u*g+v*h)+w*k; goal (u*f+v*p)+w*q <= 0; mul goal * over+; mul hf * some+; mul hv * hp; mul hw * hq
pub one_over : (u v w f g p h q k : ℤ) → (pos 0) ≤ℤ v → (pos 0) ≤ℤ w → (pos 0) <ℤ g → f ≤ℤ (pos 0) → (p *ℤ g) ≤ℤ (f *ℤ h) → (q *ℤ g) ≤ℤ (f *ℤ k) → (pos 0) <ℤ (((u *ℤ g) +ℤ (v *ℤ h)) +ℤ (w *ℤ k)) → (((u *ℤ f) +ℤ (v *ℤ p)) +ℤ (w *ℤ q)) ≤ℤ (pos 0)
one_over u v w f g p h q k hv hw over hf hp hq some = prove_le_by (u ∷ v ∷ w ∷ f ∷ g ∷ p ∷ h ∷ q ∷ k ∷ []) (Le (Num (pos 0)) (Var 1) ∷ Le (Num (pos 0)) (Var 2) ∷ Lt (Num (pos 0)) (Var 4) ∷ Le (Var 3) (Num (pos 0)) ∷ Le (Mul (Var 5) (Var 4)) (Mul (Var 3) (Var 6)) ∷ Le (Mul (Var 7) (Var 4)) (Mul (Var 3) (Var 8)) ∷ Lt (Num (pos 0)) (Add (Add (Mul (Var 0) (Var 4)) (Mul (Var 1) (Var 6))) (Mul (Var 2) (Var 8))) ∷ []) (Add (Add (Mul (Var 0) (Var 3)) (Mul (Var 1) (Var 5))) (Mul (Var 2) (Var 7))) (Num (pos 0)) (Plus (Hyp 3) (Plus (Times (Hyp 0) (Plus (Hyp 3) (Lit 1))) (Plus (Times (Hyp 4) (Plus (Hyp 7) (Lit 1))) (Plus (Times (Hyp 1) (Hyp 5)) (Times (Hyp 2) (Hyp 6)))))) 0 (hv, (hw, (over, (hf, (hp, (hq, (some, tt))))))) refl

-- vars u v w f g p h q k; hyp hv: 0 <= v; hyp hw: 0 <= w; hyp under: g <= 0; hyp hf: 0 < f; hyp hp: f*h <= p*g; hyp hq: f*k <= q*g; hyp some: 0 < (u*g+v*h)+w*k; goal (u*f+v*p)+w*q <= 0; mul goal+ * under; mul hf+ * some; mul hv * hp; mul hw * hq
pub one_under : (u v w f g p h q k : ℤ) → (pos 0) ≤ℤ v → (pos 0) ≤ℤ w → g ≤ℤ (pos 0) → (pos 0) <ℤ f → (f *ℤ h) ≤ℤ (p *ℤ g) → (f *ℤ k) ≤ℤ (q *ℤ g) → (pos 0) <ℤ (((u *ℤ g) +ℤ (v *ℤ h)) +ℤ (w *ℤ k)) → (((u *ℤ f) +ℤ (v *ℤ p)) +ℤ (w *ℤ q)) ≤ℤ (pos 0)
one_under u v w f g p h q k hv hw under hf hp hq some = prove_le_by (u ∷ v ∷ w ∷ f ∷ g ∷ p ∷ h ∷ q ∷ k ∷ []) (Le (Num (pos 0)) (Var 1) ∷ Le (Num (pos 0)) (Var 2) ∷ Le (Var 4) (Num (pos 0)) ∷ Lt (Num (pos 0)) (Var 3) ∷ Le (Mul (Var 3) (Var 6)) (Mul (Var 5) (Var 4)) ∷ Le (Mul (Var 3) (Var 8)) (Mul (Var 7) (Var 4)) ∷ Lt (Num (pos 0)) (Add (Add (Mul (Var 0) (Var 4)) (Mul (Var 1) (Var 6))) (Mul (Var 2) (Var 8))) ∷ []) (Add (Add (Mul (Var 0) (Var 3)) (Mul (Var 1) (Var 5))) (Mul (Var 2) (Var 7))) (Num (pos 0)) (Plus (Hyp 4) (Plus (Times (Plus (Hyp 0) (Lit 1)) (Hyp 3)) (Plus (Times (Plus (Hyp 4) (Lit 1)) (Hyp 7)) (Plus (Times (Hyp 1) (Hyp 5)) (Times (Hyp 2) (Hyp 6)))))) 0 (hv, (hw, (under, (hf, (hp, (hq, (some, tt))))))) refl

-- vars x g y h t; hyp c: (g-h)*t <= y*g-x*h; goal (t-y)*g <= (t-x)*h
pub crosses_after : (x g y h t : ℤ) → ((g -ℤ h) *ℤ t) ≤ℤ ((y *ℤ g) -ℤ (x *ℤ h)) → ((t -ℤ y) *ℤ g) ≤ℤ ((t -ℤ x) *ℤ h)
crosses_after x g y h t c = prove_le_by (x ∷ g ∷ y ∷ h ∷ t ∷ []) (Le (Mul (Sub (Var 1) (Var 3)) (Var 4)) (Sub (Mul (Var 2) (Var 1)) (Mul (Var 0) (Var 3))) ∷ []) (Mul (Sub (Var 4) (Var 2)) (Var 1)) (Mul (Sub (Var 4) (Var 0)) (Var 3)) (Plus (Hyp 0) (Hyp 1)) 0 (c, tt) refl

-- vars x g y h t; hyp c: y*g-x*h <= (g-h)*t; goal (y-t)*g <= (x-t)*h
pub crosses_before : (x g y h t : ℤ) → ((y *ℤ g) -ℤ (x *ℤ h)) ≤ℤ ((g -ℤ h) *ℤ t) → ((y -ℤ t) *ℤ g) ≤ℤ ((x -ℤ t) *ℤ h)
crosses_before x g y h t c = prove_le_by (x ∷ g ∷ y ∷ h ∷ t ∷ []) (Le (Sub (Mul (Var 2) (Var 1)) (Mul (Var 0) (Var 3))) (Mul (Sub (Var 1) (Var 3)) (Var 4)) ∷ []) (Mul (Sub (Var 2) (Var 4)) (Var 1)) (Mul (Sub (Var 0) (Var 4)) (Var 3)) (Plus (Hyp 0) (Hyp 1)) 0 (c, tt) refl

-- vars s t g h c; hyp less: s <= t; hyp over: 0 < g; hyp under: h <= 0; hyp after: (g-h)*t <= c; goal (g-h)*s <= c; mul less * over+; mul less * under
pub earlier : (s t g h c : ℤ) → s ≤ℤ t → (pos 0) <ℤ g → h ≤ℤ (pos 0) → ((g -ℤ h) *ℤ t) ≤ℤ c → ((g -ℤ h) *ℤ s) ≤ℤ c
earlier s t g h c less over under after = prove_le_by (s ∷ t ∷ g ∷ h ∷ c ∷ []) (Le (Var 0) (Var 1) ∷ Lt (Num (pos 0)) (Var 2) ∷ Le (Var 3) (Num (pos 0)) ∷ Le (Mul (Sub (Var 2) (Var 3)) (Var 1)) (Var 4) ∷ []) (Mul (Sub (Var 2) (Var 3)) (Var 0)) (Var 4) (Plus (Hyp 0) (Plus (Hyp 4) (Plus (Times (Hyp 1) (Plus (Hyp 2) (Lit 1))) (Times (Hyp 1) (Hyp 3))))) 0 (less, (over, (under, (after, tt)))) refl

-- vars s t g h c; hyp less: t <= s; hyp over: 0 < g; hyp under: h <= 0; hyp before: c <= (g-h)*t; goal c <= (g-h)*s; mul less * over+; mul less * under
pub later : (s t g h c : ℤ) → t ≤ℤ s → (pos 0) <ℤ g → h ≤ℤ (pos 0) → c ≤ℤ ((g -ℤ h) *ℤ t) → c ≤ℤ ((g -ℤ h) *ℤ s)
later s t g h c less over under before = prove_le_by (s ∷ t ∷ g ∷ h ∷ c ∷ []) (Le (Var 1) (Var 0) ∷ Lt (Num (pos 0)) (Var 2) ∷ Le (Var 3) (Num (pos 0)) ∷ Le (Var 4) (Mul (Sub (Var 2) (Var 3)) (Var 1)) ∷ []) (Var 4) (Mul (Sub (Var 2) (Var 3)) (Var 0)) (Plus (Hyp 0) (Plus (Hyp 4) (Plus (Times (Hyp 1) (Plus (Hyp 2) (Lit 1))) (Times (Hyp 1) (Hyp 3))))) 0 (less, (over, (under, (before, tt)))) refl

-- vars u v w a b c t; hyp h: (u*(t-a)+v*(t-b))+w*(t-c) <= 0; goal ((u+v)+w)*t <= (u*a+v*b)+w*c
pub mean_after : (u v w a b c t : ℤ) → (((u *ℤ (t -ℤ a)) +ℤ (v *ℤ (t -ℤ b))) +ℤ (w *ℤ (t -ℤ c))) ≤ℤ (pos 0) → (((u +ℤ v) +ℤ w) *ℤ t) ≤ℤ (((u *ℤ a) +ℤ (v *ℤ b)) +ℤ (w *ℤ c))
mean_after u v w a b c t h = prove_le_by (u ∷ v ∷ w ∷ a ∷ b ∷ c ∷ t ∷ []) (Le (Add (Add (Mul (Var 0) (Sub (Var 6) (Var 3))) (Mul (Var 1) (Sub (Var 6) (Var 4)))) (Mul (Var 2) (Sub (Var 6) (Var 5)))) (Num (pos 0)) ∷ []) (Mul (Add (Add (Var 0) (Var 1)) (Var 2)) (Var 6)) (Add (Add (Mul (Var 0) (Var 3)) (Mul (Var 1) (Var 4))) (Mul (Var 2) (Var 5))) (Plus (Hyp 0) (Hyp 1)) 0 (h, tt) refl

-- vars u v w a b c t; hyp h: (u*(a-t)+v*(b-t))+w*(c-t) <= 0; goal (u*a+v*b)+w*c <= ((u+v)+w)*t
pub mean_before : (u v w a b c t : ℤ) → (((u *ℤ (a -ℤ t)) +ℤ (v *ℤ (b -ℤ t))) +ℤ (w *ℤ (c -ℤ t))) ≤ℤ (pos 0) → (((u *ℤ a) +ℤ (v *ℤ b)) +ℤ (w *ℤ c)) ≤ℤ (((u +ℤ v) +ℤ w) *ℤ t)
mean_before u v w a b c t h = prove_le_by (u ∷ v ∷ w ∷ a ∷ b ∷ c ∷ t ∷ []) (Le (Add (Add (Mul (Var 0) (Sub (Var 3) (Var 6))) (Mul (Var 1) (Sub (Var 4) (Var 6)))) (Mul (Var 2) (Sub (Var 5) (Var 6)))) (Num (pos 0)) ∷ []) (Add (Add (Mul (Var 0) (Var 3)) (Mul (Var 1) (Var 4))) (Mul (Var 2) (Var 5))) (Mul (Add (Add (Var 0) (Var 1)) (Var 2)) (Var 6)) (Plus (Hyp 0) (Hyp 1)) 0 (h, tt) refl

-- vars u v w a b c z; hyp h: ((u+v)+w)*z < (u*a+v*b)+w*c; goal 0 < (u*(a-z)+v*(b-z))+w*(c-z)
pub heights_over : (u v w a b c z : ℤ) → (((u +ℤ v) +ℤ w) *ℤ z) <ℤ (((u *ℤ a) +ℤ (v *ℤ b)) +ℤ (w *ℤ c)) → (pos 0) <ℤ (((u *ℤ (a -ℤ z)) +ℤ (v *ℤ (b -ℤ z))) +ℤ (w *ℤ (c -ℤ z)))
heights_over u v w a b c z h = prove_lt_by (u ∷ v ∷ w ∷ a ∷ b ∷ c ∷ z ∷ []) (Lt (Mul (Add (Add (Var 0) (Var 1)) (Var 2)) (Var 6)) (Add (Add (Mul (Var 0) (Var 3)) (Mul (Var 1) (Var 4))) (Mul (Var 2) (Var 5))) ∷ []) (Num (pos 0)) (Add (Add (Mul (Var 0) (Sub (Var 3) (Var 6))) (Mul (Var 1) (Sub (Var 4) (Var 6)))) (Mul (Var 2) (Sub (Var 5) (Var 6)))) (Plus (Hyp 0) (Hyp 1)) 0 (h, tt) refl

-- vars x g y h s; hyp c: (x-y)*g <= s*(g-h); goal (g-h)*(x-s) <= y*g-x*h
pub down_after : (x g y h s : ℤ) → ((x -ℤ y) *ℤ g) ≤ℤ (s *ℤ (g -ℤ h)) → ((g -ℤ h) *ℤ (x -ℤ s)) ≤ℤ ((y *ℤ g) -ℤ (x *ℤ h))
down_after x g y h s c = prove_le_by (x ∷ g ∷ y ∷ h ∷ s ∷ []) (Le (Mul (Sub (Var 0) (Var 2)) (Var 1)) (Mul (Var 4) (Sub (Var 1) (Var 3))) ∷ []) (Mul (Sub (Var 1) (Var 3)) (Sub (Var 0) (Var 4))) (Sub (Mul (Var 2) (Var 1)) (Mul (Var 0) (Var 3))) (Plus (Hyp 0) (Hyp 1)) 0 (c, tt) refl

-- vars x g y h; hyp less: y <= x; hyp over: 0 < g; goal y*g-x*h <= (g-h)*x; mul less * over+
pub down_before : (x g y h : ℤ) → y ≤ℤ x → (pos 0) <ℤ g → ((y *ℤ g) -ℤ (x *ℤ h)) ≤ℤ ((g -ℤ h) *ℤ x)
down_before x g y h less over = prove_le_by (x ∷ g ∷ y ∷ h ∷ []) (Le (Var 2) (Var 0) ∷ Lt (Num (pos 0)) (Var 1) ∷ []) (Sub (Mul (Var 2) (Var 1)) (Mul (Var 0) (Var 3))) (Mul (Sub (Var 1) (Var 3)) (Var 0)) (Plus (Hyp 0) (Times (Hyp 1) (Plus (Hyp 2) (Lit 1)))) 0 (less, (over, tt)) refl

-- vars x g y h; hyp less: x <= y; hyp over: 0 < g; goal (g-h)*x <= y*g-x*h; mul less * over+
pub up_after : (x g y h : ℤ) → x ≤ℤ y → (pos 0) <ℤ g → ((g -ℤ h) *ℤ x) ≤ℤ ((y *ℤ g) -ℤ (x *ℤ h))
up_after x g y h less over = prove_le_by (x ∷ g ∷ y ∷ h ∷ []) (Le (Var 0) (Var 2) ∷ Lt (Num (pos 0)) (Var 1) ∷ []) (Mul (Sub (Var 1) (Var 3)) (Var 0)) (Sub (Mul (Var 2) (Var 1)) (Mul (Var 0) (Var 3))) (Plus (Hyp 0) (Times (Hyp 1) (Plus (Hyp 2) (Lit 1)))) 0 (less, (over, tt)) refl

-- vars x g y h s; hyp c: (y-x)*g <= s*(g-h); goal y*g-x*h <= (g-h)*(x+s)
pub up_before : (x g y h s : ℤ) → ((y -ℤ x) *ℤ g) ≤ℤ (s *ℤ (g -ℤ h)) → ((y *ℤ g) -ℤ (x *ℤ h)) ≤ℤ ((g -ℤ h) *ℤ (x +ℤ s))
up_before x g y h s c = prove_le_by (x ∷ g ∷ y ∷ h ∷ s ∷ []) (Le (Mul (Sub (Var 2) (Var 0)) (Var 1)) (Mul (Var 4) (Sub (Var 1) (Var 3))) ∷ []) (Sub (Mul (Var 2) (Var 1)) (Mul (Var 0) (Var 3))) (Mul (Sub (Var 1) (Var 3)) (Add (Var 0) (Var 4))) (Plus (Hyp 0) (Hyp 1)) 0 (c, tt) refl
