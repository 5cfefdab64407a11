-- Polynomial facts behind the laws of a machine that goes by a text's own numbers.
-- Written by tools/certificates.py from tools/certificates/mill_margin_nearby.spec.
use Rattle.std.proofs.Common.{◌≡◌, [], ◌∷◌, refl}
use lib.IntN.{ℤ, pos, ◌+ℤ◌, ◌-ℤ◌, ◌*ℤ◌}
use lib.Signed.{◌<ℤ◌, ◌≤ℤ◌}
use Rattle.mill_base.proofs.Ring.{Var, Num, Add, Sub, Mul, ring}
use Rattle.mill_base.proofs.Cert.{Le, Lt, Hyp, Sq, Lit, Plus, Times, prove_le_by}

-- vars k x y z w; hyp h: (x*x+y*y)+z*z <= w*w; goal ((k*x)*(k*x)+(k*y)*(k*y))+(k*z)*(k*z) <= (k*w)*(k*w); mul h * sq(k)
pub scaled_square : (k x y z w : ℤ) → (((x *ℤ x) +ℤ (y *ℤ y)) +ℤ (z *ℤ z)) ≤ℤ (w *ℤ w) → ((((k *ℤ x) *ℤ (k *ℤ x)) +ℤ ((k *ℤ y) *ℤ (k *ℤ y))) +ℤ ((k *ℤ z) *ℤ (k *ℤ z))) ≤ℤ ((k *ℤ w) *ℤ (k *ℤ w))
scaled_square k x y z w h = prove_le_by (k ∷ x ∷ y ∷ z ∷ w ∷ []) (Le (Add (Add (Mul (Var 1) (Var 1)) (Mul (Var 2) (Var 2))) (Mul (Var 3) (Var 3))) (Mul (Var 4) (Var 4)) ∷ []) (Add (Add (Mul (Mul (Var 0) (Var 1)) (Mul (Var 0) (Var 1))) (Mul (Mul (Var 0) (Var 2)) (Mul (Var 0) (Var 2)))) (Mul (Mul (Var 0) (Var 3)) (Mul (Var 0) (Var 3)))) (Mul (Mul (Var 0) (Var 4)) (Mul (Var 0) (Var 4))) (Plus (Hyp 0) (Times (Hyp 1) (Sq (Var 0)))) 0 (h, tt) refl

-- vars x y z a b c r q; hyp h1: (x*x+y*y)+z*z <= r*r; hyp h2: (a*a+b*b)+c*c <= q*q; hyp p1: 0 <= r; hyp p2: 0 <= q; goal (x*a+y*b)+z*c <= r*q; square x*b-y*a; square x*c-z*a; square y*c-z*b; mul goal * goal; mul goal * p1 * p2; mul p1 * p2; mul h1 * sq(q); mul sq(x) * h2; mul sq(y) * h2; mul sq(z) * h2
pub dot_most : (x y z a b c r q : ℤ) → (((x *ℤ x) +ℤ (y *ℤ y)) +ℤ (z *ℤ z)) ≤ℤ (r *ℤ r) → (((a *ℤ a) +ℤ (b *ℤ b)) +ℤ (c *ℤ c)) ≤ℤ (q *ℤ q) → (pos 0) ≤ℤ r → (pos 0) ≤ℤ q → (((x *ℤ a) +ℤ (y *ℤ b)) +ℤ (z *ℤ c)) ≤ℤ (r *ℤ q)
dot_most x y z a b c r q h1 h2 p1 p2 = prove_le_by (x ∷ y ∷ z ∷ a ∷ b ∷ c ∷ r ∷ q ∷ []) (Le (Add (Add (Mul (Var 0) (Var 0)) (Mul (Var 1) (Var 1))) (Mul (Var 2) (Var 2))) (Mul (Var 6) (Var 6)) ∷ Le (Add (Add (Mul (Var 3) (Var 3)) (Mul (Var 4) (Var 4))) (Mul (Var 5) (Var 5))) (Mul (Var 7) (Var 7)) ∷ Le (Num (pos 0)) (Var 6) ∷ Le (Num (pos 0)) (Var 7) ∷ []) (Add (Add (Mul (Var 0) (Var 3)) (Mul (Var 1) (Var 4))) (Mul (Var 2) (Var 5))) (Mul (Var 6) (Var 7)) (Plus (Times (Lit 2) (Hyp 0)) (Plus (Sq (Sub (Mul (Var 0) (Var 4)) (Mul (Var 1) (Var 3)))) (Plus (Sq (Sub (Mul (Var 0) (Var 5)) (Mul (Var 2) (Var 3)))) (Plus (Sq (Sub (Mul (Var 1) (Var 5)) (Mul (Var 2) (Var 4)))) (Plus (Times (Hyp 0) (Hyp 0)) (Plus (Times (Lit 2) (Times (Times (Hyp 0) (Hyp 3)) (Hyp 4))) (Plus (Times (Lit 2) (Times (Hyp 3) (Hyp 4))) (Plus (Times (Hyp 1) (Sq (Var 7))) (Plus (Times (Sq (Var 0)) (Hyp 2)) (Plus (Times (Sq (Var 1)) (Hyp 2)) (Times (Sq (Var 2)) (Hyp 2)))))))))))) 0 (h1, (h2, (p1, (p2, tt)))) refl

-- vars x y z a b c r q; hyp h1: (x*x+y*y)+z*z <= r*r; hyp h2: (a*a+b*b)+c*c <= q*q; hyp h3: (x*a+y*b)+z*c <= r*q; goal ((x+a)*(x+a)+(y+b)*(y+b))+(z+c)*(z+c) <= (r+q)*(r+q)
pub sum_most : (x y z a b c r q : ℤ) → (((x *ℤ x) +ℤ (y *ℤ y)) +ℤ (z *ℤ z)) ≤ℤ (r *ℤ r) → (((a *ℤ a) +ℤ (b *ℤ b)) +ℤ (c *ℤ c)) ≤ℤ (q *ℤ q) → (((x *ℤ a) +ℤ (y *ℤ b)) +ℤ (z *ℤ c)) ≤ℤ (r *ℤ q) → ((((x +ℤ a) *ℤ (x +ℤ a)) +ℤ ((y +ℤ b) *ℤ (y +ℤ b))) +ℤ ((z +ℤ c) *ℤ (z +ℤ c))) ≤ℤ ((r +ℤ q) *ℤ (r +ℤ q))
sum_most x y z a b c r q h1 h2 h3 = prove_le_by (x ∷ y ∷ z ∷ a ∷ b ∷ c ∷ r ∷ q ∷ []) (Le (Add (Add (Mul (Var 0) (Var 0)) (Mul (Var 1) (Var 1))) (Mul (Var 2) (Var 2))) (Mul (Var 6) (Var 6)) ∷ Le (Add (Add (Mul (Var 3) (Var 3)) (Mul (Var 4) (Var 4))) (Mul (Var 5) (Var 5))) (Mul (Var 7) (Var 7)) ∷ Le (Add (Add (Mul (Var 0) (Var 3)) (Mul (Var 1) (Var 4))) (Mul (Var 2) (Var 5))) (Mul (Var 6) (Var 7)) ∷ []) (Add (Add (Mul (Add (Var 0) (Var 3)) (Add (Var 0) (Var 3))) (Mul (Add (Var 1) (Var 4)) (Add (Var 1) (Var 4)))) (Mul (Add (Var 2) (Var 5)) (Add (Var 2) (Var 5)))) (Mul (Add (Var 6) (Var 7)) (Add (Var 6) (Var 7))) (Plus (Hyp 0) (Plus (Hyp 1) (Plus (Hyp 2) (Times (Lit 2) (Hyp 3))))) 0 (h1, (h2, (h3, tt))) refl

-- vars l m n a b px py pz qx qy qz rx ry rz; hyp hn: 0 < n; hyp h: ((l*(n*px - m*qx) + m*(l*qx - n*rx))*(l*(n*px - m*qx) + m*(l*qx - n*rx)) + (l*(n*py - m*qy) + m*(l*qy - n*ry))*(l*(n*py - m*qy) + m*(l*qy - n*ry))) + (l*(n*pz - m*qz) + m*(l*qz - n*rz))*(l*(n*pz - m*qz) + m*(l*qz - n*rz)) <= (l*(m*(n*a)) + m*(n*(l*b)))*(l*(m*(n*a)) + m*(n*(l*b))); goal ((l*px - m*rx)*(l*px - m*rx) + (l*py - m*ry)*(l*py - m*ry)) + (l*pz - m*rz)*(l*pz - m*rz) <= (m*(l*(a+b)))*(m*(l*(a+b))); mul goal * sq(n); mul hn * hn
pub sum_unscaled : (l m n a b px py pz qx qy qz rx ry rz : ℤ) → (pos 0) <ℤ n → (((((l *ℤ ((n *ℤ px) -ℤ (m *ℤ qx))) +ℤ (m *ℤ ((l *ℤ qx) -ℤ (n *ℤ rx)))) *ℤ ((l *ℤ ((n *ℤ px) -ℤ (m *ℤ qx))) +ℤ (m *ℤ ((l *ℤ qx) -ℤ (n *ℤ rx))))) +ℤ (((l *ℤ ((n *ℤ py) -ℤ (m *ℤ qy))) +ℤ (m *ℤ ((l *ℤ qy) -ℤ (n *ℤ ry)))) *ℤ ((l *ℤ ((n *ℤ py) -ℤ (m *ℤ qy))) +ℤ (m *ℤ ((l *ℤ qy) -ℤ (n *ℤ ry)))))) +ℤ (((l *ℤ ((n *ℤ pz) -ℤ (m *ℤ qz))) +ℤ (m *ℤ ((l *ℤ qz) -ℤ (n *ℤ rz)))) *ℤ ((l *ℤ ((n *ℤ pz) -ℤ (m *ℤ qz))) +ℤ (m *ℤ ((l *ℤ qz) -ℤ (n *ℤ rz)))))) ≤ℤ (((l *ℤ (m *ℤ (n *ℤ a))) +ℤ (m *ℤ (n *ℤ (l *ℤ b)))) *ℤ ((l *ℤ (m *ℤ (n *ℤ a))) +ℤ (m *ℤ (n *ℤ (l *ℤ b))))) → (((((l *ℤ px) -ℤ (m *ℤ rx)) *ℤ ((l *ℤ px) -ℤ (m *ℤ rx))) +ℤ (((l *ℤ py) -ℤ (m *ℤ ry)) *ℤ ((l *ℤ py) -ℤ (m *ℤ ry)))) +ℤ (((l *ℤ pz) -ℤ (m *ℤ rz)) *ℤ ((l *ℤ pz) -ℤ (m *ℤ rz)))) ≤ℤ ((m *ℤ (l *ℤ (a +ℤ b))) *ℤ (m *ℤ (l *ℤ (a +ℤ b))))
sum_unscaled l m n a b px py pz qx qy qz rx ry rz hn h = prove_le_by (l ∷ m ∷ n ∷ a ∷ b ∷ px ∷ py ∷ pz ∷ qx ∷ qy ∷ qz ∷ rx ∷ ry ∷ rz ∷ []) (Lt (Num (pos 0)) (Var 2) ∷ Le (Add (Add (Mul (Add (Mul (Var 0) (Sub (Mul (Var 2) (Var 5)) (Mul (Var 1) (Var 8)))) (Mul (Var 1) (Sub (Mul (Var 0) (Var 8)) (Mul (Var 2) (Var 11))))) (Add (Mul (Var 0) (Sub (Mul (Var 2) (Var 5)) (Mul (Var 1) (Var 8)))) (Mul (Var 1) (Sub (Mul (Var 0) (Var 8)) (Mul (Var 2) (Var 11)))))) (Mul (Add (Mul (Var 0) (Sub (Mul (Var 2) (Var 6)) (Mul (Var 1) (Var 9)))) (Mul (Var 1) (Sub (Mul (Var 0) (Var 9)) (Mul (Var 2) (Var 12))))) (Add (Mul (Var 0) (Sub (Mul (Var 2) (Var 6)) (Mul (Var 1) (Var 9)))) (Mul (Var 1) (Sub (Mul (Var 0) (Var 9)) (Mul (Var 2) (Var 12))))))) (Mul (Add (Mul (Var 0) (Sub (Mul (Var 2) (Var 7)) (Mul (Var 1) (Var 10)))) (Mul (Var 1) (Sub (Mul (Var 0) (Var 10)) (Mul (Var 2) (Var 13))))) (Add (Mul (Var 0) (Sub (Mul (Var 2) (Var 7)) (Mul (Var 1) (Var 10)))) (Mul (Var 1) (Sub (Mul (Var 0) (Var 10)) (Mul (Var 2) (Var 13))))))) (Mul (Add (Mul (Var 0) (Mul (Var 1) (Mul (Var 2) (Var 3)))) (Mul (Var 1) (Mul (Var 2) (Mul (Var 0) (Var 4))))) (Add (Mul (Var 0) (Mul (Var 1) (Mul (Var 2) (Var 3)))) (Mul (Var 1) (Mul (Var 2) (Mul (Var 0) (Var 4)))))) ∷ []) (Add (Add (Mul (Sub (Mul (Var 0) (Var 5)) (Mul (Var 1) (Var 11))) (Sub (Mul (Var 0) (Var 5)) (Mul (Var 1) (Var 11)))) (Mul (Sub (Mul (Var 0) (Var 6)) (Mul (Var 1) (Var 12))) (Sub (Mul (Var 0) (Var 6)) (Mul (Var 1) (Var 12))))) (Mul (Sub (Mul (Var 0) (Var 7)) (Mul (Var 1) (Var 13))) (Sub (Mul (Var 0) (Var 7)) (Mul (Var 1) (Var 13))))) (Mul (Mul (Var 1) (Mul (Var 0) (Add (Var 3) (Var 4)))) (Mul (Var 1) (Mul (Var 0) (Add (Var 3) (Var 4))))) (Plus (Times (Lit 2) (Hyp 1)) (Plus (Hyp 2) (Plus (Times (Hyp 0) (Sq (Var 2))) (Times (Hyp 1) (Hyp 1))))) 0 (hn, (h, tt)) refl

-- vars x y z w v; hyp hx: 4*(x*x) <= w*w; hyp hy: 4*(y*y) <= w*w; hyp hz: 4*(z*z) <= w*w; hyp hw: 0 <= w; hyp hv: w <= v; goal (x*x+y*y)+z*z <= v*v; mul hw * hv; mul hv * hv; square w
pub halves_within : (x y z w v : ℤ) → ((pos 4) *ℤ (x *ℤ x)) ≤ℤ (w *ℤ w) → ((pos 4) *ℤ (y *ℤ y)) ≤ℤ (w *ℤ w) → ((pos 4) *ℤ (z *ℤ z)) ≤ℤ (w *ℤ w) → (pos 0) ≤ℤ w → w ≤ℤ v → (((x *ℤ x) +ℤ (y *ℤ y)) +ℤ (z *ℤ z)) ≤ℤ (v *ℤ v)
halves_within x y z w v hx hy hz hw hv = prove_le_by (x ∷ y ∷ z ∷ w ∷ v ∷ []) (Le (Mul (Num (pos 4)) (Mul (Var 0) (Var 0))) (Mul (Var 3) (Var 3)) ∷ Le (Mul (Num (pos 4)) (Mul (Var 1) (Var 1))) (Mul (Var 3) (Var 3)) ∷ Le (Mul (Num (pos 4)) (Mul (Var 2) (Var 2))) (Mul (Var 3) (Var 3)) ∷ Le (Num (pos 0)) (Var 3) ∷ Le (Var 3) (Var 4) ∷ []) (Add (Add (Mul (Var 0) (Var 0)) (Mul (Var 1) (Var 1))) (Mul (Var 2) (Var 2))) (Mul (Var 4) (Var 4)) (Plus (Times (Lit 4) (Hyp 0)) (Plus (Hyp 1) (Plus (Hyp 2) (Plus (Hyp 3) (Plus (Times (Lit 8) (Times (Hyp 4) (Hyp 5))) (Plus (Times (Lit 4) (Times (Hyp 5) (Hyp 5))) (Sq (Var 3)))))))) 3 (hx, (hy, (hz, (hw, (hv, tt))))) refl

-- vars h g n s px py pz qx qy qz; hyp near: ((g*px - n*qx)*(g*px - n*qx) + (g*py - n*qy)*(g*py - n*qy)) + (g*pz - n*qz)*(g*pz - n*qz) <= (n*(g*s))*(n*(g*s)); goal ((g*(h*px) - (n*h)*qx)*(g*(h*px) - (n*h)*qx) + (g*(h*py) - (n*h)*qy)*(g*(h*py) - (n*h)*qy)) + (g*(h*pz) - (n*h)*qz)*(g*(h*pz) - (n*h)*qz) <= ((n*h)*(g*s))*((n*h)*(g*s)); mul near * sq(h)
pub scaled_within : (h g n s px py pz qx qy qz : ℤ) → (((((g *ℤ px) -ℤ (n *ℤ qx)) *ℤ ((g *ℤ px) -ℤ (n *ℤ qx))) +ℤ (((g *ℤ py) -ℤ (n *ℤ qy)) *ℤ ((g *ℤ py) -ℤ (n *ℤ qy)))) +ℤ (((g *ℤ pz) -ℤ (n *ℤ qz)) *ℤ ((g *ℤ pz) -ℤ (n *ℤ qz)))) ≤ℤ ((n *ℤ (g *ℤ s)) *ℤ (n *ℤ (g *ℤ s))) → (((((g *ℤ (h *ℤ px)) -ℤ ((n *ℤ h) *ℤ qx)) *ℤ ((g *ℤ (h *ℤ px)) -ℤ ((n *ℤ h) *ℤ qx))) +ℤ (((g *ℤ (h *ℤ py)) -ℤ ((n *ℤ h) *ℤ qy)) *ℤ ((g *ℤ (h *ℤ py)) -ℤ ((n *ℤ h) *ℤ qy)))) +ℤ (((g *ℤ (h *ℤ pz)) -ℤ ((n *ℤ h) *ℤ qz)) *ℤ ((g *ℤ (h *ℤ pz)) -ℤ ((n *ℤ h) *ℤ qz)))) ≤ℤ (((n *ℤ h) *ℤ (g *ℤ s)) *ℤ ((n *ℤ h) *ℤ (g *ℤ s)))
scaled_within h g n s px py pz qx qy qz near = prove_le_by (h ∷ g ∷ n ∷ s ∷ px ∷ py ∷ pz ∷ qx ∷ qy ∷ qz ∷ []) (Le (Add (Add (Mul (Sub (Mul (Var 1) (Var 4)) (Mul (Var 2) (Var 7))) (Sub (Mul (Var 1) (Var 4)) (Mul (Var 2) (Var 7)))) (Mul (Sub (Mul (Var 1) (Var 5)) (Mul (Var 2) (Var 8))) (Sub (Mul (Var 1) (Var 5)) (Mul (Var 2) (Var 8))))) (Mul (Sub (Mul (Var 1) (Var 6)) (Mul (Var 2) (Var 9))) (Sub (Mul (Var 1) (Var 6)) (Mul (Var 2) (Var 9))))) (Mul (Mul (Var 2) (Mul (Var 1) (Var 3))) (Mul (Var 2) (Mul (Var 1) (Var 3)))) ∷ []) (Add (Add (Mul (Sub (Mul (Var 1) (Mul (Var 0) (Var 4))) (Mul (Mul (Var 2) (Var 0)) (Var 7))) (Sub (Mul (Var 1) (Mul (Var 0) (Var 4))) (Mul (Mul (Var 2) (Var 0)) (Var 7)))) (Mul (Sub (Mul (Var 1) (Mul (Var 0) (Var 5))) (Mul (Mul (Var 2) (Var 0)) (Var 8))) (Sub (Mul (Var 1) (Mul (Var 0) (Var 5))) (Mul (Mul (Var 2) (Var 0)) (Var 8))))) (Mul (Sub (Mul (Var 1) (Mul (Var 0) (Var 6))) (Mul (Mul (Var 2) (Var 0)) (Var 9))) (Sub (Mul (Var 1) (Mul (Var 0) (Var 6))) (Mul (Mul (Var 2) (Var 0)) (Var 9))))) (Mul (Mul (Mul (Var 2) (Var 0)) (Mul (Var 1) (Var 3))) (Mul (Mul (Var 2) (Var 0)) (Mul (Var 1) (Var 3)))) (Plus (Hyp 0) (Times (Hyp 1) (Sq (Var 0)))) 0 (near, tt) refl

-- vars c w; hyp hl: 0 - w <= 2*c; hyp hm: 2*c <= w; goal 4*(c*c) <= w*w; mul hl * hm
pub half_square : (c w : ℤ) → ((pos 0) -ℤ w) ≤ℤ ((pos 2) *ℤ c) → ((pos 2) *ℤ c) ≤ℤ w → ((pos 4) *ℤ (c *ℤ c)) ≤ℤ (w *ℤ w)
half_square c w hl hm = prove_le_by (c ∷ w ∷ []) (Le (Sub (Num (pos 0)) (Var 1)) (Mul (Num (pos 2)) (Var 0)) ∷ Le (Mul (Num (pos 2)) (Var 0)) (Var 1) ∷ []) (Mul (Num (pos 4)) (Mul (Var 0) (Var 0))) (Mul (Var 1) (Var 1)) (Plus (Hyp 0) (Times (Hyp 1) (Hyp 2))) 0 (hl, (hm, tt)) refl

-- vars e k d o f t a b; hyp some: 0 < e; hyp after: 0 <= k; hyp before: k <= e; hyp from: 2*(a - d*f) <= o; hyp to: 2*(b - d*t) <= o; goal 0 - e*(e*o) <= 2*((e*d)*((e-k)*f + k*t) - e*((e-k)*a + k*b)); mul some+ * before * from; mul some+ * after * to
pub way_least : (e k d o f t a b : ℤ) → (pos 0) <ℤ e → (pos 0) ≤ℤ k → k ≤ℤ e → ((pos 2) *ℤ (a -ℤ (d *ℤ f))) ≤ℤ o → ((pos 2) *ℤ (b -ℤ (d *ℤ t))) ≤ℤ o → ((pos 0) -ℤ (e *ℤ (e *ℤ o))) ≤ℤ ((pos 2) *ℤ (((e *ℤ d) *ℤ (((e -ℤ k) *ℤ f) +ℤ (k *ℤ t))) -ℤ (e *ℤ (((e -ℤ k) *ℤ a) +ℤ (k *ℤ b)))))
way_least e k d o f t a b some after before from to = prove_le_by (e ∷ k ∷ d ∷ o ∷ f ∷ t ∷ a ∷ b ∷ []) (Lt (Num (pos 0)) (Var 0) ∷ Le (Num (pos 0)) (Var 1) ∷ Le (Var 1) (Var 0) ∷ Le (Mul (Num (pos 2)) (Sub (Var 6) (Mul (Var 2) (Var 4)))) (Var 3) ∷ Le (Mul (Num (pos 2)) (Sub (Var 7) (Mul (Var 2) (Var 5)))) (Var 3) ∷ []) (Sub (Num (pos 0)) (Mul (Var 0) (Mul (Var 0) (Var 3)))) (Mul (Num (pos 2)) (Sub (Mul (Mul (Var 0) (Var 2)) (Add (Mul (Sub (Var 0) (Var 1)) (Var 4)) (Mul (Var 1) (Var 5)))) (Mul (Var 0) (Add (Mul (Sub (Var 0) (Var 1)) (Var 6)) (Mul (Var 1) (Var 7)))))) (Plus (Hyp 0) (Plus (Times (Times (Plus (Hyp 1) (Lit 1)) (Hyp 3)) (Hyp 4)) (Times (Times (Plus (Hyp 1) (Lit 1)) (Hyp 2)) (Hyp 5)))) 0 (some, (after, (before, (from, (to, tt))))) refl

-- vars e k d o f t a b; hyp some: 0 < e; hyp after: 0 <= k; hyp before: k <= e; hyp from: 2*(d*f - a) <= o; hyp to: 2*(d*t - b) <= o; goal 2*((e*d)*((e-k)*f + k*t) - e*((e-k)*a + k*b)) <= e*(e*o); mul some+ * before * from; mul some+ * after * to
pub way_most : (e k d o f t a b : ℤ) → (pos 0) <ℤ e → (pos 0) ≤ℤ k → k ≤ℤ e → ((pos 2) *ℤ ((d *ℤ f) -ℤ a)) ≤ℤ o → ((pos 2) *ℤ ((d *ℤ t) -ℤ b)) ≤ℤ o → ((pos 2) *ℤ (((e *ℤ d) *ℤ (((e -ℤ k) *ℤ f) +ℤ (k *ℤ t))) -ℤ (e *ℤ (((e -ℤ k) *ℤ a) +ℤ (k *ℤ b))))) ≤ℤ (e *ℤ (e *ℤ o))
way_most e k d o f t a b some after before from to = prove_le_by (e ∷ k ∷ d ∷ o ∷ f ∷ t ∷ a ∷ b ∷ []) (Lt (Num (pos 0)) (Var 0) ∷ Le (Num (pos 0)) (Var 1) ∷ Le (Var 1) (Var 0) ∷ Le (Mul (Num (pos 2)) (Sub (Mul (Var 2) (Var 4)) (Var 6))) (Var 3) ∷ Le (Mul (Num (pos 2)) (Sub (Mul (Var 2) (Var 5)) (Var 7))) (Var 3) ∷ []) (Mul (Num (pos 2)) (Sub (Mul (Mul (Var 0) (Var 2)) (Add (Mul (Sub (Var 0) (Var 1)) (Var 4)) (Mul (Var 1) (Var 5)))) (Mul (Var 0) (Add (Mul (Sub (Var 0) (Var 1)) (Var 6)) (Mul (Var 1) (Var 7)))))) (Mul (Var 0) (Mul (Var 0) (Var 3))) (Plus (Hyp 0) (Plus (Times (Times (Plus (Hyp 1) (Lit 1)) (Hyp 3)) (Hyp 4)) (Times (Times (Plus (Hyp 1) (Lit 1)) (Hyp 2)) (Hyp 5)))) 0 (some, (after, (before, (from, (to, tt))))) refl

-- vars e d o s; hyp h: o <= d*s; goal e*(e*o) <= e*((e*d)*s); mul h * sq(e)
pub way_width : (e d o s : ℤ) → o ≤ℤ (d *ℤ s) → (e *ℤ (e *ℤ o)) ≤ℤ (e *ℤ ((e *ℤ d) *ℤ s))
way_width e d o s h = prove_le_by (e ∷ d ∷ o ∷ s ∷ []) (Le (Var 2) (Mul (Var 1) (Var 3)) ∷ []) (Mul (Var 0) (Mul (Var 0) (Var 2))) (Mul (Var 0) (Mul (Mul (Var 0) (Var 1)) (Var 3))) (Plus (Hyp 0) (Times (Hyp 1) (Sq (Var 0)))) 0 (h, tt) refl

-- vars e d o s; hyp more: 0 < d; hyp h: o <= d*s; goal (e*d)*(e*o) <= (e*d)*((e*d)*s); mul h * sq(e) * more+
pub box_width : (e d o s : ℤ) → (pos 0) <ℤ d → o ≤ℤ (d *ℤ s) → ((e *ℤ d) *ℤ (e *ℤ o)) ≤ℤ ((e *ℤ d) *ℤ ((e *ℤ d) *ℤ s))
box_width e d o s more h = prove_le_by (e ∷ d ∷ o ∷ s ∷ []) (Lt (Num (pos 0)) (Var 1) ∷ Le (Var 2) (Mul (Var 1) (Var 3)) ∷ []) (Mul (Mul (Var 0) (Var 1)) (Mul (Var 0) (Var 2))) (Mul (Mul (Var 0) (Var 1)) (Mul (Mul (Var 0) (Var 1)) (Var 3))) (Plus (Hyp 0) (Times (Times (Hyp 2) (Sq (Var 0))) (Plus (Hyp 1) (Lit 1)))) 0 (more, (h, tt)) refl

-- vars g w c v; hyp some: 0 < g; hyp h: 2*(v - c) <= w; goal 0 - g*w <= 2*(g*c - g*v); mul some+ * h
pub box_least : (g w c v : ℤ) → (pos 0) <ℤ g → ((pos 2) *ℤ (v -ℤ c)) ≤ℤ w → ((pos 0) -ℤ (g *ℤ w)) ≤ℤ ((pos 2) *ℤ ((g *ℤ c) -ℤ (g *ℤ v)))
box_least g w c v some h = prove_le_by (g ∷ w ∷ c ∷ v ∷ []) (Lt (Num (pos 0)) (Var 0) ∷ Le (Mul (Num (pos 2)) (Sub (Var 3) (Var 2))) (Var 1) ∷ []) (Sub (Num (pos 0)) (Mul (Var 0) (Var 1))) (Mul (Num (pos 2)) (Sub (Mul (Var 0) (Var 2)) (Mul (Var 0) (Var 3)))) (Plus (Hyp 0) (Times (Plus (Hyp 1) (Lit 1)) (Hyp 2))) 0 (some, (h, tt)) refl

-- vars g w c v; hyp some: 0 < g; hyp h: 2*(c - v) <= w; goal 2*(g*c - g*v) <= g*w; mul some+ * h
pub box_most : (g w c v : ℤ) → (pos 0) <ℤ g → ((pos 2) *ℤ (c -ℤ v)) ≤ℤ w → ((pos 2) *ℤ ((g *ℤ c) -ℤ (g *ℤ v))) ≤ℤ (g *ℤ w)
box_most g w c v some h = prove_le_by (g ∷ w ∷ c ∷ v ∷ []) (Lt (Num (pos 0)) (Var 0) ∷ Le (Mul (Num (pos 2)) (Sub (Var 2) (Var 3))) (Var 1) ∷ []) (Mul (Num (pos 2)) (Sub (Mul (Var 0) (Var 2)) (Mul (Var 0) (Var 3)))) (Mul (Var 0) (Var 1)) (Plus (Hyp 0) (Times (Plus (Hyp 1) (Lit 1)) (Hyp 2))) 0 (some, (h, tt)) refl

-- vars d o l p a; hyp some: 0 < d; hyp h: l <= p; hyp end: 2*(d*p - a) <= o; goal 2*(d*l - a) <= o; mul some+ * h
pub lesser_end : (d o l p a : ℤ) → (pos 0) <ℤ d → l ≤ℤ p → ((pos 2) *ℤ ((d *ℤ p) -ℤ a)) ≤ℤ o → ((pos 2) *ℤ ((d *ℤ l) -ℤ a)) ≤ℤ o
lesser_end d o l p a some h end = prove_le_by (d ∷ o ∷ l ∷ p ∷ a ∷ []) (Lt (Num (pos 0)) (Var 0) ∷ Le (Var 2) (Var 3) ∷ Le (Mul (Num (pos 2)) (Sub (Mul (Var 0) (Var 3)) (Var 4))) (Var 1) ∷ []) (Mul (Num (pos 2)) (Sub (Mul (Var 0) (Var 2)) (Var 4))) (Var 1) (Plus (Hyp 0) (Plus (Hyp 3) (Times (Lit 2) (Times (Plus (Hyp 1) (Lit 1)) (Hyp 2))))) 0 (some, (h, (end, tt))) refl

-- vars d o g p a; hyp some: 0 < d; hyp h: p <= g; hyp end: 2*(a - d*p) <= o; goal 2*(a - d*g) <= o; mul some+ * h
pub greater_end : (d o g p a : ℤ) → (pos 0) <ℤ d → p ≤ℤ g → ((pos 2) *ℤ (a -ℤ (d *ℤ p))) ≤ℤ o → ((pos 2) *ℤ (a -ℤ (d *ℤ g))) ≤ℤ o
greater_end d o g p a some h end = prove_le_by (d ∷ o ∷ g ∷ p ∷ a ∷ []) (Lt (Num (pos 0)) (Var 0) ∷ Le (Var 3) (Var 2) ∷ Le (Mul (Num (pos 2)) (Sub (Var 4) (Mul (Var 0) (Var 3)))) (Var 1) ∷ []) (Mul (Num (pos 2)) (Sub (Var 4) (Mul (Var 0) (Var 2)))) (Var 1) (Plus (Hyp 0) (Plus (Hyp 3) (Times (Lit 2) (Times (Plus (Hyp 1) (Lit 1)) (Hyp 2))))) 0 (some, (h, (end, tt))) refl

-- vars e d o l w v; hyp some: 0 < e; hyp h: e*w <= v; hyp end: 2*(d*l - w) <= o; goal 2*((e*d)*l - v) <= e*o; mul some+ * end
pub under_least : (e d o l w v : ℤ) → (pos 0) <ℤ e → (e *ℤ w) ≤ℤ v → ((pos 2) *ℤ ((d *ℤ l) -ℤ w)) ≤ℤ o → ((pos 2) *ℤ (((e *ℤ d) *ℤ l) -ℤ v)) ≤ℤ (e *ℤ o)
under_least e d o l w v some h end = prove_le_by (e ∷ d ∷ o ∷ l ∷ w ∷ v ∷ []) (Lt (Num (pos 0)) (Var 0) ∷ Le (Mul (Var 0) (Var 4)) (Var 5) ∷ Le (Mul (Num (pos 2)) (Sub (Mul (Var 1) (Var 3)) (Var 4))) (Var 2) ∷ []) (Mul (Num (pos 2)) (Sub (Mul (Mul (Var 0) (Var 1)) (Var 3)) (Var 5))) (Mul (Var 0) (Var 2)) (Plus (Hyp 0) (Plus (Times (Lit 2) (Hyp 2)) (Times (Plus (Hyp 1) (Lit 1)) (Hyp 3)))) 0 (some, (h, (end, tt))) refl

-- vars e d o g w v; hyp some: 0 < e; hyp h: v <= e*w; hyp end: 2*(w - d*g) <= o; goal 2*(v - (e*d)*g) <= e*o; mul some+ * end
pub over_most : (e d o g w v : ℤ) → (pos 0) <ℤ e → v ≤ℤ (e *ℤ w) → ((pos 2) *ℤ (w -ℤ (d *ℤ g))) ≤ℤ o → ((pos 2) *ℤ (v -ℤ ((e *ℤ d) *ℤ g))) ≤ℤ (e *ℤ o)
over_most e d o g w v some h end = prove_le_by (e ∷ d ∷ o ∷ g ∷ w ∷ v ∷ []) (Lt (Num (pos 0)) (Var 0) ∷ Le (Var 5) (Mul (Var 0) (Var 4)) ∷ Le (Mul (Num (pos 2)) (Sub (Var 4) (Mul (Var 1) (Var 3)))) (Var 2) ∷ []) (Mul (Num (pos 2)) (Sub (Var 5) (Mul (Mul (Var 0) (Var 1)) (Var 3)))) (Mul (Var 0) (Var 2)) (Plus (Hyp 0) (Plus (Times (Lit 2) (Hyp 2)) (Times (Plus (Hyp 1) (Lit 1)) (Hyp 3)))) 0 (some, (h, (end, tt))) refl

-- vars g l m; hyp some: 0 < g; hyp h: l <= m; goal g*l <= g*m; mul some+ * h
pub scaled_order : (g l m : ℤ) → (pos 0) <ℤ g → l ≤ℤ m → (g *ℤ l) ≤ℤ (g *ℤ m)
scaled_order g l m some h = prove_le_by (g ∷ l ∷ m ∷ []) (Lt (Num (pos 0)) (Var 0) ∷ Le (Var 1) (Var 2) ∷ []) (Mul (Var 0) (Var 1)) (Mul (Var 0) (Var 2)) (Plus (Hyp 0) (Times (Plus (Hyp 1) (Lit 1)) (Hyp 2))) 0 (some, (h, tt)) refl

pub up_mean : (n f t v : ℤ) → ((t -ℤ f) *ℤ v) ≡ ((((n *ℤ (t -ℤ f)) -ℤ (v -ℤ (n *ℤ f))) *ℤ f) +ℤ ((v -ℤ (n *ℤ f)) *ℤ t))
up_mean n f t v = ring (n ∷ f ∷ t ∷ v ∷ []) (Mul (Sub (Var 2) (Var 1)) (Var 3)) (Add (Mul (Sub (Mul (Var 0) (Sub (Var 2) (Var 1))) (Sub (Var 3) (Mul (Var 0) (Var 1)))) (Var 1)) (Mul (Sub (Var 3) (Mul (Var 0) (Var 1))) (Var 2))) refl

pub down_mean : (n f t v : ℤ) → ((f -ℤ t) *ℤ v) ≡ ((((n *ℤ (f -ℤ t)) -ℤ ((n *ℤ f) -ℤ v)) *ℤ f) +ℤ (((n *ℤ f) -ℤ v) *ℤ t))
down_mean n f t v = ring (n ∷ f ∷ t ∷ v ∷ []) (Mul (Sub (Var 1) (Var 2)) (Var 3)) (Add (Mul (Sub (Mul (Var 0) (Sub (Var 1) (Var 2))) (Sub (Mul (Var 0) (Var 1)) (Var 3))) (Var 1)) (Mul (Sub (Mul (Var 0) (Var 1)) (Var 3)) (Var 2))) refl

-- vars n f t v; hyp h: v <= n*t; goal v - n*f <= n*(t-f)
pub up_before : (n f t v : ℤ) → v ≤ℤ (n *ℤ t) → (v -ℤ (n *ℤ f)) ≤ℤ (n *ℤ (t -ℤ f))
up_before n f t v h = prove_le_by (n ∷ f ∷ t ∷ v ∷ []) (Le (Var 3) (Mul (Var 0) (Var 2)) ∷ []) (Sub (Var 3) (Mul (Var 0) (Var 1))) (Mul (Var 0) (Sub (Var 2) (Var 1))) (Plus (Hyp 0) (Hyp 1)) 0 (h, tt) refl

-- vars n f t v; hyp h: n*t <= v; goal n*f - v <= n*(f-t)
pub down_before : (n f t v : ℤ) → (n *ℤ t) ≤ℤ v → ((n *ℤ f) -ℤ v) ≤ℤ (n *ℤ (f -ℤ t))
down_before n f t v h = prove_le_by (n ∷ f ∷ t ∷ v ∷ []) (Le (Mul (Var 0) (Var 2)) (Var 3) ∷ []) (Sub (Mul (Var 0) (Var 1)) (Var 3)) (Mul (Var 0) (Sub (Var 1) (Var 2))) (Plus (Hyp 0) (Hyp 1)) 0 (h, tt) refl

pub still_mean : (h k n f : ℤ) → (h *ℤ (n *ℤ f)) ≡ ((((n *ℤ h) -ℤ k) *ℤ f) +ℤ (k *ℤ f))
still_mean h k n f = ring (h ∷ k ∷ n ∷ f ∷ []) (Mul (Var 0) (Mul (Var 2) (Var 3))) (Add (Mul (Sub (Mul (Var 2) (Var 0)) (Var 1)) (Var 3)) (Mul (Var 1) (Var 3))) refl
