-- Polynomial facts behind the law that a leaf's outer cutter holds what the cutter holds.
-- Written by tools/certificates.py from tools/certificates/mill_sweep_outer.spec.
use Rattle.std.proofs.Common.{[], ◌∷◌, refl}
use lib.IntN.{ℤ, pos, ◌+ℤ◌, ◌-ℤ◌, ◌*ℤ◌}
use lib.Signed.{◌<ℤ◌, ◌≤ℤ◌}
use Rattle.mill_base.proofs.Ring.{Var, Num, Add, Sub, Mul}
use Rattle.mill_base.proofs.Cert.{Le, Lt, Hyp, Sq, Lit, Plus, Times, prove_le_by, prove_lt_by}

-- vars x y a b r q; hyp h1: x*x+y*y < r*r; hyp h2: a*a+b*b <= q*q; hyp h3: x*a+y*b <= r*q; goal (x+a)*(x+a)+(y+b)*(y+b) < (r+q)*(r+q)
pub sum_lt : (x y a b r q : ℤ) → ((x *ℤ x) +ℤ (y *ℤ y)) <ℤ (r *ℤ r) → ((a *ℤ a) +ℤ (b *ℤ b)) ≤ℤ (q *ℤ q) → ((x *ℤ a) +ℤ (y *ℤ b)) ≤ℤ (r *ℤ q) → (((x +ℤ a) *ℤ (x +ℤ a)) +ℤ ((y +ℤ b) *ℤ (y +ℤ b))) <ℤ ((r +ℤ q) *ℤ (r +ℤ q))
sum_lt x y a b r q h1 h2 h3 = prove_lt_by (x ∷ y ∷ a ∷ b ∷ r ∷ q ∷ []) (Lt (Add (Mul (Var 0) (Var 0)) (Mul (Var 1) (Var 1))) (Mul (Var 4) (Var 4)) ∷ Le (Add (Mul (Var 2) (Var 2)) (Mul (Var 3) (Var 3))) (Mul (Var 5) (Var 5)) ∷ Le (Add (Mul (Var 0) (Var 2)) (Mul (Var 1) (Var 3))) (Mul (Var 4) (Var 5)) ∷ []) (Add (Mul (Add (Var 0) (Var 2)) (Add (Var 0) (Var 2))) (Mul (Add (Var 1) (Var 3)) (Add (Var 1) (Var 3)))) (Mul (Add (Var 4) (Var 5)) (Add (Var 4) (Var 5))) (Plus (Hyp 0) (Plus (Hyp 1) (Plus (Hyp 2) (Times (Lit 2) (Hyp 3))))) 0 (h1, (h2, (h3, tt))) refl

-- vars x y a b r q; hyp h1: x*x+y*y < r*r; hyp h2: a*a+b*b <= q*q; hyp p1: 0 <= r; hyp p2: 0 <= q; goal x*a+y*b <= r*q; square x*b-y*a; mul goal * goal; mul goal * p1 * p2; mul p1 * p2; mul h1 * sq(q); square q; mul sq(x) * h2; mul sq(y) * h2
pub dot_le : (x y a b r q : ℤ) → ((x *ℤ x) +ℤ (y *ℤ y)) <ℤ (r *ℤ r) → ((a *ℤ a) +ℤ (b *ℤ b)) ≤ℤ (q *ℤ q) → (pos 0) ≤ℤ r → (pos 0) ≤ℤ q → ((x *ℤ a) +ℤ (y *ℤ b)) ≤ℤ (r *ℤ q)
dot_le x y a b r q h1 h2 p1 p2 = prove_le_by (x ∷ y ∷ a ∷ b ∷ r ∷ q ∷ []) (Lt (Add (Mul (Var 0) (Var 0)) (Mul (Var 1) (Var 1))) (Mul (Var 4) (Var 4)) ∷ Le (Add (Mul (Var 2) (Var 2)) (Mul (Var 3) (Var 3))) (Mul (Var 5) (Var 5)) ∷ Le (Num (pos 0)) (Var 4) ∷ Le (Num (pos 0)) (Var 5) ∷ []) (Add (Mul (Var 0) (Var 2)) (Mul (Var 1) (Var 3))) (Mul (Var 4) (Var 5)) (Plus (Times (Lit 2) (Hyp 0)) (Plus (Sq (Sub (Mul (Var 0) (Var 3)) (Mul (Var 1) (Var 2)))) (Plus (Times (Hyp 0) (Hyp 0)) (Plus (Times (Lit 2) (Times (Times (Hyp 0) (Hyp 3)) (Hyp 4))) (Plus (Times (Lit 2) (Times (Hyp 3) (Hyp 4))) (Plus (Times (Hyp 1) (Sq (Var 5))) (Plus (Sq (Var 5)) (Plus (Times (Sq (Var 0)) (Hyp 2)) (Times (Sq (Var 1)) (Hyp 2)))))))))) 0 (h1, (h2, (p1, (p2, tt)))) refl

-- vars s R m n; hyp h: s < (R*R)*((m*n)*(m*n)); goal s < (n*(m*R))*(n*(m*R))
pub near_form : (s R m n : ℤ) → s <ℤ ((R *ℤ R) *ℤ ((m *ℤ n) *ℤ (m *ℤ n))) → s <ℤ ((n *ℤ (m *ℤ R)) *ℤ (n *ℤ (m *ℤ R)))
near_form s R m n h = prove_lt_by (s ∷ R ∷ m ∷ n ∷ []) (Lt (Var 0) (Mul (Mul (Var 1) (Var 1)) (Mul (Mul (Var 2) (Var 3)) (Mul (Var 2) (Var 3)))) ∷ []) (Var 0) (Mul (Mul (Var 3) (Mul (Var 2) (Var 1))) (Mul (Var 3) (Mul (Var 2) (Var 1)))) (Plus (Hyp 0) (Hyp 1)) 0 (h, tt) refl

-- vars m n px py tx ty cx cy R q; hyp hm: 0 < m; hyp h: ((m*px - n*tx) + n*(tx - m*cx))*((m*px - n*tx) + n*(tx - m*cx)) + ((m*py - n*ty) + n*(ty - m*cy))*((m*py - n*ty) + n*(ty - m*cy)) < (n*(m*R) + n*(m*q))*(n*(m*R) + n*(m*q)); goal (1*px - n*cx)*(1*px - n*cx) + (1*py - n*cy)*(1*py - n*cy) < ((R+q)*(R+q))*((1*n)*(1*n)); mul goal * sq(m)
pub near_unscale : (m n px py tx ty cx cy R q : ℤ) → (pos 0) <ℤ m → (((((m *ℤ px) -ℤ (n *ℤ tx)) +ℤ (n *ℤ (tx -ℤ (m *ℤ cx)))) *ℤ (((m *ℤ px) -ℤ (n *ℤ tx)) +ℤ (n *ℤ (tx -ℤ (m *ℤ cx))))) +ℤ ((((m *ℤ py) -ℤ (n *ℤ ty)) +ℤ (n *ℤ (ty -ℤ (m *ℤ cy)))) *ℤ (((m *ℤ py) -ℤ (n *ℤ ty)) +ℤ (n *ℤ (ty -ℤ (m *ℤ cy)))))) <ℤ (((n *ℤ (m *ℤ R)) +ℤ (n *ℤ (m *ℤ q))) *ℤ ((n *ℤ (m *ℤ R)) +ℤ (n *ℤ (m *ℤ q)))) → (((((pos 1) *ℤ px) -ℤ (n *ℤ cx)) *ℤ (((pos 1) *ℤ px) -ℤ (n *ℤ cx))) +ℤ ((((pos 1) *ℤ py) -ℤ (n *ℤ cy)) *ℤ (((pos 1) *ℤ py) -ℤ (n *ℤ cy)))) <ℤ (((R +ℤ q) *ℤ (R +ℤ q)) *ℤ (((pos 1) *ℤ n) *ℤ ((pos 1) *ℤ n)))
near_unscale m n px py tx ty cx cy R q hm h = prove_lt_by (m ∷ n ∷ px ∷ py ∷ tx ∷ ty ∷ cx ∷ cy ∷ R ∷ q ∷ []) (Lt (Num (pos 0)) (Var 0) ∷ Lt (Add (Mul (Add (Sub (Mul (Var 0) (Var 2)) (Mul (Var 1) (Var 4))) (Mul (Var 1) (Sub (Var 4) (Mul (Var 0) (Var 6))))) (Add (Sub (Mul (Var 0) (Var 2)) (Mul (Var 1) (Var 4))) (Mul (Var 1) (Sub (Var 4) (Mul (Var 0) (Var 6)))))) (Mul (Add (Sub (Mul (Var 0) (Var 3)) (Mul (Var 1) (Var 5))) (Mul (Var 1) (Sub (Var 5) (Mul (Var 0) (Var 7))))) (Add (Sub (Mul (Var 0) (Var 3)) (Mul (Var 1) (Var 5))) (Mul (Var 1) (Sub (Var 5) (Mul (Var 0) (Var 7))))))) (Mul (Add (Mul (Var 1) (Mul (Var 0) (Var 8))) (Mul (Var 1) (Mul (Var 0) (Var 9)))) (Add (Mul (Var 1) (Mul (Var 0) (Var 8))) (Mul (Var 1) (Mul (Var 0) (Var 9))))) ∷ []) (Add (Mul (Sub (Mul (Num (pos 1)) (Var 2)) (Mul (Var 1) (Var 6))) (Sub (Mul (Num (pos 1)) (Var 2)) (Mul (Var 1) (Var 6)))) (Mul (Sub (Mul (Num (pos 1)) (Var 3)) (Mul (Var 1) (Var 7))) (Sub (Mul (Num (pos 1)) (Var 3)) (Mul (Var 1) (Var 7))))) (Mul (Mul (Add (Var 8) (Var 9)) (Add (Var 8) (Var 9))) (Mul (Mul (Num (pos 1)) (Var 1)) (Mul (Num (pos 1)) (Var 1)))) (Plus (Hyp 2) (Times (Hyp 0) (Sq (Var 0)))) 0 (hm, (h, tt)) refl

-- vars m n pz tz zl; hyp hm: 0 < m; hyp hn: 0 < n; hyp hz: m*zl <= tz; hyp h: 0 < m*pz - n*tz; goal m*0 < m*(1*pz - n*(zl - 0)); mul hn+ * hz
pub flat_over : (m n pz tz zl : ℤ) → (pos 0) <ℤ m → (pos 0) <ℤ n → (m *ℤ zl) ≤ℤ tz → (pos 0) <ℤ ((m *ℤ pz) -ℤ (n *ℤ tz)) → (m *ℤ (pos 0)) <ℤ (m *ℤ (((pos 1) *ℤ pz) -ℤ (n *ℤ (zl -ℤ (pos 0)))))
flat_over m n pz tz zl hm hn hz h = prove_lt_by (m ∷ n ∷ pz ∷ tz ∷ zl ∷ []) (Lt (Num (pos 0)) (Var 0) ∷ Lt (Num (pos 0)) (Var 1) ∷ Le (Mul (Var 0) (Var 4)) (Var 3) ∷ Lt (Num (pos 0)) (Sub (Mul (Var 0) (Var 2)) (Mul (Var 1) (Var 3))) ∷ []) (Mul (Var 0) (Num (pos 0))) (Mul (Var 0) (Sub (Mul (Num (pos 1)) (Var 2)) (Mul (Var 1) (Sub (Var 4) (Num (pos 0)))))) (Plus (Hyp 0) (Plus (Hyp 4) (Times (Plus (Hyp 2) (Lit 1)) (Hyp 3)))) 0 (hm, (hn, (hz, (h, tt)))) refl

-- vars m n pz tz zl R; hyp hm: 0 < m; hyp hn: 0 < n; hyp hz: m*zl <= tz; hyp h: R*(m*n) <= m*pz - n*tz; goal m*(R*n) <= m*(pz - n*zl); mul hn+ * hz
pub ball_top : (m n pz tz zl R : ℤ) → (pos 0) <ℤ m → (pos 0) <ℤ n → (m *ℤ zl) ≤ℤ tz → (R *ℤ (m *ℤ n)) ≤ℤ ((m *ℤ pz) -ℤ (n *ℤ tz)) → (m *ℤ (R *ℤ n)) ≤ℤ (m *ℤ (pz -ℤ (n *ℤ zl)))
ball_top m n pz tz zl R hm hn hz h = prove_le_by (m ∷ n ∷ pz ∷ tz ∷ zl ∷ R ∷ []) (Lt (Num (pos 0)) (Var 0) ∷ Lt (Num (pos 0)) (Var 1) ∷ Le (Mul (Var 0) (Var 4)) (Var 3) ∷ Le (Mul (Var 5) (Mul (Var 0) (Var 1))) (Sub (Mul (Var 0) (Var 2)) (Mul (Var 1) (Var 3))) ∷ []) (Mul (Var 0) (Mul (Var 5) (Var 1))) (Mul (Var 0) (Sub (Var 2) (Mul (Var 1) (Var 4)))) (Plus (Hyp 0) (Plus (Hyp 4) (Times (Plus (Hyp 2) (Lit 1)) (Hyp 3)))) 0 (hm, (hn, (hz, (h, tt)))) refl

-- vars n pz zl R q; hyp h: R*n <= pz - n*zl; goal (R+q)*(1*n) <= 1*pz - n*(zl - q)
pub ball_top_out : (n pz zl R q : ℤ) → (R *ℤ n) ≤ℤ (pz -ℤ (n *ℤ zl)) → ((R +ℤ q) *ℤ ((pos 1) *ℤ n)) ≤ℤ (((pos 1) *ℤ pz) -ℤ (n *ℤ (zl -ℤ q)))
ball_top_out n pz zl R q h = prove_le_by (n ∷ pz ∷ zl ∷ R ∷ q ∷ []) (Le (Mul (Var 3) (Var 0)) (Sub (Var 1) (Mul (Var 0) (Var 2))) ∷ []) (Mul (Add (Var 3) (Var 4)) (Mul (Num (pos 1)) (Var 0))) (Sub (Mul (Num (pos 1)) (Var 1)) (Mul (Var 0) (Sub (Var 2) (Var 4)))) (Plus (Hyp 0) (Hyp 1)) 0 (h, tt) refl

-- vars m n pz tz zl R s; hyp hm: 0 < m; hyp hn: 0 < n; hyp hz: m*zl <= tz; hyp hc: pz - n*zl < R*n; hyp h: s + (m*pz - n*tz - R*(m*n))*(m*pz - n*tz - R*(m*n)) < (R*R)*((m*n)*(m*n)); goal s + (m*(pz - n*zl - R*n))*(m*(pz - n*zl - R*n)) < (n*(m*R))*(n*(m*R)); mul hn+ * hz * hm+ * hc+; mul hn+ * hz * hn+ * hz
pub ball_deep : (m n pz tz zl R s : ℤ) → (pos 0) <ℤ m → (pos 0) <ℤ n → (m *ℤ zl) ≤ℤ tz → (pz -ℤ (n *ℤ zl)) <ℤ (R *ℤ n) → (s +ℤ ((((m *ℤ pz) -ℤ (n *ℤ tz)) -ℤ (R *ℤ (m *ℤ n))) *ℤ (((m *ℤ pz) -ℤ (n *ℤ tz)) -ℤ (R *ℤ (m *ℤ n))))) <ℤ ((R *ℤ R) *ℤ ((m *ℤ n) *ℤ (m *ℤ n))) → (s +ℤ ((m *ℤ ((pz -ℤ (n *ℤ zl)) -ℤ (R *ℤ n))) *ℤ (m *ℤ ((pz -ℤ (n *ℤ zl)) -ℤ (R *ℤ n))))) <ℤ ((n *ℤ (m *ℤ R)) *ℤ (n *ℤ (m *ℤ R)))
ball_deep m n pz tz zl R s hm hn hz hc h = prove_lt_by (m ∷ n ∷ pz ∷ tz ∷ zl ∷ R ∷ s ∷ []) (Lt (Num (pos 0)) (Var 0) ∷ Lt (Num (pos 0)) (Var 1) ∷ Le (Mul (Var 0) (Var 4)) (Var 3) ∷ Lt (Sub (Var 2) (Mul (Var 1) (Var 4))) (Mul (Var 5) (Var 1)) ∷ Lt (Add (Var 6) (Mul (Sub (Sub (Mul (Var 0) (Var 2)) (Mul (Var 1) (Var 3))) (Mul (Var 5) (Mul (Var 0) (Var 1)))) (Sub (Sub (Mul (Var 0) (Var 2)) (Mul (Var 1) (Var 3))) (Mul (Var 5) (Mul (Var 0) (Var 1)))))) (Mul (Mul (Var 5) (Var 5)) (Mul (Mul (Var 0) (Var 1)) (Mul (Var 0) (Var 1)))) ∷ []) (Add (Var 6) (Mul (Mul (Var 0) (Sub (Sub (Var 2) (Mul (Var 1) (Var 4))) (Mul (Var 5) (Var 1)))) (Mul (Var 0) (Sub (Sub (Var 2) (Mul (Var 1) (Var 4))) (Mul (Var 5) (Var 1)))))) (Mul (Mul (Var 1) (Mul (Var 0) (Var 5))) (Mul (Var 1) (Mul (Var 0) (Var 5)))) (Plus (Hyp 0) (Plus (Hyp 5) (Plus (Times (Lit 2) (Times (Times (Times (Plus (Hyp 2) (Lit 1)) (Hyp 3)) (Plus (Hyp 1) (Lit 1))) (Plus (Hyp 4) (Lit 1)))) (Times (Times (Times (Plus (Hyp 2) (Lit 1)) (Hyp 3)) (Plus (Hyp 2) (Lit 1))) (Hyp 3))))) 0 (hm, (hn, (hz, (hc, (h, tt))))) refl

-- vars x y a b c r q; hyp h1: x*x+y*y+c*c < r*r; hyp h2: a*a+b*b <= q*q; hyp h3: x*a+y*b <= r*q; goal ((x+a)*(x+a)+(y+b)*(y+b))+c*c < (r+q)*(r+q)
pub ball_sum : (x y a b c r q : ℤ) → (((x *ℤ x) +ℤ (y *ℤ y)) +ℤ (c *ℤ c)) <ℤ (r *ℤ r) → ((a *ℤ a) +ℤ (b *ℤ b)) ≤ℤ (q *ℤ q) → ((x *ℤ a) +ℤ (y *ℤ b)) ≤ℤ (r *ℤ q) → ((((x +ℤ a) *ℤ (x +ℤ a)) +ℤ ((y +ℤ b) *ℤ (y +ℤ b))) +ℤ (c *ℤ c)) <ℤ ((r +ℤ q) *ℤ (r +ℤ q))
ball_sum x y a b c r q h1 h2 h3 = prove_lt_by (x ∷ y ∷ a ∷ b ∷ c ∷ r ∷ q ∷ []) (Lt (Add (Add (Mul (Var 0) (Var 0)) (Mul (Var 1) (Var 1))) (Mul (Var 4) (Var 4))) (Mul (Var 5) (Var 5)) ∷ Le (Add (Mul (Var 2) (Var 2)) (Mul (Var 3) (Var 3))) (Mul (Var 6) (Var 6)) ∷ Le (Add (Mul (Var 0) (Var 2)) (Mul (Var 1) (Var 3))) (Mul (Var 5) (Var 6)) ∷ []) (Add (Add (Mul (Add (Var 0) (Var 2)) (Add (Var 0) (Var 2))) (Mul (Add (Var 1) (Var 3)) (Add (Var 1) (Var 3)))) (Mul (Var 4) (Var 4))) (Mul (Add (Var 5) (Var 6)) (Add (Var 5) (Var 6))) (Plus (Hyp 0) (Plus (Hyp 1) (Plus (Hyp 2) (Times (Lit 2) (Hyp 3))))) 0 (h1, (h2, (h3, tt))) refl

-- vars m n px py tx ty cx cy R q pz zl; hyp hm: 0 < m; hyp h: (((m*px - n*tx) + n*(tx - m*cx))*((m*px - n*tx) + n*(tx - m*cx)) + ((m*py - n*ty) + n*(ty - m*cy))*((m*py - n*ty) + n*(ty - m*cy))) + (m*(pz - n*zl - R*n))*(m*(pz - n*zl - R*n)) < (n*(m*R) + n*(m*q))*(n*(m*R) + n*(m*q)); goal ((1*px - n*cx)*(1*px - n*cx) + (1*py - n*cy)*(1*py - n*cy)) + (1*pz - n*(zl - q) - (R+q)*(1*n))*(1*pz - n*(zl - q) - (R+q)*(1*n)) < ((R+q)*(R+q))*((1*n)*(1*n)); mul goal * sq(m)
pub ball_unscale : (m n px py tx ty cx cy R q pz zl : ℤ) → (pos 0) <ℤ m → ((((((m *ℤ px) -ℤ (n *ℤ tx)) +ℤ (n *ℤ (tx -ℤ (m *ℤ cx)))) *ℤ (((m *ℤ px) -ℤ (n *ℤ tx)) +ℤ (n *ℤ (tx -ℤ (m *ℤ cx))))) +ℤ ((((m *ℤ py) -ℤ (n *ℤ ty)) +ℤ (n *ℤ (ty -ℤ (m *ℤ cy)))) *ℤ (((m *ℤ py) -ℤ (n *ℤ ty)) +ℤ (n *ℤ (ty -ℤ (m *ℤ cy)))))) +ℤ ((m *ℤ ((pz -ℤ (n *ℤ zl)) -ℤ (R *ℤ n))) *ℤ (m *ℤ ((pz -ℤ (n *ℤ zl)) -ℤ (R *ℤ n))))) <ℤ (((n *ℤ (m *ℤ R)) +ℤ (n *ℤ (m *ℤ q))) *ℤ ((n *ℤ (m *ℤ R)) +ℤ (n *ℤ (m *ℤ q)))) → ((((((pos 1) *ℤ px) -ℤ (n *ℤ cx)) *ℤ (((pos 1) *ℤ px) -ℤ (n *ℤ cx))) +ℤ ((((pos 1) *ℤ py) -ℤ (n *ℤ cy)) *ℤ (((pos 1) *ℤ py) -ℤ (n *ℤ cy)))) +ℤ (((((pos 1) *ℤ pz) -ℤ (n *ℤ (zl -ℤ q))) -ℤ ((R +ℤ q) *ℤ ((pos 1) *ℤ n))) *ℤ ((((pos 1) *ℤ pz) -ℤ (n *ℤ (zl -ℤ q))) -ℤ ((R +ℤ q) *ℤ ((pos 1) *ℤ n))))) <ℤ (((R +ℤ q) *ℤ (R +ℤ q)) *ℤ (((pos 1) *ℤ n) *ℤ ((pos 1) *ℤ n)))
ball_unscale m n px py tx ty cx cy R q pz zl hm h = prove_lt_by (m ∷ n ∷ px ∷ py ∷ tx ∷ ty ∷ cx ∷ cy ∷ R ∷ q ∷ pz ∷ zl ∷ []) (Lt (Num (pos 0)) (Var 0) ∷ Lt (Add (Add (Mul (Add (Sub (Mul (Var 0) (Var 2)) (Mul (Var 1) (Var 4))) (Mul (Var 1) (Sub (Var 4) (Mul (Var 0) (Var 6))))) (Add (Sub (Mul (Var 0) (Var 2)) (Mul (Var 1) (Var 4))) (Mul (Var 1) (Sub (Var 4) (Mul (Var 0) (Var 6)))))) (Mul (Add (Sub (Mul (Var 0) (Var 3)) (Mul (Var 1) (Var 5))) (Mul (Var 1) (Sub (Var 5) (Mul (Var 0) (Var 7))))) (Add (Sub (Mul (Var 0) (Var 3)) (Mul (Var 1) (Var 5))) (Mul (Var 1) (Sub (Var 5) (Mul (Var 0) (Var 7))))))) (Mul (Mul (Var 0) (Sub (Sub (Var 10) (Mul (Var 1) (Var 11))) (Mul (Var 8) (Var 1)))) (Mul (Var 0) (Sub (Sub (Var 10) (Mul (Var 1) (Var 11))) (Mul (Var 8) (Var 1)))))) (Mul (Add (Mul (Var 1) (Mul (Var 0) (Var 8))) (Mul (Var 1) (Mul (Var 0) (Var 9)))) (Add (Mul (Var 1) (Mul (Var 0) (Var 8))) (Mul (Var 1) (Mul (Var 0) (Var 9))))) ∷ []) (Add (Add (Mul (Sub (Mul (Num (pos 1)) (Var 2)) (Mul (Var 1) (Var 6))) (Sub (Mul (Num (pos 1)) (Var 2)) (Mul (Var 1) (Var 6)))) (Mul (Sub (Mul (Num (pos 1)) (Var 3)) (Mul (Var 1) (Var 7))) (Sub (Mul (Num (pos 1)) (Var 3)) (Mul (Var 1) (Var 7))))) (Mul (Sub (Sub (Mul (Num (pos 1)) (Var 10)) (Mul (Var 1) (Sub (Var 11) (Var 9)))) (Mul (Add (Var 8) (Var 9)) (Mul (Num (pos 1)) (Var 1)))) (Sub (Sub (Mul (Num (pos 1)) (Var 10)) (Mul (Var 1) (Sub (Var 11) (Var 9)))) (Mul (Add (Var 8) (Var 9)) (Mul (Num (pos 1)) (Var 1)))))) (Mul (Mul (Add (Var 8) (Var 9)) (Add (Var 8) (Var 9))) (Mul (Mul (Num (pos 1)) (Var 1)) (Mul (Num (pos 1)) (Var 1)))) (Plus (Hyp 2) (Times (Hyp 0) (Sq (Var 0)))) 0 (hm, (h, tt)) refl

-- vars a b x y z; hyp h: (a*a)*(x*x+y*y) < (b*b)*(z*z); goal (a*x)*(a*x)+(a*y)*(a*y) < (b*z)*(b*z)
pub cone_first : (a b x y z : ℤ) → ((a *ℤ a) *ℤ ((x *ℤ x) +ℤ (y *ℤ y))) <ℤ ((b *ℤ b) *ℤ (z *ℤ z)) → (((a *ℤ x) *ℤ (a *ℤ x)) +ℤ ((a *ℤ y) *ℤ (a *ℤ y))) <ℤ ((b *ℤ z) *ℤ (b *ℤ z))
cone_first a b x y z h = prove_lt_by (a ∷ b ∷ x ∷ y ∷ z ∷ []) (Lt (Mul (Mul (Var 0) (Var 0)) (Add (Mul (Var 2) (Var 2)) (Mul (Var 3) (Var 3)))) (Mul (Mul (Var 1) (Var 1)) (Mul (Var 4) (Var 4))) ∷ []) (Add (Mul (Mul (Var 0) (Var 2)) (Mul (Var 0) (Var 2))) (Mul (Mul (Var 0) (Var 3)) (Mul (Var 0) (Var 3)))) (Mul (Mul (Var 1) (Var 4)) (Mul (Var 1) (Var 4))) (Plus (Hyp 0) (Hyp 1)) 0 (h, tt) refl

-- vars a b m n pz tz zl s q; hyp hb: 0 < b; hyp hm: 0 < m; hyp hn: 0 < n; hyp hz: m*zl <= tz; hyp hs: q*a <= b*s; goal b*(m*pz - n*tz) + a*(n*(m*q)) <= b*(m*(1*pz - n*(zl - s))); mul hb+ * hn+ * hz; mul hn+ * hm+ * hs
pub cone_reach : (a b m n pz tz zl s q : ℤ) → (pos 0) <ℤ b → (pos 0) <ℤ m → (pos 0) <ℤ n → (m *ℤ zl) ≤ℤ tz → (q *ℤ a) ≤ℤ (b *ℤ s) → ((b *ℤ ((m *ℤ pz) -ℤ (n *ℤ tz))) +ℤ (a *ℤ (n *ℤ (m *ℤ q)))) ≤ℤ (b *ℤ (m *ℤ (((pos 1) *ℤ pz) -ℤ (n *ℤ (zl -ℤ s)))))
cone_reach a b m n pz tz zl s q hb hm hn hz hs = prove_le_by (a ∷ b ∷ m ∷ n ∷ pz ∷ tz ∷ zl ∷ s ∷ q ∷ []) (Lt (Num (pos 0)) (Var 1) ∷ Lt (Num (pos 0)) (Var 2) ∷ Lt (Num (pos 0)) (Var 3) ∷ Le (Mul (Var 2) (Var 6)) (Var 5) ∷ Le (Mul (Var 8) (Var 0)) (Mul (Var 1) (Var 7)) ∷ []) (Add (Mul (Var 1) (Sub (Mul (Var 2) (Var 4)) (Mul (Var 3) (Var 5)))) (Mul (Var 0) (Mul (Var 3) (Mul (Var 2) (Var 8))))) (Mul (Var 1) (Mul (Var 2) (Sub (Mul (Num (pos 1)) (Var 4)) (Mul (Var 3) (Sub (Var 6) (Var 7)))))) (Plus (Hyp 0) (Plus (Times (Times (Plus (Hyp 1) (Lit 1)) (Plus (Hyp 3) (Lit 1))) (Hyp 4)) (Times (Times (Plus (Hyp 3) (Lit 1)) (Plus (Hyp 2) (Lit 1))) (Hyp 5)))) 0 (hb, (hm, (hn, (hz, (hs, tt))))) refl

-- vars m n pz tz zl s; hyp hm: 0 < m; hyp hn: 0 < n; hyp hz: m*zl <= tz; hyp hs: 0 <= s; hyp h: 0 < m*pz - n*tz; goal m*0 < m*(1*pz - n*(zl - s)); mul hn+ * hz; mul hm+ * hn+ * hs
pub cone_over : (m n pz tz zl s : ℤ) → (pos 0) <ℤ m → (pos 0) <ℤ n → (m *ℤ zl) ≤ℤ tz → (pos 0) ≤ℤ s → (pos 0) <ℤ ((m *ℤ pz) -ℤ (n *ℤ tz)) → (m *ℤ (pos 0)) <ℤ (m *ℤ (((pos 1) *ℤ pz) -ℤ (n *ℤ (zl -ℤ s))))
cone_over m n pz tz zl s hm hn hz hs h = prove_lt_by (m ∷ n ∷ pz ∷ tz ∷ zl ∷ s ∷ []) (Lt (Num (pos 0)) (Var 0) ∷ Lt (Num (pos 0)) (Var 1) ∷ Le (Mul (Var 0) (Var 4)) (Var 3) ∷ Le (Num (pos 0)) (Var 5) ∷ Lt (Num (pos 0)) (Sub (Mul (Var 0) (Var 2)) (Mul (Var 1) (Var 3))) ∷ []) (Mul (Var 0) (Num (pos 0))) (Mul (Var 0) (Sub (Mul (Num (pos 1)) (Var 2)) (Mul (Var 1) (Sub (Var 4) (Var 5))))) (Plus (Hyp 0) (Plus (Hyp 5) (Plus (Times (Plus (Hyp 2) (Lit 1)) (Hyp 3)) (Times (Times (Plus (Hyp 1) (Lit 1)) (Plus (Hyp 2) (Lit 1))) (Hyp 4))))) 0 (hm, (hn, (hz, (hs, (h, tt))))) refl

-- vars k l c s; hyp hk: 0 <= k; hyp hl: 0 <= l; hyp hm: k + l <= c; hyp h: s < (k+l)*(k+l); goal s < c*c; mul hm * hm; mul hk * hm; mul hl * hm
pub cone_up : (k l c s : ℤ) → (pos 0) ≤ℤ k → (pos 0) ≤ℤ l → (k +ℤ l) ≤ℤ c → s <ℤ ((k +ℤ l) *ℤ (k +ℤ l)) → s <ℤ (c *ℤ c)
cone_up k l c s hk hl hm h = prove_lt_by (k ∷ l ∷ c ∷ s ∷ []) (Le (Num (pos 0)) (Var 0) ∷ Le (Num (pos 0)) (Var 1) ∷ Le (Add (Var 0) (Var 1)) (Var 2) ∷ Lt (Var 3) (Mul (Add (Var 0) (Var 1)) (Add (Var 0) (Var 1))) ∷ []) (Var 3) (Mul (Var 2) (Var 2)) (Plus (Hyp 0) (Plus (Hyp 4) (Plus (Times (Hyp 3) (Hyp 3)) (Plus (Times (Lit 2) (Times (Hyp 1) (Hyp 3))) (Times (Lit 2) (Times (Hyp 2) (Hyp 3))))))) 0 (hk, (hl, (hm, (h, tt)))) refl

-- vars m n px py tx ty cx cy a b z; hyp hm: 0 < m; hyp h: (a*(m*px - n*tx) + a*(n*(tx - m*cx)))*(a*(m*px - n*tx) + a*(n*(tx - m*cx))) + (a*(m*py - n*ty) + a*(n*(ty - m*cy)))*(a*(m*py - n*ty) + a*(n*(ty - m*cy))) < (b*(m*z))*(b*(m*z)); goal (a*a)*((1*px - n*cx)*(1*px - n*cx) + (1*py - n*cy)*(1*py - n*cy)) < (b*b)*(z*z); mul goal * sq(m)
pub cone_unscale : (m n px py tx ty cx cy a b z : ℤ) → (pos 0) <ℤ m → ((((a *ℤ ((m *ℤ px) -ℤ (n *ℤ tx))) +ℤ (a *ℤ (n *ℤ (tx -ℤ (m *ℤ cx))))) *ℤ ((a *ℤ ((m *ℤ px) -ℤ (n *ℤ tx))) +ℤ (a *ℤ (n *ℤ (tx -ℤ (m *ℤ cx)))))) +ℤ (((a *ℤ ((m *ℤ py) -ℤ (n *ℤ ty))) +ℤ (a *ℤ (n *ℤ (ty -ℤ (m *ℤ cy))))) *ℤ ((a *ℤ ((m *ℤ py) -ℤ (n *ℤ ty))) +ℤ (a *ℤ (n *ℤ (ty -ℤ (m *ℤ cy))))))) <ℤ ((b *ℤ (m *ℤ z)) *ℤ (b *ℤ (m *ℤ z))) → ((a *ℤ a) *ℤ (((((pos 1) *ℤ px) -ℤ (n *ℤ cx)) *ℤ (((pos 1) *ℤ px) -ℤ (n *ℤ cx))) +ℤ ((((pos 1) *ℤ py) -ℤ (n *ℤ cy)) *ℤ (((pos 1) *ℤ py) -ℤ (n *ℤ cy))))) <ℤ ((b *ℤ b) *ℤ (z *ℤ z))
cone_unscale m n px py tx ty cx cy a b z hm h = prove_lt_by (m ∷ n ∷ px ∷ py ∷ tx ∷ ty ∷ cx ∷ cy ∷ a ∷ b ∷ z ∷ []) (Lt (Num (pos 0)) (Var 0) ∷ Lt (Add (Mul (Add (Mul (Var 8) (Sub (Mul (Var 0) (Var 2)) (Mul (Var 1) (Var 4)))) (Mul (Var 8) (Mul (Var 1) (Sub (Var 4) (Mul (Var 0) (Var 6)))))) (Add (Mul (Var 8) (Sub (Mul (Var 0) (Var 2)) (Mul (Var 1) (Var 4)))) (Mul (Var 8) (Mul (Var 1) (Sub (Var 4) (Mul (Var 0) (Var 6))))))) (Mul (Add (Mul (Var 8) (Sub (Mul (Var 0) (Var 3)) (Mul (Var 1) (Var 5)))) (Mul (Var 8) (Mul (Var 1) (Sub (Var 5) (Mul (Var 0) (Var 7)))))) (Add (Mul (Var 8) (Sub (Mul (Var 0) (Var 3)) (Mul (Var 1) (Var 5)))) (Mul (Var 8) (Mul (Var 1) (Sub (Var 5) (Mul (Var 0) (Var 7)))))))) (Mul (Mul (Var 9) (Mul (Var 0) (Var 10))) (Mul (Var 9) (Mul (Var 0) (Var 10)))) ∷ []) (Mul (Mul (Var 8) (Var 8)) (Add (Mul (Sub (Mul (Num (pos 1)) (Var 2)) (Mul (Var 1) (Var 6))) (Sub (Mul (Num (pos 1)) (Var 2)) (Mul (Var 1) (Var 6)))) (Mul (Sub (Mul (Num (pos 1)) (Var 3)) (Mul (Var 1) (Var 7))) (Sub (Mul (Num (pos 1)) (Var 3)) (Mul (Var 1) (Var 7)))))) (Mul (Mul (Var 9) (Var 9)) (Mul (Var 10) (Var 10))) (Plus (Hyp 2) (Times (Hyp 0) (Sq (Var 0)))) 0 (hm, (h, tt)) refl
