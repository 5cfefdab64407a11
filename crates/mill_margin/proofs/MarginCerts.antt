-- Polynomial facts behind solids with a margin.
-- Written by tools/certificates.py from tools/certificates/mill_margin.spec.
use Rattle.std.proofs.Common.{[], ◌∷◌, refl}
use lib.IntN.{ℤ, pos, ◌+ℤ◌, ◌-ℤ◌, ◌*ℤ◌}
use lib.Signed.{◌<ℤ◌, ◌≤ℤ◌}
use Rattle.mill_base.proofs.Ring.{Var, Num, Add, Sub, Mul}
use Rattle.mill_base.proofs.Cert.{Le, Lt, Hyp, Sq, Lit, Plus, Times, prove_le_by, prove_lt_by}

-- vars m n k s tx ty tz rx ry rz; hyp h: ((n*tx - m*rx)*(n*tx - m*rx) + (n*ty - m*ry)*(n*ty - m*ry)) + (n*tz - m*rz)*(n*tz - m*rz) <= (m*(n*s))*(m*(n*s)); goal ((k*(m*rx - n*tx))*(k*(m*rx - n*tx)) + (k*(m*ry - n*ty))*(k*(m*ry - n*ty))) + (k*(m*rz - n*tz))*(k*(m*rz - n*tz)) <= (k*(m*(n*s)))*(k*(m*(n*s))); mul h * sq(k)
pub shift_sq : (m n k s tx ty tz rx ry rz : ℤ) → (((((n *ℤ tx) -ℤ (m *ℤ rx)) *ℤ ((n *ℤ tx) -ℤ (m *ℤ rx))) +ℤ (((n *ℤ ty) -ℤ (m *ℤ ry)) *ℤ ((n *ℤ ty) -ℤ (m *ℤ ry)))) +ℤ (((n *ℤ tz) -ℤ (m *ℤ rz)) *ℤ ((n *ℤ tz) -ℤ (m *ℤ rz)))) ≤ℤ ((m *ℤ (n *ℤ s)) *ℤ (m *ℤ (n *ℤ s))) → ((((k *ℤ ((m *ℤ rx) -ℤ (n *ℤ tx))) *ℤ (k *ℤ ((m *ℤ rx) -ℤ (n *ℤ tx)))) +ℤ ((k *ℤ ((m *ℤ ry) -ℤ (n *ℤ ty))) *ℤ (k *ℤ ((m *ℤ ry) -ℤ (n *ℤ ty))))) +ℤ ((k *ℤ ((m *ℤ rz) -ℤ (n *ℤ tz))) *ℤ (k *ℤ ((m *ℤ rz) -ℤ (n *ℤ tz))))) ≤ℤ ((k *ℤ (m *ℤ (n *ℤ s))) *ℤ (k *ℤ (m *ℤ (n *ℤ s))))
shift_sq m n k s tx ty tz rx ry rz h = prove_le_by (m ∷ n ∷ k ∷ s ∷ tx ∷ ty ∷ tz ∷ rx ∷ ry ∷ rz ∷ []) (Le (Add (Add (Mul (Sub (Mul (Var 1) (Var 4)) (Mul (Var 0) (Var 7))) (Sub (Mul (Var 1) (Var 4)) (Mul (Var 0) (Var 7)))) (Mul (Sub (Mul (Var 1) (Var 5)) (Mul (Var 0) (Var 8))) (Sub (Mul (Var 1) (Var 5)) (Mul (Var 0) (Var 8))))) (Mul (Sub (Mul (Var 1) (Var 6)) (Mul (Var 0) (Var 9))) (Sub (Mul (Var 1) (Var 6)) (Mul (Var 0) (Var 9))))) (Mul (Mul (Var 0) (Mul (Var 1) (Var 3))) (Mul (Var 0) (Mul (Var 1) (Var 3)))) ∷ []) (Add (Add (Mul (Mul (Var 2) (Sub (Mul (Var 0) (Var 7)) (Mul (Var 1) (Var 4)))) (Mul (Var 2) (Sub (Mul (Var 0) (Var 7)) (Mul (Var 1) (Var 4))))) (Mul (Mul (Var 2) (Sub (Mul (Var 0) (Var 8)) (Mul (Var 1) (Var 5)))) (Mul (Var 2) (Sub (Mul (Var 0) (Var 8)) (Mul (Var 1) (Var 5)))))) (Mul (Mul (Var 2) (Sub (Mul (Var 0) (Var 9)) (Mul (Var 1) (Var 6)))) (Mul (Var 2) (Sub (Mul (Var 0) (Var 9)) (Mul (Var 1) (Var 6)))))) (Mul (Mul (Var 2) (Mul (Var 0) (Mul (Var 1) (Var 3)))) (Mul (Var 2) (Mul (Var 0) (Mul (Var 1) (Var 3))))) (Plus (Hyp 0) (Times (Hyp 1) (Sq (Var 2)))) 0 (h, tt) refl

-- vars m n s tx ty tz rx ry rz; hyp h: ((n*tx - m*rx)*(n*tx - m*rx) + (n*ty - m*ry)*(n*ty - m*ry)) + (n*tz - m*rz)*(n*tz - m*rz) <= (m*(n*s))*(m*(n*s)); goal ((m*rx - n*tx)*(m*rx - n*tx) + (m*ry - n*ty)*(m*ry - n*ty)) + (m*rz - n*tz)*(m*rz - n*tz) <= (n*(m*s))*(n*(m*s))
pub turned : (m n s tx ty tz rx ry rz : ℤ) → (((((n *ℤ tx) -ℤ (m *ℤ rx)) *ℤ ((n *ℤ tx) -ℤ (m *ℤ rx))) +ℤ (((n *ℤ ty) -ℤ (m *ℤ ry)) *ℤ ((n *ℤ ty) -ℤ (m *ℤ ry)))) +ℤ (((n *ℤ tz) -ℤ (m *ℤ rz)) *ℤ ((n *ℤ tz) -ℤ (m *ℤ rz)))) ≤ℤ ((m *ℤ (n *ℤ s)) *ℤ (m *ℤ (n *ℤ s))) → (((((m *ℤ rx) -ℤ (n *ℤ tx)) *ℤ ((m *ℤ rx) -ℤ (n *ℤ tx))) +ℤ (((m *ℤ ry) -ℤ (n *ℤ ty)) *ℤ ((m *ℤ ry) -ℤ (n *ℤ ty)))) +ℤ (((m *ℤ rz) -ℤ (n *ℤ tz)) *ℤ ((m *ℤ rz) -ℤ (n *ℤ tz)))) ≤ℤ ((n *ℤ (m *ℤ s)) *ℤ (n *ℤ (m *ℤ s)))
turned m n s tx ty tz rx ry rz h = prove_le_by (m ∷ n ∷ s ∷ tx ∷ ty ∷ tz ∷ rx ∷ ry ∷ rz ∷ []) (Le (Add (Add (Mul (Sub (Mul (Var 1) (Var 3)) (Mul (Var 0) (Var 6))) (Sub (Mul (Var 1) (Var 3)) (Mul (Var 0) (Var 6)))) (Mul (Sub (Mul (Var 1) (Var 4)) (Mul (Var 0) (Var 7))) (Sub (Mul (Var 1) (Var 4)) (Mul (Var 0) (Var 7))))) (Mul (Sub (Mul (Var 1) (Var 5)) (Mul (Var 0) (Var 8))) (Sub (Mul (Var 1) (Var 5)) (Mul (Var 0) (Var 8))))) (Mul (Mul (Var 0) (Mul (Var 1) (Var 2))) (Mul (Var 0) (Mul (Var 1) (Var 2)))) ∷ []) (Add (Add (Mul (Sub (Mul (Var 0) (Var 6)) (Mul (Var 1) (Var 3))) (Sub (Mul (Var 0) (Var 6)) (Mul (Var 1) (Var 3)))) (Mul (Sub (Mul (Var 0) (Var 7)) (Mul (Var 1) (Var 4))) (Sub (Mul (Var 0) (Var 7)) (Mul (Var 1) (Var 4))))) (Mul (Sub (Mul (Var 0) (Var 8)) (Mul (Var 1) (Var 5))) (Sub (Mul (Var 0) (Var 8)) (Mul (Var 1) (Var 5))))) (Mul (Mul (Var 1) (Mul (Var 0) (Var 2))) (Mul (Var 1) (Mul (Var 0) (Var 2)))) (Plus (Hyp 0) (Hyp 1)) 0 (h, tt) refl

-- vars a b c d; hyp ha: 0 < a; hyp hb: 0 < b; hyp hc: 0 < c; hyp hd: 0 <= d; goal 0 <= a*(b*(c*d)); mul ha+ * hb+ * hc+ * hd
pub product_4 : (a b c d : ℤ) → (pos 0) <ℤ a → (pos 0) <ℤ b → (pos 0) <ℤ c → (pos 0) ≤ℤ d → (pos 0) ≤ℤ (a *ℤ (b *ℤ (c *ℤ d)))
product_4 a b c d ha hb hc hd = prove_le_by (a ∷ b ∷ c ∷ d ∷ []) (Lt (Num (pos 0)) (Var 0) ∷ Lt (Num (pos 0)) (Var 1) ∷ Lt (Num (pos 0)) (Var 2) ∷ Le (Num (pos 0)) (Var 3) ∷ []) (Num (pos 0)) (Mul (Var 0) (Mul (Var 1) (Mul (Var 2) (Var 3)))) (Plus (Hyp 0) (Times (Times (Times (Plus (Hyp 1) (Lit 1)) (Plus (Hyp 2) (Lit 1))) (Plus (Hyp 3) (Lit 1))) (Hyp 4))) 0 (ha, (hb, (hc, (hd, tt)))) refl

-- vars a b c q; hyp h: (a*a + b*b) + c*c <= q*q; goal a*a + b*b <= q*q; square c
pub flat_part : (a b c q : ℤ) → (((a *ℤ a) +ℤ (b *ℤ b)) +ℤ (c *ℤ c)) ≤ℤ (q *ℤ q) → ((a *ℤ a) +ℤ (b *ℤ b)) ≤ℤ (q *ℤ q)
flat_part a b c q h = prove_le_by (a ∷ b ∷ c ∷ q ∷ []) (Le (Add (Add (Mul (Var 0) (Var 0)) (Mul (Var 1) (Var 1))) (Mul (Var 2) (Var 2))) (Mul (Var 3) (Var 3)) ∷ []) (Add (Mul (Var 0) (Var 0)) (Mul (Var 1) (Var 1))) (Mul (Var 3) (Var 3)) (Plus (Hyp 0) (Plus (Hyp 1) (Sq (Var 2)))) 0 (h, tt) refl

-- vars a b c q; hyp h: (a*a + b*b) + c*c <= q*q; hyp hq: 0 <= q; goal 0 - c <= q; mul goal * goal; mul goal * hq; square a; square b
pub down_part : (a b c q : ℤ) → (((a *ℤ a) +ℤ (b *ℤ b)) +ℤ (c *ℤ c)) ≤ℤ (q *ℤ q) → (pos 0) ≤ℤ q → ((pos 0) -ℤ c) ≤ℤ q
down_part a b c q h hq = prove_le_by (a ∷ b ∷ c ∷ q ∷ []) (Le (Add (Add (Mul (Var 0) (Var 0)) (Mul (Var 1) (Var 1))) (Mul (Var 2) (Var 2))) (Mul (Var 3) (Var 3)) ∷ Le (Num (pos 0)) (Var 3) ∷ []) (Sub (Num (pos 0)) (Var 2)) (Var 3) (Plus (Times (Lit 2) (Hyp 0)) (Plus (Hyp 1) (Plus (Times (Lit 2) (Hyp 2)) (Plus (Times (Hyp 0) (Hyp 0)) (Plus (Times (Lit 2) (Times (Hyp 0) (Hyp 2))) (Plus (Sq (Var 0)) (Sq (Var 1)))))))) 0 (h, (hq, tt)) refl

-- vars x y a b r q; hyp h1: x*x+y*y < r*r; hyp h2: a*a+b*b <= q*q; hyp p1: 0 <= r; hyp p2: 0 <= q; goal x*a+y*b <= r*q; square x*b-y*a; mul goal * goal; mul goal * p1 * p2; mul p1 * p2; mul h1 * sq(q); square q; mul sq(x) * h2; mul sq(y) * h2
pub dot_2 : (x y a b r q : ℤ) → ((x *ℤ x) +ℤ (y *ℤ y)) <ℤ (r *ℤ r) → ((a *ℤ a) +ℤ (b *ℤ b)) ≤ℤ (q *ℤ q) → (pos 0) ≤ℤ r → (pos 0) ≤ℤ q → ((x *ℤ a) +ℤ (y *ℤ b)) ≤ℤ (r *ℤ q)
dot_2 x y a b r q h1 h2 p1 p2 = prove_le_by (x ∷ y ∷ a ∷ b ∷ r ∷ q ∷ []) (Lt (Add (Mul (Var 0) (Var 0)) (Mul (Var 1) (Var 1))) (Mul (Var 4) (Var 4)) ∷ Le (Add (Mul (Var 2) (Var 2)) (Mul (Var 3) (Var 3))) (Mul (Var 5) (Var 5)) ∷ Le (Num (pos 0)) (Var 4) ∷ Le (Num (pos 0)) (Var 5) ∷ []) (Add (Mul (Var 0) (Var 2)) (Mul (Var 1) (Var 3))) (Mul (Var 4) (Var 5)) (Plus (Times (Lit 2) (Hyp 0)) (Plus (Sq (Sub (Mul (Var 0) (Var 3)) (Mul (Var 1) (Var 2)))) (Plus (Times (Hyp 0) (Hyp 0)) (Plus (Times (Lit 2) (Times (Times (Hyp 0) (Hyp 3)) (Hyp 4))) (Plus (Times (Lit 2) (Times (Hyp 3) (Hyp 4))) (Plus (Times (Hyp 1) (Sq (Var 5))) (Plus (Sq (Var 5)) (Plus (Times (Sq (Var 0)) (Hyp 2)) (Times (Sq (Var 1)) (Hyp 2)))))))))) 0 (h1, (h2, (p1, (p2, tt)))) refl

-- vars x y a b r q; hyp h1: x*x+y*y < r*r; hyp h2: a*a+b*b <= q*q; hyp h3: x*a+y*b <= r*q; goal (x+a)*(x+a)+(y+b)*(y+b) < (r+q)*(r+q)
pub sum_2 : (x y a b r q : ℤ) → ((x *ℤ x) +ℤ (y *ℤ y)) <ℤ (r *ℤ r) → ((a *ℤ a) +ℤ (b *ℤ b)) ≤ℤ (q *ℤ q) → ((x *ℤ a) +ℤ (y *ℤ b)) ≤ℤ (r *ℤ q) → (((x +ℤ a) *ℤ (x +ℤ a)) +ℤ ((y +ℤ b) *ℤ (y +ℤ b))) <ℤ ((r +ℤ q) *ℤ (r +ℤ q))
sum_2 x y a b r q h1 h2 h3 = prove_lt_by (x ∷ y ∷ a ∷ b ∷ r ∷ q ∷ []) (Lt (Add (Mul (Var 0) (Var 0)) (Mul (Var 1) (Var 1))) (Mul (Var 4) (Var 4)) ∷ Le (Add (Mul (Var 2) (Var 2)) (Mul (Var 3) (Var 3))) (Mul (Var 5) (Var 5)) ∷ Le (Add (Mul (Var 0) (Var 2)) (Mul (Var 1) (Var 3))) (Mul (Var 4) (Var 5)) ∷ []) (Add (Mul (Add (Var 0) (Var 2)) (Add (Var 0) (Var 2))) (Mul (Add (Var 1) (Var 3)) (Add (Var 1) (Var 3)))) (Mul (Add (Var 4) (Var 5)) (Add (Var 4) (Var 5))) (Plus (Hyp 0) (Plus (Hyp 1) (Plus (Hyp 2) (Times (Lit 2) (Hyp 3))))) 0 (h1, (h2, (h3, tt))) refl

-- vars x y z a b c r q; hyp h1: (x*x+y*y)+z*z < r*r; hyp h2: (a*a+b*b)+c*c <= q*q; hyp p1: 0 <= r; hyp p2: 0 <= q; goal (x*a+y*b)+z*c <= r*q; square x*b-y*a; square x*c-z*a; square y*c-z*b; mul goal * goal; mul goal * p1 * p2; mul p1 * p2; mul h1 * sq(q); square q; mul sq(x) * h2; mul sq(y) * h2; mul sq(z) * h2
pub dot_3 : (x y z a b c r q : ℤ) → (((x *ℤ x) +ℤ (y *ℤ y)) +ℤ (z *ℤ z)) <ℤ (r *ℤ r) → (((a *ℤ a) +ℤ (b *ℤ b)) +ℤ (c *ℤ c)) ≤ℤ (q *ℤ q) → (pos 0) ≤ℤ r → (pos 0) ≤ℤ q → (((x *ℤ a) +ℤ (y *ℤ b)) +ℤ (z *ℤ c)) ≤ℤ (r *ℤ q)
dot_3 x y z a b c r q h1 h2 p1 p2 = prove_le_by (x ∷ y ∷ z ∷ a ∷ b ∷ c ∷ r ∷ q ∷ []) (Lt (Add (Add (Mul (Var 0) (Var 0)) (Mul (Var 1) (Var 1))) (Mul (Var 2) (Var 2))) (Mul (Var 6) (Var 6)) ∷ Le (Add (Add (Mul (Var 3) (Var 3)) (Mul (Var 4) (Var 4))) (Mul (Var 5) (Var 5))) (Mul (Var 7) (Var 7)) ∷ Le (Num (pos 0)) (Var 6) ∷ Le (Num (pos 0)) (Var 7) ∷ []) (Add (Add (Mul (Var 0) (Var 3)) (Mul (Var 1) (Var 4))) (Mul (Var 2) (Var 5))) (Mul (Var 6) (Var 7)) (Plus (Times (Lit 2) (Hyp 0)) (Plus (Sq (Sub (Mul (Var 0) (Var 4)) (Mul (Var 1) (Var 3)))) (Plus (Sq (Sub (Mul (Var 0) (Var 5)) (Mul (Var 2) (Var 3)))) (Plus (Sq (Sub (Mul (Var 1) (Var 5)) (Mul (Var 2) (Var 4)))) (Plus (Times (Hyp 0) (Hyp 0)) (Plus (Times (Lit 2) (Times (Times (Hyp 0) (Hyp 3)) (Hyp 4))) (Plus (Times (Lit 2) (Times (Hyp 3) (Hyp 4))) (Plus (Times (Hyp 1) (Sq (Var 7))) (Plus (Sq (Var 7)) (Plus (Times (Sq (Var 0)) (Hyp 2)) (Plus (Times (Sq (Var 1)) (Hyp 2)) (Times (Sq (Var 2)) (Hyp 2))))))))))))) 0 (h1, (h2, (p1, (p2, tt)))) refl

-- vars x y z a b c r q; hyp h1: (x*x+y*y)+z*z < r*r; hyp h2: (a*a+b*b)+c*c <= q*q; hyp h3: (x*a+y*b)+z*c <= r*q; goal ((x+a)*(x+a)+(y+b)*(y+b))+(z+c)*(z+c) < (r+q)*(r+q)
pub sum_3 : (x y z a b c r q : ℤ) → (((x *ℤ x) +ℤ (y *ℤ y)) +ℤ (z *ℤ z)) <ℤ (r *ℤ r) → (((a *ℤ a) +ℤ (b *ℤ b)) +ℤ (c *ℤ c)) ≤ℤ (q *ℤ q) → (((x *ℤ a) +ℤ (y *ℤ b)) +ℤ (z *ℤ c)) ≤ℤ (r *ℤ q) → ((((x +ℤ a) *ℤ (x +ℤ a)) +ℤ ((y +ℤ b) *ℤ (y +ℤ b))) +ℤ ((z +ℤ c) *ℤ (z +ℤ c))) <ℤ ((r +ℤ q) *ℤ (r +ℤ q))
sum_3 x y z a b c r q h1 h2 h3 = prove_lt_by (x ∷ y ∷ z ∷ a ∷ b ∷ c ∷ r ∷ q ∷ []) (Lt (Add (Add (Mul (Var 0) (Var 0)) (Mul (Var 1) (Var 1))) (Mul (Var 2) (Var 2))) (Mul (Var 6) (Var 6)) ∷ Le (Add (Add (Mul (Var 3) (Var 3)) (Mul (Var 4) (Var 4))) (Mul (Var 5) (Var 5))) (Mul (Var 7) (Var 7)) ∷ Le (Add (Add (Mul (Var 0) (Var 3)) (Mul (Var 1) (Var 4))) (Mul (Var 2) (Var 5))) (Mul (Var 6) (Var 7)) ∷ []) (Add (Add (Mul (Add (Var 0) (Var 3)) (Add (Var 0) (Var 3))) (Mul (Add (Var 1) (Var 4)) (Add (Var 1) (Var 4)))) (Mul (Add (Var 2) (Var 5)) (Add (Var 2) (Var 5)))) (Mul (Add (Var 6) (Var 7)) (Add (Var 6) (Var 7))) (Plus (Hyp 0) (Plus (Hyp 1) (Plus (Hyp 2) (Times (Lit 2) (Hyp 3))))) 0 (h1, (h2, (h3, tt))) refl

-- vars x y z a b c r q; hyp h1: x*x+y*y < r*r; hyp h2: (a*a+b*b)+c*c <= q*q; hyp h3: x*a+y*b <= r*q; hyp hz: 0 <= z; hyp hc: z+c < 0; goal ((x+a)*(x+a)+(y+b)*(y+b))+(z+c)*(z+c) < (r+q)*(r+q); mul hz * hc+; square z
pub sum_over : (x y z a b c r q : ℤ) → ((x *ℤ x) +ℤ (y *ℤ y)) <ℤ (r *ℤ r) → (((a *ℤ a) +ℤ (b *ℤ b)) +ℤ (c *ℤ c)) ≤ℤ (q *ℤ q) → ((x *ℤ a) +ℤ (y *ℤ b)) ≤ℤ (r *ℤ q) → (pos 0) ≤ℤ z → (z +ℤ c) <ℤ (pos 0) → ((((x +ℤ a) *ℤ (x +ℤ a)) +ℤ ((y +ℤ b) *ℤ (y +ℤ b))) +ℤ ((z +ℤ c) *ℤ (z +ℤ c))) <ℤ ((r +ℤ q) *ℤ (r +ℤ q))
sum_over x y z a b c r q h1 h2 h3 hz hc = prove_lt_by (x ∷ y ∷ z ∷ a ∷ b ∷ c ∷ r ∷ q ∷ []) (Lt (Add (Mul (Var 0) (Var 0)) (Mul (Var 1) (Var 1))) (Mul (Var 6) (Var 6)) ∷ Le (Add (Add (Mul (Var 3) (Var 3)) (Mul (Var 4) (Var 4))) (Mul (Var 5) (Var 5))) (Mul (Var 7) (Var 7)) ∷ Le (Add (Mul (Var 0) (Var 3)) (Mul (Var 1) (Var 4))) (Mul (Var 6) (Var 7)) ∷ Le (Num (pos 0)) (Var 2) ∷ Lt (Add (Var 2) (Var 5)) (Num (pos 0)) ∷ []) (Add (Add (Mul (Add (Var 0) (Var 3)) (Add (Var 0) (Var 3))) (Mul (Add (Var 1) (Var 4)) (Add (Var 1) (Var 4)))) (Mul (Add (Var 2) (Var 5)) (Add (Var 2) (Var 5)))) (Mul (Add (Var 6) (Var 7)) (Add (Var 6) (Var 7))) (Plus (Hyp 0) (Plus (Hyp 1) (Plus (Hyp 2) (Plus (Times (Lit 2) (Hyp 3)) (Plus (Times (Lit 2) (Times (Hyp 4) (Plus (Hyp 5) (Lit 1)))) (Sq (Var 2))))))) 0 (h1, (h2, (h3, (hz, (hc, tt))))) refl

-- vars x y r n m; hyp hm: 0 < m; hyp h: x*x+y*y < (r*r)*(n*n); goal (m*x)*(m*x)+(m*y)*(m*y) < (m*(n*r))*(m*(n*r)); mul h * sq(m); mul hm * hm
pub near_scale : (x y r n m : ℤ) → (pos 0) <ℤ m → ((x *ℤ x) +ℤ (y *ℤ y)) <ℤ ((r *ℤ r) *ℤ (n *ℤ n)) → (((m *ℤ x) *ℤ (m *ℤ x)) +ℤ ((m *ℤ y) *ℤ (m *ℤ y))) <ℤ ((m *ℤ (n *ℤ r)) *ℤ (m *ℤ (n *ℤ r)))
near_scale x y r n m hm h = prove_lt_by (x ∷ y ∷ r ∷ n ∷ m ∷ []) (Lt (Num (pos 0)) (Var 4) ∷ Lt (Add (Mul (Var 0) (Var 0)) (Mul (Var 1) (Var 1))) (Mul (Mul (Var 2) (Var 2)) (Mul (Var 3) (Var 3))) ∷ []) (Add (Mul (Mul (Var 4) (Var 0)) (Mul (Var 4) (Var 0))) (Mul (Mul (Var 4) (Var 1)) (Mul (Var 4) (Var 1)))) (Mul (Mul (Var 4) (Mul (Var 3) (Var 2))) (Mul (Var 4) (Mul (Var 3) (Var 2)))) (Plus (Hyp 0) (Plus (Times (Lit 2) (Hyp 1)) (Plus (Times (Hyp 2) (Sq (Var 4))) (Times (Hyp 1) (Hyp 1))))) 0 (hm, (h, tt)) refl

-- vars m n k s R px py tx ty rx ry; hyp hn: 0 < n; hyp h: (m*(n*px - k*rx) + k*(m*rx - n*tx))*(m*(n*px - k*rx) + k*(m*rx - n*tx)) + (m*(n*py - k*ry) + k*(m*ry - n*ty))*(m*(n*py - k*ry) + k*(m*ry - n*ty)) < (m*((n*k)*R) + k*(m*(n*s)))*(m*((n*k)*R) + k*(m*(n*s))); goal (m*px - k*tx)*(m*px - k*tx) + (m*py - k*ty)*(m*py - k*ty) < ((R+s)*(R+s))*((m*k)*(m*k)); mul goal * sq(n)
pub near_unscale : (m n k s R px py tx ty rx ry : ℤ) → (pos 0) <ℤ n → ((((m *ℤ ((n *ℤ px) -ℤ (k *ℤ rx))) +ℤ (k *ℤ ((m *ℤ rx) -ℤ (n *ℤ tx)))) *ℤ ((m *ℤ ((n *ℤ px) -ℤ (k *ℤ rx))) +ℤ (k *ℤ ((m *ℤ rx) -ℤ (n *ℤ tx))))) +ℤ (((m *ℤ ((n *ℤ py) -ℤ (k *ℤ ry))) +ℤ (k *ℤ ((m *ℤ ry) -ℤ (n *ℤ ty)))) *ℤ ((m *ℤ ((n *ℤ py) -ℤ (k *ℤ ry))) +ℤ (k *ℤ ((m *ℤ ry) -ℤ (n *ℤ ty)))))) <ℤ (((m *ℤ ((n *ℤ k) *ℤ R)) +ℤ (k *ℤ (m *ℤ (n *ℤ s)))) *ℤ ((m *ℤ ((n *ℤ k) *ℤ R)) +ℤ (k *ℤ (m *ℤ (n *ℤ s))))) → ((((m *ℤ px) -ℤ (k *ℤ tx)) *ℤ ((m *ℤ px) -ℤ (k *ℤ tx))) +ℤ (((m *ℤ py) -ℤ (k *ℤ ty)) *ℤ ((m *ℤ py) -ℤ (k *ℤ ty)))) <ℤ (((R +ℤ s) *ℤ (R +ℤ s)) *ℤ ((m *ℤ k) *ℤ (m *ℤ k)))
near_unscale m n k s R px py tx ty rx ry hn h = prove_lt_by (m ∷ n ∷ k ∷ s ∷ R ∷ px ∷ py ∷ tx ∷ ty ∷ rx ∷ ry ∷ []) (Lt (Num (pos 0)) (Var 1) ∷ Lt (Add (Mul (Add (Mul (Var 0) (Sub (Mul (Var 1) (Var 5)) (Mul (Var 2) (Var 9)))) (Mul (Var 2) (Sub (Mul (Var 0) (Var 9)) (Mul (Var 1) (Var 7))))) (Add (Mul (Var 0) (Sub (Mul (Var 1) (Var 5)) (Mul (Var 2) (Var 9)))) (Mul (Var 2) (Sub (Mul (Var 0) (Var 9)) (Mul (Var 1) (Var 7)))))) (Mul (Add (Mul (Var 0) (Sub (Mul (Var 1) (Var 6)) (Mul (Var 2) (Var 10)))) (Mul (Var 2) (Sub (Mul (Var 0) (Var 10)) (Mul (Var 1) (Var 8))))) (Add (Mul (Var 0) (Sub (Mul (Var 1) (Var 6)) (Mul (Var 2) (Var 10)))) (Mul (Var 2) (Sub (Mul (Var 0) (Var 10)) (Mul (Var 1) (Var 8))))))) (Mul (Add (Mul (Var 0) (Mul (Mul (Var 1) (Var 2)) (Var 4))) (Mul (Var 2) (Mul (Var 0) (Mul (Var 1) (Var 3))))) (Add (Mul (Var 0) (Mul (Mul (Var 1) (Var 2)) (Var 4))) (Mul (Var 2) (Mul (Var 0) (Mul (Var 1) (Var 3)))))) ∷ []) (Add (Mul (Sub (Mul (Var 0) (Var 5)) (Mul (Var 2) (Var 7))) (Sub (Mul (Var 0) (Var 5)) (Mul (Var 2) (Var 7)))) (Mul (Sub (Mul (Var 0) (Var 6)) (Mul (Var 2) (Var 8))) (Sub (Mul (Var 0) (Var 6)) (Mul (Var 2) (Var 8))))) (Mul (Mul (Add (Var 4) (Var 3)) (Add (Var 4) (Var 3))) (Mul (Mul (Var 0) (Var 2)) (Mul (Var 0) (Var 2)))) (Plus (Hyp 2) (Times (Hyp 0) (Sq (Var 1)))) 0 (hn, (h, tt)) refl

-- vars m n k s o l pz tz rz; hyp hm: 0 < m; hyp hn: 0 < n; hyp hk: 0 < k; hyp h: 0 < n*pz - k*(rz + n*l); hyp hd: 0 - k*(m*rz - n*tz) <= k*(m*(n*s)); hyp ho: s <= o; goal 0 < m*pz - k*(tz + m*(l - o)); mul hm * h; mul hm+ * h; mul goal * hn; mul goal * hn+; mul hk+ * hm+ * hn+ * ho
pub up_unscale : (m n k s o l pz tz rz : ℤ) → (pos 0) <ℤ m → (pos 0) <ℤ n → (pos 0) <ℤ k → (pos 0) <ℤ ((n *ℤ pz) -ℤ (k *ℤ (rz +ℤ (n *ℤ l)))) → ((pos 0) -ℤ (k *ℤ ((m *ℤ rz) -ℤ (n *ℤ tz)))) ≤ℤ (k *ℤ (m *ℤ (n *ℤ s))) → s ≤ℤ o → (pos 0) <ℤ ((m *ℤ pz) -ℤ (k *ℤ (tz +ℤ (m *ℤ (l -ℤ o)))))
up_unscale m n k s o l pz tz rz hm hn hk h hd ho = prove_lt_by (m ∷ n ∷ k ∷ s ∷ o ∷ l ∷ pz ∷ tz ∷ rz ∷ []) (Lt (Num (pos 0)) (Var 0) ∷ Lt (Num (pos 0)) (Var 1) ∷ Lt (Num (pos 0)) (Var 2) ∷ Lt (Num (pos 0)) (Sub (Mul (Var 1) (Var 6)) (Mul (Var 2) (Add (Var 8) (Mul (Var 1) (Var 5))))) ∷ Le (Sub (Num (pos 0)) (Mul (Var 2) (Sub (Mul (Var 0) (Var 8)) (Mul (Var 1) (Var 7))))) (Mul (Var 2) (Mul (Var 0) (Mul (Var 1) (Var 3)))) ∷ Le (Var 3) (Var 4) ∷ []) (Num (pos 0)) (Sub (Mul (Var 0) (Var 6)) (Mul (Var 2) (Add (Var 7) (Mul (Var 0) (Sub (Var 5) (Var 4)))))) (Plus (Hyp 0) (Plus (Hyp 1) (Plus (Hyp 4) (Plus (Hyp 5) (Plus (Times (Hyp 1) (Hyp 4)) (Plus (Times (Hyp 0) (Hyp 2)) (Times (Times (Times (Plus (Hyp 3) (Lit 1)) (Plus (Hyp 1) (Lit 1))) (Plus (Hyp 2) (Lit 1))) (Hyp 6)))))))) 0 (hm, (hn, (hk, (h, (hd, (ho, tt)))))) refl

-- vars x y z r n m; hyp hm: 0 < m; hyp h: (x*x+y*y)+(z - r*n)*(z - r*n) < (r*r)*(n*n); goal ((m*x)*(m*x)+(m*y)*(m*y))+(m*(z - r*n))*(m*(z - r*n)) < (m*(n*r))*(m*(n*r)); mul h * sq(m); mul hm * hm
pub sphere_scale : (x y z r n m : ℤ) → (pos 0) <ℤ m → (((x *ℤ x) +ℤ (y *ℤ y)) +ℤ ((z -ℤ (r *ℤ n)) *ℤ (z -ℤ (r *ℤ n)))) <ℤ ((r *ℤ r) *ℤ (n *ℤ n)) → ((((m *ℤ x) *ℤ (m *ℤ x)) +ℤ ((m *ℤ y) *ℤ (m *ℤ y))) +ℤ ((m *ℤ (z -ℤ (r *ℤ n))) *ℤ (m *ℤ (z -ℤ (r *ℤ n))))) <ℤ ((m *ℤ (n *ℤ r)) *ℤ (m *ℤ (n *ℤ r)))
sphere_scale x y z r n m hm h = prove_lt_by (x ∷ y ∷ z ∷ r ∷ n ∷ m ∷ []) (Lt (Num (pos 0)) (Var 5) ∷ Lt (Add (Add (Mul (Var 0) (Var 0)) (Mul (Var 1) (Var 1))) (Mul (Sub (Var 2) (Mul (Var 3) (Var 4))) (Sub (Var 2) (Mul (Var 3) (Var 4))))) (Mul (Mul (Var 3) (Var 3)) (Mul (Var 4) (Var 4))) ∷ []) (Add (Add (Mul (Mul (Var 5) (Var 0)) (Mul (Var 5) (Var 0))) (Mul (Mul (Var 5) (Var 1)) (Mul (Var 5) (Var 1)))) (Mul (Mul (Var 5) (Sub (Var 2) (Mul (Var 3) (Var 4)))) (Mul (Var 5) (Sub (Var 2) (Mul (Var 3) (Var 4)))))) (Mul (Mul (Var 5) (Mul (Var 4) (Var 3))) (Mul (Var 5) (Mul (Var 4) (Var 3)))) (Plus (Hyp 0) (Plus (Times (Lit 2) (Hyp 1)) (Plus (Times (Hyp 2) (Sq (Var 5))) (Times (Hyp 1) (Hyp 1))))) 0 (hm, (h, tt)) refl

-- vars m n k s R l px py pz tx ty tz rx ry rz; hyp hn: 0 < n; hyp h: ((m*(n*px - k*rx) + k*(m*rx - n*tx))*(m*(n*px - k*rx) + k*(m*rx - n*tx)) + (m*(n*py - k*ry) + k*(m*ry - n*ty))*(m*(n*py - k*ry) + k*(m*ry - n*ty))) + (m*((n*pz - k*(rz + n*l)) - R*(n*k)) + k*(m*rz - n*tz))*(m*((n*pz - k*(rz + n*l)) - R*(n*k)) + k*(m*rz - n*tz)) < (m*((n*k)*R) + k*(m*(n*s)))*(m*((n*k)*R) + k*(m*(n*s))); goal ((m*px - k*tx)*(m*px - k*tx) + (m*py - k*ty)*(m*py - k*ty)) + ((m*pz - k*(tz + m*(l - s))) - (R+s)*(m*k))*((m*pz - k*(tz + m*(l - s))) - (R+s)*(m*k)) < ((R+s)*(R+s))*((m*k)*(m*k)); mul goal * sq(n)
pub sphere_unscale : (m n k s R l px py pz tx ty tz rx ry rz : ℤ) → (pos 0) <ℤ n → (((((m *ℤ ((n *ℤ px) -ℤ (k *ℤ rx))) +ℤ (k *ℤ ((m *ℤ rx) -ℤ (n *ℤ tx)))) *ℤ ((m *ℤ ((n *ℤ px) -ℤ (k *ℤ rx))) +ℤ (k *ℤ ((m *ℤ rx) -ℤ (n *ℤ tx))))) +ℤ (((m *ℤ ((n *ℤ py) -ℤ (k *ℤ ry))) +ℤ (k *ℤ ((m *ℤ ry) -ℤ (n *ℤ ty)))) *ℤ ((m *ℤ ((n *ℤ py) -ℤ (k *ℤ ry))) +ℤ (k *ℤ ((m *ℤ ry) -ℤ (n *ℤ ty)))))) +ℤ (((m *ℤ (((n *ℤ pz) -ℤ (k *ℤ (rz +ℤ (n *ℤ l)))) -ℤ (R *ℤ (n *ℤ k)))) +ℤ (k *ℤ ((m *ℤ rz) -ℤ (n *ℤ tz)))) *ℤ ((m *ℤ (((n *ℤ pz) -ℤ (k *ℤ (rz +ℤ (n *ℤ l)))) -ℤ (R *ℤ (n *ℤ k)))) +ℤ (k *ℤ ((m *ℤ rz) -ℤ (n *ℤ tz)))))) <ℤ (((m *ℤ ((n *ℤ k) *ℤ R)) +ℤ (k *ℤ (m *ℤ (n *ℤ s)))) *ℤ ((m *ℤ ((n *ℤ k) *ℤ R)) +ℤ (k *ℤ (m *ℤ (n *ℤ s))))) → (((((m *ℤ px) -ℤ (k *ℤ tx)) *ℤ ((m *ℤ px) -ℤ (k *ℤ tx))) +ℤ (((m *ℤ py) -ℤ (k *ℤ ty)) *ℤ ((m *ℤ py) -ℤ (k *ℤ ty)))) +ℤ ((((m *ℤ pz) -ℤ (k *ℤ (tz +ℤ (m *ℤ (l -ℤ s))))) -ℤ ((R +ℤ s) *ℤ (m *ℤ k))) *ℤ (((m *ℤ pz) -ℤ (k *ℤ (tz +ℤ (m *ℤ (l -ℤ s))))) -ℤ ((R +ℤ s) *ℤ (m *ℤ k))))) <ℤ (((R +ℤ s) *ℤ (R +ℤ s)) *ℤ ((m *ℤ k) *ℤ (m *ℤ k)))
sphere_unscale m n k s R l px py pz tx ty tz rx ry rz hn h = prove_lt_by (m ∷ n ∷ k ∷ s ∷ R ∷ l ∷ px ∷ py ∷ pz ∷ tx ∷ ty ∷ tz ∷ rx ∷ ry ∷ rz ∷ []) (Lt (Num (pos 0)) (Var 1) ∷ Lt (Add (Add (Mul (Add (Mul (Var 0) (Sub (Mul (Var 1) (Var 6)) (Mul (Var 2) (Var 12)))) (Mul (Var 2) (Sub (Mul (Var 0) (Var 12)) (Mul (Var 1) (Var 9))))) (Add (Mul (Var 0) (Sub (Mul (Var 1) (Var 6)) (Mul (Var 2) (Var 12)))) (Mul (Var 2) (Sub (Mul (Var 0) (Var 12)) (Mul (Var 1) (Var 9)))))) (Mul (Add (Mul (Var 0) (Sub (Mul (Var 1) (Var 7)) (Mul (Var 2) (Var 13)))) (Mul (Var 2) (Sub (Mul (Var 0) (Var 13)) (Mul (Var 1) (Var 10))))) (Add (Mul (Var 0) (Sub (Mul (Var 1) (Var 7)) (Mul (Var 2) (Var 13)))) (Mul (Var 2) (Sub (Mul (Var 0) (Var 13)) (Mul (Var 1) (Var 10))))))) (Mul (Add (Mul (Var 0) (Sub (Sub (Mul (Var 1) (Var 8)) (Mul (Var 2) (Add (Var 14) (Mul (Var 1) (Var 5))))) (Mul (Var 4) (Mul (Var 1) (Var 2))))) (Mul (Var 2) (Sub (Mul (Var 0) (Var 14)) (Mul (Var 1) (Var 11))))) (Add (Mul (Var 0) (Sub (Sub (Mul (Var 1) (Var 8)) (Mul (Var 2) (Add (Var 14) (Mul (Var 1) (Var 5))))) (Mul (Var 4) (Mul (Var 1) (Var 2))))) (Mul (Var 2) (Sub (Mul (Var 0) (Var 14)) (Mul (Var 1) (Var 11))))))) (Mul (Add (Mul (Var 0) (Mul (Mul (Var 1) (Var 2)) (Var 4))) (Mul (Var 2) (Mul (Var 0) (Mul (Var 1) (Var 3))))) (Add (Mul (Var 0) (Mul (Mul (Var 1) (Var 2)) (Var 4))) (Mul (Var 2) (Mul (Var 0) (Mul (Var 1) (Var 3)))))) ∷ []) (Add (Add (Mul (Sub (Mul (Var 0) (Var 6)) (Mul (Var 2) (Var 9))) (Sub (Mul (Var 0) (Var 6)) (Mul (Var 2) (Var 9)))) (Mul (Sub (Mul (Var 0) (Var 7)) (Mul (Var 2) (Var 10))) (Sub (Mul (Var 0) (Var 7)) (Mul (Var 2) (Var 10))))) (Mul (Sub (Sub (Mul (Var 0) (Var 8)) (Mul (Var 2) (Add (Var 11) (Mul (Var 0) (Sub (Var 5) (Var 3)))))) (Mul (Add (Var 4) (Var 3)) (Mul (Var 0) (Var 2)))) (Sub (Sub (Mul (Var 0) (Var 8)) (Mul (Var 2) (Add (Var 11) (Mul (Var 0) (Sub (Var 5) (Var 3)))))) (Mul (Add (Var 4) (Var 3)) (Mul (Var 0) (Var 2)))))) (Mul (Mul (Add (Var 4) (Var 3)) (Add (Var 4) (Var 3))) (Mul (Mul (Var 0) (Var 2)) (Mul (Var 0) (Var 2)))) (Plus (Hyp 2) (Times (Hyp 0) (Sq (Var 1)))) 0 (hn, (h, tt)) refl

-- vars m z R n; hyp hm: 0 < m; hyp h: R*n <= z; goal 0 <= m*(z - R*n); mul hm+ * h
pub centre_over : (m z R n : ℤ) → (pos 0) <ℤ m → (R *ℤ n) ≤ℤ z → (pos 0) ≤ℤ (m *ℤ (z -ℤ (R *ℤ n)))
centre_over m z R n hm h = prove_le_by (m ∷ z ∷ R ∷ n ∷ []) (Lt (Num (pos 0)) (Var 0) ∷ Le (Mul (Var 2) (Var 3)) (Var 1) ∷ []) (Num (pos 0)) (Mul (Var 0) (Sub (Var 1) (Mul (Var 2) (Var 3)))) (Plus (Hyp 0) (Times (Plus (Hyp 1) (Lit 1)) (Hyp 2))) 0 (hm, (h, tt)) refl

-- vars m n k s R l pz tz rz; hyp hn: 0 < n; hyp h: 0 <= m*((n*pz - k*(rz + n*l)) - R*(n*k)) + k*(m*rz - n*tz); goal (R+s)*(m*k) <= m*pz - k*(tz + m*(l - s)); mul goal * hn; mul goal * hn+
pub centre_unscale : (m n k s R l pz tz rz : ℤ) → (pos 0) <ℤ n → (pos 0) ≤ℤ ((m *ℤ (((n *ℤ pz) -ℤ (k *ℤ (rz +ℤ (n *ℤ l)))) -ℤ (R *ℤ (n *ℤ k)))) +ℤ (k *ℤ ((m *ℤ rz) -ℤ (n *ℤ tz)))) → ((R +ℤ s) *ℤ (m *ℤ k)) ≤ℤ ((m *ℤ pz) -ℤ (k *ℤ (tz +ℤ (m *ℤ (l -ℤ s)))))
centre_unscale m n k s R l pz tz rz hn h = prove_le_by (m ∷ n ∷ k ∷ s ∷ R ∷ l ∷ pz ∷ tz ∷ rz ∷ []) (Lt (Num (pos 0)) (Var 1) ∷ Le (Num (pos 0)) (Add (Mul (Var 0) (Sub (Sub (Mul (Var 1) (Var 6)) (Mul (Var 2) (Add (Var 8) (Mul (Var 1) (Var 5))))) (Mul (Var 4) (Mul (Var 1) (Var 2))))) (Mul (Var 2) (Sub (Mul (Var 0) (Var 8)) (Mul (Var 1) (Var 7))))) ∷ []) (Mul (Add (Var 4) (Var 3)) (Mul (Var 0) (Var 2))) (Sub (Mul (Var 0) (Var 6)) (Mul (Var 2) (Add (Var 7) (Mul (Var 0) (Sub (Var 5) (Var 3)))))) (Plus (Hyp 0) (Plus (Hyp 1) (Plus (Hyp 2) (Times (Hyp 0) (Hyp 1))))) 0 (hn, (h, tt)) refl

-- vars a b x y z m; hyp hm: 0 < m; hyp h: (a*a)*(x*x+y*y) < (b*b)*(z*z); goal (a*(m*x))*(a*(m*x)) + (a*(m*y))*(a*(m*y)) < (b*(m*z))*(b*(m*z)); mul h * sq(m); mul hm * hm
pub wall_scale : (a b x y z m : ℤ) → (pos 0) <ℤ m → ((a *ℤ a) *ℤ ((x *ℤ x) +ℤ (y *ℤ y))) <ℤ ((b *ℤ b) *ℤ (z *ℤ z)) → (((a *ℤ (m *ℤ x)) *ℤ (a *ℤ (m *ℤ x))) +ℤ ((a *ℤ (m *ℤ y)) *ℤ (a *ℤ (m *ℤ y)))) <ℤ ((b *ℤ (m *ℤ z)) *ℤ (b *ℤ (m *ℤ z)))
wall_scale a b x y z m hm h = prove_lt_by (a ∷ b ∷ x ∷ y ∷ z ∷ m ∷ []) (Lt (Num (pos 0)) (Var 5) ∷ Lt (Mul (Mul (Var 0) (Var 0)) (Add (Mul (Var 2) (Var 2)) (Mul (Var 3) (Var 3)))) (Mul (Mul (Var 1) (Var 1)) (Mul (Var 4) (Var 4))) ∷ []) (Add (Mul (Mul (Var 0) (Mul (Var 5) (Var 2))) (Mul (Var 0) (Mul (Var 5) (Var 2)))) (Mul (Mul (Var 0) (Mul (Var 5) (Var 3))) (Mul (Var 0) (Mul (Var 5) (Var 3))))) (Mul (Mul (Var 1) (Mul (Var 5) (Var 4))) (Mul (Var 1) (Mul (Var 5) (Var 4)))) (Plus (Hyp 0) (Plus (Times (Lit 2) (Hyp 1)) (Plus (Times (Hyp 2) (Sq (Var 5))) (Times (Hyp 1) (Hyp 1))))) 0 (hm, (h, tt)) refl

-- vars b m z; hyp hb: 0 < b; hyp hm: 0 < m; hyp hz: 0 < z; goal 0 <= b*(m*z); mul hb+ * hm+ * hz+
pub wall_over : (b m z : ℤ) → (pos 0) <ℤ b → (pos 0) <ℤ m → (pos 0) <ℤ z → (pos 0) ≤ℤ (b *ℤ (m *ℤ z))
wall_over b m z hb hm hz = prove_le_by (b ∷ m ∷ z ∷ []) (Lt (Num (pos 0)) (Var 0) ∷ Lt (Num (pos 0)) (Var 1) ∷ Lt (Num (pos 0)) (Var 2) ∷ []) (Num (pos 0)) (Mul (Var 0) (Mul (Var 1) (Var 2))) (Plus (Hyp 0) (Times (Times (Plus (Hyp 1) (Lit 1)) (Plus (Hyp 2) (Lit 1))) (Plus (Hyp 3) (Lit 1)))) 0 (hb, (hm, (hz, tt))) refl

-- vars a b w h c; hyp hw: 0 <= w; hyp hh: 0 <= h; hyp hl: (a*a+b*b)*(h+c*c) <= w*w; goal 0 <= w + b*c; mul goal * goal; mul goal * hw; mul sq(a) * hh; mul sq(b) * hh; square a*c
pub slope_over : (a b w h c : ℤ) → (pos 0) ≤ℤ w → (pos 0) ≤ℤ h → (((a *ℤ a) +ℤ (b *ℤ b)) *ℤ (h +ℤ (c *ℤ c))) ≤ℤ (w *ℤ w) → (pos 0) ≤ℤ (w +ℤ (b *ℤ c))
slope_over a b w h c hw hh hl = prove_le_by (a ∷ b ∷ w ∷ h ∷ c ∷ []) (Le (Num (pos 0)) (Var 2) ∷ Le (Num (pos 0)) (Var 3) ∷ Le (Mul (Add (Mul (Var 0) (Var 0)) (Mul (Var 1) (Var 1))) (Add (Var 3) (Mul (Var 4) (Var 4)))) (Mul (Var 2) (Var 2)) ∷ []) (Num (pos 0)) (Add (Var 2) (Mul (Var 1) (Var 4))) (Plus (Times (Lit 2) (Hyp 0)) (Plus (Times (Lit 2) (Hyp 1)) (Plus (Hyp 3) (Plus (Times (Hyp 0) (Hyp 0)) (Plus (Times (Lit 2) (Times (Hyp 0) (Hyp 1))) (Plus (Times (Sq (Var 0)) (Hyp 2)) (Plus (Times (Sq (Var 1)) (Hyp 2)) (Sq (Mul (Var 0) (Var 4)))))))))) 0 (hw, (hh, (hl, tt))) refl

-- vars a b w h c; hyp hh: 0 <= h; hyp hl: (a*a+b*b)*(h+c*c) <= w*w; hyp hx: 0 <= w + b*c; goal (a*a)*h <= (w+b*c)*(w+b*c); mul goal * goal; mul goal * hl; mul hl * hl; mul goal * sq(a*c); mul hl * sq(a*c); mul goal * hh * sq(b); mul hl * hh * sq(b); mul goal * sq(b*c); square a*a*c*c - b*b*h; square a*c; square b*c; mul hh * sq(b)
pub slope_across : (a b w h c : ℤ) → (pos 0) ≤ℤ h → (((a *ℤ a) +ℤ (b *ℤ b)) *ℤ (h +ℤ (c *ℤ c))) ≤ℤ (w *ℤ w) → (pos 0) ≤ℤ (w +ℤ (b *ℤ c)) → ((a *ℤ a) *ℤ h) ≤ℤ ((w +ℤ (b *ℤ c)) *ℤ (w +ℤ (b *ℤ c)))
slope_across a b w h c hh hl hx = prove_le_by (a ∷ b ∷ w ∷ h ∷ c ∷ []) (Le (Num (pos 0)) (Var 3) ∷ Le (Mul (Add (Mul (Var 0) (Var 0)) (Mul (Var 1) (Var 1))) (Add (Var 3) (Mul (Var 4) (Var 4)))) (Mul (Var 2) (Var 2)) ∷ Le (Num (pos 0)) (Add (Var 2) (Mul (Var 1) (Var 4))) ∷ []) (Mul (Mul (Var 0) (Var 0)) (Var 3)) (Mul (Add (Var 2) (Mul (Var 1) (Var 4))) (Add (Var 2) (Mul (Var 1) (Var 4)))) (Plus (Times (Lit 2) (Hyp 0)) (Plus (Times (Lit 2) (Hyp 2)) (Plus (Times (Hyp 0) (Hyp 0)) (Plus (Times (Lit 2) (Times (Hyp 0) (Hyp 2))) (Plus (Times (Hyp 2) (Hyp 2)) (Plus (Times (Lit 2) (Times (Hyp 0) (Sq (Mul (Var 0) (Var 4))))) (Plus (Times (Lit 2) (Times (Hyp 2) (Sq (Mul (Var 0) (Var 4))))) (Plus (Times (Lit 2) (Times (Times (Hyp 0) (Hyp 1)) (Sq (Var 1)))) (Plus (Times (Lit 2) (Times (Times (Hyp 2) (Hyp 1)) (Sq (Var 1)))) (Plus (Times (Lit 4) (Times (Hyp 0) (Sq (Mul (Var 1) (Var 4))))) (Plus (Sq (Sub (Mul (Mul (Mul (Var 0) (Var 0)) (Var 4)) (Var 4)) (Mul (Mul (Var 1) (Var 1)) (Var 3)))) (Plus (Times (Lit 2) (Sq (Mul (Var 0) (Var 4)))) (Plus (Times (Lit 4) (Sq (Mul (Var 1) (Var 4)))) (Times (Lit 2) (Times (Hyp 1) (Sq (Var 1))))))))))))))))) 0 (hh, (hl, (hx, tt))) refl

-- vars a b s o k m n x y z; hyp ho: (s*s)*(a*a+b*b) <= (b*o)*(b*o); hyp h: (x*x+y*y)+z*z <= (k*(m*(n*s)))*(k*(m*(n*s))); goal (a*a+b*b)*((x*x+y*y)+z*z) <= (b*(k*(m*(n*o))))*(b*(k*(m*(n*o)))); mul ho * sq(k*m*n); mul h * sq(a); mul h * sq(b)
pub slope_scaled : (a b s o k m n x y z : ℤ) → ((s *ℤ s) *ℤ ((a *ℤ a) +ℤ (b *ℤ b))) ≤ℤ ((b *ℤ o) *ℤ (b *ℤ o)) → (((x *ℤ x) +ℤ (y *ℤ y)) +ℤ (z *ℤ z)) ≤ℤ ((k *ℤ (m *ℤ (n *ℤ s))) *ℤ (k *ℤ (m *ℤ (n *ℤ s)))) → (((a *ℤ a) +ℤ (b *ℤ b)) *ℤ (((x *ℤ x) +ℤ (y *ℤ y)) +ℤ (z *ℤ z))) ≤ℤ ((b *ℤ (k *ℤ (m *ℤ (n *ℤ o)))) *ℤ (b *ℤ (k *ℤ (m *ℤ (n *ℤ o)))))
slope_scaled a b s o k m n x y z ho h = prove_le_by (a ∷ b ∷ s ∷ o ∷ k ∷ m ∷ n ∷ x ∷ y ∷ z ∷ []) (Le (Mul (Mul (Var 2) (Var 2)) (Add (Mul (Var 0) (Var 0)) (Mul (Var 1) (Var 1)))) (Mul (Mul (Var 1) (Var 3)) (Mul (Var 1) (Var 3))) ∷ Le (Add (Add (Mul (Var 7) (Var 7)) (Mul (Var 8) (Var 8))) (Mul (Var 9) (Var 9))) (Mul (Mul (Var 4) (Mul (Var 5) (Mul (Var 6) (Var 2)))) (Mul (Var 4) (Mul (Var 5) (Mul (Var 6) (Var 2))))) ∷ []) (Mul (Add (Mul (Var 0) (Var 0)) (Mul (Var 1) (Var 1))) (Add (Add (Mul (Var 7) (Var 7)) (Mul (Var 8) (Var 8))) (Mul (Var 9) (Var 9)))) (Mul (Mul (Var 1) (Mul (Var 4) (Mul (Var 5) (Mul (Var 6) (Var 3))))) (Mul (Var 1) (Mul (Var 4) (Mul (Var 5) (Mul (Var 6) (Var 3)))))) (Plus (Hyp 0) (Plus (Times (Hyp 1) (Sq (Mul (Mul (Var 4) (Var 5)) (Var 6)))) (Plus (Times (Hyp 2) (Sq (Var 0))) (Times (Hyp 2) (Sq (Var 1)))))) 0 (ho, (h, tt)) refl

-- vars m n k o l a b px py pz tx ty tz rx ry rz; hyp hn: 0 < n; hyp h: (a*(m*(n*px - k*rx)) + a*(k*(m*rx - n*tx)))*(a*(m*(n*px - k*rx)) + a*(k*(m*rx - n*tx))) + (a*(m*(n*py - k*ry)) + a*(k*(m*ry - n*ty)))*(a*(m*(n*py - k*ry)) + a*(k*(m*ry - n*ty))) < (b*(m*(n*pz - k*(rz + n*l))) + (b*(k*(m*(n*o))) + b*(k*(m*rz - n*tz))))*(b*(m*(n*pz - k*(rz + n*l))) + (b*(k*(m*(n*o))) + b*(k*(m*rz - n*tz)))); goal (a*a)*((m*px - k*tx)*(m*px - k*tx) + (m*py - k*ty)*(m*py - k*ty)) < (b*b)*((m*pz - k*(tz + m*(l - o)))*(m*pz - k*(tz + m*(l - o)))); mul goal * sq(n)
pub wall_unscale : (m n k o l a b px py pz tx ty tz rx ry rz : ℤ) → (pos 0) <ℤ n → ((((a *ℤ (m *ℤ ((n *ℤ px) -ℤ (k *ℤ rx)))) +ℤ (a *ℤ (k *ℤ ((m *ℤ rx) -ℤ (n *ℤ tx))))) *ℤ ((a *ℤ (m *ℤ ((n *ℤ px) -ℤ (k *ℤ rx)))) +ℤ (a *ℤ (k *ℤ ((m *ℤ rx) -ℤ (n *ℤ tx)))))) +ℤ (((a *ℤ (m *ℤ ((n *ℤ py) -ℤ (k *ℤ ry)))) +ℤ (a *ℤ (k *ℤ ((m *ℤ ry) -ℤ (n *ℤ ty))))) *ℤ ((a *ℤ (m *ℤ ((n *ℤ py) -ℤ (k *ℤ ry)))) +ℤ (a *ℤ (k *ℤ ((m *ℤ ry) -ℤ (n *ℤ ty))))))) <ℤ (((b *ℤ (m *ℤ ((n *ℤ pz) -ℤ (k *ℤ (rz +ℤ (n *ℤ l)))))) +ℤ ((b *ℤ (k *ℤ (m *ℤ (n *ℤ o)))) +ℤ (b *ℤ (k *ℤ ((m *ℤ rz) -ℤ (n *ℤ tz)))))) *ℤ ((b *ℤ (m *ℤ ((n *ℤ pz) -ℤ (k *ℤ (rz +ℤ (n *ℤ l)))))) +ℤ ((b *ℤ (k *ℤ (m *ℤ (n *ℤ o)))) +ℤ (b *ℤ (k *ℤ ((m *ℤ rz) -ℤ (n *ℤ tz))))))) → ((a *ℤ a) *ℤ ((((m *ℤ px) -ℤ (k *ℤ tx)) *ℤ ((m *ℤ px) -ℤ (k *ℤ tx))) +ℤ (((m *ℤ py) -ℤ (k *ℤ ty)) *ℤ ((m *ℤ py) -ℤ (k *ℤ ty))))) <ℤ ((b *ℤ b) *ℤ (((m *ℤ pz) -ℤ (k *ℤ (tz +ℤ (m *ℤ (l -ℤ o))))) *ℤ ((m *ℤ pz) -ℤ (k *ℤ (tz +ℤ (m *ℤ (l -ℤ o)))))))
wall_unscale m n k o l a b px py pz tx ty tz rx ry rz hn h = prove_lt_by (m ∷ n ∷ k ∷ o ∷ l ∷ a ∷ b ∷ px ∷ py ∷ pz ∷ tx ∷ ty ∷ tz ∷ rx ∷ ry ∷ rz ∷ []) (Lt (Num (pos 0)) (Var 1) ∷ Lt (Add (Mul (Add (Mul (Var 5) (Mul (Var 0) (Sub (Mul (Var 1) (Var 7)) (Mul (Var 2) (Var 13))))) (Mul (Var 5) (Mul (Var 2) (Sub (Mul (Var 0) (Var 13)) (Mul (Var 1) (Var 10)))))) (Add (Mul (Var 5) (Mul (Var 0) (Sub (Mul (Var 1) (Var 7)) (Mul (Var 2) (Var 13))))) (Mul (Var 5) (Mul (Var 2) (Sub (Mul (Var 0) (Var 13)) (Mul (Var 1) (Var 10))))))) (Mul (Add (Mul (Var 5) (Mul (Var 0) (Sub (Mul (Var 1) (Var 8)) (Mul (Var 2) (Var 14))))) (Mul (Var 5) (Mul (Var 2) (Sub (Mul (Var 0) (Var 14)) (Mul (Var 1) (Var 11)))))) (Add (Mul (Var 5) (Mul (Var 0) (Sub (Mul (Var 1) (Var 8)) (Mul (Var 2) (Var 14))))) (Mul (Var 5) (Mul (Var 2) (Sub (Mul (Var 0) (Var 14)) (Mul (Var 1) (Var 11)))))))) (Mul (Add (Mul (Var 6) (Mul (Var 0) (Sub (Mul (Var 1) (Var 9)) (Mul (Var 2) (Add (Var 15) (Mul (Var 1) (Var 4))))))) (Add (Mul (Var 6) (Mul (Var 2) (Mul (Var 0) (Mul (Var 1) (Var 3))))) (Mul (Var 6) (Mul (Var 2) (Sub (Mul (Var 0) (Var 15)) (Mul (Var 1) (Var 12))))))) (Add (Mul (Var 6) (Mul (Var 0) (Sub (Mul (Var 1) (Var 9)) (Mul (Var 2) (Add (Var 15) (Mul (Var 1) (Var 4))))))) (Add (Mul (Var 6) (Mul (Var 2) (Mul (Var 0) (Mul (Var 1) (Var 3))))) (Mul (Var 6) (Mul (Var 2) (Sub (Mul (Var 0) (Var 15)) (Mul (Var 1) (Var 12)))))))) ∷ []) (Mul (Mul (Var 5) (Var 5)) (Add (Mul (Sub (Mul (Var 0) (Var 7)) (Mul (Var 2) (Var 10))) (Sub (Mul (Var 0) (Var 7)) (Mul (Var 2) (Var 10)))) (Mul (Sub (Mul (Var 0) (Var 8)) (Mul (Var 2) (Var 11))) (Sub (Mul (Var 0) (Var 8)) (Mul (Var 2) (Var 11)))))) (Mul (Mul (Var 6) (Var 6)) (Mul (Sub (Mul (Var 0) (Var 9)) (Mul (Var 2) (Add (Var 12) (Mul (Var 0) (Sub (Var 4) (Var 3)))))) (Sub (Mul (Var 0) (Var 9)) (Mul (Var 2) (Add (Var 12) (Mul (Var 0) (Sub (Var 4) (Var 3)))))))) (Plus (Hyp 2) (Times (Hyp 0) (Sq (Var 1)))) 0 (hn, (h, tt)) refl

-- vars a x y q; hyp h: (a*a)*(x*x+y*y) <= q*q; goal (a*x)*(a*x)+(a*y)*(a*y) <= q*q
pub wall_part : (a x y q : ℤ) → ((a *ℤ a) *ℤ ((x *ℤ x) +ℤ (y *ℤ y))) ≤ℤ (q *ℤ q) → (((a *ℤ x) *ℤ (a *ℤ x)) +ℤ ((a *ℤ y) *ℤ (a *ℤ y))) ≤ℤ (q *ℤ q)
wall_part a x y q h = prove_le_by (a ∷ x ∷ y ∷ q ∷ []) (Le (Mul (Mul (Var 0) (Var 0)) (Add (Mul (Var 1) (Var 1)) (Mul (Var 2) (Var 2)))) (Mul (Var 3) (Var 3)) ∷ []) (Add (Mul (Mul (Var 0) (Var 1)) (Mul (Var 0) (Var 1))) (Mul (Mul (Var 0) (Var 2)) (Mul (Var 0) (Var 2)))) (Mul (Var 3) (Var 3)) (Plus (Hyp 0) (Hyp 1)) 0 (h, tt) refl

-- vars x y; goal 0 <= x*x+y*y; square x; square y
pub squares_sum : (x y : ℤ) → (pos 0) ≤ℤ ((x *ℤ x) +ℤ (y *ℤ y))
squares_sum x y = prove_le_by (x ∷ y ∷ []) ([]) (Num (pos 0)) (Add (Mul (Var 0) (Var 0)) (Mul (Var 1) (Var 1))) (Plus (Hyp 0) (Plus (Sq (Var 0)) (Sq (Var 1)))) 0 tt refl

-- vars a b s o; hyp hb: 0 < b; hyp hs: 0 <= s; hyp ho: 0 <= o; hyp h: (s*s)*(a*a+b*b) <= (b*o)*(b*o); goal s <= o; mul goal * goal * sq(b); mul goal * ho * sq(b); mul ho * sq(b); mul goal * sq(b); mul hb * hb; square a*s
pub offset_most : (a b s o : ℤ) → (pos 0) <ℤ b → (pos 0) ≤ℤ s → (pos 0) ≤ℤ o → ((s *ℤ s) *ℤ ((a *ℤ a) +ℤ (b *ℤ b))) ≤ℤ ((b *ℤ o) *ℤ (b *ℤ o)) → s ≤ℤ o
offset_most a b s o hb hs ho h = prove_le_by (a ∷ b ∷ s ∷ o ∷ []) (Lt (Num (pos 0)) (Var 1) ∷ Le (Num (pos 0)) (Var 2) ∷ Le (Num (pos 0)) (Var 3) ∷ Le (Mul (Mul (Var 2) (Var 2)) (Add (Mul (Var 0) (Var 0)) (Mul (Var 1) (Var 1)))) (Mul (Mul (Var 1) (Var 3)) (Mul (Var 1) (Var 3))) ∷ []) (Var 2) (Var 3) (Plus (Times (Lit 2) (Hyp 1)) (Plus (Hyp 4) (Plus (Times (Times (Hyp 0) (Hyp 0)) (Sq (Var 1))) (Plus (Times (Lit 2) (Times (Times (Hyp 0) (Hyp 3)) (Sq (Var 1)))) (Plus (Times (Lit 2) (Times (Hyp 3) (Sq (Var 1)))) (Plus (Times (Lit 2) (Times (Hyp 0) (Sq (Var 1)))) (Plus (Times (Hyp 1) (Hyp 1)) (Sq (Mul (Var 0) (Var 2)))))))))) 0 (hb, (hs, (ho, (h, tt)))) refl

-- vars a b s; hyp ha: 0 <= a; hyp hs: 0 <= s; hyp h: a <= 16*b; goal (s*s)*(a*a+b*b) <= (17*(b*s))*(17*(b*s)); mul h * h * sq(s); mul h * ha * sq(s); square b*s
pub slope_square : (a b s : ℤ) → (pos 0) ≤ℤ a → (pos 0) ≤ℤ s → a ≤ℤ ((pos 16) *ℤ b) → ((s *ℤ s) *ℤ ((a *ℤ a) +ℤ (b *ℤ b))) ≤ℤ (((pos 17) *ℤ (b *ℤ s)) *ℤ ((pos 17) *ℤ (b *ℤ s)))
slope_square a b s ha hs h = prove_le_by (a ∷ b ∷ s ∷ []) (Le (Num (pos 0)) (Var 0) ∷ Le (Num (pos 0)) (Var 2) ∷ Le (Var 0) (Mul (Num (pos 16)) (Var 1)) ∷ []) (Mul (Mul (Var 2) (Var 2)) (Add (Mul (Var 0) (Var 0)) (Mul (Var 1) (Var 1)))) (Mul (Mul (Num (pos 17)) (Mul (Var 1) (Var 2))) (Mul (Num (pos 17)) (Mul (Var 1) (Var 2)))) (Plus (Hyp 0) (Plus (Times (Times (Hyp 3) (Hyp 3)) (Sq (Var 2))) (Plus (Times (Lit 2) (Times (Times (Hyp 3) (Hyp 1)) (Sq (Var 2)))) (Times (Lit 32) (Sq (Mul (Var 1) (Var 2))))))) 0 (ha, (hs, (h, tt))) refl

-- vars r R n s; hyp hr: 0 <= r; hyp h: r <= R; hyp hs: s < (r*r)*(n*n); goal s < (R*R)*(n*n); mul h * h * sq(n); mul h * hr * sq(n)
pub narrower : (r R n s : ℤ) → (pos 0) ≤ℤ r → r ≤ℤ R → s <ℤ ((r *ℤ r) *ℤ (n *ℤ n)) → s <ℤ ((R *ℤ R) *ℤ (n *ℤ n))
narrower r R n s hr h hs = prove_lt_by (r ∷ R ∷ n ∷ s ∷ []) (Le (Num (pos 0)) (Var 0) ∷ Le (Var 0) (Var 1) ∷ Lt (Var 3) (Mul (Mul (Var 0) (Var 0)) (Mul (Var 2) (Var 2))) ∷ []) (Var 3) (Mul (Mul (Var 1) (Var 1)) (Mul (Var 2) (Var 2))) (Plus (Hyp 0) (Plus (Hyp 3) (Plus (Times (Times (Hyp 2) (Hyp 2)) (Sq (Var 2))) (Times (Lit 2) (Times (Times (Hyp 2) (Hyp 1)) (Sq (Var 2))))))) 0 (hr, (h, (hs, tt))) refl

-- vars m n z l h t; hyp hm: 0 < m; hyp hn: 0 < n; hyp h1: l <= h; goal m*z - n*(t + m*h) <= m*z - n*(t + m*l); mul hm+ * hn+ * h1
pub higher_up : (m n z l h t : ℤ) → (pos 0) <ℤ m → (pos 0) <ℤ n → l ≤ℤ h → ((m *ℤ z) -ℤ (n *ℤ (t +ℤ (m *ℤ h)))) ≤ℤ ((m *ℤ z) -ℤ (n *ℤ (t +ℤ (m *ℤ l))))
higher_up m n z l h t hm hn h1 = prove_le_by (m ∷ n ∷ z ∷ l ∷ h ∷ t ∷ []) (Lt (Num (pos 0)) (Var 0) ∷ Lt (Num (pos 0)) (Var 1) ∷ Le (Var 3) (Var 4) ∷ []) (Sub (Mul (Var 0) (Var 2)) (Mul (Var 1) (Add (Var 5) (Mul (Var 0) (Var 4))))) (Sub (Mul (Var 0) (Var 2)) (Mul (Var 1) (Add (Var 5) (Mul (Var 0) (Var 3))))) (Plus (Hyp 0) (Times (Times (Plus (Hyp 1) (Lit 1)) (Plus (Hyp 2) (Lit 1))) (Hyp 3))) 0 (hm, (hn, (h1, tt))) refl

-- vars s z r n; hyp hn: 0 < n; hyp hr: 0 <= r; hyp hs: 0 <= s; hyp h: s + (z - r*n)*(z - r*n) < (r*r)*(n*n); goal 0 <= z; square z; mul goal * hr * hn+; mul hr * hn+
pub ball_up : (s z r n : ℤ) → (pos 0) <ℤ n → (pos 0) ≤ℤ r → (pos 0) ≤ℤ s → (s +ℤ ((z -ℤ (r *ℤ n)) *ℤ (z -ℤ (r *ℤ n)))) <ℤ ((r *ℤ r) *ℤ (n *ℤ n)) → (pos 0) ≤ℤ z
ball_up s z r n hn hr hs h = prove_le_by (s ∷ z ∷ r ∷ n ∷ []) (Lt (Num (pos 0)) (Var 3) ∷ Le (Num (pos 0)) (Var 2) ∷ Le (Num (pos 0)) (Var 0) ∷ Lt (Add (Var 0) (Mul (Sub (Var 1) (Mul (Var 2) (Var 3))) (Sub (Var 1) (Mul (Var 2) (Var 3))))) (Mul (Mul (Var 2) (Var 2)) (Mul (Var 3) (Var 3))) ∷ []) (Num (pos 0)) (Var 1) (Plus (Hyp 3) (Plus (Hyp 4) (Plus (Sq (Var 1)) (Plus (Times (Lit 2) (Times (Times (Hyp 0) (Hyp 2)) (Plus (Hyp 1) (Lit 1)))) (Times (Lit 2) (Times (Hyp 2) (Plus (Hyp 1) (Lit 1)))))))) 0 (hn, (hr, (hs, (h, tt)))) refl

-- vars s z w r R n; hyp hn: 0 < n; hyp hR: r <= R; hyp h: s + (z - r*n)*(z - r*n) < (r*r)*(n*n); hyp h0: 0 <= z; hyp hz: z <= w; hyp hw: w < R*n; goal s + (w - R*n)*(w - R*n) < (R*R)*(n*n); mul hz * hw+; mul hz * hz; mul h0 * hn+ * hR
pub ball_in : (s z w r R n : ℤ) → (pos 0) <ℤ n → r ≤ℤ R → (s +ℤ ((z -ℤ (r *ℤ n)) *ℤ (z -ℤ (r *ℤ n)))) <ℤ ((r *ℤ r) *ℤ (n *ℤ n)) → (pos 0) ≤ℤ z → z ≤ℤ w → w <ℤ (R *ℤ n) → (s +ℤ ((w -ℤ (R *ℤ n)) *ℤ (w -ℤ (R *ℤ n)))) <ℤ ((R *ℤ R) *ℤ (n *ℤ n))
ball_in s z w r R n hn hR h h0 hz hw = prove_lt_by (s ∷ z ∷ w ∷ r ∷ R ∷ n ∷ []) (Lt (Num (pos 0)) (Var 5) ∷ Le (Var 3) (Var 4) ∷ Lt (Add (Var 0) (Mul (Sub (Var 1) (Mul (Var 3) (Var 5))) (Sub (Var 1) (Mul (Var 3) (Var 5))))) (Mul (Mul (Var 3) (Var 3)) (Mul (Var 5) (Var 5))) ∷ Le (Num (pos 0)) (Var 1) ∷ Le (Var 1) (Var 2) ∷ Lt (Var 2) (Mul (Var 4) (Var 5)) ∷ []) (Add (Var 0) (Mul (Sub (Var 2) (Mul (Var 4) (Var 5))) (Sub (Var 2) (Mul (Var 4) (Var 5))))) (Mul (Mul (Var 4) (Var 4)) (Mul (Var 5) (Var 5))) (Plus (Hyp 0) (Plus (Hyp 3) (Plus (Times (Lit 2) (Times (Hyp 5) (Plus (Hyp 6) (Lit 1)))) (Plus (Times (Hyp 5) (Hyp 5)) (Times (Lit 2) (Times (Times (Hyp 4) (Plus (Hyp 1) (Lit 1))) (Hyp 2))))))) 0 (hn, (hR, (h, (h0, (hz, (hw, tt)))))) refl

-- vars s z w r R n; hyp hr: 0 <= r; hyp hR: r <= R; hyp h: s < (r*r)*(n*n); hyp hz: r*n <= z; hyp hw: z <= w; hyp hk: w < R*n; goal s + (w - R*n)*(w - R*n) < (R*R)*(n*n); mul hz * hk+; mul hw * hk+; mul hz * hz; mul hz * hw; mul hw * hw; mul hr * hR * sq(n)
pub ball_over : (s z w r R n : ℤ) → (pos 0) ≤ℤ r → r ≤ℤ R → s <ℤ ((r *ℤ r) *ℤ (n *ℤ n)) → (r *ℤ n) ≤ℤ z → z ≤ℤ w → w <ℤ (R *ℤ n) → (s +ℤ ((w -ℤ (R *ℤ n)) *ℤ (w -ℤ (R *ℤ n)))) <ℤ ((R *ℤ R) *ℤ (n *ℤ n))
ball_over s z w r R n hr hR h hz hw hk = prove_lt_by (s ∷ z ∷ w ∷ r ∷ R ∷ n ∷ []) (Le (Num (pos 0)) (Var 3) ∷ Le (Var 3) (Var 4) ∷ Lt (Var 0) (Mul (Mul (Var 3) (Var 3)) (Mul (Var 5) (Var 5))) ∷ Le (Mul (Var 3) (Var 5)) (Var 1) ∷ Le (Var 1) (Var 2) ∷ Lt (Var 2) (Mul (Var 4) (Var 5)) ∷ []) (Add (Var 0) (Mul (Sub (Var 2) (Mul (Var 4) (Var 5))) (Sub (Var 2) (Mul (Var 4) (Var 5))))) (Mul (Mul (Var 4) (Var 4)) (Mul (Var 5) (Var 5))) (Plus (Hyp 0) (Plus (Hyp 3) (Plus (Times (Lit 2) (Times (Hyp 4) (Plus (Hyp 6) (Lit 1)))) (Plus (Times (Lit 2) (Times (Hyp 5) (Plus (Hyp 6) (Lit 1)))) (Plus (Times (Hyp 4) (Hyp 4)) (Plus (Times (Lit 2) (Times (Hyp 4) (Hyp 5))) (Plus (Times (Hyp 5) (Hyp 5)) (Times (Lit 2) (Times (Times (Hyp 1) (Hyp 2)) (Sq (Var 5))))))))))) 0 (hr, (hR, (h, (hz, (hw, (hk, tt)))))) refl

-- vars s b low high; hyp h: s < (b*b)*(low*low); hyp hl: 0 < low; hyp hz: low <= high; goal s < (b*b)*(high*high); mul hl * hz * sq(b); mul hz * hz * sq(b); mul hz * sq(b)
pub wall_up : (s b low high : ℤ) → s <ℤ ((b *ℤ b) *ℤ (low *ℤ low)) → (pos 0) <ℤ low → low ≤ℤ high → s <ℤ ((b *ℤ b) *ℤ (high *ℤ high))
wall_up s b low high h hl hz = prove_lt_by (s ∷ b ∷ low ∷ high ∷ []) (Lt (Var 0) (Mul (Mul (Var 1) (Var 1)) (Mul (Var 2) (Var 2))) ∷ Lt (Num (pos 0)) (Var 2) ∷ Le (Var 2) (Var 3) ∷ []) (Var 0) (Mul (Mul (Var 1) (Var 1)) (Mul (Var 3) (Var 3))) (Plus (Hyp 0) (Plus (Hyp 1) (Plus (Times (Lit 2) (Times (Times (Hyp 2) (Hyp 3)) (Sq (Var 1)))) (Plus (Times (Times (Hyp 3) (Hyp 3)) (Sq (Var 1))) (Times (Lit 2) (Times (Hyp 3) (Sq (Var 1)))))))) 0 (h, (hl, (hz, tt))) refl

-- vars a b c d; hyp ha: 0 < a; hyp hb: 0 < b; hyp hc: 0 < c; hyp hd: 0 <= d; goal 0 <= a*((b*c)*d); mul ha+ * hb+ * hc+ * hd
pub product_pair : (a b c d : ℤ) → (pos 0) <ℤ a → (pos 0) <ℤ b → (pos 0) <ℤ c → (pos 0) ≤ℤ d → (pos 0) ≤ℤ (a *ℤ ((b *ℤ c) *ℤ d))
product_pair a b c d ha hb hc hd = prove_le_by (a ∷ b ∷ c ∷ d ∷ []) (Lt (Num (pos 0)) (Var 0) ∷ Lt (Num (pos 0)) (Var 1) ∷ Lt (Num (pos 0)) (Var 2) ∷ Le (Num (pos 0)) (Var 3) ∷ []) (Num (pos 0)) (Mul (Var 0) (Mul (Mul (Var 1) (Var 2)) (Var 3))) (Plus (Hyp 0) (Times (Times (Times (Plus (Hyp 1) (Lit 1)) (Plus (Hyp 2) (Lit 1))) (Plus (Hyp 3) (Lit 1))) (Hyp 4))) 0 (ha, (hb, (hc, (hd, tt)))) refl
