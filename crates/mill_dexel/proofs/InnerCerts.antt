-- Polynomial facts behind the law of tops: an inner cutter lies inside the cutter.
-- Written by tools/certificates.py from tools/certificates/mill_dexel_inner.spec.
use Rattle.std.proofs.Common.{◌≡◌, [], ◌∷◌, refl}
use lib.IntN.{ℤ, pos, ◌+ℤ◌, ◌-ℤ◌, ◌*ℤ◌}
use lib.Signed.{◌<ℤ◌, ◌≤ℤ◌}
use Rattle.mill_base.proofs.Ring.{Var, Num, Add, Sub, Mul, ring}
use Rattle.mill_base.proofs.Cert.{Le, Lt, Hyp, Sq, Lit, Plus, Times, prove_le_by, prove_lt_by}

-- vars x y u v r q n; hyp h1: x*x+y*y < (r*r)*(n*n); hyp h2: u*u+v*v <= (q*n)*(q*n); hyp p1: 0 <= r*n; hyp p2: 0 <= q*n; goal x*u+y*v <= (r*n)*(q*n); square x*v-y*u; mul goal * goal; mul goal * p1 * p2; mul p1 * p2; mul h1 * sq(q*n); square q*n; mul sq(x) * h2; mul sq(y) * h2
pub inner_dot : (x y u v r q n : ℤ) → ((x *ℤ x) +ℤ (y *ℤ y)) <ℤ ((r *ℤ r) *ℤ (n *ℤ n)) → ((u *ℤ u) +ℤ (v *ℤ v)) ≤ℤ ((q *ℤ n) *ℤ (q *ℤ n)) → (pos 0) ≤ℤ (r *ℤ n) → (pos 0) ≤ℤ (q *ℤ n) → ((x *ℤ u) +ℤ (y *ℤ v)) ≤ℤ ((r *ℤ n) *ℤ (q *ℤ n))
inner_dot x y u v r q n h1 h2 p1 p2 = prove_le_by (x ∷ y ∷ u ∷ v ∷ r ∷ q ∷ n ∷ []) (Lt (Add (Mul (Var 0) (Var 0)) (Mul (Var 1) (Var 1))) (Mul (Mul (Var 4) (Var 4)) (Mul (Var 6) (Var 6))) ∷ Le (Add (Mul (Var 2) (Var 2)) (Mul (Var 3) (Var 3))) (Mul (Mul (Var 5) (Var 6)) (Mul (Var 5) (Var 6))) ∷ Le (Num (pos 0)) (Mul (Var 4) (Var 6)) ∷ Le (Num (pos 0)) (Mul (Var 5) (Var 6)) ∷ []) (Add (Mul (Var 0) (Var 2)) (Mul (Var 1) (Var 3))) (Mul (Mul (Var 4) (Var 6)) (Mul (Var 5) (Var 6))) (Plus (Times (Lit 2) (Hyp 0)) (Plus (Sq (Sub (Mul (Var 0) (Var 3)) (Mul (Var 1) (Var 2)))) (Plus (Times (Hyp 0) (Hyp 0)) (Plus (Times (Lit 2) (Times (Times (Hyp 0) (Hyp 3)) (Hyp 4))) (Plus (Times (Lit 2) (Times (Hyp 3) (Hyp 4))) (Plus (Times (Hyp 1) (Sq (Mul (Var 5) (Var 6)))) (Plus (Sq (Mul (Var 5) (Var 6))) (Plus (Times (Sq (Var 0)) (Hyp 2)) (Times (Sq (Var 1)) (Hyp 2)))))))))) 0 (h1, (h2, (p1, (p2, tt)))) refl

-- vars x y u v r q n; hyp h1: x*x+y*y < (r*r)*(n*n); hyp h2: u*u+v*v <= (q*n)*(q*n); hyp h3: x*u+y*v <= (r*n)*(q*n); goal (x+u)*(x+u)+(y+v)*(y+v) < ((r+q)*(r+q))*(n*n)
pub inner_near : (x y u v r q n : ℤ) → ((x *ℤ x) +ℤ (y *ℤ y)) <ℤ ((r *ℤ r) *ℤ (n *ℤ n)) → ((u *ℤ u) +ℤ (v *ℤ v)) ≤ℤ ((q *ℤ n) *ℤ (q *ℤ n)) → ((x *ℤ u) +ℤ (y *ℤ v)) ≤ℤ ((r *ℤ n) *ℤ (q *ℤ n)) → (((x +ℤ u) *ℤ (x +ℤ u)) +ℤ ((y +ℤ v) *ℤ (y +ℤ v))) <ℤ (((r +ℤ q) *ℤ (r +ℤ q)) *ℤ (n *ℤ n))
inner_near x y u v r q n h1 h2 h3 = prove_lt_by (x ∷ y ∷ u ∷ v ∷ r ∷ q ∷ n ∷ []) (Lt (Add (Mul (Var 0) (Var 0)) (Mul (Var 1) (Var 1))) (Mul (Mul (Var 4) (Var 4)) (Mul (Var 6) (Var 6))) ∷ Le (Add (Mul (Var 2) (Var 2)) (Mul (Var 3) (Var 3))) (Mul (Mul (Var 5) (Var 6)) (Mul (Var 5) (Var 6))) ∷ Le (Add (Mul (Var 0) (Var 2)) (Mul (Var 1) (Var 3))) (Mul (Mul (Var 4) (Var 6)) (Mul (Var 5) (Var 6))) ∷ []) (Add (Mul (Add (Var 0) (Var 2)) (Add (Var 0) (Var 2))) (Mul (Add (Var 1) (Var 3)) (Add (Var 1) (Var 3)))) (Mul (Mul (Add (Var 4) (Var 5)) (Add (Var 4) (Var 5))) (Mul (Var 6) (Var 6))) (Plus (Hyp 0) (Plus (Hyp 1) (Plus (Hyp 2) (Times (Lit 2) (Hyp 3))))) 0 (h1, (h2, (h3, tt))) refl

-- vars z r q n; hyp h: r*n <= z; goal (r+q)*n <= z+q*n
pub inner_high : (z r q n : ℤ) → (r *ℤ n) ≤ℤ z → ((r +ℤ q) *ℤ n) ≤ℤ (z +ℤ (q *ℤ n))
inner_high z r q n h = prove_le_by (z ∷ r ∷ q ∷ n ∷ []) (Le (Mul (Var 1) (Var 3)) (Var 0) ∷ []) (Mul (Add (Var 1) (Var 2)) (Var 3)) (Add (Var 0) (Mul (Var 2) (Var 3))) (Plus (Hyp 0) (Hyp 1)) 0 (h, tt) refl

-- vars x y z u v r q n; hyp h1: (x*x+y*y)+(z-r*n)*(z-r*n) < (r*r)*(n*n); hyp h2: u*u+v*v <= (q*n)*(q*n); hyp h3: x*u+y*v <= (r*n)*(q*n); goal ((x+u)*(x+u)+(y+v)*(y+v))+((z+q*n)-(r+q)*n)*((z+q*n)-(r+q)*n) < ((r+q)*(r+q))*(n*n)
pub inner_deep : (x y z u v r q n : ℤ) → (((x *ℤ x) +ℤ (y *ℤ y)) +ℤ ((z -ℤ (r *ℤ n)) *ℤ (z -ℤ (r *ℤ n)))) <ℤ ((r *ℤ r) *ℤ (n *ℤ n)) → ((u *ℤ u) +ℤ (v *ℤ v)) ≤ℤ ((q *ℤ n) *ℤ (q *ℤ n)) → ((x *ℤ u) +ℤ (y *ℤ v)) ≤ℤ ((r *ℤ n) *ℤ (q *ℤ n)) → ((((x +ℤ u) *ℤ (x +ℤ u)) +ℤ ((y +ℤ v) *ℤ (y +ℤ v))) +ℤ (((z +ℤ (q *ℤ n)) -ℤ ((r +ℤ q) *ℤ n)) *ℤ ((z +ℤ (q *ℤ n)) -ℤ ((r +ℤ q) *ℤ n)))) <ℤ (((r +ℤ q) *ℤ (r +ℤ q)) *ℤ (n *ℤ n))
inner_deep x y z u v r q n h1 h2 h3 = prove_lt_by (x ∷ y ∷ z ∷ u ∷ v ∷ r ∷ q ∷ n ∷ []) (Lt (Add (Add (Mul (Var 0) (Var 0)) (Mul (Var 1) (Var 1))) (Mul (Sub (Var 2) (Mul (Var 5) (Var 7))) (Sub (Var 2) (Mul (Var 5) (Var 7))))) (Mul (Mul (Var 5) (Var 5)) (Mul (Var 7) (Var 7))) ∷ Le (Add (Mul (Var 3) (Var 3)) (Mul (Var 4) (Var 4))) (Mul (Mul (Var 6) (Var 7)) (Mul (Var 6) (Var 7))) ∷ Le (Add (Mul (Var 0) (Var 3)) (Mul (Var 1) (Var 4))) (Mul (Mul (Var 5) (Var 7)) (Mul (Var 6) (Var 7))) ∷ []) (Add (Add (Mul (Add (Var 0) (Var 3)) (Add (Var 0) (Var 3))) (Mul (Add (Var 1) (Var 4)) (Add (Var 1) (Var 4)))) (Mul (Sub (Add (Var 2) (Mul (Var 6) (Var 7))) (Mul (Add (Var 5) (Var 6)) (Var 7))) (Sub (Add (Var 2) (Mul (Var 6) (Var 7))) (Mul (Add (Var 5) (Var 6)) (Var 7))))) (Mul (Mul (Add (Var 5) (Var 6)) (Add (Var 5) (Var 6))) (Mul (Var 7) (Var 7))) (Plus (Hyp 0) (Plus (Hyp 1) (Plus (Hyp 2) (Times (Lit 2) (Hyp 3))))) 0 (h1, (h2, (h3, tt))) refl

-- vars z s n; hyp hz: 0 < z; hyp hs: 0 <= s; hyp hn: 0 < n; goal 0 < z+s*n; mul hs * hn+
pub inner_over : (z s n : ℤ) → (pos 0) <ℤ z → (pos 0) ≤ℤ s → (pos 0) <ℤ n → (pos 0) <ℤ (z +ℤ (s *ℤ n))
inner_over z s n hz hs hn = prove_lt_by (z ∷ s ∷ n ∷ []) (Lt (Num (pos 0)) (Var 0) ∷ Le (Num (pos 0)) (Var 1) ∷ Lt (Num (pos 0)) (Var 2) ∷ []) (Num (pos 0)) (Add (Var 0) (Mul (Var 1) (Var 2))) (Plus (Hyp 0) (Plus (Hyp 1) (Times (Hyp 2) (Plus (Hyp 3) (Lit 1))))) 0 (hz, (hs, (hn, tt))) refl

-- vars a b x y z u v q n; hyp h1: (a*a)*(x*x+y*y) < (b*b)*(z*z); hyp h2: u*u+v*v <= (q*n)*(q*n); hyp p1: 0 <= b*z; hyp p2: 0 <= a*(q*n); goal (a*x)*(a*u)+(a*y)*(a*v) <= (b*z)*(a*(q*n)); square (a*x)*(a*v)-(a*y)*(a*u); mul goal * goal; mul goal * p1 * p2; mul p1 * p2; mul h1 * sq(a*(q*n)); square a*(q*n); mul sq(a*(a*x)) * h2; mul sq(a*(a*y)) * h2
pub cone_dot : (a b x y z u v q n : ℤ) → ((a *ℤ a) *ℤ ((x *ℤ x) +ℤ (y *ℤ y))) <ℤ ((b *ℤ b) *ℤ (z *ℤ z)) → ((u *ℤ u) +ℤ (v *ℤ v)) ≤ℤ ((q *ℤ n) *ℤ (q *ℤ n)) → (pos 0) ≤ℤ (b *ℤ z) → (pos 0) ≤ℤ (a *ℤ (q *ℤ n)) → (((a *ℤ x) *ℤ (a *ℤ u)) +ℤ ((a *ℤ y) *ℤ (a *ℤ v))) ≤ℤ ((b *ℤ z) *ℤ (a *ℤ (q *ℤ n)))
cone_dot a b x y z u v q n h1 h2 p1 p2 = prove_le_by (a ∷ b ∷ x ∷ y ∷ z ∷ u ∷ v ∷ q ∷ n ∷ []) (Lt (Mul (Mul (Var 0) (Var 0)) (Add (Mul (Var 2) (Var 2)) (Mul (Var 3) (Var 3)))) (Mul (Mul (Var 1) (Var 1)) (Mul (Var 4) (Var 4))) ∷ Le (Add (Mul (Var 5) (Var 5)) (Mul (Var 6) (Var 6))) (Mul (Mul (Var 7) (Var 8)) (Mul (Var 7) (Var 8))) ∷ Le (Num (pos 0)) (Mul (Var 1) (Var 4)) ∷ Le (Num (pos 0)) (Mul (Var 0) (Mul (Var 7) (Var 8))) ∷ []) (Add (Mul (Mul (Var 0) (Var 2)) (Mul (Var 0) (Var 5))) (Mul (Mul (Var 0) (Var 3)) (Mul (Var 0) (Var 6)))) (Mul (Mul (Var 1) (Var 4)) (Mul (Var 0) (Mul (Var 7) (Var 8)))) (Plus (Times (Lit 2) (Hyp 0)) (Plus (Sq (Sub (Mul (Mul (Var 0) (Var 2)) (Mul (Var 0) (Var 6))) (Mul (Mul (Var 0) (Var 3)) (Mul (Var 0) (Var 5))))) (Plus (Times (Hyp 0) (Hyp 0)) (Plus (Times (Lit 2) (Times (Times (Hyp 0) (Hyp 3)) (Hyp 4))) (Plus (Times (Lit 2) (Times (Hyp 3) (Hyp 4))) (Plus (Times (Hyp 1) (Sq (Mul (Var 0) (Mul (Var 7) (Var 8))))) (Plus (Sq (Mul (Var 0) (Mul (Var 7) (Var 8)))) (Plus (Times (Sq (Mul (Var 0) (Mul (Var 0) (Var 2)))) (Hyp 2)) (Times (Sq (Mul (Var 0) (Mul (Var 0) (Var 3)))) (Hyp 2)))))))))) 0 (h1, (h2, (p1, (p2, tt)))) refl

-- vars a b z s q n; hyp hn: 0 < n; hyp hs: q*a <= b*s; goal b*z+a*(q*n) <= b*(z+s*n); mul hn+ * hs
pub cone_rise : (a b z s q n : ℤ) → (pos 0) <ℤ n → (q *ℤ a) ≤ℤ (b *ℤ s) → ((b *ℤ z) +ℤ (a *ℤ (q *ℤ n))) ≤ℤ (b *ℤ (z +ℤ (s *ℤ n)))
cone_rise a b z s q n hn hs = prove_le_by (a ∷ b ∷ z ∷ s ∷ q ∷ n ∷ []) (Lt (Num (pos 0)) (Var 5) ∷ Le (Mul (Var 4) (Var 0)) (Mul (Var 1) (Var 3)) ∷ []) (Add (Mul (Var 1) (Var 2)) (Mul (Var 0) (Mul (Var 4) (Var 5)))) (Mul (Var 1) (Add (Var 2) (Mul (Var 3) (Var 5)))) (Plus (Hyp 0) (Times (Plus (Hyp 1) (Lit 1)) (Hyp 2))) 0 (hn, (hs, tt)) refl

-- vars a b x y z u v s q n; hyp h1: (a*a)*(x*x+y*y) < (b*b)*(z*z); hyp h2: u*u+v*v <= (q*n)*(q*n); hyp h3: (a*x)*(a*u)+(a*y)*(a*v) <= (b*z)*(a*(q*n)); hyp p1: 0 <= b*z; hyp p2: 0 <= a*(q*n); hyp hr: b*z+a*(q*n) <= b*(z+s*n); goal (a*a)*((x+u)*(x+u)+(y+v)*(y+v)) < (b*b)*((z+s*n)*(z+s*n)); mul sq(a) * h2; mul hr * hr; mul p1 * hr; mul p2 * hr
pub cone_steep : (a b x y z u v s q n : ℤ) → ((a *ℤ a) *ℤ ((x *ℤ x) +ℤ (y *ℤ y))) <ℤ ((b *ℤ b) *ℤ (z *ℤ z)) → ((u *ℤ u) +ℤ (v *ℤ v)) ≤ℤ ((q *ℤ n) *ℤ (q *ℤ n)) → (((a *ℤ x) *ℤ (a *ℤ u)) +ℤ ((a *ℤ y) *ℤ (a *ℤ v))) ≤ℤ ((b *ℤ z) *ℤ (a *ℤ (q *ℤ n))) → (pos 0) ≤ℤ (b *ℤ z) → (pos 0) ≤ℤ (a *ℤ (q *ℤ n)) → ((b *ℤ z) +ℤ (a *ℤ (q *ℤ n))) ≤ℤ (b *ℤ (z +ℤ (s *ℤ n))) → ((a *ℤ a) *ℤ (((x +ℤ u) *ℤ (x +ℤ u)) +ℤ ((y +ℤ v) *ℤ (y +ℤ v)))) <ℤ ((b *ℤ b) *ℤ ((z +ℤ (s *ℤ n)) *ℤ (z +ℤ (s *ℤ n))))
cone_steep a b x y z u v s q n h1 h2 h3 p1 p2 hr = prove_lt_by (a ∷ b ∷ x ∷ y ∷ z ∷ u ∷ v ∷ s ∷ q ∷ n ∷ []) (Lt (Mul (Mul (Var 0) (Var 0)) (Add (Mul (Var 2) (Var 2)) (Mul (Var 3) (Var 3)))) (Mul (Mul (Var 1) (Var 1)) (Mul (Var 4) (Var 4))) ∷ Le (Add (Mul (Var 5) (Var 5)) (Mul (Var 6) (Var 6))) (Mul (Mul (Var 8) (Var 9)) (Mul (Var 8) (Var 9))) ∷ Le (Add (Mul (Mul (Var 0) (Var 2)) (Mul (Var 0) (Var 5))) (Mul (Mul (Var 0) (Var 3)) (Mul (Var 0) (Var 6)))) (Mul (Mul (Var 1) (Var 4)) (Mul (Var 0) (Mul (Var 8) (Var 9)))) ∷ Le (Num (pos 0)) (Mul (Var 1) (Var 4)) ∷ Le (Num (pos 0)) (Mul (Var 0) (Mul (Var 8) (Var 9))) ∷ Le (Add (Mul (Var 1) (Var 4)) (Mul (Var 0) (Mul (Var 8) (Var 9)))) (Mul (Var 1) (Add (Var 4) (Mul (Var 7) (Var 9)))) ∷ []) (Mul (Mul (Var 0) (Var 0)) (Add (Mul (Add (Var 2) (Var 5)) (Add (Var 2) (Var 5))) (Mul (Add (Var 3) (Var 6)) (Add (Var 3) (Var 6))))) (Mul (Mul (Var 1) (Var 1)) (Mul (Add (Var 4) (Mul (Var 7) (Var 9))) (Add (Var 4) (Mul (Var 7) (Var 9))))) (Plus (Hyp 0) (Plus (Hyp 1) (Plus (Times (Lit 2) (Hyp 3)) (Plus (Times (Sq (Var 0)) (Hyp 2)) (Plus (Times (Hyp 6) (Hyp 6)) (Plus (Times (Lit 2) (Times (Hyp 4) (Hyp 6))) (Times (Lit 2) (Times (Hyp 5) (Hyp 6))))))))) 0 (h1, (h2, (h3, (p1, (p2, (hr, tt)))))) refl

-- vars n p c s t; hyp hn: 0 < n; hyp h: t <= n*c; goal n*(1*p-1*(c+s)) <= (n*p-1*t)-s*n
pub raised_to : (n p c s t : ℤ) → (pos 0) <ℤ n → t ≤ℤ (n *ℤ c) → (n *ℤ (((pos 1) *ℤ p) -ℤ ((pos 1) *ℤ (c +ℤ s)))) ≤ℤ (((n *ℤ p) -ℤ ((pos 1) *ℤ t)) -ℤ (s *ℤ n))
raised_to n p c s t hn h = prove_le_by (n ∷ p ∷ c ∷ s ∷ t ∷ []) (Lt (Num (pos 0)) (Var 0) ∷ Le (Var 4) (Mul (Var 0) (Var 2)) ∷ []) (Mul (Var 0) (Sub (Mul (Num (pos 1)) (Var 1)) (Mul (Num (pos 1)) (Add (Var 2) (Var 3))))) (Sub (Sub (Mul (Var 0) (Var 1)) (Mul (Num (pos 1)) (Var 4))) (Mul (Var 3) (Var 0))) (Plus (Hyp 0) (Hyp 2)) 0 (hn, (h, tt)) refl

pub moved_by : (n p c t : ℤ) → ((n *ℤ (((pos 1) *ℤ p) -ℤ ((pos 1) *ℤ c))) +ℤ ((n *ℤ c) -ℤ t)) ≡ ((n *ℤ p) -ℤ ((pos 1) *ℤ t))
moved_by n p c t = ring (n ∷ p ∷ c ∷ t ∷ []) (Add (Mul (Var 0) (Sub (Mul (Num (pos 1)) (Var 1)) (Mul (Num (pos 1)) (Var 2)))) (Sub (Mul (Var 0) (Var 2)) (Var 3))) (Sub (Mul (Var 0) (Var 1)) (Mul (Num (pos 1)) (Var 3))) refl

pub raised_by : (z s n : ℤ) → ((z -ℤ (s *ℤ n)) +ℤ (s *ℤ n)) ≡ z
raised_by z s n = ring (z ∷ s ∷ n ∷ []) (Add (Sub (Var 0) (Mul (Var 1) (Var 2))) (Mul (Var 1) (Var 2))) (Var 0) refl

-- vars n e f q; hyp h0: 0 <= q; hyp h1: 2*e <= q*n; hyp h2: 0-2*e <= q*n; hyp h3: 2*f <= q*n; hyp h4: 0-2*f <= q*n; goal e*e+f*f <= (q*n)*(q*n); pairs
pub nearest_square : (n e f q : ℤ) → (pos 0) ≤ℤ q → ((pos 2) *ℤ e) ≤ℤ (q *ℤ n) → ((pos 0) -ℤ ((pos 2) *ℤ e)) ≤ℤ (q *ℤ n) → ((pos 2) *ℤ f) ≤ℤ (q *ℤ n) → ((pos 0) -ℤ ((pos 2) *ℤ f)) ≤ℤ (q *ℤ n) → ((e *ℤ e) +ℤ (f *ℤ f)) ≤ℤ ((q *ℤ n) *ℤ (q *ℤ n))
nearest_square n e f q h0 h1 h2 h3 h4 = prove_le_by (n ∷ e ∷ f ∷ q ∷ []) (Le (Num (pos 0)) (Var 3) ∷ Le (Mul (Num (pos 2)) (Var 1)) (Mul (Var 3) (Var 0)) ∷ Le (Sub (Num (pos 0)) (Mul (Num (pos 2)) (Var 1))) (Mul (Var 3) (Var 0)) ∷ Le (Mul (Num (pos 2)) (Var 2)) (Mul (Var 3) (Var 0)) ∷ Le (Sub (Num (pos 0)) (Mul (Num (pos 2)) (Var 2))) (Mul (Var 3) (Var 0)) ∷ []) (Add (Mul (Var 1) (Var 1)) (Mul (Var 2) (Var 2))) (Mul (Mul (Var 3) (Var 0)) (Mul (Var 3) (Var 0))) (Plus (Times (Lit 8) (Hyp 0)) (Plus (Times (Hyp 2) (Hyp 2)) (Plus (Times (Lit 4) (Times (Hyp 2) (Hyp 3))) (Plus (Times (Hyp 3) (Hyp 3)) (Times (Lit 2) (Times (Hyp 4) (Hyp 5))))))) 7 (h0, (h1, (h2, (h3, (h4, tt))))) refl

-- vars n j f t a c; hyp h0: 0 <= j; hyp h1: j <= n; hyp hf: a <= f; hyp ht: a <= t; hyp hn: 0 < n; hyp hc: 2*((n-j)*f+j*t) < 2*(n*c)+n; goal a <= c; mul h1 * hf; mul h0 * ht; mul goal * hn; mul goal * hn+
pub between_low : (n j f t a c : ℤ) → (pos 0) ≤ℤ j → j ≤ℤ n → a ≤ℤ f → a ≤ℤ t → (pos 0) <ℤ n → ((pos 2) *ℤ (((n -ℤ j) *ℤ f) +ℤ (j *ℤ t))) <ℤ (((pos 2) *ℤ (n *ℤ c)) +ℤ n) → a ≤ℤ c
between_low n j f t a c h0 h1 hf ht hn hc = prove_le_by (n ∷ j ∷ f ∷ t ∷ a ∷ c ∷ []) (Le (Num (pos 0)) (Var 1) ∷ Le (Var 1) (Var 0) ∷ Le (Var 4) (Var 2) ∷ Le (Var 4) (Var 3) ∷ Lt (Num (pos 0)) (Var 0) ∷ Lt (Mul (Num (pos 2)) (Add (Mul (Sub (Var 0) (Var 1)) (Var 2)) (Mul (Var 1) (Var 3)))) (Add (Mul (Num (pos 2)) (Mul (Var 0) (Var 5))) (Var 0)) ∷ []) (Var 4) (Var 5) (Plus (Times (Lit 2) (Hyp 0)) (Plus (Hyp 5) (Plus (Hyp 6) (Plus (Times (Lit 2) (Times (Hyp 2) (Hyp 3))) (Plus (Times (Lit 2) (Times (Hyp 1) (Hyp 4))) (Times (Lit 2) (Times (Hyp 0) (Hyp 5)))))))) 1 (h0, (h1, (hf, (ht, (hn, (hc, tt)))))) refl

-- vars n j f t b c; hyp h0: 0 <= j; hyp h1: j <= n; hyp hf: f <= b; hyp ht: t <= b; hyp hn: 0 < n; hyp hc: 2*(n*c) <= 2*((n-j)*f+j*t)+n; goal c <= b; mul h1 * hf; mul h0 * ht; mul goal * hn; mul goal * hn+
pub between_high : (n j f t b c : ℤ) → (pos 0) ≤ℤ j → j ≤ℤ n → f ≤ℤ b → t ≤ℤ b → (pos 0) <ℤ n → ((pos 2) *ℤ (n *ℤ c)) ≤ℤ (((pos 2) *ℤ (((n -ℤ j) *ℤ f) +ℤ (j *ℤ t))) +ℤ n) → c ≤ℤ b
between_high n j f t b c h0 h1 hf ht hn hc = prove_le_by (n ∷ j ∷ f ∷ t ∷ b ∷ c ∷ []) (Le (Num (pos 0)) (Var 1) ∷ Le (Var 1) (Var 0) ∷ Le (Var 2) (Var 4) ∷ Le (Var 3) (Var 4) ∷ Lt (Num (pos 0)) (Var 0) ∷ Le (Mul (Num (pos 2)) (Mul (Var 0) (Var 5))) (Add (Mul (Num (pos 2)) (Add (Mul (Sub (Var 0) (Var 1)) (Var 2)) (Mul (Var 1) (Var 3)))) (Var 0)) ∷ []) (Var 5) (Var 4) (Plus (Times (Lit 2) (Hyp 0)) (Plus (Hyp 5) (Plus (Hyp 6) (Plus (Times (Lit 2) (Times (Hyp 2) (Hyp 3))) (Plus (Times (Lit 2) (Times (Hyp 1) (Hyp 4))) (Times (Lit 2) (Times (Hyp 0) (Hyp 5)))))))) 0 (h0, (h1, (hf, (ht, (hn, (hc, tt)))))) refl

-- vars n c d; hyp hn: 0 < n; hyp h: 2*(n*d) < 2*(n*c)+n; goal d <= c; mul goal * hn; mul goal * hn+
pub nearest_low : (n c d : ℤ) → (pos 0) <ℤ n → ((pos 2) *ℤ (n *ℤ d)) <ℤ (((pos 2) *ℤ (n *ℤ c)) +ℤ n) → d ≤ℤ c
nearest_low n c d hn h = prove_le_by (n ∷ c ∷ d ∷ []) (Lt (Num (pos 0)) (Var 0) ∷ Lt (Mul (Num (pos 2)) (Mul (Var 0) (Var 2))) (Add (Mul (Num (pos 2)) (Mul (Var 0) (Var 1))) (Var 0)) ∷ []) (Var 2) (Var 1) (Plus (Times (Lit 2) (Hyp 0)) (Plus (Hyp 1) (Plus (Hyp 2) (Times (Lit 2) (Times (Hyp 0) (Hyp 1)))))) 1 (hn, (h, tt)) refl

-- vars n c d; hyp hn: 0 < n; hyp h: 2*(n*c) <= 2*(n*d)+n; goal c <= d; mul goal * hn; mul goal * hn+
pub nearest_high : (n c d : ℤ) → (pos 0) <ℤ n → ((pos 2) *ℤ (n *ℤ c)) ≤ℤ (((pos 2) *ℤ (n *ℤ d)) +ℤ n) → c ≤ℤ d
nearest_high n c d hn h = prove_le_by (n ∷ c ∷ d ∷ []) (Lt (Num (pos 0)) (Var 0) ∷ Le (Mul (Num (pos 2)) (Mul (Var 0) (Var 1))) (Add (Mul (Num (pos 2)) (Mul (Var 0) (Var 2))) (Var 0)) ∷ []) (Var 1) (Var 2) (Plus (Times (Lit 2) (Hyp 0)) (Plus (Hyp 1) (Plus (Hyp 2) (Times (Lit 2) (Times (Hyp 0) (Hyp 1)))))) 0 (hn, (h, tt)) refl
