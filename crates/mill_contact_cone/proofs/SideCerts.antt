-- Polynomial facts behind the lemmas on the sides of the tip.
-- Written by tools/certificates.py from tools/certificates/mill_contact_cone_sides.spec.
use Rattle.std.proofs.Common.{◌≡◌, [], ◌∷◌, refl}
use lib.IntN.{ℤ, pos, ◌+ℤ◌, ◌-ℤ◌, ◌*ℤ◌}
use lib.Signed.{◌<ℤ◌, ◌≤ℤ◌}
use Rattle.mill_base.proofs.Ring.{Var, Num, Add, Sub, Mul, Neg, ring}
use Rattle.mill_base.proofs.Cert.{Le, Lt, Eq, Hyp, TimesEq, Sq, Lit, Plus, Times, refute, prove_le_by, prove_lt_by}

-- vars x y z a b; hyp h: (a*a)*(x*x+y*y) < (b*b)*(z*z); goal (a*x)*(a*x)+(a*y)*(a*y) < (b*b)*(z*z)
pub steep_in : (x y z a b : ℤ) → ((a *ℤ a) *ℤ ((x *ℤ x) +ℤ (y *ℤ y))) <ℤ ((b *ℤ b) *ℤ (z *ℤ z)) → (((a *ℤ x) *ℤ (a *ℤ x)) +ℤ ((a *ℤ y) *ℤ (a *ℤ y))) <ℤ ((b *ℤ b) *ℤ (z *ℤ z))
steep_in x y z a b h = prove_lt_by (x ∷ y ∷ z ∷ a ∷ b ∷ []) (Lt (Mul (Mul (Var 3) (Var 3)) (Add (Mul (Var 0) (Var 0)) (Mul (Var 1) (Var 1)))) (Mul (Mul (Var 4) (Var 4)) (Mul (Var 2) (Var 2))) ∷ []) (Add (Mul (Mul (Var 3) (Var 0)) (Mul (Var 3) (Var 0))) (Mul (Mul (Var 3) (Var 1)) (Mul (Var 3) (Var 1)))) (Mul (Mul (Var 4) (Var 4)) (Mul (Var 2) (Var 2))) (Plus (Hyp 0) (Hyp 1)) 0 (h, tt) refl

-- vars x y z a b; hyp h: (a*a)*(x*x+y*y) < (b*b)*(z*z); goal (a*y)*(a*y) < (b*b)*(z*z); square a*x
pub steep_strip : (x y z a b : ℤ) → ((a *ℤ a) *ℤ ((x *ℤ x) +ℤ (y *ℤ y))) <ℤ ((b *ℤ b) *ℤ (z *ℤ z)) → ((a *ℤ y) *ℤ (a *ℤ y)) <ℤ ((b *ℤ b) *ℤ (z *ℤ z))
steep_strip x y z a b h = prove_lt_by (x ∷ y ∷ z ∷ a ∷ b ∷ []) (Lt (Mul (Mul (Var 3) (Var 3)) (Add (Mul (Var 0) (Var 0)) (Mul (Var 1) (Var 1)))) (Mul (Mul (Var 4) (Var 4)) (Mul (Var 2) (Var 2))) ∷ []) (Mul (Mul (Var 3) (Var 1)) (Mul (Var 3) (Var 1))) (Mul (Mul (Var 4) (Var 4)) (Mul (Var 2) (Var 2))) (Plus (Hyp 0) (Plus (Hyp 1) (Sq (Mul (Var 3) (Var 0))))) 0 (h, tt) refl

-- vars a b m k D B Y z; hyp h: (m*(a*D))*(m*(a*D))+(k*(a*B)+m*(a*Y))*(k*(a*B)+m*(a*Y)) < (b*b)*(z*z); goal (a*a)*((m*D)*(m*D)+(k*B+m*Y)*(k*B+m*Y)) < (b*b)*(z*z)
pub steep_out : (a b m k D B Y z : ℤ) → (((m *ℤ (a *ℤ D)) *ℤ (m *ℤ (a *ℤ D))) +ℤ (((k *ℤ (a *ℤ B)) +ℤ (m *ℤ (a *ℤ Y))) *ℤ ((k *ℤ (a *ℤ B)) +ℤ (m *ℤ (a *ℤ Y))))) <ℤ ((b *ℤ b) *ℤ (z *ℤ z)) → ((a *ℤ a) *ℤ (((m *ℤ D) *ℤ (m *ℤ D)) +ℤ (((k *ℤ B) +ℤ (m *ℤ Y)) *ℤ ((k *ℤ B) +ℤ (m *ℤ Y))))) <ℤ ((b *ℤ b) *ℤ (z *ℤ z))
steep_out a b m k D B Y z h = prove_lt_by (a ∷ b ∷ m ∷ k ∷ D ∷ B ∷ Y ∷ z ∷ []) (Lt (Add (Mul (Mul (Var 2) (Mul (Var 0) (Var 4))) (Mul (Var 2) (Mul (Var 0) (Var 4)))) (Mul (Add (Mul (Var 3) (Mul (Var 0) (Var 5))) (Mul (Var 2) (Mul (Var 0) (Var 6)))) (Add (Mul (Var 3) (Mul (Var 0) (Var 5))) (Mul (Var 2) (Mul (Var 0) (Var 6)))))) (Mul (Mul (Var 1) (Var 1)) (Mul (Var 7) (Var 7))) ∷ []) (Mul (Mul (Var 0) (Var 0)) (Add (Mul (Mul (Var 2) (Var 4)) (Mul (Var 2) (Var 4))) (Mul (Add (Mul (Var 3) (Var 5)) (Mul (Var 2) (Var 6))) (Add (Mul (Var 3) (Var 5)) (Mul (Var 2) (Var 6)))))) (Mul (Mul (Var 1) (Var 1)) (Mul (Var 7) (Var 7))) (Plus (Hyp 0) (Hyp 1)) 0 (h, tt) refl

-- vars x t y z a b; hyp e: t == 0; hyp h: (a*a)*(x*x+y*y) < (b*b)*(z*z); goal (a*a)*(t*t+y*y) < (b*b)*(z*z); square a*x; eqmul e * (a*a*t)
pub steep_flat : (x t y z a b : ℤ) → t ≡ (pos 0) → ((a *ℤ a) *ℤ ((x *ℤ x) +ℤ (y *ℤ y))) <ℤ ((b *ℤ b) *ℤ (z *ℤ z)) → ((a *ℤ a) *ℤ ((t *ℤ t) +ℤ (y *ℤ y))) <ℤ ((b *ℤ b) *ℤ (z *ℤ z))
steep_flat x t y z a b e h = prove_lt_by (x ∷ t ∷ y ∷ z ∷ a ∷ b ∷ []) (Eq (Var 1) (Num (pos 0)) ∷ Lt (Mul (Mul (Var 4) (Var 4)) (Add (Mul (Var 0) (Var 0)) (Mul (Var 2) (Var 2)))) (Mul (Mul (Var 5) (Var 5)) (Mul (Var 3) (Var 3))) ∷ []) (Mul (Mul (Var 4) (Var 4)) (Add (Mul (Var 1) (Var 1)) (Mul (Var 2) (Var 2)))) (Mul (Mul (Var 5) (Var 5)) (Mul (Var 3) (Var 3))) (Plus (Hyp 0) (Plus (Hyp 2) (Plus (Sq (Mul (Var 4) (Var 0))) (TimesEq 1 (Mul (Mul (Var 4) (Var 4)) (Var 1)))))) 0 (e, (h, tt)) refl

pub no_width : (u v w : ℤ) → (((u *ℤ (pos 0)) +ℤ (v *ℤ (pos 0))) +ℤ (w *ℤ (pos 0))) ≡ (pos 0)
no_width u v w = ring (u ∷ v ∷ w ∷ []) (Add (Add (Mul (Var 0) (Num (pos 0))) (Mul (Var 1) (Num (pos 0)))) (Mul (Var 2) (Num (pos 0)))) (Num (pos 0)) refl

pub no_width_pair : (u v : ℤ) → ((u *ℤ (pos 0)) +ℤ (v *ℤ (pos 0))) ≡ (pos 0)
no_width_pair u v = ring (u ∷ v ∷ []) (Add (Mul (Var 0) (Num (pos 0))) (Mul (Var 1) (Num (pos 0)))) (Num (pos 0)) refl

-- vars q p u v w i j l x y z; hyp e: (i*x+j*y)+l*z == 0; goal ((q*u+p*i)*x+(q*v+p*j)*y)+(q*w+p*l)*z <= q*((u*x+v*y)+w*z); eqmul e * p
pub still_lifted : (q p u v w i j l x y z : ℤ) → (((i *ℤ x) +ℤ (j *ℤ y)) +ℤ (l *ℤ z)) ≡ (pos 0) → (((((q *ℤ u) +ℤ (p *ℤ i)) *ℤ x) +ℤ (((q *ℤ v) +ℤ (p *ℤ j)) *ℤ y)) +ℤ (((q *ℤ w) +ℤ (p *ℤ l)) *ℤ z)) ≤ℤ (q *ℤ (((u *ℤ x) +ℤ (v *ℤ y)) +ℤ (w *ℤ z)))
still_lifted q p u v w i j l x y z e = prove_le_by (q ∷ p ∷ u ∷ v ∷ w ∷ i ∷ j ∷ l ∷ x ∷ y ∷ z ∷ []) (Eq (Add (Add (Mul (Var 5) (Var 8)) (Mul (Var 6) (Var 9))) (Mul (Var 7) (Var 10))) (Num (pos 0)) ∷ []) (Add (Add (Mul (Add (Mul (Var 0) (Var 2)) (Mul (Var 1) (Var 5))) (Var 8)) (Mul (Add (Mul (Var 0) (Var 3)) (Mul (Var 1) (Var 6))) (Var 9))) (Mul (Add (Mul (Var 0) (Var 4)) (Mul (Var 1) (Var 7))) (Var 10))) (Mul (Var 0) (Add (Add (Mul (Var 2) (Var 8)) (Mul (Var 3) (Var 9))) (Mul (Var 4) (Var 10)))) (Plus (Hyp 0) (TimesEq 1 (Var 1))) 0 (e, tt) refl

-- vars q p u v w i j l x y z; hyp e: (i*x+j*y)+l*z == 0; goal q*((u*x+v*y)+w*z) <= ((q*u+p*i)*x+(q*v+p*j)*y)+(q*w+p*l)*z; eqmul e * p
pub still_lifted_back : (q p u v w i j l x y z : ℤ) → (((i *ℤ x) +ℤ (j *ℤ y)) +ℤ (l *ℤ z)) ≡ (pos 0) → (q *ℤ (((u *ℤ x) +ℤ (v *ℤ y)) +ℤ (w *ℤ z))) ≤ℤ (((((q *ℤ u) +ℤ (p *ℤ i)) *ℤ x) +ℤ (((q *ℤ v) +ℤ (p *ℤ j)) *ℤ y)) +ℤ (((q *ℤ w) +ℤ (p *ℤ l)) *ℤ z))
still_lifted_back q p u v w i j l x y z e = prove_le_by (q ∷ p ∷ u ∷ v ∷ w ∷ i ∷ j ∷ l ∷ x ∷ y ∷ z ∷ []) (Eq (Add (Add (Mul (Var 5) (Var 8)) (Mul (Var 6) (Var 9))) (Mul (Var 7) (Var 10))) (Num (pos 0)) ∷ []) (Mul (Var 0) (Add (Add (Mul (Var 2) (Var 8)) (Mul (Var 3) (Var 9))) (Mul (Var 4) (Var 10)))) (Add (Add (Mul (Add (Mul (Var 0) (Var 2)) (Mul (Var 1) (Var 5))) (Var 8)) (Mul (Add (Mul (Var 0) (Var 3)) (Mul (Var 1) (Var 6))) (Var 9))) (Mul (Add (Mul (Var 0) (Var 4)) (Mul (Var 1) (Var 7))) (Var 10))) (Plus (Hyp 0) (TimesEq 1 (Neg (Var 1)))) 0 (e, tt) refl

-- vars q p u v w i j l; hyp e: (i+j)+l == 0; goal ((q*u+p*i)+(q*v+p*j))+(q*w+p*l) <= q*((u+v)+w); eqmul e * p
pub time_lifted : (q p u v w i j l : ℤ) → ((i +ℤ j) +ℤ l) ≡ (pos 0) → ((((q *ℤ u) +ℤ (p *ℤ i)) +ℤ ((q *ℤ v) +ℤ (p *ℤ j))) +ℤ ((q *ℤ w) +ℤ (p *ℤ l))) ≤ℤ (q *ℤ ((u +ℤ v) +ℤ w))
time_lifted q p u v w i j l e = prove_le_by (q ∷ p ∷ u ∷ v ∷ w ∷ i ∷ j ∷ l ∷ []) (Eq (Add (Add (Var 5) (Var 6)) (Var 7)) (Num (pos 0)) ∷ []) (Add (Add (Add (Mul (Var 0) (Var 2)) (Mul (Var 1) (Var 5))) (Add (Mul (Var 0) (Var 3)) (Mul (Var 1) (Var 6)))) (Add (Mul (Var 0) (Var 4)) (Mul (Var 1) (Var 7)))) (Mul (Var 0) (Add (Add (Var 2) (Var 3)) (Var 4))) (Plus (Hyp 0) (TimesEq 1 (Var 1))) 0 (e, tt) refl

-- vars q p u v w i j l; hyp e: (i+j)+l == 0; goal q*((u+v)+w) <= ((q*u+p*i)+(q*v+p*j))+(q*w+p*l); eqmul e * p
pub time_lifted_back : (q p u v w i j l : ℤ) → ((i +ℤ j) +ℤ l) ≡ (pos 0) → (q *ℤ ((u +ℤ v) +ℤ w)) ≤ℤ ((((q *ℤ u) +ℤ (p *ℤ i)) +ℤ ((q *ℤ v) +ℤ (p *ℤ j))) +ℤ ((q *ℤ w) +ℤ (p *ℤ l)))
time_lifted_back q p u v w i j l e = prove_le_by (q ∷ p ∷ u ∷ v ∷ w ∷ i ∷ j ∷ l ∷ []) (Eq (Add (Add (Var 5) (Var 6)) (Var 7)) (Num (pos 0)) ∷ []) (Mul (Var 0) (Add (Add (Var 2) (Var 3)) (Var 4))) (Add (Add (Add (Mul (Var 0) (Var 2)) (Mul (Var 1) (Var 5))) (Add (Mul (Var 0) (Var 3)) (Mul (Var 1) (Var 6)))) (Add (Mul (Var 0) (Var 4)) (Mul (Var 1) (Var 7)))) (Plus (Hyp 0) (TimesEq 1 (Neg (Var 1)))) 0 (e, tt) refl

-- vars x y q r n t; hyp e: t == 0; hyp h: x*x+y*y < (r*r)*(n*n); hyp hq: 0 < q; goal t*t+(q*y)*(q*y) < (r*r)*((q*n)*(q*n)); mul h * sq(q); square q*x; eqmul e * t; mul hq * hq
pub lift_near : (x y q r n t : ℤ) → t ≡ (pos 0) → ((x *ℤ x) +ℤ (y *ℤ y)) <ℤ ((r *ℤ r) *ℤ (n *ℤ n)) → (pos 0) <ℤ q → ((t *ℤ t) +ℤ ((q *ℤ y) *ℤ (q *ℤ y))) <ℤ ((r *ℤ r) *ℤ ((q *ℤ n) *ℤ (q *ℤ n)))
lift_near x y q r n t e h hq = prove_lt_by (x ∷ y ∷ q ∷ r ∷ n ∷ t ∷ []) (Eq (Var 5) (Num (pos 0)) ∷ Lt (Add (Mul (Var 0) (Var 0)) (Mul (Var 1) (Var 1))) (Mul (Mul (Var 3) (Var 3)) (Mul (Var 4) (Var 4))) ∷ Lt (Num (pos 0)) (Var 2) ∷ []) (Add (Mul (Var 5) (Var 5)) (Mul (Mul (Var 2) (Var 1)) (Mul (Var 2) (Var 1)))) (Mul (Mul (Var 3) (Var 3)) (Mul (Mul (Var 2) (Var 4)) (Mul (Var 2) (Var 4)))) (Plus (Hyp 0) (Plus (Times (Lit 2) (Hyp 3)) (Plus (Times (Hyp 2) (Sq (Var 2))) (Plus (Sq (Mul (Var 2) (Var 0))) (Plus (TimesEq 1 (Var 5)) (Times (Hyp 3) (Hyp 3))))))) 0 (e, (h, (hq, tt))) refl

-- vars q z p g; hyp hq: 0 < q; hyp hz: 0 < z; hyp hp: 0 <= p; hyp hg: 0 <= g; goal 0 < q*z+p*g; mul hq * hz; mul hq+ * hz+; mul hp * hg
pub lift_over : (q z p g : ℤ) → (pos 0) <ℤ q → (pos 0) <ℤ z → (pos 0) ≤ℤ p → (pos 0) ≤ℤ g → (pos 0) <ℤ ((q *ℤ z) +ℤ (p *ℤ g))
lift_over q z p g hq hz hp hg = prove_lt_by (q ∷ z ∷ p ∷ g ∷ []) (Lt (Num (pos 0)) (Var 0) ∷ Lt (Num (pos 0)) (Var 1) ∷ Le (Num (pos 0)) (Var 2) ∷ Le (Num (pos 0)) (Var 3) ∷ []) (Num (pos 0)) (Add (Mul (Var 0) (Var 1)) (Mul (Var 2) (Var 3))) (Plus (Hyp 0) (Plus (Hyp 1) (Plus (Hyp 2) (Plus (Times (Hyp 1) (Hyp 2)) (Times (Hyp 3) (Hyp 4)))))) 0 (hq, (hz, (hp, (hg, tt)))) refl

-- vars x y z q p g a b t; hyp e: t == 0; hyp h: (a*a)*(x*x+y*y) < (b*b)*(z*z); hyp hq: 0 < q; hyp hz: 0 < z; hyp hp: 0 <= p; hyp hg: 0 <= g; goal (a*a)*(t*t+(q*y)*(q*y)) < (b*b)*((q*z+p*g)*(q*z+p*g)); mul h * sq(q); square q*a*x; square b*p*g; eqmul e * (a*a*t); mul hq+ * hz+ * hp * hg * sq(b); mul hq * hq
pub lift_steep : (x y z q p g a b t : ℤ) → t ≡ (pos 0) → ((a *ℤ a) *ℤ ((x *ℤ x) +ℤ (y *ℤ y))) <ℤ ((b *ℤ b) *ℤ (z *ℤ z)) → (pos 0) <ℤ q → (pos 0) <ℤ z → (pos 0) ≤ℤ p → (pos 0) ≤ℤ g → ((a *ℤ a) *ℤ ((t *ℤ t) +ℤ ((q *ℤ y) *ℤ (q *ℤ y)))) <ℤ ((b *ℤ b) *ℤ (((q *ℤ z) +ℤ (p *ℤ g)) *ℤ ((q *ℤ z) +ℤ (p *ℤ g))))
lift_steep x y z q p g a b t e h hq hz hp hg = prove_lt_by (x ∷ y ∷ z ∷ q ∷ p ∷ g ∷ a ∷ b ∷ t ∷ []) (Eq (Var 8) (Num (pos 0)) ∷ Lt (Mul (Mul (Var 6) (Var 6)) (Add (Mul (Var 0) (Var 0)) (Mul (Var 1) (Var 1)))) (Mul (Mul (Var 7) (Var 7)) (Mul (Var 2) (Var 2))) ∷ Lt (Num (pos 0)) (Var 3) ∷ Lt (Num (pos 0)) (Var 2) ∷ Le (Num (pos 0)) (Var 4) ∷ Le (Num (pos 0)) (Var 5) ∷ []) (Mul (Mul (Var 6) (Var 6)) (Add (Mul (Var 8) (Var 8)) (Mul (Mul (Var 3) (Var 1)) (Mul (Var 3) (Var 1))))) (Mul (Mul (Var 7) (Var 7)) (Mul (Add (Mul (Var 3) (Var 2)) (Mul (Var 4) (Var 5))) (Add (Mul (Var 3) (Var 2)) (Mul (Var 4) (Var 5))))) (Plus (Hyp 0) (Plus (Times (Lit 2) (Hyp 3)) (Plus (Times (Hyp 2) (Sq (Var 3))) (Plus (Sq (Mul (Mul (Var 3) (Var 6)) (Var 0))) (Plus (Sq (Mul (Mul (Var 7) (Var 4)) (Var 5))) (Plus (TimesEq 1 (Mul (Mul (Var 6) (Var 6)) (Var 8))) (Plus (Times (Lit 2) (Times (Times (Times (Times (Plus (Hyp 3) (Lit 1)) (Plus (Hyp 4) (Lit 1))) (Hyp 5)) (Hyp 6)) (Sq (Var 7)))) (Times (Hyp 3) (Hyp 3))))))))) 0 (e, (h, (hq, (hz, (hp, (hg, tt)))))) refl

pub rise_still : (a b c : ℤ) → ((((b -ℤ c) *ℤ a) +ℤ ((c -ℤ a) *ℤ b)) +ℤ ((a -ℤ b) *ℤ c)) ≡ (pos 0)
rise_still a b c = ring (a ∷ b ∷ c ∷ []) (Add (Add (Mul (Sub (Var 1) (Var 2)) (Var 0)) (Mul (Sub (Var 2) (Var 0)) (Var 1))) (Mul (Sub (Var 0) (Var 1)) (Var 2))) (Num (pos 0)) refl

-- vars X Y r n; hyp h: X*X+Y*Y < (r*r)*(n*n); hyp hr: 0 < r; hyp hn: 0 < n; goal 0 < r*n-Y; square X; mul goal * goal; mul goal * hr+ * hn+
pub side_upper : (X Y r n : ℤ) → ((X *ℤ X) +ℤ (Y *ℤ Y)) <ℤ ((r *ℤ r) *ℤ (n *ℤ n)) → (pos 0) <ℤ r → (pos 0) <ℤ n → (pos 0) <ℤ ((r *ℤ n) -ℤ Y)
side_upper X Y r n h hr hn = prove_lt_by (X ∷ Y ∷ r ∷ n ∷ []) (Lt (Add (Mul (Var 0) (Var 0)) (Mul (Var 1) (Var 1))) (Mul (Mul (Var 2) (Var 2)) (Mul (Var 3) (Var 3))) ∷ Lt (Num (pos 0)) (Var 2) ∷ Lt (Num (pos 0)) (Var 3) ∷ []) (Num (pos 0)) (Sub (Mul (Var 2) (Var 3)) (Var 1)) (Plus (Hyp 1) (Plus (Sq (Var 0)) (Plus (Times (Hyp 0) (Hyp 0)) (Times (Lit 2) (Times (Times (Hyp 0) (Plus (Hyp 2) (Lit 1))) (Plus (Hyp 3) (Lit 1))))))) 0 (h, (hr, (hn, tt))) refl

-- vars X Y r n; hyp h: X*X+Y*Y < (r*r)*(n*n); hyp hr: 0 < r; hyp hn: 0 < n; goal 0 < r*n+Y; square X; mul goal * goal; mul goal * hr+ * hn+
pub side_lower : (X Y r n : ℤ) → ((X *ℤ X) +ℤ (Y *ℤ Y)) <ℤ ((r *ℤ r) *ℤ (n *ℤ n)) → (pos 0) <ℤ r → (pos 0) <ℤ n → (pos 0) <ℤ ((r *ℤ n) +ℤ Y)
side_lower X Y r n h hr hn = prove_lt_by (X ∷ Y ∷ r ∷ n ∷ []) (Lt (Add (Mul (Var 0) (Var 0)) (Mul (Var 1) (Var 1))) (Mul (Mul (Var 2) (Var 2)) (Mul (Var 3) (Var 3))) ∷ Lt (Num (pos 0)) (Var 2) ∷ Lt (Num (pos 0)) (Var 3) ∷ []) (Num (pos 0)) (Add (Mul (Var 2) (Var 3)) (Var 1)) (Plus (Hyp 1) (Plus (Sq (Var 0)) (Plus (Times (Hyp 0) (Hyp 0)) (Times (Lit 2) (Times (Times (Hyp 0) (Plus (Hyp 2) (Lit 1))) (Plus (Hyp 3) (Lit 1))))))) 0 (h, (hr, (hn, tt))) refl

-- vars X Y Z a b; hyp h: (a*a)*(X*X+Y*Y) < (b*b)*(Z*Z); hyp ha: 0 < a; hyp hb: 0 < b; hyp hz: 0 < Z; goal 0 < b*Z-a*Y; square a*X; mul goal * goal; mul goal * hb+ * hz+
pub side_wall : (X Y Z a b : ℤ) → ((a *ℤ a) *ℤ ((X *ℤ X) +ℤ (Y *ℤ Y))) <ℤ ((b *ℤ b) *ℤ (Z *ℤ Z)) → (pos 0) <ℤ a → (pos 0) <ℤ b → (pos 0) <ℤ Z → (pos 0) <ℤ ((b *ℤ Z) -ℤ (a *ℤ Y))
side_wall X Y Z a b h ha hb hz = prove_lt_by (X ∷ Y ∷ Z ∷ a ∷ b ∷ []) (Lt (Mul (Mul (Var 3) (Var 3)) (Add (Mul (Var 0) (Var 0)) (Mul (Var 1) (Var 1)))) (Mul (Mul (Var 4) (Var 4)) (Mul (Var 2) (Var 2))) ∷ Lt (Num (pos 0)) (Var 3) ∷ Lt (Num (pos 0)) (Var 4) ∷ Lt (Num (pos 0)) (Var 2) ∷ []) (Num (pos 0)) (Sub (Mul (Var 4) (Var 2)) (Mul (Var 3) (Var 1))) (Plus (Hyp 1) (Plus (Sq (Mul (Var 3) (Var 0))) (Plus (Times (Hyp 0) (Hyp 0)) (Times (Lit 2) (Times (Times (Hyp 0) (Plus (Hyp 3) (Lit 1))) (Plus (Hyp 4) (Lit 1))))))) 0 (h, (ha, (hb, (hz, tt)))) refl

-- vars X Y Z a b; hyp h: (a*a)*(X*X+Y*Y) < (b*b)*(Z*Z); hyp ha: 0 < a; hyp hb: 0 < b; hyp hz: 0 < Z; goal 0 < b*Z+a*Y; square a*X; mul goal * goal; mul goal * hb+ * hz+
pub side_other_wall : (X Y Z a b : ℤ) → ((a *ℤ a) *ℤ ((X *ℤ X) +ℤ (Y *ℤ Y))) <ℤ ((b *ℤ b) *ℤ (Z *ℤ Z)) → (pos 0) <ℤ a → (pos 0) <ℤ b → (pos 0) <ℤ Z → (pos 0) <ℤ ((b *ℤ Z) +ℤ (a *ℤ Y))
side_other_wall X Y Z a b h ha hb hz = prove_lt_by (X ∷ Y ∷ Z ∷ a ∷ b ∷ []) (Lt (Mul (Mul (Var 3) (Var 3)) (Add (Mul (Var 0) (Var 0)) (Mul (Var 1) (Var 1)))) (Mul (Mul (Var 4) (Var 4)) (Mul (Var 2) (Var 2))) ∷ Lt (Num (pos 0)) (Var 3) ∷ Lt (Num (pos 0)) (Var 4) ∷ Lt (Num (pos 0)) (Var 2) ∷ []) (Num (pos 0)) (Add (Mul (Var 4) (Var 2)) (Mul (Var 3) (Var 1))) (Plus (Hyp 1) (Plus (Sq (Mul (Var 3) (Var 0))) (Plus (Times (Hyp 0) (Hyp 0)) (Times (Lit 2) (Times (Times (Hyp 0) (Plus (Hyp 3) (Lit 1))) (Plus (Hyp 4) (Lit 1))))))) 0 (h, (ha, (hb, (hz, tt)))) refl

pub spread_near : (u v r y z : ℤ) → ((r *ℤ (u +ℤ v)) -ℤ ((u *ℤ y) +ℤ (v *ℤ z))) ≡ ((u *ℤ (r -ℤ y)) +ℤ (v *ℤ (r -ℤ z)))
spread_near u v r y z = ring (u ∷ v ∷ r ∷ y ∷ z ∷ []) (Sub (Mul (Var 2) (Add (Var 0) (Var 1))) (Add (Mul (Var 0) (Var 3)) (Mul (Var 1) (Var 4)))) (Add (Mul (Var 0) (Sub (Var 2) (Var 3))) (Mul (Var 1) (Sub (Var 2) (Var 4)))) refl

pub spread_far : (u v r y z : ℤ) → ((r *ℤ (u +ℤ v)) +ℤ ((u *ℤ y) +ℤ (v *ℤ z))) ≡ ((u *ℤ (r +ℤ y)) +ℤ (v *ℤ (r +ℤ z)))
spread_far u v r y z = ring (u ∷ v ∷ r ∷ y ∷ z ∷ []) (Add (Mul (Var 2) (Add (Var 0) (Var 1))) (Add (Mul (Var 0) (Var 3)) (Mul (Var 1) (Var 4)))) (Add (Mul (Var 0) (Add (Var 2) (Var 3))) (Mul (Var 1) (Add (Var 2) (Var 4)))) refl

pub spread_wall : (u v a b y z g h : ℤ) → ((b *ℤ ((u *ℤ g) +ℤ (v *ℤ h))) -ℤ (a *ℤ ((u *ℤ y) +ℤ (v *ℤ z)))) ≡ ((u *ℤ ((b *ℤ g) -ℤ (a *ℤ y))) +ℤ (v *ℤ ((b *ℤ h) -ℤ (a *ℤ z))))
spread_wall u v a b y z g h = ring (u ∷ v ∷ a ∷ b ∷ y ∷ z ∷ g ∷ h ∷ []) (Sub (Mul (Var 3) (Add (Mul (Var 0) (Var 6)) (Mul (Var 1) (Var 7)))) (Mul (Var 2) (Add (Mul (Var 0) (Var 4)) (Mul (Var 1) (Var 5))))) (Add (Mul (Var 0) (Sub (Mul (Var 3) (Var 6)) (Mul (Var 2) (Var 4)))) (Mul (Var 1) (Sub (Mul (Var 3) (Var 7)) (Mul (Var 2) (Var 5))))) refl

pub spread_other : (u v a b y z g h : ℤ) → ((b *ℤ ((u *ℤ g) +ℤ (v *ℤ h))) +ℤ (a *ℤ ((u *ℤ y) +ℤ (v *ℤ z)))) ≡ ((u *ℤ ((b *ℤ g) +ℤ (a *ℤ y))) +ℤ (v *ℤ ((b *ℤ h) +ℤ (a *ℤ z))))
spread_other u v a b y z g h = ring (u ∷ v ∷ a ∷ b ∷ y ∷ z ∷ g ∷ h ∷ []) (Add (Mul (Var 3) (Add (Mul (Var 0) (Var 6)) (Mul (Var 1) (Var 7)))) (Mul (Var 2) (Add (Mul (Var 0) (Var 4)) (Mul (Var 1) (Var 5))))) (Add (Mul (Var 0) (Add (Mul (Var 3) (Var 6)) (Mul (Var 2) (Var 4)))) (Mul (Var 1) (Add (Mul (Var 3) (Var 7)) (Mul (Var 2) (Var 5))))) refl

-- vars u v f g x w; hyp hv: 0 <= v; hyp hs: 0 < u*f+v*g; hyp hx: 0 < u*x+v*w; hyp hf: 0 < f; hyp he: w*f-x*g <= 0; hyp hn: x < 0; goal false; mul hs * hn; mul hs+ * hn+; mul hv * he; mul hf+ * hx+; mul hf * hx
pub back_clash : (u v f g x w : ℤ) → (pos 0) ≤ℤ v → (pos 0) <ℤ ((u *ℤ f) +ℤ (v *ℤ g)) → (pos 0) <ℤ ((u *ℤ x) +ℤ (v *ℤ w)) → (pos 0) <ℤ f → ((w *ℤ f) -ℤ (x *ℤ g)) ≤ℤ (pos 0) → x <ℤ (pos 0) → ⊥
back_clash u v f g x w hv hs hx hf he hn = refute (u ∷ v ∷ f ∷ g ∷ x ∷ w ∷ []) (Le (Num (pos 0)) (Var 1) ∷ Lt (Num (pos 0)) (Add (Mul (Var 0) (Var 2)) (Mul (Var 1) (Var 3))) ∷ Lt (Num (pos 0)) (Add (Mul (Var 0) (Var 4)) (Mul (Var 1) (Var 5))) ∷ Lt (Num (pos 0)) (Var 2) ∷ Le (Sub (Mul (Var 5) (Var 2)) (Mul (Var 4) (Var 3))) (Num (pos 0)) ∷ Lt (Var 4) (Num (pos 0)) ∷ []) (Plus (Hyp 1) (Plus (Hyp 2) (Plus (Hyp 3) (Plus (Hyp 5) (Plus (Times (Hyp 1) (Hyp 5)) (Plus (Times (Hyp 0) (Hyp 4)) (Times (Hyp 3) (Hyp 2)))))))) 1 (hv, (hs, (hx, (hf, (he, (hn, tt)))))) refl

-- vars u v f g x w; hyp hv: 0 <= v; hyp hs: 0 < u*f+v*g; hyp hx: u*x+v*w < 0; hyp he: w*f-x*g <= 0; hyp hn: x < 0; goal 0 < f; mul hs+ * hn+; mul hs * hn; mul hv * he; mul goal * hx+; mul goal * hx
pub back_first : (u v f g x w : ℤ) → (pos 0) ≤ℤ v → (pos 0) <ℤ ((u *ℤ f) +ℤ (v *ℤ g)) → ((u *ℤ x) +ℤ (v *ℤ w)) <ℤ (pos 0) → ((w *ℤ f) -ℤ (x *ℤ g)) ≤ℤ (pos 0) → x <ℤ (pos 0) → (pos 0) <ℤ f
back_first u v f g x w hv hs hx he hn = prove_lt_by (u ∷ v ∷ f ∷ g ∷ x ∷ w ∷ []) (Le (Num (pos 0)) (Var 1) ∷ Lt (Num (pos 0)) (Add (Mul (Var 0) (Var 2)) (Mul (Var 1) (Var 3))) ∷ Lt (Add (Mul (Var 0) (Var 4)) (Mul (Var 1) (Var 5))) (Num (pos 0)) ∷ Le (Sub (Mul (Var 5) (Var 2)) (Mul (Var 4) (Var 3))) (Num (pos 0)) ∷ Lt (Var 4) (Num (pos 0)) ∷ []) (Num (pos 0)) (Var 2) (Plus (Hyp 0) (Plus (Hyp 2) (Plus (Hyp 5) (Plus (Times (Hyp 2) (Hyp 5)) (Plus (Times (Hyp 1) (Hyp 4)) (Times (Hyp 0) (Hyp 3))))))) 0 (hv, (hs, (hx, (he, (hn, tt))))) refl

-- vars X Y r n; hyp e: X == 0; hyp h: 0 < r*n-Y; hyp k: 0 < r*n+Y; goal X*X+Y*Y < (r*r)*(n*n); eqmul e * X; mul h * k; mul h+ * k+
pub inside_near : (X Y r n : ℤ) → X ≡ (pos 0) → (pos 0) <ℤ ((r *ℤ n) -ℤ Y) → (pos 0) <ℤ ((r *ℤ n) +ℤ Y) → ((X *ℤ X) +ℤ (Y *ℤ Y)) <ℤ ((r *ℤ r) *ℤ (n *ℤ n))
inside_near X Y r n e h k = prove_lt_by (X ∷ Y ∷ r ∷ n ∷ []) (Eq (Var 0) (Num (pos 0)) ∷ Lt (Num (pos 0)) (Sub (Mul (Var 2) (Var 3)) (Var 1)) ∷ Lt (Num (pos 0)) (Add (Mul (Var 2) (Var 3)) (Var 1)) ∷ []) (Add (Mul (Var 0) (Var 0)) (Mul (Var 1) (Var 1))) (Mul (Mul (Var 2) (Var 2)) (Mul (Var 3) (Var 3))) (Plus (Hyp 0) (Plus (Hyp 2) (Plus (Hyp 3) (Plus (TimesEq 1 (Var 0)) (Times (Hyp 2) (Hyp 3)))))) 0 (e, (h, (k, tt))) refl

-- vars X Y Z a b; hyp e: X == 0; hyp h: 0 < b*Z-a*Y; hyp k: 0 < b*Z+a*Y; goal (a*a)*(X*X+Y*Y) < (b*b)*(Z*Z); eqmul e * (a*a*X); mul h * k; mul h+ * k+
pub inside_steep : (X Y Z a b : ℤ) → X ≡ (pos 0) → (pos 0) <ℤ ((b *ℤ Z) -ℤ (a *ℤ Y)) → (pos 0) <ℤ ((b *ℤ Z) +ℤ (a *ℤ Y)) → ((a *ℤ a) *ℤ ((X *ℤ X) +ℤ (Y *ℤ Y))) <ℤ ((b *ℤ b) *ℤ (Z *ℤ Z))
inside_steep X Y Z a b e h k = prove_lt_by (X ∷ Y ∷ Z ∷ a ∷ b ∷ []) (Eq (Var 0) (Num (pos 0)) ∷ Lt (Num (pos 0)) (Sub (Mul (Var 4) (Var 2)) (Mul (Var 3) (Var 1))) ∷ Lt (Num (pos 0)) (Add (Mul (Var 4) (Var 2)) (Mul (Var 3) (Var 1))) ∷ []) (Mul (Mul (Var 3) (Var 3)) (Add (Mul (Var 0) (Var 0)) (Mul (Var 1) (Var 1)))) (Mul (Mul (Var 4) (Var 4)) (Mul (Var 2) (Var 2))) (Plus (Hyp 0) (Plus (Hyp 2) (Plus (Hyp 3) (Plus (TimesEq 1 (Mul (Mul (Var 3) (Var 3)) (Var 0))) (Times (Hyp 2) (Hyp 3)))))) 0 (e, (h, (k, tt))) refl

-- vars Y Z a b; hyp hb: 0 < b; hyp h: 0 < b*Z-a*Y; hyp k: 0 < b*Z+a*Y; goal 0 < Z; mul goal * hb; mul goal * hb+
pub inside_over : (Y Z a b : ℤ) → (pos 0) <ℤ b → (pos 0) <ℤ ((b *ℤ Z) -ℤ (a *ℤ Y)) → (pos 0) <ℤ ((b *ℤ Z) +ℤ (a *ℤ Y)) → (pos 0) <ℤ Z
inside_over Y Z a b hb h k = prove_lt_by (Y ∷ Z ∷ a ∷ b ∷ []) (Lt (Num (pos 0)) (Var 3) ∷ Lt (Num (pos 0)) (Sub (Mul (Var 3) (Var 1)) (Mul (Var 2) (Var 0))) ∷ Lt (Num (pos 0)) (Add (Mul (Var 3) (Var 1)) (Mul (Var 2) (Var 0))) ∷ []) (Num (pos 0)) (Var 1) (Plus (Times (Lit 2) (Hyp 0)) (Plus (Hyp 2) (Plus (Hyp 3) (Times (Lit 2) (Times (Hyp 0) (Hyp 1)))))) 1 (hb, (h, (k, tt))) refl

pub axis_point : (x w : ℤ) → ((w *ℤ x) +ℤ (((pos 0) -ℤ x) *ℤ w)) ≡ (pos 0)
axis_point x w = ring (x ∷ w ∷ []) (Add (Mul (Var 1) (Var 0)) (Mul (Sub (Num (pos 0)) (Var 0)) (Var 1))) (Num (pos 0)) refl

-- vars x t y q; hyp e: t == 0; hyp h: x*x+y*y < q; goal t*t+y*y < q; square x; eqmul e * t
pub near_flat : (x t y q : ℤ) → t ≡ (pos 0) → ((x *ℤ x) +ℤ (y *ℤ y)) <ℤ q → ((t *ℤ t) +ℤ (y *ℤ y)) <ℤ q
near_flat x t y q e h = prove_lt_by (x ∷ t ∷ y ∷ q ∷ []) (Eq (Var 1) (Num (pos 0)) ∷ Lt (Add (Mul (Var 0) (Var 0)) (Mul (Var 2) (Var 2))) (Var 3) ∷ []) (Add (Mul (Var 1) (Var 1)) (Mul (Var 2) (Var 2))) (Var 3) (Plus (Hyp 0) (Plus (Hyp 2) (Plus (Sq (Var 0)) (TimesEq 1 (Var 1))))) 0 (e, (h, tt)) refl

pub difference : (f g x w : ℤ) → ((w *ℤ f) -ℤ (x *ℤ g)) ≡ ((w *ℤ f) +ℤ (((pos 0) -ℤ x) *ℤ g))
difference f g x w = ring (f ∷ g ∷ x ∷ w ∷ []) (Sub (Mul (Var 3) (Var 0)) (Mul (Var 2) (Var 1))) (Add (Mul (Var 3) (Var 0)) (Mul (Sub (Num (pos 0)) (Var 2)) (Var 1))) refl

-- vars x y z a b; hyp h: (a*a)*(x*x+y*y) < (b*b)*(z*z); goal (a*a)*(y*y+x*x) < (b*b)*(z*z)
pub steep_swapped : (x y z a b : ℤ) → ((a *ℤ a) *ℤ ((x *ℤ x) +ℤ (y *ℤ y))) <ℤ ((b *ℤ b) *ℤ (z *ℤ z)) → ((a *ℤ a) *ℤ ((y *ℤ y) +ℤ (x *ℤ x))) <ℤ ((b *ℤ b) *ℤ (z *ℤ z))
steep_swapped x y z a b h = prove_lt_by (x ∷ y ∷ z ∷ a ∷ b ∷ []) (Lt (Mul (Mul (Var 3) (Var 3)) (Add (Mul (Var 0) (Var 0)) (Mul (Var 1) (Var 1)))) (Mul (Mul (Var 4) (Var 4)) (Mul (Var 2) (Var 2))) ∷ []) (Mul (Mul (Var 3) (Var 3)) (Add (Mul (Var 1) (Var 1)) (Mul (Var 0) (Var 0)))) (Mul (Mul (Var 4) (Var 4)) (Mul (Var 2) (Var 2))) (Plus (Hyp 0) (Hyp 1)) 0 (h, tt) refl
