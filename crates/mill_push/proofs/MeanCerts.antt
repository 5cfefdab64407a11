-- Written by tools/certificates.py from tools/certificates/mill_push_mean.spec.
use Rattle.std.proofs.Common.{◌≡◌, [], ◌∷◌, refl}
use lib.IntN.{ℤ, pos, ◌+ℤ◌, ◌-ℤ◌, ◌*ℤ◌}
use lib.Signed.{◌<ℤ◌, ◌≤ℤ◌}
use Rattle.mill_base.proofs.Ring.{Var, Num, Add, Sub, Mul, ring}
use Rattle.mill_base.proofs.Cert.{Le, Lt, Hyp, Sq, Lit, Plus, Times, prove_le_by, prove_lt_by}

pub weights_mixed : (i j u v w r s t : ℤ) → ((i *ℤ ((u +ℤ v) +ℤ w)) +ℤ (j *ℤ ((r +ℤ s) +ℤ t))) ≡ ((((i *ℤ u) +ℤ (j *ℤ r)) +ℤ ((i *ℤ v) +ℤ (j *ℤ s))) +ℤ ((i *ℤ w) +ℤ (j *ℤ t)))
weights_mixed i j u v w r s t = ring (i ∷ j ∷ u ∷ v ∷ w ∷ r ∷ s ∷ t ∷ []) (Add (Mul (Var 0) (Add (Add (Var 2) (Var 3)) (Var 4))) (Mul (Var 1) (Add (Add (Var 5) (Var 6)) (Var 7)))) (Add (Add (Add (Mul (Var 0) (Var 2)) (Mul (Var 1) (Var 5))) (Add (Mul (Var 0) (Var 3)) (Mul (Var 1) (Var 6)))) (Add (Mul (Var 0) (Var 4)) (Mul (Var 1) (Var 7)))) refl

pub place_mixed : (i j u v w r s t a b c : ℤ) → ((i *ℤ (((u *ℤ a) +ℤ (v *ℤ b)) +ℤ (w *ℤ c))) +ℤ (j *ℤ (((r *ℤ a) +ℤ (s *ℤ b)) +ℤ (t *ℤ c)))) ≡ (((((i *ℤ u) +ℤ (j *ℤ r)) *ℤ a) +ℤ (((i *ℤ v) +ℤ (j *ℤ s)) *ℤ b)) +ℤ (((i *ℤ w) +ℤ (j *ℤ t)) *ℤ c))
place_mixed i j u v w r s t a b c = ring (i ∷ j ∷ u ∷ v ∷ w ∷ r ∷ s ∷ t ∷ a ∷ b ∷ c ∷ []) (Add (Mul (Var 0) (Add (Add (Mul (Var 2) (Var 8)) (Mul (Var 3) (Var 9))) (Mul (Var 4) (Var 10)))) (Mul (Var 1) (Add (Add (Mul (Var 5) (Var 8)) (Mul (Var 6) (Var 9))) (Mul (Var 7) (Var 10))))) (Add (Add (Mul (Add (Mul (Var 0) (Var 2)) (Mul (Var 1) (Var 5))) (Var 8)) (Mul (Add (Mul (Var 0) (Var 3)) (Mul (Var 1) (Var 6))) (Var 9))) (Mul (Add (Mul (Var 0) (Var 4)) (Mul (Var 1) (Var 7))) (Var 10))) refl

-- vars i j u r; hyp hi: 0 <= i; hyp hj: 0 <= j; hyp hu: 0 <= u; hyp hr: 0 <= r; goal 0 <= i*u+j*r; mul hi * hu; mul hj * hr
pub sum_mixed : (i j u r : ℤ) → (pos 0) ≤ℤ i → (pos 0) ≤ℤ j → (pos 0) ≤ℤ u → (pos 0) ≤ℤ r → (pos 0) ≤ℤ ((i *ℤ u) +ℤ (j *ℤ r))
sum_mixed i j u r hi hj hu hr = prove_le_by (i ∷ j ∷ u ∷ r ∷ []) (Le (Num (pos 0)) (Var 0) ∷ Le (Num (pos 0)) (Var 1) ∷ Le (Num (pos 0)) (Var 2) ∷ Le (Num (pos 0)) (Var 3) ∷ []) (Num (pos 0)) (Add (Mul (Var 0) (Var 2)) (Mul (Var 1) (Var 3))) (Plus (Hyp 0) (Plus (Times (Hyp 1) (Hyp 3)) (Times (Hyp 2) (Hyp 4)))) 0 (hi, (hj, (hu, (hr, tt)))) refl

-- vars i j n m; hyp hi: 0 <= i; hyp hj: 0 <= j; hyp hs: 0 < i+j; hyp hn: 0 < n; hyp hm: 0 < m; goal 0 < i*n+j*m; mul hi * hn; mul hj * hm
pub some_mixed : (i j n m : ℤ) → (pos 0) ≤ℤ i → (pos 0) ≤ℤ j → (pos 0) <ℤ (i +ℤ j) → (pos 0) <ℤ n → (pos 0) <ℤ m → (pos 0) <ℤ ((i *ℤ n) +ℤ (j *ℤ m))
some_mixed i j n m hi hj hs hn hm = prove_lt_by (i ∷ j ∷ n ∷ m ∷ []) (Le (Num (pos 0)) (Var 0) ∷ Le (Num (pos 0)) (Var 1) ∷ Lt (Num (pos 0)) (Add (Var 0) (Var 1)) ∷ Lt (Num (pos 0)) (Var 2) ∷ Lt (Num (pos 0)) (Var 3) ∷ []) (Num (pos 0)) (Add (Mul (Var 0) (Var 2)) (Mul (Var 1) (Var 3))) (Plus (Hyp 0) (Plus (Hyp 3) (Plus (Times (Hyp 1) (Hyp 4)) (Times (Hyp 2) (Hyp 5))))) 0 (hi, (hj, (hs, (hn, (hm, tt))))) refl

-- vars d e n m; hyp hd: 0 <= d; hyp he: 0 <= e; hyp hs: 0 < d+e; hyp hn: 0 < n; hyp hm: 0 < m; goal 0 < d*m+e*n; mul hd * hm; mul he * hn
pub share : (d e n m : ℤ) → (pos 0) ≤ℤ d → (pos 0) ≤ℤ e → (pos 0) <ℤ (d +ℤ e) → (pos 0) <ℤ n → (pos 0) <ℤ m → (pos 0) <ℤ ((d *ℤ m) +ℤ (e *ℤ n))
share d e n m hd he hs hn hm = prove_lt_by (d ∷ e ∷ n ∷ m ∷ []) (Le (Num (pos 0)) (Var 0) ∷ Le (Num (pos 0)) (Var 1) ∷ Lt (Num (pos 0)) (Add (Var 0) (Var 1)) ∷ Lt (Num (pos 0)) (Var 2) ∷ Lt (Num (pos 0)) (Var 3) ∷ []) (Num (pos 0)) (Add (Mul (Var 0) (Var 3)) (Mul (Var 1) (Var 2))) (Plus (Hyp 0) (Plus (Hyp 3) (Plus (Times (Hyp 1) (Hyp 5)) (Times (Hyp 2) (Hyp 4))))) 0 (hd, (he, (hs, (hn, (hm, tt))))) refl

-- vars x y z t l n m; hyp hn: 0 <= n; hyp hm: 0 <= m; hyp hs: 0 < n; hyp ht: 0 < m; hyp h: x*x+y*y < l*(n*n); hyp k: z*z+t*t < l*(m*m); goal x*z+y*t < l*(n*m); mul h * hm * hm; mul k * hn * hn; mul goal * hn * hm; square m*x-n*z; square m*y-n*t; mul ht * ht; mul ht; mul hs * hs
pub near_product : (x y z t l n m : ℤ) → (pos 0) ≤ℤ n → (pos 0) ≤ℤ m → (pos 0) <ℤ n → (pos 0) <ℤ m → ((x *ℤ x) +ℤ (y *ℤ y)) <ℤ (l *ℤ (n *ℤ n)) → ((z *ℤ z) +ℤ (t *ℤ t)) <ℤ (l *ℤ (m *ℤ m)) → ((x *ℤ z) +ℤ (y *ℤ t)) <ℤ (l *ℤ (n *ℤ m))
near_product x y z t l n m hn hm hs ht h k = prove_lt_by (x ∷ y ∷ z ∷ t ∷ l ∷ n ∷ m ∷ []) (Le (Num (pos 0)) (Var 5) ∷ Le (Num (pos 0)) (Var 6) ∷ Lt (Num (pos 0)) (Var 5) ∷ Lt (Num (pos 0)) (Var 6) ∷ Lt (Add (Mul (Var 0) (Var 0)) (Mul (Var 1) (Var 1))) (Mul (Var 4) (Mul (Var 5) (Var 5))) ∷ Lt (Add (Mul (Var 2) (Var 2)) (Mul (Var 3) (Var 3))) (Mul (Var 4) (Mul (Var 6) (Var 6))) ∷ []) (Add (Mul (Var 0) (Var 2)) (Mul (Var 1) (Var 3))) (Mul (Var 4) (Mul (Var 5) (Var 6))) (Plus (Times (Lit 2) (Hyp 3)) (Plus (Times (Lit 2) (Hyp 4)) (Plus (Times (Times (Hyp 5) (Hyp 2)) (Hyp 2)) (Plus (Times (Times (Hyp 6) (Hyp 1)) (Hyp 1)) (Plus (Times (Lit 2) (Times (Times (Hyp 0) (Hyp 1)) (Hyp 2))) (Plus (Sq (Sub (Mul (Var 6) (Var 0)) (Mul (Var 5) (Var 2)))) (Plus (Sq (Sub (Mul (Var 6) (Var 1)) (Mul (Var 5) (Var 3)))) (Plus (Times (Hyp 4) (Hyp 4)) (Times (Hyp 3) (Hyp 3)))))))))) 1 (hn, (hm, (hs, (ht, (h, (k, tt)))))) refl

-- vars x y z t l n m i j; hyp hi: 0 <= i; hyp hj: 0 <= j; hyp hs: 0 < i+j; hyp h: x*x+y*y < l*(n*n); hyp k: z*z+t*t < l*(m*m); hyp p: x*z+y*t < l*(n*m); goal (i*x+j*z)*(i*x+j*z)+(i*y+j*t)*(i*y+j*t) < l*((i*n+j*m)*(i*n+j*m)); mul h * hi * hi; mul k * hj * hj; mul p * hi * hj; mul hs * hs; mul hs
pub near_mixed : (x y z t l n m i j : ℤ) → (pos 0) ≤ℤ i → (pos 0) ≤ℤ j → (pos 0) <ℤ (i +ℤ j) → ((x *ℤ x) +ℤ (y *ℤ y)) <ℤ (l *ℤ (n *ℤ n)) → ((z *ℤ z) +ℤ (t *ℤ t)) <ℤ (l *ℤ (m *ℤ m)) → ((x *ℤ z) +ℤ (y *ℤ t)) <ℤ (l *ℤ (n *ℤ m)) → ((((i *ℤ x) +ℤ (j *ℤ z)) *ℤ ((i *ℤ x) +ℤ (j *ℤ z))) +ℤ (((i *ℤ y) +ℤ (j *ℤ t)) *ℤ ((i *ℤ y) +ℤ (j *ℤ t)))) <ℤ (l *ℤ (((i *ℤ n) +ℤ (j *ℤ m)) *ℤ ((i *ℤ n) +ℤ (j *ℤ m))))
near_mixed x y z t l n m i j hi hj hs h k p = prove_lt_by (x ∷ y ∷ z ∷ t ∷ l ∷ n ∷ m ∷ i ∷ j ∷ []) (Le (Num (pos 0)) (Var 7) ∷ Le (Num (pos 0)) (Var 8) ∷ Lt (Num (pos 0)) (Add (Var 7) (Var 8)) ∷ Lt (Add (Mul (Var 0) (Var 0)) (Mul (Var 1) (Var 1))) (Mul (Var 4) (Mul (Var 5) (Var 5))) ∷ Lt (Add (Mul (Var 2) (Var 2)) (Mul (Var 3) (Var 3))) (Mul (Var 4) (Mul (Var 6) (Var 6))) ∷ Lt (Add (Mul (Var 0) (Var 2)) (Mul (Var 1) (Var 3))) (Mul (Var 4) (Mul (Var 5) (Var 6))) ∷ []) (Add (Mul (Add (Mul (Var 7) (Var 0)) (Mul (Var 8) (Var 2))) (Add (Mul (Var 7) (Var 0)) (Mul (Var 8) (Var 2)))) (Mul (Add (Mul (Var 7) (Var 1)) (Mul (Var 8) (Var 3))) (Add (Mul (Var 7) (Var 1)) (Mul (Var 8) (Var 3))))) (Mul (Var 4) (Mul (Add (Mul (Var 7) (Var 5)) (Mul (Var 8) (Var 6))) (Add (Mul (Var 7) (Var 5)) (Mul (Var 8) (Var 6))))) (Plus (Hyp 0) (Plus (Times (Lit 2) (Hyp 3)) (Plus (Times (Times (Hyp 4) (Hyp 1)) (Hyp 1)) (Plus (Times (Times (Hyp 5) (Hyp 2)) (Hyp 2)) (Plus (Times (Lit 2) (Times (Times (Hyp 6) (Hyp 1)) (Hyp 2))) (Times (Hyp 3) (Hyp 3))))))) 0 (hi, (hj, (hs, (h, (k, (p, tt)))))) refl

-- vars x y z t q l n m; hyp hq: 0 <= q; hyp hn: 0 <= n; hyp hm: 0 <= m; hyp hs: 0 < n; hyp ht: 0 < m; hyp h: q*(x*x+y*y) < l*(n*n); hyp k: q*(z*z+t*t) < l*(m*m); goal q*(x*z+y*t) < l*(n*m); mul h * hm * hm; mul k * hn * hn; mul goal * hn * hm; mul hq * sq(m*x-n*z); mul hq * sq(m*y-n*t); mul ht * ht; mul ht; mul hs * hs
pub steep_product : (x y z t q l n m : ℤ) → (pos 0) ≤ℤ q → (pos 0) ≤ℤ n → (pos 0) ≤ℤ m → (pos 0) <ℤ n → (pos 0) <ℤ m → (q *ℤ ((x *ℤ x) +ℤ (y *ℤ y))) <ℤ (l *ℤ (n *ℤ n)) → (q *ℤ ((z *ℤ z) +ℤ (t *ℤ t))) <ℤ (l *ℤ (m *ℤ m)) → (q *ℤ ((x *ℤ z) +ℤ (y *ℤ t))) <ℤ (l *ℤ (n *ℤ m))
steep_product x y z t q l n m hq hn hm hs ht h k = prove_lt_by (x ∷ y ∷ z ∷ t ∷ q ∷ l ∷ n ∷ m ∷ []) (Le (Num (pos 0)) (Var 4) ∷ Le (Num (pos 0)) (Var 6) ∷ Le (Num (pos 0)) (Var 7) ∷ Lt (Num (pos 0)) (Var 6) ∷ Lt (Num (pos 0)) (Var 7) ∷ Lt (Mul (Var 4) (Add (Mul (Var 0) (Var 0)) (Mul (Var 1) (Var 1)))) (Mul (Var 5) (Mul (Var 6) (Var 6))) ∷ Lt (Mul (Var 4) (Add (Mul (Var 2) (Var 2)) (Mul (Var 3) (Var 3)))) (Mul (Var 5) (Mul (Var 7) (Var 7))) ∷ []) (Mul (Var 4) (Add (Mul (Var 0) (Var 2)) (Mul (Var 1) (Var 3)))) (Mul (Var 5) (Mul (Var 6) (Var 7))) (Plus (Times (Lit 2) (Hyp 4)) (Plus (Times (Lit 2) (Hyp 5)) (Plus (Times (Times (Hyp 6) (Hyp 3)) (Hyp 3)) (Plus (Times (Times (Hyp 7) (Hyp 2)) (Hyp 2)) (Plus (Times (Lit 2) (Times (Times (Hyp 0) (Hyp 2)) (Hyp 3))) (Plus (Times (Hyp 1) (Sq (Sub (Mul (Var 7) (Var 0)) (Mul (Var 6) (Var 2))))) (Plus (Times (Hyp 1) (Sq (Sub (Mul (Var 7) (Var 1)) (Mul (Var 6) (Var 3))))) (Plus (Times (Hyp 5) (Hyp 5)) (Times (Hyp 4) (Hyp 4)))))))))) 1 (hq, (hn, (hm, (hs, (ht, (h, (k, tt))))))) refl

-- vars x y z t q l n m i j; hyp hi: 0 <= i; hyp hj: 0 <= j; hyp hs: 0 < i+j; hyp h: q*(x*x+y*y) < l*(n*n); hyp k: q*(z*z+t*t) < l*(m*m); hyp p: q*(x*z+y*t) < l*(n*m); goal q*((i*x+j*z)*(i*x+j*z)+(i*y+j*t)*(i*y+j*t)) < l*((i*n+j*m)*(i*n+j*m)); mul h * hi * hi; mul k * hj * hj; mul p * hi * hj; mul hs * hs; mul hs
pub steep_mixed : (x y z t q l n m i j : ℤ) → (pos 0) ≤ℤ i → (pos 0) ≤ℤ j → (pos 0) <ℤ (i +ℤ j) → (q *ℤ ((x *ℤ x) +ℤ (y *ℤ y))) <ℤ (l *ℤ (n *ℤ n)) → (q *ℤ ((z *ℤ z) +ℤ (t *ℤ t))) <ℤ (l *ℤ (m *ℤ m)) → (q *ℤ ((x *ℤ z) +ℤ (y *ℤ t))) <ℤ (l *ℤ (n *ℤ m)) → (q *ℤ ((((i *ℤ x) +ℤ (j *ℤ z)) *ℤ ((i *ℤ x) +ℤ (j *ℤ z))) +ℤ (((i *ℤ y) +ℤ (j *ℤ t)) *ℤ ((i *ℤ y) +ℤ (j *ℤ t))))) <ℤ (l *ℤ (((i *ℤ n) +ℤ (j *ℤ m)) *ℤ ((i *ℤ n) +ℤ (j *ℤ m))))
steep_mixed x y z t q l n m i j hi hj hs h k p = prove_lt_by (x ∷ y ∷ z ∷ t ∷ q ∷ l ∷ n ∷ m ∷ i ∷ j ∷ []) (Le (Num (pos 0)) (Var 8) ∷ Le (Num (pos 0)) (Var 9) ∷ Lt (Num (pos 0)) (Add (Var 8) (Var 9)) ∷ Lt (Mul (Var 4) (Add (Mul (Var 0) (Var 0)) (Mul (Var 1) (Var 1)))) (Mul (Var 5) (Mul (Var 6) (Var 6))) ∷ Lt (Mul (Var 4) (Add (Mul (Var 2) (Var 2)) (Mul (Var 3) (Var 3)))) (Mul (Var 5) (Mul (Var 7) (Var 7))) ∷ Lt (Mul (Var 4) (Add (Mul (Var 0) (Var 2)) (Mul (Var 1) (Var 3)))) (Mul (Var 5) (Mul (Var 6) (Var 7))) ∷ []) (Mul (Var 4) (Add (Mul (Add (Mul (Var 8) (Var 0)) (Mul (Var 9) (Var 2))) (Add (Mul (Var 8) (Var 0)) (Mul (Var 9) (Var 2)))) (Mul (Add (Mul (Var 8) (Var 1)) (Mul (Var 9) (Var 3))) (Add (Mul (Var 8) (Var 1)) (Mul (Var 9) (Var 3)))))) (Mul (Var 5) (Mul (Add (Mul (Var 8) (Var 6)) (Mul (Var 9) (Var 7))) (Add (Mul (Var 8) (Var 6)) (Mul (Var 9) (Var 7))))) (Plus (Hyp 0) (Plus (Times (Lit 2) (Hyp 3)) (Plus (Times (Times (Hyp 4) (Hyp 1)) (Hyp 1)) (Plus (Times (Times (Hyp 5) (Hyp 2)) (Hyp 2)) (Plus (Times (Lit 2) (Times (Times (Hyp 6) (Hyp 1)) (Hyp 2))) (Times (Hyp 3) (Hyp 3))))))) 0 (hi, (hj, (hs, (h, (k, (p, tt)))))) refl

-- vars x y a z t b l n m; hyp hn: 0 <= n; hyp hm: 0 <= m; hyp hs: 0 < n; hyp ht: 0 < m; hyp h: (x*x+y*y)+a*a < l*(n*n); hyp k: (z*z+t*t)+b*b < l*(m*m); goal (x*z+y*t)+a*b < l*(n*m); mul h * hm * hm; mul k * hn * hn; mul goal * hn * hm; square m*x-n*z; square m*y-n*t; square m*a-n*b; mul ht * ht; mul ht; mul hs * hs
pub sphere_product : (x y a z t b l n m : ℤ) → (pos 0) ≤ℤ n → (pos 0) ≤ℤ m → (pos 0) <ℤ n → (pos 0) <ℤ m → (((x *ℤ x) +ℤ (y *ℤ y)) +ℤ (a *ℤ a)) <ℤ (l *ℤ (n *ℤ n)) → (((z *ℤ z) +ℤ (t *ℤ t)) +ℤ (b *ℤ b)) <ℤ (l *ℤ (m *ℤ m)) → (((x *ℤ z) +ℤ (y *ℤ t)) +ℤ (a *ℤ b)) <ℤ (l *ℤ (n *ℤ m))
sphere_product x y a z t b l n m hn hm hs ht h k = prove_lt_by (x ∷ y ∷ a ∷ z ∷ t ∷ b ∷ l ∷ n ∷ m ∷ []) (Le (Num (pos 0)) (Var 7) ∷ Le (Num (pos 0)) (Var 8) ∷ Lt (Num (pos 0)) (Var 7) ∷ Lt (Num (pos 0)) (Var 8) ∷ Lt (Add (Add (Mul (Var 0) (Var 0)) (Mul (Var 1) (Var 1))) (Mul (Var 2) (Var 2))) (Mul (Var 6) (Mul (Var 7) (Var 7))) ∷ Lt (Add (Add (Mul (Var 3) (Var 3)) (Mul (Var 4) (Var 4))) (Mul (Var 5) (Var 5))) (Mul (Var 6) (Mul (Var 8) (Var 8))) ∷ []) (Add (Add (Mul (Var 0) (Var 3)) (Mul (Var 1) (Var 4))) (Mul (Var 2) (Var 5))) (Mul (Var 6) (Mul (Var 7) (Var 8))) (Plus (Times (Lit 2) (Hyp 3)) (Plus (Times (Lit 2) (Hyp 4)) (Plus (Times (Times (Hyp 5) (Hyp 2)) (Hyp 2)) (Plus (Times (Times (Hyp 6) (Hyp 1)) (Hyp 1)) (Plus (Times (Lit 2) (Times (Times (Hyp 0) (Hyp 1)) (Hyp 2))) (Plus (Sq (Sub (Mul (Var 8) (Var 0)) (Mul (Var 7) (Var 3)))) (Plus (Sq (Sub (Mul (Var 8) (Var 1)) (Mul (Var 7) (Var 4)))) (Plus (Sq (Sub (Mul (Var 8) (Var 2)) (Mul (Var 7) (Var 5)))) (Plus (Times (Hyp 4) (Hyp 4)) (Times (Hyp 3) (Hyp 3))))))))))) 1 (hn, (hm, (hs, (ht, (h, (k, tt)))))) refl

-- vars x y a z t b r n m i j; hyp hi: 0 <= i; hyp hj: 0 <= j; hyp hs: 0 < i+j; hyp h: (x*x+y*y)+(a-r*n)*(a-r*n) < (r*r)*(n*n); hyp k: (z*z+t*t)+(b-r*m)*(b-r*m) < (r*r)*(m*m); hyp p: (x*z+y*t)+(a-r*n)*(b-r*m) < (r*r)*(n*m); goal ((i*x+j*z)*(i*x+j*z)+(i*y+j*t)*(i*y+j*t))+((i*a+j*b)-r*(i*n+j*m))*((i*a+j*b)-r*(i*n+j*m)) < (r*r)*((i*n+j*m)*(i*n+j*m)); mul h * hi * hi; mul k * hj * hj; mul p * hi * hj; mul hs * hs; mul hs
pub sphere_mixed : (x y a z t b r n m i j : ℤ) → (pos 0) ≤ℤ i → (pos 0) ≤ℤ j → (pos 0) <ℤ (i +ℤ j) → (((x *ℤ x) +ℤ (y *ℤ y)) +ℤ ((a -ℤ (r *ℤ n)) *ℤ (a -ℤ (r *ℤ n)))) <ℤ ((r *ℤ r) *ℤ (n *ℤ n)) → (((z *ℤ z) +ℤ (t *ℤ t)) +ℤ ((b -ℤ (r *ℤ m)) *ℤ (b -ℤ (r *ℤ m)))) <ℤ ((r *ℤ r) *ℤ (m *ℤ m)) → (((x *ℤ z) +ℤ (y *ℤ t)) +ℤ ((a -ℤ (r *ℤ n)) *ℤ (b -ℤ (r *ℤ m)))) <ℤ ((r *ℤ r) *ℤ (n *ℤ m)) → (((((i *ℤ x) +ℤ (j *ℤ z)) *ℤ ((i *ℤ x) +ℤ (j *ℤ z))) +ℤ (((i *ℤ y) +ℤ (j *ℤ t)) *ℤ ((i *ℤ y) +ℤ (j *ℤ t)))) +ℤ ((((i *ℤ a) +ℤ (j *ℤ b)) -ℤ (r *ℤ ((i *ℤ n) +ℤ (j *ℤ m)))) *ℤ (((i *ℤ a) +ℤ (j *ℤ b)) -ℤ (r *ℤ ((i *ℤ n) +ℤ (j *ℤ m)))))) <ℤ ((r *ℤ r) *ℤ (((i *ℤ n) +ℤ (j *ℤ m)) *ℤ ((i *ℤ n) +ℤ (j *ℤ m))))
sphere_mixed x y a z t b r n m i j hi hj hs h k p = prove_lt_by (x ∷ y ∷ a ∷ z ∷ t ∷ b ∷ r ∷ n ∷ m ∷ i ∷ j ∷ []) (Le (Num (pos 0)) (Var 9) ∷ Le (Num (pos 0)) (Var 10) ∷ Lt (Num (pos 0)) (Add (Var 9) (Var 10)) ∷ Lt (Add (Add (Mul (Var 0) (Var 0)) (Mul (Var 1) (Var 1))) (Mul (Sub (Var 2) (Mul (Var 6) (Var 7))) (Sub (Var 2) (Mul (Var 6) (Var 7))))) (Mul (Mul (Var 6) (Var 6)) (Mul (Var 7) (Var 7))) ∷ Lt (Add (Add (Mul (Var 3) (Var 3)) (Mul (Var 4) (Var 4))) (Mul (Sub (Var 5) (Mul (Var 6) (Var 8))) (Sub (Var 5) (Mul (Var 6) (Var 8))))) (Mul (Mul (Var 6) (Var 6)) (Mul (Var 8) (Var 8))) ∷ Lt (Add (Add (Mul (Var 0) (Var 3)) (Mul (Var 1) (Var 4))) (Mul (Sub (Var 2) (Mul (Var 6) (Var 7))) (Sub (Var 5) (Mul (Var 6) (Var 8))))) (Mul (Mul (Var 6) (Var 6)) (Mul (Var 7) (Var 8))) ∷ []) (Add (Add (Mul (Add (Mul (Var 9) (Var 0)) (Mul (Var 10) (Var 3))) (Add (Mul (Var 9) (Var 0)) (Mul (Var 10) (Var 3)))) (Mul (Add (Mul (Var 9) (Var 1)) (Mul (Var 10) (Var 4))) (Add (Mul (Var 9) (Var 1)) (Mul (Var 10) (Var 4))))) (Mul (Sub (Add (Mul (Var 9) (Var 2)) (Mul (Var 10) (Var 5))) (Mul (Var 6) (Add (Mul (Var 9) (Var 7)) (Mul (Var 10) (Var 8))))) (Sub (Add (Mul (Var 9) (Var 2)) (Mul (Var 10) (Var 5))) (Mul (Var 6) (Add (Mul (Var 9) (Var 7)) (Mul (Var 10) (Var 8))))))) (Mul (Mul (Var 6) (Var 6)) (Mul (Add (Mul (Var 9) (Var 7)) (Mul (Var 10) (Var 8))) (Add (Mul (Var 9) (Var 7)) (Mul (Var 10) (Var 8))))) (Plus (Hyp 0) (Plus (Times (Lit 2) (Hyp 3)) (Plus (Times (Times (Hyp 4) (Hyp 1)) (Hyp 1)) (Plus (Times (Times (Hyp 5) (Hyp 2)) (Hyp 2)) (Plus (Times (Lit 2) (Times (Times (Hyp 6) (Hyp 1)) (Hyp 2))) (Times (Hyp 3) (Hyp 3))))))) 0 (hi, (hj, (hs, (h, (k, (p, tt)))))) refl

-- vars a b r n m i j; hyp hi: 0 <= i; hyp hj: 0 <= j; hyp h: r*n <= a; hyp k: r*m <= b; goal r*(i*n+j*m) <= i*a+j*b; mul hi * h; mul hj * k
pub high_mixed : (a b r n m i j : ℤ) → (pos 0) ≤ℤ i → (pos 0) ≤ℤ j → (r *ℤ n) ≤ℤ a → (r *ℤ m) ≤ℤ b → (r *ℤ ((i *ℤ n) +ℤ (j *ℤ m))) ≤ℤ ((i *ℤ a) +ℤ (j *ℤ b))
high_mixed a b r n m i j hi hj h k = prove_le_by (a ∷ b ∷ r ∷ n ∷ m ∷ i ∷ j ∷ []) (Le (Num (pos 0)) (Var 5) ∷ Le (Num (pos 0)) (Var 6) ∷ Le (Mul (Var 2) (Var 3)) (Var 0) ∷ Le (Mul (Var 2) (Var 4)) (Var 1) ∷ []) (Mul (Var 2) (Add (Mul (Var 5) (Var 3)) (Mul (Var 6) (Var 4)))) (Add (Mul (Var 5) (Var 0)) (Mul (Var 6) (Var 1))) (Plus (Hyp 0) (Plus (Times (Hyp 1) (Hyp 3)) (Times (Hyp 2) (Hyp 4)))) 0 (hi, (hj, (h, (k, tt)))) refl

-- vars x y a z t b r n m i j; hyp hi: 0 <= i; hyp hj: 0 <= j; hyp hs: 0 < i+j; hyp g: r*n <= a; hyp u: i*a+j*b < r*(i*n+j*m); hyp h: x*x+y*y < (r*r)*(n*n); hyp k: (z*z+t*t)+(b-r*m)*(b-r*m) < (r*r)*(m*m); hyp p: x*z+y*t < (r*r)*(n*m); goal ((i*x+j*z)*(i*x+j*z)+(i*y+j*t)*(i*y+j*t))+((i*a+j*b)-r*(i*n+j*m))*((i*a+j*b)-r*(i*n+j*m)) < (r*r)*((i*n+j*m)*(i*n+j*m)); mul h * hi * hi; mul k * hj * hj; mul p * hi * hj; mul hi * g * hi * g; mul hi * g * u; mul hi * g; mul hs * hs; mul hs
pub high_sphere_mixed : (x y a z t b r n m i j : ℤ) → (pos 0) ≤ℤ i → (pos 0) ≤ℤ j → (pos 0) <ℤ (i +ℤ j) → (r *ℤ n) ≤ℤ a → ((i *ℤ a) +ℤ (j *ℤ b)) <ℤ (r *ℤ ((i *ℤ n) +ℤ (j *ℤ m))) → ((x *ℤ x) +ℤ (y *ℤ y)) <ℤ ((r *ℤ r) *ℤ (n *ℤ n)) → (((z *ℤ z) +ℤ (t *ℤ t)) +ℤ ((b -ℤ (r *ℤ m)) *ℤ (b -ℤ (r *ℤ m)))) <ℤ ((r *ℤ r) *ℤ (m *ℤ m)) → ((x *ℤ z) +ℤ (y *ℤ t)) <ℤ ((r *ℤ r) *ℤ (n *ℤ m)) → (((((i *ℤ x) +ℤ (j *ℤ z)) *ℤ ((i *ℤ x) +ℤ (j *ℤ z))) +ℤ (((i *ℤ y) +ℤ (j *ℤ t)) *ℤ ((i *ℤ y) +ℤ (j *ℤ t)))) +ℤ ((((i *ℤ a) +ℤ (j *ℤ b)) -ℤ (r *ℤ ((i *ℤ n) +ℤ (j *ℤ m)))) *ℤ (((i *ℤ a) +ℤ (j *ℤ b)) -ℤ (r *ℤ ((i *ℤ n) +ℤ (j *ℤ m)))))) <ℤ ((r *ℤ r) *ℤ (((i *ℤ n) +ℤ (j *ℤ m)) *ℤ ((i *ℤ n) +ℤ (j *ℤ m))))
high_sphere_mixed x y a z t b r n m i j hi hj hs g u h k p = prove_lt_by (x ∷ y ∷ a ∷ z ∷ t ∷ b ∷ r ∷ n ∷ m ∷ i ∷ j ∷ []) (Le (Num (pos 0)) (Var 9) ∷ Le (Num (pos 0)) (Var 10) ∷ Lt (Num (pos 0)) (Add (Var 9) (Var 10)) ∷ Le (Mul (Var 6) (Var 7)) (Var 2) ∷ Lt (Add (Mul (Var 9) (Var 2)) (Mul (Var 10) (Var 5))) (Mul (Var 6) (Add (Mul (Var 9) (Var 7)) (Mul (Var 10) (Var 8)))) ∷ Lt (Add (Mul (Var 0) (Var 0)) (Mul (Var 1) (Var 1))) (Mul (Mul (Var 6) (Var 6)) (Mul (Var 7) (Var 7))) ∷ Lt (Add (Add (Mul (Var 3) (Var 3)) (Mul (Var 4) (Var 4))) (Mul (Sub (Var 5) (Mul (Var 6) (Var 8))) (Sub (Var 5) (Mul (Var 6) (Var 8))))) (Mul (Mul (Var 6) (Var 6)) (Mul (Var 8) (Var 8))) ∷ Lt (Add (Mul (Var 0) (Var 3)) (Mul (Var 1) (Var 4))) (Mul (Mul (Var 6) (Var 6)) (Mul (Var 7) (Var 8))) ∷ []) (Add (Add (Mul (Add (Mul (Var 9) (Var 0)) (Mul (Var 10) (Var 3))) (Add (Mul (Var 9) (Var 0)) (Mul (Var 10) (Var 3)))) (Mul (Add (Mul (Var 9) (Var 1)) (Mul (Var 10) (Var 4))) (Add (Mul (Var 9) (Var 1)) (Mul (Var 10) (Var 4))))) (Mul (Sub (Add (Mul (Var 9) (Var 2)) (Mul (Var 10) (Var 5))) (Mul (Var 6) (Add (Mul (Var 9) (Var 7)) (Mul (Var 10) (Var 8))))) (Sub (Add (Mul (Var 9) (Var 2)) (Mul (Var 10) (Var 5))) (Mul (Var 6) (Add (Mul (Var 9) (Var 7)) (Mul (Var 10) (Var 8))))))) (Mul (Mul (Var 6) (Var 6)) (Mul (Add (Mul (Var 9) (Var 7)) (Mul (Var 10) (Var 8))) (Add (Mul (Var 9) (Var 7)) (Mul (Var 10) (Var 8))))) (Plus (Hyp 0) (Plus (Times (Lit 2) (Hyp 3)) (Plus (Times (Times (Hyp 6) (Hyp 1)) (Hyp 1)) (Plus (Times (Times (Hyp 7) (Hyp 2)) (Hyp 2)) (Plus (Times (Lit 2) (Times (Times (Hyp 8) (Hyp 1)) (Hyp 2))) (Plus (Times (Times (Times (Hyp 1) (Hyp 4)) (Hyp 1)) (Hyp 4)) (Plus (Times (Lit 2) (Times (Times (Hyp 1) (Hyp 4)) (Hyp 5))) (Plus (Times (Lit 2) (Times (Hyp 1) (Hyp 4))) (Times (Hyp 3) (Hyp 3)))))))))) 0 (hi, (hj, (hs, (g, (u, (h, (k, (p, tt)))))))) refl

-- vars x y a z t b r n m i j; hyp hi: 0 <= i; hyp hj: 0 <= j; hyp hs: 0 < i+j; hyp g: r*m <= b; hyp u: i*a+j*b < r*(i*n+j*m); hyp h: (x*x+y*y)+(a-r*n)*(a-r*n) < (r*r)*(n*n); hyp k: z*z+t*t < (r*r)*(m*m); hyp p: x*z+y*t < (r*r)*(n*m); goal ((i*x+j*z)*(i*x+j*z)+(i*y+j*t)*(i*y+j*t))+((i*a+j*b)-r*(i*n+j*m))*((i*a+j*b)-r*(i*n+j*m)) < (r*r)*((i*n+j*m)*(i*n+j*m)); mul h * hi * hi; mul k * hj * hj; mul p * hi * hj; mul hj * g * hj * g; mul hj * g * u; mul hj * g; mul hs * hs; mul hs
pub sphere_high_mixed : (x y a z t b r n m i j : ℤ) → (pos 0) ≤ℤ i → (pos 0) ≤ℤ j → (pos 0) <ℤ (i +ℤ j) → (r *ℤ m) ≤ℤ b → ((i *ℤ a) +ℤ (j *ℤ b)) <ℤ (r *ℤ ((i *ℤ n) +ℤ (j *ℤ m))) → (((x *ℤ x) +ℤ (y *ℤ y)) +ℤ ((a -ℤ (r *ℤ n)) *ℤ (a -ℤ (r *ℤ n)))) <ℤ ((r *ℤ r) *ℤ (n *ℤ n)) → ((z *ℤ z) +ℤ (t *ℤ t)) <ℤ ((r *ℤ r) *ℤ (m *ℤ m)) → ((x *ℤ z) +ℤ (y *ℤ t)) <ℤ ((r *ℤ r) *ℤ (n *ℤ m)) → (((((i *ℤ x) +ℤ (j *ℤ z)) *ℤ ((i *ℤ x) +ℤ (j *ℤ z))) +ℤ (((i *ℤ y) +ℤ (j *ℤ t)) *ℤ ((i *ℤ y) +ℤ (j *ℤ t)))) +ℤ ((((i *ℤ a) +ℤ (j *ℤ b)) -ℤ (r *ℤ ((i *ℤ n) +ℤ (j *ℤ m)))) *ℤ (((i *ℤ a) +ℤ (j *ℤ b)) -ℤ (r *ℤ ((i *ℤ n) +ℤ (j *ℤ m)))))) <ℤ ((r *ℤ r) *ℤ (((i *ℤ n) +ℤ (j *ℤ m)) *ℤ ((i *ℤ n) +ℤ (j *ℤ m))))
sphere_high_mixed x y a z t b r n m i j hi hj hs g u h k p = prove_lt_by (x ∷ y ∷ a ∷ z ∷ t ∷ b ∷ r ∷ n ∷ m ∷ i ∷ j ∷ []) (Le (Num (pos 0)) (Var 9) ∷ Le (Num (pos 0)) (Var 10) ∷ Lt (Num (pos 0)) (Add (Var 9) (Var 10)) ∷ Le (Mul (Var 6) (Var 8)) (Var 5) ∷ Lt (Add (Mul (Var 9) (Var 2)) (Mul (Var 10) (Var 5))) (Mul (Var 6) (Add (Mul (Var 9) (Var 7)) (Mul (Var 10) (Var 8)))) ∷ Lt (Add (Add (Mul (Var 0) (Var 0)) (Mul (Var 1) (Var 1))) (Mul (Sub (Var 2) (Mul (Var 6) (Var 7))) (Sub (Var 2) (Mul (Var 6) (Var 7))))) (Mul (Mul (Var 6) (Var 6)) (Mul (Var 7) (Var 7))) ∷ Lt (Add (Mul (Var 3) (Var 3)) (Mul (Var 4) (Var 4))) (Mul (Mul (Var 6) (Var 6)) (Mul (Var 8) (Var 8))) ∷ Lt (Add (Mul (Var 0) (Var 3)) (Mul (Var 1) (Var 4))) (Mul (Mul (Var 6) (Var 6)) (Mul (Var 7) (Var 8))) ∷ []) (Add (Add (Mul (Add (Mul (Var 9) (Var 0)) (Mul (Var 10) (Var 3))) (Add (Mul (Var 9) (Var 0)) (Mul (Var 10) (Var 3)))) (Mul (Add (Mul (Var 9) (Var 1)) (Mul (Var 10) (Var 4))) (Add (Mul (Var 9) (Var 1)) (Mul (Var 10) (Var 4))))) (Mul (Sub (Add (Mul (Var 9) (Var 2)) (Mul (Var 10) (Var 5))) (Mul (Var 6) (Add (Mul (Var 9) (Var 7)) (Mul (Var 10) (Var 8))))) (Sub (Add (Mul (Var 9) (Var 2)) (Mul (Var 10) (Var 5))) (Mul (Var 6) (Add (Mul (Var 9) (Var 7)) (Mul (Var 10) (Var 8))))))) (Mul (Mul (Var 6) (Var 6)) (Mul (Add (Mul (Var 9) (Var 7)) (Mul (Var 10) (Var 8))) (Add (Mul (Var 9) (Var 7)) (Mul (Var 10) (Var 8))))) (Plus (Hyp 0) (Plus (Times (Lit 2) (Hyp 3)) (Plus (Times (Times (Hyp 6) (Hyp 1)) (Hyp 1)) (Plus (Times (Times (Hyp 7) (Hyp 2)) (Hyp 2)) (Plus (Times (Lit 2) (Times (Times (Hyp 8) (Hyp 1)) (Hyp 2))) (Plus (Times (Times (Times (Hyp 2) (Hyp 4)) (Hyp 2)) (Hyp 4)) (Plus (Times (Lit 2) (Times (Times (Hyp 2) (Hyp 4)) (Hyp 5))) (Plus (Times (Lit 2) (Times (Hyp 2) (Hyp 4))) (Times (Hyp 3) (Hyp 3)))))))))) 0 (hi, (hj, (hs, (g, (u, (h, (k, (p, tt)))))))) refl

pub moved_along : (p q n m a b v : ℤ) → (((pos 1) *ℤ ((((b -ℤ v) *ℤ m) *ℤ p) +ℤ (((v -ℤ a) *ℤ n) *ℤ q))) -ℤ (((((b -ℤ v) *ℤ m) *ℤ n) +ℤ (((v -ℤ a) *ℤ n) *ℤ m)) *ℤ v)) ≡ ((((b -ℤ v) *ℤ m) *ℤ (((pos 1) *ℤ p) -ℤ (n *ℤ a))) +ℤ (((v -ℤ a) *ℤ n) *ℤ (((pos 1) *ℤ q) -ℤ (m *ℤ b))))
moved_along p q n m a b v = ring (p ∷ q ∷ n ∷ m ∷ a ∷ b ∷ v ∷ []) (Sub (Mul (Num (pos 1)) (Add (Mul (Mul (Sub (Var 5) (Var 6)) (Var 3)) (Var 0)) (Mul (Mul (Sub (Var 6) (Var 4)) (Var 2)) (Var 1)))) (Mul (Add (Mul (Mul (Sub (Var 5) (Var 6)) (Var 3)) (Var 2)) (Mul (Mul (Sub (Var 6) (Var 4)) (Var 2)) (Var 3))) (Var 6))) (Add (Mul (Mul (Sub (Var 5) (Var 6)) (Var 3)) (Sub (Mul (Num (pos 1)) (Var 0)) (Mul (Var 2) (Var 4)))) (Mul (Mul (Sub (Var 6) (Var 4)) (Var 2)) (Sub (Mul (Num (pos 1)) (Var 1)) (Mul (Var 3) (Var 5))))) refl

pub moved_across : (p q n m i j c : ℤ) → (((pos 1) *ℤ ((i *ℤ p) +ℤ (j *ℤ q))) -ℤ (((i *ℤ n) +ℤ (j *ℤ m)) *ℤ c)) ≡ ((i *ℤ (((pos 1) *ℤ p) -ℤ (n *ℤ c))) +ℤ (j *ℤ (((pos 1) *ℤ q) -ℤ (m *ℤ c))))
moved_across p q n m i j c = ring (p ∷ q ∷ n ∷ m ∷ i ∷ j ∷ c ∷ []) (Sub (Mul (Num (pos 1)) (Add (Mul (Var 4) (Var 0)) (Mul (Var 5) (Var 1)))) (Mul (Add (Mul (Var 4) (Var 2)) (Mul (Var 5) (Var 3))) (Var 6))) (Add (Mul (Var 4) (Sub (Mul (Num (pos 1)) (Var 0)) (Mul (Var 2) (Var 6)))) (Mul (Var 5) (Sub (Mul (Num (pos 1)) (Var 1)) (Mul (Var 3) (Var 6))))) refl

pub one_mixed : (n m i j : ℤ) → ((pos 1) *ℤ ((i *ℤ n) +ℤ (j *ℤ m))) ≡ ((i *ℤ ((pos 1) *ℤ n)) +ℤ (j *ℤ ((pos 1) *ℤ m)))
one_mixed n m i j = ring (n ∷ m ∷ i ∷ j ∷ []) (Mul (Num (pos 1)) (Add (Mul (Var 2) (Var 0)) (Mul (Var 3) (Var 1)))) (Add (Mul (Var 2) (Mul (Num (pos 1)) (Var 0))) (Mul (Var 3) (Mul (Num (pos 1)) (Var 1)))) refl
