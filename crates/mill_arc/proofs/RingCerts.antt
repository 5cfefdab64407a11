-- Polynomial facts behind how near the chords of an arc are to it.
-- Written by tools/certificates.py from tools/certificates/mill_arc_rings.spec.
use Rattle.std.proofs.Common.{◌≡◌, [], ◌∷◌, refl}
use lib.IntN.{ℤ, pos, ◌+ℤ◌, ◌-ℤ◌, ◌*ℤ◌}
use lib.Signed.{◌<ℤ◌, ◌≤ℤ◌}
use Rattle.mill_base.proofs.Ring.{Var, Num, Add, Sub, Mul, Neg, ring}
use Rattle.mill_base.proofs.Cert.{Le, Lt, Eq, Hyp, TimesEq, Sq, Lit, Plus, Times, prove_le_by, prove_lt_by}

-- vars p q d j k s g; hyp hj: 0 <= j; hyp hk: 0 <= k; hyp hp: s <= p; hyp hq: s <= q; hyp hd: s - g <= d; hyp hg: 0 <= g; goal ((j+k)*(j+k))*(2*s - g) <= 2*(((j*j)*p + (k*k)*q) + 2*((j*k)*d)); mul hp * sq(j); mul hq * sq(k); mul hd * hj * hk; mul hg * sq(j-k)
pub chord_away : (p q d j k s g : ℤ) → (pos 0) ≤ℤ j → (pos 0) ≤ℤ k → s ≤ℤ p → s ≤ℤ q → (s -ℤ g) ≤ℤ d → (pos 0) ≤ℤ g → (((j +ℤ k) *ℤ (j +ℤ k)) *ℤ (((pos 2) *ℤ s) -ℤ g)) ≤ℤ ((pos 2) *ℤ ((((j *ℤ j) *ℤ p) +ℤ ((k *ℤ k) *ℤ q)) +ℤ ((pos 2) *ℤ ((j *ℤ k) *ℤ d))))
chord_away p q d j k s g hj hk hp hq hd hg = prove_le_by (p ∷ q ∷ d ∷ j ∷ k ∷ s ∷ g ∷ []) (Le (Num (pos 0)) (Var 3) ∷ Le (Num (pos 0)) (Var 4) ∷ Le (Var 5) (Var 0) ∷ Le (Var 5) (Var 1) ∷ Le (Sub (Var 5) (Var 6)) (Var 2) ∷ Le (Num (pos 0)) (Var 6) ∷ []) (Mul (Mul (Add (Var 3) (Var 4)) (Add (Var 3) (Var 4))) (Sub (Mul (Num (pos 2)) (Var 5)) (Var 6))) (Mul (Num (pos 2)) (Add (Add (Mul (Mul (Var 3) (Var 3)) (Var 0)) (Mul (Mul (Var 4) (Var 4)) (Var 1))) (Mul (Num (pos 2)) (Mul (Mul (Var 3) (Var 4)) (Var 2))))) (Plus (Hyp 0) (Plus (Times (Lit 2) (Times (Hyp 3) (Sq (Var 3)))) (Plus (Times (Lit 2) (Times (Hyp 4) (Sq (Var 4)))) (Plus (Times (Lit 4) (Times (Times (Hyp 5) (Hyp 1)) (Hyp 2))) (Times (Hyp 6) (Sq (Sub (Var 3) (Var 4)))))))) 0 (hj, (hk, (hp, (hq, (hd, (hg, tt)))))) refl

-- vars p q d j k s; hyp hj: 0 <= j; hyp hk: 0 <= k; hyp hp: s <= p; hyp hq: s <= q; hyp hd: 0 <= d; hyp hs: 0 <= s; goal ((j+k)*(j+k))*s <= 2*(((j*j)*p + (k*k)*q) + 2*((j*k)*d)); mul hp * sq(j); mul hq * sq(k); mul hd * hj * hk; mul hs * sq(j-k)
pub chord_half : (p q d j k s : ℤ) → (pos 0) ≤ℤ j → (pos 0) ≤ℤ k → s ≤ℤ p → s ≤ℤ q → (pos 0) ≤ℤ d → (pos 0) ≤ℤ s → (((j +ℤ k) *ℤ (j +ℤ k)) *ℤ s) ≤ℤ ((pos 2) *ℤ ((((j *ℤ j) *ℤ p) +ℤ ((k *ℤ k) *ℤ q)) +ℤ ((pos 2) *ℤ ((j *ℤ k) *ℤ d))))
chord_half p q d j k s hj hk hp hq hd hs = prove_le_by (p ∷ q ∷ d ∷ j ∷ k ∷ s ∷ []) (Le (Num (pos 0)) (Var 3) ∷ Le (Num (pos 0)) (Var 4) ∷ Le (Var 5) (Var 0) ∷ Le (Var 5) (Var 1) ∷ Le (Num (pos 0)) (Var 2) ∷ Le (Num (pos 0)) (Var 5) ∷ []) (Mul (Mul (Add (Var 3) (Var 4)) (Add (Var 3) (Var 4))) (Var 5)) (Mul (Num (pos 2)) (Add (Add (Mul (Mul (Var 3) (Var 3)) (Var 0)) (Mul (Mul (Var 4) (Var 4)) (Var 1))) (Mul (Num (pos 2)) (Mul (Mul (Var 3) (Var 4)) (Var 2))))) (Plus (Hyp 0) (Plus (Times (Lit 2) (Times (Hyp 3) (Sq (Var 3)))) (Plus (Times (Lit 2) (Times (Hyp 4) (Sq (Var 4)))) (Plus (Times (Lit 4) (Times (Times (Hyp 5) (Hyp 1)) (Hyp 2))) (Times (Hyp 6) (Sq (Sub (Var 3) (Var 4)))))))) 0 (hj, (hk, (hp, (hq, (hd, (hs, tt)))))) refl

-- vars p q d j k s; hyp hj: 0 <= j; hyp hk: 0 <= k; hyp hp: p <= s; hyp hq: q <= s; hyp hd: 2*d <= p + q; goal ((j*j)*p + (k*k)*q) + 2*((j*k)*d) <= ((j+k)*(j+k))*s; mul hp * sq(j); mul hq * sq(k); mul hd * hj * hk; mul hp * hj * hk; mul hq * hj * hk
pub chord_most : (p q d j k s : ℤ) → (pos 0) ≤ℤ j → (pos 0) ≤ℤ k → p ≤ℤ s → q ≤ℤ s → ((pos 2) *ℤ d) ≤ℤ (p +ℤ q) → ((((j *ℤ j) *ℤ p) +ℤ ((k *ℤ k) *ℤ q)) +ℤ ((pos 2) *ℤ ((j *ℤ k) *ℤ d))) ≤ℤ (((j +ℤ k) *ℤ (j +ℤ k)) *ℤ s)
chord_most p q d j k s hj hk hp hq hd = prove_le_by (p ∷ q ∷ d ∷ j ∷ k ∷ s ∷ []) (Le (Num (pos 0)) (Var 3) ∷ Le (Num (pos 0)) (Var 4) ∷ Le (Var 0) (Var 5) ∷ Le (Var 1) (Var 5) ∷ Le (Mul (Num (pos 2)) (Var 2)) (Add (Var 0) (Var 1)) ∷ []) (Add (Add (Mul (Mul (Var 3) (Var 3)) (Var 0)) (Mul (Mul (Var 4) (Var 4)) (Var 1))) (Mul (Num (pos 2)) (Mul (Mul (Var 3) (Var 4)) (Var 2)))) (Mul (Mul (Add (Var 3) (Var 4)) (Add (Var 3) (Var 4))) (Var 5)) (Plus (Hyp 0) (Plus (Times (Hyp 3) (Sq (Var 3))) (Plus (Times (Hyp 4) (Sq (Var 4))) (Plus (Times (Times (Hyp 5) (Hyp 1)) (Hyp 2)) (Plus (Times (Times (Hyp 3) (Hyp 1)) (Hyp 2)) (Times (Times (Hyp 4) (Hyp 1)) (Hyp 2))))))) 0 (hj, (hk, (hp, (hq, (hd, tt))))) refl

-- vars u1 u2 v1 v2; goal 2*(u1*v1+u2*v2) <= (u1*u1+u2*u2)+(v1*v1+v2*v2); square u1-v1; square u2-v2
pub twice_dot : (u1 u2 v1 v2 : ℤ) → ((pos 2) *ℤ ((u1 *ℤ v1) +ℤ (u2 *ℤ v2))) ≤ℤ (((u1 *ℤ u1) +ℤ (u2 *ℤ u2)) +ℤ ((v1 *ℤ v1) +ℤ (v2 *ℤ v2)))
twice_dot u1 u2 v1 v2 = prove_le_by (u1 ∷ u2 ∷ v1 ∷ v2 ∷ []) ([]) (Mul (Num (pos 2)) (Add (Mul (Var 0) (Var 2)) (Mul (Var 1) (Var 3)))) (Add (Add (Mul (Var 0) (Var 0)) (Mul (Var 1) (Var 1))) (Add (Mul (Var 2) (Var 2)) (Mul (Var 3) (Var 3)))) (Plus (Hyp 0) (Plus (Sq (Sub (Var 0) (Var 2))) (Sq (Sub (Var 1) (Var 3))))) 0 tt refl

-- vars m k; hyp hk: 1000 <= k; hyp hm: 4*k <= m; goal ((100*m-118*k)-200)*((100*m-118*k)-200) <= 10000*((m-1)*(m-1) - 2*(m*k)); mul hm * hk; mul hk * hk; mul hm * hm
pub deep_far : (m k : ℤ) → (pos 1000) ≤ℤ k → ((pos 4) *ℤ k) ≤ℤ m → (((((pos 100) *ℤ m) -ℤ ((pos 118) *ℤ k)) -ℤ (pos 200)) *ℤ ((((pos 100) *ℤ m) -ℤ ((pos 118) *ℤ k)) -ℤ (pos 200))) ≤ℤ ((pos 10000) *ℤ (((m -ℤ (pos 1)) *ℤ (m -ℤ (pos 1))) -ℤ ((pos 2) *ℤ (m *ℤ k))))
deep_far m k hk hm = prove_le_by (m ∷ k ∷ []) (Le (Num (pos 1000)) (Var 1) ∷ Le (Mul (Num (pos 4)) (Var 1)) (Var 0) ∷ []) (Mul (Sub (Sub (Mul (Num (pos 100)) (Var 0)) (Mul (Num (pos 118)) (Var 1))) (Num (pos 200))) (Sub (Sub (Mul (Num (pos 100)) (Var 0)) (Mul (Num (pos 118)) (Var 1))) (Num (pos 200)))) (Mul (Num (pos 10000)) (Sub (Mul (Sub (Var 0) (Num (pos 1))) (Sub (Var 0) (Num (pos 1)))) (Mul (Num (pos 2)) (Mul (Var 0) (Var 1))))) (Plus (Hyp 0) (Plus (Times (Lit 984800) (Hyp 1)) (Plus (Times (Lit 3620000) (Hyp 2)) (Plus (Times (Lit 3600) (Times (Hyp 2) (Hyp 1))) (Times (Lit 476) (Times (Hyp 1) (Hyp 1))))))) 508770000 (hk, (hm, tt)) refl

-- vars m k; hyp hk: 1000 <= k; hyp hm: m <= 4*k; hyp hy: 0 <= (100*m-118*k)-200; goal 2*(((100*m-118*k)-200)*((100*m-118*k)-200)) <= 10000*((m-1)*(m-1)); mul hm * hy; mul hm * hm; mul hk * hy; mul hm * hk; mul hy * hy; mul hk * hk
pub deep_near : (m k : ℤ) → (pos 1000) ≤ℤ k → m ≤ℤ ((pos 4) *ℤ k) → (pos 0) ≤ℤ ((((pos 100) *ℤ m) -ℤ ((pos 118) *ℤ k)) -ℤ (pos 200)) → ((pos 2) *ℤ (((((pos 100) *ℤ m) -ℤ ((pos 118) *ℤ k)) -ℤ (pos 200)) *ℤ ((((pos 100) *ℤ m) -ℤ ((pos 118) *ℤ k)) -ℤ (pos 200)))) ≤ℤ ((pos 10000) *ℤ ((m -ℤ (pos 1)) *ℤ (m -ℤ (pos 1))))
deep_near m k hk hm hy = prove_le_by (m ∷ k ∷ []) (Le (Num (pos 1000)) (Var 1) ∷ Le (Var 0) (Mul (Num (pos 4)) (Var 1)) ∷ Le (Num (pos 0)) (Sub (Sub (Mul (Num (pos 100)) (Var 0)) (Mul (Num (pos 118)) (Var 1))) (Num (pos 200))) ∷ []) (Mul (Num (pos 2)) (Mul (Sub (Sub (Mul (Num (pos 100)) (Var 0)) (Mul (Num (pos 118)) (Var 1))) (Num (pos 200))) (Sub (Sub (Mul (Num (pos 100)) (Var 0)) (Mul (Num (pos 118)) (Var 1))) (Num (pos 200))))) (Mul (Num (pos 10000)) (Mul (Sub (Var 0) (Num (pos 1))) (Sub (Var 0) (Num (pos 1))))) (Plus (Times (Lit 198669) (Hyp 0)) (Plus (Times (Lit 218193231200) (Hyp 1)) (Plus (Times (Lit 23081700) (Times (Hyp 2) (Hyp 3))) (Plus (Times (Lit 321480000) (Times (Hyp 2) (Hyp 2))) (Plus (Times (Lit 670684) (Times (Hyp 1) (Hyp 3))) (Times (Lit 74372200) (Times (Hyp 2) (Hyp 1)))))))) 218045187768668 (hk, (hm, (hy, tt))) refl

-- vars n s g y l; hyp h: (n*n)*(2*s - g) <= 2*l; hyp hy: y*y <= 5000*(2*s - g); goal (n*n)*(y*y) <= 10000*l; mul hy * sq(n)
pub deep_scaled : (n s g y l : ℤ) → ((n *ℤ n) *ℤ (((pos 2) *ℤ s) -ℤ g)) ≤ℤ ((pos 2) *ℤ l) → (y *ℤ y) ≤ℤ ((pos 5000) *ℤ (((pos 2) *ℤ s) -ℤ g)) → ((n *ℤ n) *ℤ (y *ℤ y)) ≤ℤ ((pos 10000) *ℤ l)
deep_scaled n s g y l h hy = prove_le_by (n ∷ s ∷ g ∷ y ∷ l ∷ []) (Le (Mul (Mul (Var 0) (Var 0)) (Sub (Mul (Num (pos 2)) (Var 1)) (Var 2))) (Mul (Num (pos 2)) (Var 4)) ∷ Le (Mul (Var 3) (Var 3)) (Mul (Num (pos 5000)) (Sub (Mul (Num (pos 2)) (Var 1)) (Var 2))) ∷ []) (Mul (Mul (Var 0) (Var 0)) (Mul (Var 3) (Var 3))) (Mul (Num (pos 10000)) (Var 4)) (Plus (Hyp 0) (Plus (Times (Lit 5000) (Hyp 1)) (Times (Hyp 2) (Sq (Var 0))))) 0 (h, (hy, tt)) refl

-- vars n s y l; hyp h: (n*n)*s <= 2*l; hyp hy: 2*(y*y) <= 10000*s; goal (n*n)*(y*y) <= 10000*l; mul hy * sq(n)
pub half_scaled : (n s y l : ℤ) → ((n *ℤ n) *ℤ s) ≤ℤ ((pos 2) *ℤ l) → ((pos 2) *ℤ (y *ℤ y)) ≤ℤ ((pos 10000) *ℤ s) → ((n *ℤ n) *ℤ (y *ℤ y)) ≤ℤ ((pos 10000) *ℤ l)
half_scaled n s y l h hy = prove_le_by (n ∷ s ∷ y ∷ l ∷ []) (Le (Mul (Mul (Var 0) (Var 0)) (Var 1)) (Mul (Num (pos 2)) (Var 3)) ∷ Le (Mul (Num (pos 2)) (Mul (Var 2) (Var 2))) (Mul (Num (pos 10000)) (Var 1)) ∷ []) (Mul (Mul (Var 0) (Var 0)) (Mul (Var 2) (Var 2))) (Mul (Num (pos 10000)) (Var 3)) (Plus (Times (Lit 2) (Hyp 0)) (Plus (Times (Lit 10000) (Hyp 1)) (Times (Hyp 2) (Sq (Var 0))))) 1 (h, (hy, tt)) refl

-- vars a b c p q; hyp ha: 0 <= a; hyp hb: 0 <= b; hyp h1: q*q <= b; hyp h2: a <= p*p; hyp hc: c*c == a*b; goal (q*a)*(q*a) <= (p*c)*(p*c); mul ha * hb * h2; mul h1 * sq(a); eqmul hc * (p*p)
pub side_square : (a b c p q : ℤ) → (pos 0) ≤ℤ a → (pos 0) ≤ℤ b → (q *ℤ q) ≤ℤ b → a ≤ℤ (p *ℤ p) → (c *ℤ c) ≡ (a *ℤ b) → ((q *ℤ a) *ℤ (q *ℤ a)) ≤ℤ ((p *ℤ c) *ℤ (p *ℤ c))
side_square a b c p q ha hb h1 h2 hc = prove_le_by (a ∷ b ∷ c ∷ p ∷ q ∷ []) (Le (Num (pos 0)) (Var 0) ∷ Le (Num (pos 0)) (Var 1) ∷ Le (Mul (Var 4) (Var 4)) (Var 1) ∷ Le (Var 0) (Mul (Var 3) (Var 3)) ∷ Eq (Mul (Var 2) (Var 2)) (Mul (Var 0) (Var 1)) ∷ []) (Mul (Mul (Var 4) (Var 0)) (Mul (Var 4) (Var 0))) (Mul (Mul (Var 3) (Var 2)) (Mul (Var 3) (Var 2))) (Plus (Hyp 0) (Plus (Times (Times (Hyp 1) (Hyp 2)) (Hyp 4)) (Plus (Times (Hyp 3) (Sq (Var 0))) (TimesEq 5 (Neg (Mul (Var 3) (Var 3))))))) 0 (ha, (hb, (h1, (h2, (hc, tt))))) refl

-- vars a b c; hyp hb: 0 <= a; hyp h: b <= a; hyp hc: c*c == a*b; goal c*c <= a*a; mul h * hb
pub lesser_square : (a b c : ℤ) → (pos 0) ≤ℤ a → b ≤ℤ a → (c *ℤ c) ≡ (a *ℤ b) → (c *ℤ c) ≤ℤ (a *ℤ a)
lesser_square a b c hb h hc = prove_le_by (a ∷ b ∷ c ∷ []) (Le (Num (pos 0)) (Var 0) ∷ Le (Var 1) (Var 0) ∷ Eq (Mul (Var 2) (Var 2)) (Mul (Var 0) (Var 1)) ∷ []) (Mul (Var 2) (Var 2)) (Mul (Var 0) (Var 0)) (Plus (Hyp 0) (Plus (TimesEq 3 (Num (pos 1))) (Times (Hyp 2) (Hyp 1)))) 0 (hb, (h, (hc, tt))) refl

-- vars a b c p q; hyp ha: 0 < a; hyp hp: 0 < p; hyp hq: q <= p; hyp hca: c <= a; hyp hqa: q*a <= p*c; hyp hap: a <= p*p; hyp hc: c*c == a*b; goal (a + b) - 2*c <= (p-q)*(p-q); mul goal * ha+ * sq(p); mul hqa * ha+ * hq; mul hqa * hp+ * hca; eqmul hc * (p*p); mul ha+ * hap * sq(p-q); mul ha * hp * hp; mul ha * hp; mul hp * hp
pub roots_apart : (a b c p q : ℤ) → (pos 0) <ℤ a → (pos 0) <ℤ p → q ≤ℤ p → c ≤ℤ a → (q *ℤ a) ≤ℤ (p *ℤ c) → a ≤ℤ (p *ℤ p) → (c *ℤ c) ≡ (a *ℤ b) → ((a +ℤ b) -ℤ ((pos 2) *ℤ c)) ≤ℤ ((p -ℤ q) *ℤ (p -ℤ q))
roots_apart a b c p q ha hp hq hca hqa hap hc = prove_le_by (a ∷ b ∷ c ∷ p ∷ q ∷ []) (Lt (Num (pos 0)) (Var 0) ∷ Lt (Num (pos 0)) (Var 3) ∷ Le (Var 4) (Var 3) ∷ Le (Var 2) (Var 0) ∷ Le (Mul (Var 4) (Var 0)) (Mul (Var 3) (Var 2)) ∷ Le (Var 0) (Mul (Var 3) (Var 3)) ∷ Eq (Mul (Var 2) (Var 2)) (Mul (Var 0) (Var 1)) ∷ []) (Sub (Add (Var 0) (Var 1)) (Mul (Num (pos 2)) (Var 2))) (Mul (Sub (Var 3) (Var 4)) (Sub (Var 3) (Var 4))) (Plus (Times (Lit 2) (Hyp 1)) (Plus (Hyp 6) (Plus (Times (Times (Hyp 0) (Plus (Hyp 1) (Lit 1))) (Sq (Var 3))) (Plus (Times (Times (Hyp 5) (Plus (Hyp 1) (Lit 1))) (Hyp 3)) (Plus (Times (Times (Hyp 5) (Plus (Hyp 2) (Lit 1))) (Hyp 4)) (Plus (TimesEq 7 (Neg (Mul (Var 3) (Var 3)))) (Plus (Times (Times (Plus (Hyp 1) (Lit 1)) (Hyp 6)) (Sq (Sub (Var 3) (Var 4)))) (Plus (Times (Times (Hyp 1) (Hyp 2)) (Hyp 2)) (Times (Lit 2) (Times (Hyp 1) (Hyp 2))))))))))) 0 (ha, (hp, (hq, (hca, (hqa, (hap, (hc, tt))))))) refl

-- vars x y a b r q; hyp h1: x*x+y*y <= r*r; hyp h2: a*a+b*b <= q*q; hyp p1: 0 <= r; hyp p2: 0 <= q; goal x*a+y*b <= r*q; square x*b-y*a; mul goal * goal; mul goal * p1 * p2; mul p1 * p2; mul h1 * sq(q); mul sq(x) * h2; mul sq(y) * h2
pub sum_dot : (x y a b r q : ℤ) → ((x *ℤ x) +ℤ (y *ℤ y)) ≤ℤ (r *ℤ r) → ((a *ℤ a) +ℤ (b *ℤ b)) ≤ℤ (q *ℤ q) → (pos 0) ≤ℤ r → (pos 0) ≤ℤ q → ((x *ℤ a) +ℤ (y *ℤ b)) ≤ℤ (r *ℤ q)
sum_dot x y a b r q h1 h2 p1 p2 = prove_le_by (x ∷ y ∷ a ∷ b ∷ r ∷ q ∷ []) (Le (Add (Mul (Var 0) (Var 0)) (Mul (Var 1) (Var 1))) (Mul (Var 4) (Var 4)) ∷ Le (Add (Mul (Var 2) (Var 2)) (Mul (Var 3) (Var 3))) (Mul (Var 5) (Var 5)) ∷ Le (Num (pos 0)) (Var 4) ∷ Le (Num (pos 0)) (Var 5) ∷ []) (Add (Mul (Var 0) (Var 2)) (Mul (Var 1) (Var 3))) (Mul (Var 4) (Var 5)) (Plus (Times (Lit 2) (Hyp 0)) (Plus (Sq (Sub (Mul (Var 0) (Var 3)) (Mul (Var 1) (Var 2)))) (Plus (Times (Hyp 0) (Hyp 0)) (Plus (Times (Lit 2) (Times (Times (Hyp 0) (Hyp 3)) (Hyp 4))) (Plus (Times (Lit 2) (Times (Hyp 3) (Hyp 4))) (Plus (Times (Hyp 1) (Sq (Var 5))) (Plus (Times (Sq (Var 0)) (Hyp 2)) (Times (Sq (Var 1)) (Hyp 2))))))))) 0 (h1, (h2, (p1, (p2, tt)))) refl

-- vars x y a b r q; hyp h1: x*x+y*y <= r*r; hyp h2: a*a+b*b <= q*q; hyp hd: x*a+y*b <= r*q; goal (x+a)*(x+a)+(y+b)*(y+b) <= (r+q)*(r+q)
pub sum_near : (x y a b r q : ℤ) → ((x *ℤ x) +ℤ (y *ℤ y)) ≤ℤ (r *ℤ r) → ((a *ℤ a) +ℤ (b *ℤ b)) ≤ℤ (q *ℤ q) → ((x *ℤ a) +ℤ (y *ℤ b)) ≤ℤ (r *ℤ q) → (((x +ℤ a) *ℤ (x +ℤ a)) +ℤ ((y +ℤ b) *ℤ (y +ℤ b))) ≤ℤ ((r +ℤ q) *ℤ (r +ℤ q))
sum_near x y a b r q h1 h2 hd = prove_le_by (x ∷ y ∷ a ∷ b ∷ r ∷ q ∷ []) (Le (Add (Mul (Var 0) (Var 0)) (Mul (Var 1) (Var 1))) (Mul (Var 4) (Var 4)) ∷ Le (Add (Mul (Var 2) (Var 2)) (Mul (Var 3) (Var 3))) (Mul (Var 5) (Var 5)) ∷ Le (Add (Mul (Var 0) (Var 2)) (Mul (Var 1) (Var 3))) (Mul (Var 4) (Var 5)) ∷ []) (Add (Mul (Add (Var 0) (Var 2)) (Add (Var 0) (Var 2))) (Mul (Add (Var 1) (Var 3)) (Add (Var 1) (Var 3)))) (Mul (Add (Var 4) (Var 5)) (Add (Var 4) (Var 5))) (Plus (Hyp 0) (Plus (Hyp 1) (Plus (Hyp 2) (Times (Lit 2) (Hyp 3))))) 0 (h1, (h2, (hd, tt))) refl

-- vars k x y r; hyp h: x*x+y*y <= r*r; goal (k*x)*(k*x)+(k*y)*(k*y) <= (k*r)*(k*r); mul h * sq(k)
pub scale_near : (k x y r : ℤ) → ((x *ℤ x) +ℤ (y *ℤ y)) ≤ℤ (r *ℤ r) → (((k *ℤ x) *ℤ (k *ℤ x)) +ℤ ((k *ℤ y) *ℤ (k *ℤ y))) ≤ℤ ((k *ℤ r) *ℤ (k *ℤ r))
scale_near k x y r h = prove_le_by (k ∷ x ∷ y ∷ r ∷ []) (Le (Add (Mul (Var 1) (Var 1)) (Mul (Var 2) (Var 2))) (Mul (Var 3) (Var 3)) ∷ []) (Add (Mul (Mul (Var 0) (Var 1)) (Mul (Var 0) (Var 1))) (Mul (Mul (Var 0) (Var 2)) (Mul (Var 0) (Var 2)))) (Mul (Mul (Var 0) (Var 3)) (Mul (Var 0) (Var 3))) (Plus (Hyp 0) (Times (Hyp 1) (Sq (Var 0)))) 0 (h, tt) refl

-- vars k x y r; hyp hk: 0 < k; hyp h: (k*x)*(k*x)+(k*y)*(k*y) <= (k*r)*(k*r); goal x*x+y*y <= r*r; mul goal * sq(k); mul hk * hk
pub unscale_near : (k x y r : ℤ) → (pos 0) <ℤ k → (((k *ℤ x) *ℤ (k *ℤ x)) +ℤ ((k *ℤ y) *ℤ (k *ℤ y))) ≤ℤ ((k *ℤ r) *ℤ (k *ℤ r)) → ((x *ℤ x) +ℤ (y *ℤ y)) ≤ℤ (r *ℤ r)
unscale_near k x y r hk h = prove_le_by (k ∷ x ∷ y ∷ r ∷ []) (Lt (Num (pos 0)) (Var 0) ∷ Le (Add (Mul (Mul (Var 0) (Var 1)) (Mul (Var 0) (Var 1))) (Mul (Mul (Var 0) (Var 2)) (Mul (Var 0) (Var 2)))) (Mul (Mul (Var 0) (Var 3)) (Mul (Var 0) (Var 3))) ∷ []) (Add (Mul (Var 1) (Var 1)) (Mul (Var 2) (Var 2))) (Mul (Var 3) (Var 3)) (Plus (Times (Lit 2) (Hyp 1)) (Plus (Hyp 2) (Plus (Times (Hyp 0) (Sq (Var 0))) (Times (Hyp 1) (Hyp 1))))) 0 (hk, (h, tt)) refl

-- vars x y r q; hyp h: x*x+y*y <= r*r; hyp hr: 0 <= r; hyp hq: r <= q; goal x*x+y*y <= q*q; mul hq * hq; mul hq * hr
pub widen_near : (x y r q : ℤ) → ((x *ℤ x) +ℤ (y *ℤ y)) ≤ℤ (r *ℤ r) → (pos 0) ≤ℤ r → r ≤ℤ q → ((x *ℤ x) +ℤ (y *ℤ y)) ≤ℤ (q *ℤ q)
widen_near x y r q h hr hq = prove_le_by (x ∷ y ∷ r ∷ q ∷ []) (Le (Add (Mul (Var 0) (Var 0)) (Mul (Var 1) (Var 1))) (Mul (Var 2) (Var 2)) ∷ Le (Num (pos 0)) (Var 2) ∷ Le (Var 2) (Var 3) ∷ []) (Add (Mul (Var 0) (Var 0)) (Mul (Var 1) (Var 1))) (Mul (Var 3) (Var 3)) (Plus (Hyp 0) (Plus (Hyp 1) (Plus (Times (Hyp 3) (Hyp 3)) (Times (Lit 2) (Times (Hyp 3) (Hyp 2)))))) 0 (h, (hr, (hq, tt))) refl

pub lagrange : (l1 l2 x1 x2 : ℤ) → ((((l1 *ℤ x1) +ℤ (l2 *ℤ x2)) *ℤ ((l1 *ℤ x1) +ℤ (l2 *ℤ x2))) +ℤ (((l1 *ℤ x2) -ℤ (l2 *ℤ x1)) *ℤ ((l1 *ℤ x2) -ℤ (l2 *ℤ x1)))) ≡ (((x1 *ℤ x1) +ℤ (x2 *ℤ x2)) *ℤ ((l1 *ℤ l1) +ℤ (l2 *ℤ l2)))
lagrange l1 l2 x1 x2 = ring (l1 ∷ l2 ∷ x1 ∷ x2 ∷ []) (Add (Mul (Add (Mul (Var 0) (Var 2)) (Mul (Var 1) (Var 3))) (Add (Mul (Var 0) (Var 2)) (Mul (Var 1) (Var 3)))) (Mul (Sub (Mul (Var 0) (Var 3)) (Mul (Var 1) (Var 2))) (Sub (Mul (Var 0) (Var 3)) (Mul (Var 1) (Var 2))))) (Mul (Add (Mul (Var 2) (Var 2)) (Mul (Var 3) (Var 3))) (Add (Mul (Var 0) (Var 0)) (Mul (Var 1) (Var 1)))) refl

-- vars x y h r s t; hyp hp: 100*(x*x+y*y) <= r*r; hyp hh: 4*(h*h) <= s*s; hyp ht: r*r + 25*(s*s) <= t*t; goal 100*((x*x+y*y)+h*h) <= t*t
pub with_height : (x y h r s t : ℤ) → ((pos 100) *ℤ ((x *ℤ x) +ℤ (y *ℤ y))) ≤ℤ (r *ℤ r) → ((pos 4) *ℤ (h *ℤ h)) ≤ℤ (s *ℤ s) → ((r *ℤ r) +ℤ ((pos 25) *ℤ (s *ℤ s))) ≤ℤ (t *ℤ t) → ((pos 100) *ℤ (((x *ℤ x) +ℤ (y *ℤ y)) +ℤ (h *ℤ h))) ≤ℤ (t *ℤ t)
with_height x y h r s t hp hh ht = prove_le_by (x ∷ y ∷ h ∷ r ∷ s ∷ t ∷ []) (Le (Mul (Num (pos 100)) (Add (Mul (Var 0) (Var 0)) (Mul (Var 1) (Var 1)))) (Mul (Var 3) (Var 3)) ∷ Le (Mul (Num (pos 4)) (Mul (Var 2) (Var 2))) (Mul (Var 4) (Var 4)) ∷ Le (Add (Mul (Var 3) (Var 3)) (Mul (Num (pos 25)) (Mul (Var 4) (Var 4)))) (Mul (Var 5) (Var 5)) ∷ []) (Mul (Num (pos 100)) (Add (Add (Mul (Var 0) (Var 0)) (Mul (Var 1) (Var 1))) (Mul (Var 2) (Var 2)))) (Mul (Var 5) (Var 5)) (Plus (Hyp 0) (Plus (Hyp 1) (Plus (Times (Lit 25) (Hyp 2)) (Hyp 3)))) 0 (hp, (hh, (ht, tt))) refl

-- vars n e k t; hyp ht: 1 <= t; goal (n*(e*(k*(10*t+19))))*(n*(e*(k*(10*t+19)))) + 25*((n*(e*k))*(n*(e*k))) <= (n*(e*(k*(10*t+20))))*(n*(e*(k*(10*t+20)))); mul ht * sq(n*e*k); square n*e*k
pub moment_room : (n e k t : ℤ) → (pos 1) ≤ℤ t → (((n *ℤ (e *ℤ (k *ℤ (((pos 10) *ℤ t) +ℤ (pos 19))))) *ℤ (n *ℤ (e *ℤ (k *ℤ (((pos 10) *ℤ t) +ℤ (pos 19)))))) +ℤ ((pos 25) *ℤ ((n *ℤ (e *ℤ k)) *ℤ (n *ℤ (e *ℤ k))))) ≤ℤ ((n *ℤ (e *ℤ (k *ℤ (((pos 10) *ℤ t) +ℤ (pos 20))))) *ℤ (n *ℤ (e *ℤ (k *ℤ (((pos 10) *ℤ t) +ℤ (pos 20))))))
moment_room n e k t ht = prove_le_by (n ∷ e ∷ k ∷ t ∷ []) (Le (Num (pos 1)) (Var 3) ∷ []) (Add (Mul (Mul (Var 0) (Mul (Var 1) (Mul (Var 2) (Add (Mul (Num (pos 10)) (Var 3)) (Num (pos 19)))))) (Mul (Var 0) (Mul (Var 1) (Mul (Var 2) (Add (Mul (Num (pos 10)) (Var 3)) (Num (pos 19))))))) (Mul (Num (pos 25)) (Mul (Mul (Var 0) (Mul (Var 1) (Var 2))) (Mul (Var 0) (Mul (Var 1) (Var 2)))))) (Mul (Mul (Var 0) (Mul (Var 1) (Mul (Var 2) (Add (Mul (Num (pos 10)) (Var 3)) (Num (pos 20)))))) (Mul (Var 0) (Mul (Var 1) (Mul (Var 2) (Add (Mul (Num (pos 10)) (Var 3)) (Num (pos 20))))))) (Plus (Hyp 0) (Plus (Times (Lit 20) (Times (Hyp 1) (Sq (Mul (Mul (Var 0) (Var 1)) (Var 2))))) (Times (Lit 34) (Sq (Mul (Mul (Var 0) (Var 1)) (Var 2)))))) 0 (ht, tt) refl

-- vars n k t; hyp ht: 1 <= t; goal (n*(k*(1000*t+1951)))*(n*(k*(1000*t+1951))) + 250000*((n*k)*(n*k)) <= (n*(k*(1000*t+2000)))*(n*(k*(1000*t+2000))); mul ht * sq(n*k); square n*k
pub helix_room : (n k t : ℤ) → (pos 1) ≤ℤ t → (((n *ℤ (k *ℤ (((pos 1000) *ℤ t) +ℤ (pos 1951)))) *ℤ (n *ℤ (k *ℤ (((pos 1000) *ℤ t) +ℤ (pos 1951))))) +ℤ ((pos 250000) *ℤ ((n *ℤ k) *ℤ (n *ℤ k)))) ≤ℤ ((n *ℤ (k *ℤ (((pos 1000) *ℤ t) +ℤ (pos 2000)))) *ℤ (n *ℤ (k *ℤ (((pos 1000) *ℤ t) +ℤ (pos 2000)))))
helix_room n k t ht = prove_le_by (n ∷ k ∷ t ∷ []) (Le (Num (pos 1)) (Var 2) ∷ []) (Add (Mul (Mul (Var 0) (Mul (Var 1) (Add (Mul (Num (pos 1000)) (Var 2)) (Num (pos 1951))))) (Mul (Var 0) (Mul (Var 1) (Add (Mul (Num (pos 1000)) (Var 2)) (Num (pos 1951)))))) (Mul (Num (pos 250000)) (Mul (Mul (Var 0) (Var 1)) (Mul (Var 0) (Var 1))))) (Mul (Mul (Var 0) (Mul (Var 1) (Add (Mul (Num (pos 1000)) (Var 2)) (Num (pos 2000))))) (Mul (Var 0) (Mul (Var 1) (Add (Mul (Num (pos 1000)) (Var 2)) (Num (pos 2000)))))) (Plus (Hyp 0) (Plus (Times (Lit 98000) (Times (Hyp 1) (Sq (Mul (Var 0) (Var 1))))) (Times (Lit 41599) (Sq (Mul (Var 0) (Var 1)))))) 0 (ht, tt) refl

-- vars n k d c u v p q; hyp hk: 0 <= k; hyp hn: k <= n; hyp hp: 2*(d*p - (c+u)) <= d; hyp hq: 2*(d*q - (c+v)) <= d; goal 2*(d*((n-k)*p + k*q) - (n*c + ((n-k)*u + k*v))) <= n*d; mul hn * hp; mul hk * hq
pub moment_above : (n k d c u v p q : ℤ) → (pos 0) ≤ℤ k → k ≤ℤ n → ((pos 2) *ℤ ((d *ℤ p) -ℤ (c +ℤ u))) ≤ℤ d → ((pos 2) *ℤ ((d *ℤ q) -ℤ (c +ℤ v))) ≤ℤ d → ((pos 2) *ℤ ((d *ℤ (((n -ℤ k) *ℤ p) +ℤ (k *ℤ q))) -ℤ ((n *ℤ c) +ℤ (((n -ℤ k) *ℤ u) +ℤ (k *ℤ v))))) ≤ℤ (n *ℤ d)
moment_above n k d c u v p q hk hn hp hq = prove_le_by (n ∷ k ∷ d ∷ c ∷ u ∷ v ∷ p ∷ q ∷ []) (Le (Num (pos 0)) (Var 1) ∷ Le (Var 1) (Var 0) ∷ Le (Mul (Num (pos 2)) (Sub (Mul (Var 2) (Var 6)) (Add (Var 3) (Var 4)))) (Var 2) ∷ Le (Mul (Num (pos 2)) (Sub (Mul (Var 2) (Var 7)) (Add (Var 3) (Var 5)))) (Var 2) ∷ []) (Mul (Num (pos 2)) (Sub (Mul (Var 2) (Add (Mul (Sub (Var 0) (Var 1)) (Var 6)) (Mul (Var 1) (Var 7)))) (Add (Mul (Var 0) (Var 3)) (Add (Mul (Sub (Var 0) (Var 1)) (Var 4)) (Mul (Var 1) (Var 5)))))) (Mul (Var 0) (Var 2)) (Plus (Hyp 0) (Plus (Times (Hyp 2) (Hyp 3)) (Times (Hyp 1) (Hyp 4)))) 0 (hk, (hn, (hp, (hq, tt)))) refl

-- vars n k d c u v p q; hyp hk: 0 <= k; hyp hn: k <= n; hyp hp: 0 - d <= 2*(d*p - (c+u)); hyp hq: 0 - d <= 2*(d*q - (c+v)); goal 0 - n*d <= 2*(d*((n-k)*p + k*q) - (n*c + ((n-k)*u + k*v))); mul hn * hp; mul hk * hq
pub moment_below : (n k d c u v p q : ℤ) → (pos 0) ≤ℤ k → k ≤ℤ n → ((pos 0) -ℤ d) ≤ℤ ((pos 2) *ℤ ((d *ℤ p) -ℤ (c +ℤ u))) → ((pos 0) -ℤ d) ≤ℤ ((pos 2) *ℤ ((d *ℤ q) -ℤ (c +ℤ v))) → ((pos 0) -ℤ (n *ℤ d)) ≤ℤ ((pos 2) *ℤ ((d *ℤ (((n -ℤ k) *ℤ p) +ℤ (k *ℤ q))) -ℤ ((n *ℤ c) +ℤ (((n -ℤ k) *ℤ u) +ℤ (k *ℤ v)))))
moment_below n k d c u v p q hk hn hp hq = prove_le_by (n ∷ k ∷ d ∷ c ∷ u ∷ v ∷ p ∷ q ∷ []) (Le (Num (pos 0)) (Var 1) ∷ Le (Var 1) (Var 0) ∷ Le (Sub (Num (pos 0)) (Var 2)) (Mul (Num (pos 2)) (Sub (Mul (Var 2) (Var 6)) (Add (Var 3) (Var 4)))) ∷ Le (Sub (Num (pos 0)) (Var 2)) (Mul (Num (pos 2)) (Sub (Mul (Var 2) (Var 7)) (Add (Var 3) (Var 5)))) ∷ []) (Sub (Num (pos 0)) (Mul (Var 0) (Var 2))) (Mul (Num (pos 2)) (Sub (Mul (Var 2) (Add (Mul (Sub (Var 0) (Var 1)) (Var 6)) (Mul (Var 1) (Var 7)))) (Add (Mul (Var 0) (Var 3)) (Add (Mul (Sub (Var 0) (Var 1)) (Var 4)) (Mul (Var 1) (Var 5)))))) (Plus (Hyp 0) (Plus (Times (Hyp 2) (Hyp 3)) (Times (Hyp 1) (Hyp 4)))) 0 (hk, (hn, (hp, (hq, tt)))) refl

-- vars s e; hyp h1: 2*e <= s; hyp h2: 0 - s <= 2*e; goal 4*(e*e) <= s*s; mul h1 * h2
pub halves_square : (s e : ℤ) → ((pos 2) *ℤ e) ≤ℤ s → ((pos 0) -ℤ s) ≤ℤ ((pos 2) *ℤ e) → ((pos 4) *ℤ (e *ℤ e)) ≤ℤ (s *ℤ s)
halves_square s e h1 h2 = prove_le_by (s ∷ e ∷ []) (Le (Mul (Num (pos 2)) (Var 1)) (Var 0) ∷ Le (Sub (Num (pos 0)) (Var 0)) (Mul (Num (pos 2)) (Var 1)) ∷ []) (Mul (Num (pos 4)) (Mul (Var 1) (Var 1))) (Mul (Var 0) (Var 0)) (Plus (Hyp 0) (Times (Hyp 1) (Hyp 2))) 0 (h1, (h2, tt)) refl

-- vars f g s; hyp h1: 4*(f*f) <= s*s; hyp h2: 4*(g*g) <= s*s; goal (10000*f)*(10000*f) + (10000*g)*(10000*g) <= (7072*s)*(7072*s); square s
pub rounding_near : (f g s : ℤ) → ((pos 4) *ℤ (f *ℤ f)) ≤ℤ (s *ℤ s) → ((pos 4) *ℤ (g *ℤ g)) ≤ℤ (s *ℤ s) → ((((pos 10000) *ℤ f) *ℤ ((pos 10000) *ℤ f)) +ℤ (((pos 10000) *ℤ g) *ℤ ((pos 10000) *ℤ g))) ≤ℤ (((pos 7072) *ℤ s) *ℤ ((pos 7072) *ℤ s))
rounding_near f g s h1 h2 = prove_le_by (f ∷ g ∷ s ∷ []) (Le (Mul (Num (pos 4)) (Mul (Var 0) (Var 0))) (Mul (Var 2) (Var 2)) ∷ Le (Mul (Num (pos 4)) (Mul (Var 1) (Var 1))) (Mul (Var 2) (Var 2)) ∷ []) (Add (Mul (Mul (Num (pos 10000)) (Var 0)) (Mul (Num (pos 10000)) (Var 0))) (Mul (Mul (Num (pos 10000)) (Var 1)) (Mul (Num (pos 10000)) (Var 1)))) (Mul (Mul (Num (pos 7072)) (Var 2)) (Mul (Num (pos 7072)) (Var 2))) (Plus (Hyp 0) (Plus (Times (Lit 25000000) (Hyp 1)) (Plus (Times (Lit 25000000) (Hyp 2)) (Times (Lit 13184) (Sq (Var 2)))))) 0 (h1, (h2, tt)) refl

pub difference_is : (e t n c l x : ℤ) → ((pos 10000) *ℤ ((e *ℤ t) -ℤ (n *ℤ ((e *ℤ c) +ℤ x)))) ≡ ((e *ℤ ((pos 10000) *ℤ (t -ℤ ((n *ℤ c) +ℤ l)))) +ℤ ((pos 100) *ℤ ((pos 100) *ℤ ((e *ℤ l) -ℤ (n *ℤ x)))))
difference_is e t n c l x = ring (e ∷ t ∷ n ∷ c ∷ l ∷ x ∷ []) (Mul (Num (pos 10000)) (Sub (Mul (Var 0) (Var 1)) (Mul (Var 2) (Add (Mul (Var 0) (Var 3)) (Var 5))))) (Add (Mul (Var 0) (Mul (Num (pos 10000)) (Sub (Var 1) (Add (Mul (Var 2) (Var 3)) (Var 4))))) (Mul (Num (pos 100)) (Mul (Num (pos 100)) (Sub (Mul (Var 0) (Var 4)) (Mul (Var 2) (Var 5)))))) refl

pub ten_times : (d : ℤ) → ((pos 10000) *ℤ d) ≡ ((pos 1000) *ℤ ((pos 10) *ℤ d))
ten_times d = ring (d ∷ []) (Mul (Num (pos 10000)) (Var 0)) (Mul (Num (pos 1000)) (Mul (Num (pos 10)) (Var 0))) refl

pub hundred_square : (a b : ℤ) → ((((pos 10) *ℤ a) *ℤ ((pos 10) *ℤ a)) +ℤ (((pos 10) *ℤ b) *ℤ ((pos 10) *ℤ b))) ≡ ((pos 100) *ℤ ((a *ℤ a) +ℤ (b *ℤ b)))
hundred_square a b = ring (a ∷ b ∷ []) (Add (Mul (Mul (Num (pos 10)) (Var 0)) (Mul (Num (pos 10)) (Var 0))) (Mul (Mul (Num (pos 10)) (Var 1)) (Mul (Num (pos 10)) (Var 1)))) (Mul (Num (pos 100)) (Add (Mul (Var 0) (Var 0)) (Mul (Var 1) (Var 1)))) refl

pub chord_square : (u1 u2 v1 v2 j k : ℤ) → ((((j *ℤ u1) +ℤ (k *ℤ v1)) *ℤ ((j *ℤ u1) +ℤ (k *ℤ v1))) +ℤ (((j *ℤ u2) +ℤ (k *ℤ v2)) *ℤ ((j *ℤ u2) +ℤ (k *ℤ v2)))) ≡ ((((j *ℤ j) *ℤ ((u1 *ℤ u1) +ℤ (u2 *ℤ u2))) +ℤ ((k *ℤ k) *ℤ ((v1 *ℤ v1) +ℤ (v2 *ℤ v2)))) +ℤ ((pos 2) *ℤ ((j *ℤ k) *ℤ ((u1 *ℤ v1) +ℤ (u2 *ℤ v2)))))
chord_square u1 u2 v1 v2 j k = ring (u1 ∷ u2 ∷ v1 ∷ v2 ∷ j ∷ k ∷ []) (Add (Mul (Add (Mul (Var 4) (Var 0)) (Mul (Var 5) (Var 2))) (Add (Mul (Var 4) (Var 0)) (Mul (Var 5) (Var 2)))) (Mul (Add (Mul (Var 4) (Var 1)) (Mul (Var 5) (Var 3))) (Add (Mul (Var 4) (Var 1)) (Mul (Var 5) (Var 3))))) (Add (Add (Mul (Mul (Var 4) (Var 4)) (Add (Mul (Var 0) (Var 0)) (Mul (Var 1) (Var 1)))) (Mul (Mul (Var 5) (Var 5)) (Add (Mul (Var 2) (Var 2)) (Mul (Var 3) (Var 3))))) (Mul (Num (pos 2)) (Mul (Mul (Var 4) (Var 5)) (Add (Mul (Var 0) (Var 2)) (Mul (Var 1) (Var 3)))))) refl

-- vars n e m g y; hyp hg: (e*e)*(m*m) <= g; hyp hy: 0 <= y; hyp hm: y <= 100*m; goal ((n*e)*y)*((n*e)*y) <= (10000*(n*n))*g; mul hm * hy * sq(n*e); mul hm * hm * sq(n*e); mul hg * sq(100*n)
pub inner_scaled : (n e m g y : ℤ) → ((e *ℤ e) *ℤ (m *ℤ m)) ≤ℤ g → (pos 0) ≤ℤ y → y ≤ℤ ((pos 100) *ℤ m) → (((n *ℤ e) *ℤ y) *ℤ ((n *ℤ e) *ℤ y)) ≤ℤ (((pos 10000) *ℤ (n *ℤ n)) *ℤ g)
inner_scaled n e m g y hg hy hm = prove_le_by (n ∷ e ∷ m ∷ g ∷ y ∷ []) (Le (Mul (Mul (Var 1) (Var 1)) (Mul (Var 2) (Var 2))) (Var 3) ∷ Le (Num (pos 0)) (Var 4) ∷ Le (Var 4) (Mul (Num (pos 100)) (Var 2)) ∷ []) (Mul (Mul (Mul (Var 0) (Var 1)) (Var 4)) (Mul (Mul (Var 0) (Var 1)) (Var 4))) (Mul (Mul (Num (pos 10000)) (Mul (Var 0) (Var 0))) (Var 3)) (Plus (Hyp 0) (Plus (Times (Lit 2) (Times (Times (Hyp 3) (Hyp 2)) (Sq (Mul (Var 0) (Var 1))))) (Plus (Times (Times (Hyp 3) (Hyp 3)) (Sq (Mul (Var 0) (Var 1)))) (Times (Hyp 1) (Sq (Mul (Num (pos 100)) (Var 0))))))) 0 (hg, (hy, (hm, tt))) refl

-- vars n e h y; hyp hh: (n*n)*(y*y) <= 10000*h; goal ((n*e)*y)*((n*e)*y) <= (10000*(e*e))*h; mul hh * sq(e)
pub chord_scaled : (n e h y : ℤ) → ((n *ℤ n) *ℤ (y *ℤ y)) ≤ℤ ((pos 10000) *ℤ h) → (((n *ℤ e) *ℤ y) *ℤ ((n *ℤ e) *ℤ y)) ≤ℤ (((pos 10000) *ℤ (e *ℤ e)) *ℤ h)
chord_scaled n e h y hh = prove_le_by (n ∷ e ∷ h ∷ y ∷ []) (Le (Mul (Mul (Var 0) (Var 0)) (Mul (Var 3) (Var 3))) (Mul (Num (pos 10000)) (Var 2)) ∷ []) (Mul (Mul (Mul (Var 0) (Var 1)) (Var 3)) (Mul (Mul (Var 0) (Var 1)) (Var 3))) (Mul (Mul (Num (pos 10000)) (Mul (Var 1) (Var 1))) (Var 2)) (Plus (Hyp 0) (Times (Hyp 1) (Sq (Var 1)))) 0 (hh, tt) refl

-- vars n e z g; hyp hg: g <= (e*e)*(z*z); goal (10000*(n*n))*g <= ((n*e)*(100*z))*((n*e)*(100*z)); mul hg * sq(100*n)
pub outer_scaled : (n e z g : ℤ) → g ≤ℤ ((e *ℤ e) *ℤ (z *ℤ z)) → (((pos 10000) *ℤ (n *ℤ n)) *ℤ g) ≤ℤ (((n *ℤ e) *ℤ ((pos 100) *ℤ z)) *ℤ ((n *ℤ e) *ℤ ((pos 100) *ℤ z)))
outer_scaled n e z g hg = prove_le_by (n ∷ e ∷ z ∷ g ∷ []) (Le (Var 3) (Mul (Mul (Var 1) (Var 1)) (Mul (Var 2) (Var 2))) ∷ []) (Mul (Mul (Num (pos 10000)) (Mul (Var 0) (Var 0))) (Var 3)) (Mul (Mul (Mul (Var 0) (Var 1)) (Mul (Num (pos 100)) (Var 2))) (Mul (Mul (Var 0) (Var 1)) (Mul (Num (pos 100)) (Var 2)))) (Plus (Hyp 0) (Times (Hyp 1) (Sq (Mul (Num (pos 100)) (Var 0))))) 0 (hg, tt) refl

pub square_apart : (n e s : ℤ) → (((pos 10000) *ℤ ((n *ℤ e) *ℤ s)) *ℤ ((pos 10000) *ℤ ((n *ℤ e) *ℤ s))) ≡ (((pos 100000000) *ℤ ((n *ℤ e) *ℤ (n *ℤ e))) *ℤ (s *ℤ s))
square_apart n e s = ring (n ∷ e ∷ s ∷ []) (Mul (Mul (Num (pos 10000)) (Mul (Mul (Var 0) (Var 1)) (Var 2))) (Mul (Num (pos 10000)) (Mul (Mul (Var 0) (Var 1)) (Var 2)))) (Mul (Mul (Num (pos 100000000)) (Mul (Mul (Var 0) (Var 1)) (Mul (Var 0) (Var 1)))) (Mul (Var 2) (Var 2))) refl

pub product_apart : (n e g h : ℤ) → ((((pos 10000) *ℤ (n *ℤ n)) *ℤ g) *ℤ (((pos 10000) *ℤ (e *ℤ e)) *ℤ h)) ≡ (((pos 100000000) *ℤ ((n *ℤ e) *ℤ (n *ℤ e))) *ℤ (g *ℤ h))
product_apart n e g h = ring (n ∷ e ∷ g ∷ h ∷ []) (Mul (Mul (Mul (Num (pos 10000)) (Mul (Var 0) (Var 0))) (Var 2)) (Mul (Mul (Num (pos 10000)) (Mul (Var 1) (Var 1))) (Var 3))) (Mul (Mul (Num (pos 100000000)) (Mul (Mul (Var 0) (Var 1)) (Mul (Var 0) (Var 1)))) (Mul (Var 2) (Var 3))) refl

pub apart_square : (n e x1 x2 l1 l2 : ℤ) → (((((pos 10000) *ℤ (n *ℤ n)) *ℤ ((x1 *ℤ x1) +ℤ (x2 *ℤ x2))) +ℤ (((pos 10000) *ℤ (e *ℤ e)) *ℤ ((l1 *ℤ l1) +ℤ (l2 *ℤ l2)))) -ℤ ((pos 2) *ℤ ((pos 10000) *ℤ ((n *ℤ e) *ℤ ((l1 *ℤ x1) +ℤ (l2 *ℤ x2)))))) ≡ ((((pos 100) *ℤ ((e *ℤ l1) -ℤ (n *ℤ x1))) *ℤ ((pos 100) *ℤ ((e *ℤ l1) -ℤ (n *ℤ x1)))) +ℤ (((pos 100) *ℤ ((e *ℤ l2) -ℤ (n *ℤ x2))) *ℤ ((pos 100) *ℤ ((e *ℤ l2) -ℤ (n *ℤ x2)))))
apart_square n e x1 x2 l1 l2 = ring (n ∷ e ∷ x1 ∷ x2 ∷ l1 ∷ l2 ∷ []) (Sub (Add (Mul (Mul (Num (pos 10000)) (Mul (Var 0) (Var 0))) (Add (Mul (Var 2) (Var 2)) (Mul (Var 3) (Var 3)))) (Mul (Mul (Num (pos 10000)) (Mul (Var 1) (Var 1))) (Add (Mul (Var 4) (Var 4)) (Mul (Var 5) (Var 5))))) (Mul (Num (pos 2)) (Mul (Num (pos 10000)) (Mul (Mul (Var 0) (Var 1)) (Add (Mul (Var 4) (Var 2)) (Mul (Var 5) (Var 3))))))) (Add (Mul (Mul (Num (pos 100)) (Sub (Mul (Var 1) (Var 4)) (Mul (Var 0) (Var 2)))) (Mul (Num (pos 100)) (Sub (Mul (Var 1) (Var 4)) (Mul (Var 0) (Var 2))))) (Mul (Mul (Num (pos 100)) (Sub (Mul (Var 1) (Var 5)) (Mul (Var 0) (Var 3)))) (Mul (Num (pos 100)) (Sub (Mul (Var 1) (Var 5)) (Mul (Var 0) (Var 3)))))) refl

-- vars a b m d g; hyp hm: 1 <= m; hyp ha: m <= a; hyp hb: m <= b; hyp hd: a*b - d <= g; goal (m-1)*(m-1) - g <= d; mul ha * hb; mul ha * hm; mul hb * hm
pub product_least : (a b m d g : ℤ) → (pos 1) ≤ℤ m → m ≤ℤ a → m ≤ℤ b → ((a *ℤ b) -ℤ d) ≤ℤ g → (((m -ℤ (pos 1)) *ℤ (m -ℤ (pos 1))) -ℤ g) ≤ℤ d
product_least a b m d g hm ha hb hd = prove_le_by (a ∷ b ∷ m ∷ d ∷ g ∷ []) (Le (Num (pos 1)) (Var 2) ∷ Le (Var 2) (Var 0) ∷ Le (Var 2) (Var 1) ∷ Le (Sub (Mul (Var 0) (Var 1)) (Var 3)) (Var 4) ∷ []) (Sub (Mul (Sub (Var 2) (Num (pos 1))) (Sub (Var 2) (Num (pos 1)))) (Var 4)) (Var 3) (Plus (Hyp 0) (Plus (Times (Lit 2) (Hyp 1)) (Plus (Hyp 2) (Plus (Hyp 3) (Plus (Hyp 4) (Plus (Times (Hyp 2) (Hyp 3)) (Plus (Times (Hyp 2) (Hyp 1)) (Times (Hyp 3) (Hyp 1))))))))) 1 (hm, (ha, (hb, (hd, tt)))) refl

-- vars n a b; hyp hn: 0 <= n; hyp h: a <= b; goal n*a <= n*b; mul hn * h
pub room_order : (n a b : ℤ) → (pos 0) ≤ℤ n → a ≤ℤ b → (n *ℤ a) ≤ℤ (n *ℤ b)
room_order n a b hn h = prove_le_by (n ∷ a ∷ b ∷ []) (Le (Num (pos 0)) (Var 0) ∷ Le (Var 1) (Var 2) ∷ []) (Mul (Var 0) (Var 1)) (Mul (Var 0) (Var 2)) (Plus (Hyp 0) (Times (Hyp 1) (Hyp 2))) 0 (hn, (h, tt)) refl

pub across_same : (a x1 x2 : ℤ) → (((a *ℤ x1) *ℤ x2) -ℤ ((a *ℤ x2) *ℤ x1)) ≡ (pos 0)
across_same a x1 x2 = ring (a ∷ x1 ∷ x2 ∷ []) (Sub (Mul (Mul (Var 0) (Var 1)) (Var 2)) (Mul (Mul (Var 0) (Var 2)) (Var 1))) (Num (pos 0)) refl

pub onward_same : (a x1 x2 : ℤ) → (((a *ℤ x1) *ℤ x1) +ℤ ((a *ℤ x2) *ℤ x2)) ≡ (a *ℤ ((x1 *ℤ x1) +ℤ (x2 *ℤ x2)))
onward_same a x1 x2 = ring (a ∷ x1 ∷ x2 ∷ []) (Add (Mul (Mul (Var 0) (Var 1)) (Var 1)) (Mul (Mul (Var 0) (Var 2)) (Var 2))) (Mul (Var 0) (Add (Mul (Var 1) (Var 1)) (Mul (Var 2) (Var 2)))) refl

-- vars g h s; hyp hg: 0 <= g; hyp hs: 0 < s; hyp hh: s*s == g*h; goal 0 < h; mul goal * hg; mul hs+ * hs+; mul hs * hs
pub along_some : (g h s : ℤ) → (pos 0) ≤ℤ g → (pos 0) <ℤ s → (s *ℤ s) ≡ (g *ℤ h) → (pos 0) <ℤ h
along_some g h s hg hs hh = prove_lt_by (g ∷ h ∷ s ∷ []) (Le (Num (pos 0)) (Var 0) ∷ Lt (Num (pos 0)) (Var 2) ∷ Eq (Mul (Var 2) (Var 2)) (Mul (Var 0) (Var 1)) ∷ []) (Num (pos 0)) (Var 1) (Plus (Times (Lit 2) (Hyp 2)) (Plus (TimesEq 3 (Num (pos 1))) (Plus (Times (Hyp 0) (Hyp 1)) (Times (Hyp 2) (Hyp 2))))) 0 (hg, (hs, (hh, tt))) refl

-- vars n e a b; hyp hn: 0 < n; hyp he: 0 < e; hyp h: a <= b; goal (n*e)*a <= (n*e)*b; mul hn+ * he+ * h
pub room_least : (n e a b : ℤ) → (pos 0) <ℤ n → (pos 0) <ℤ e → a ≤ℤ b → ((n *ℤ e) *ℤ a) ≤ℤ ((n *ℤ e) *ℤ b)
room_least n e a b hn he h = prove_le_by (n ∷ e ∷ a ∷ b ∷ []) (Lt (Num (pos 0)) (Var 0) ∷ Lt (Num (pos 0)) (Var 1) ∷ Le (Var 2) (Var 3) ∷ []) (Mul (Mul (Var 0) (Var 1)) (Var 2)) (Mul (Mul (Var 0) (Var 1)) (Var 3)) (Plus (Hyp 0) (Times (Times (Plus (Hyp 1) (Lit 1)) (Plus (Hyp 2) (Lit 1))) (Hyp 3))) 0 (hn, (he, (h, tt))) refl

pub taken_room : (n e a y : ℤ) → (((n *ℤ e) *ℤ a) -ℤ ((n *ℤ e) *ℤ y)) ≡ ((n *ℤ e) *ℤ (a -ℤ y))
taken_room n e a y = ring (n ∷ e ∷ a ∷ y ∷ []) (Sub (Mul (Mul (Var 0) (Var 1)) (Var 2)) (Mul (Mul (Var 0) (Var 1)) (Var 3))) (Mul (Mul (Var 0) (Var 1)) (Sub (Var 2) (Var 3))) refl

-- vars n e k t d; hyp hn: 0 < n; hyp he: 0 < e; hyp hk: 1000 <= k; hyp hd: d == t*k; goal e*(7072*(n*k)) + 100*((n*e)*((100*d + 118*k) + 400)) <= 1000*(n*(e*(k*(10*t + 19)))); mul hn+ * he+ * hk; mul hn+ * he+; eqmul hd * (10000*(n*e))
pub moment_sum : (n e k t d : ℤ) → (pos 0) <ℤ n → (pos 0) <ℤ e → (pos 1000) ≤ℤ k → d ≡ (t *ℤ k) → ((e *ℤ ((pos 7072) *ℤ (n *ℤ k))) +ℤ ((pos 100) *ℤ ((n *ℤ e) *ℤ ((((pos 100) *ℤ d) +ℤ ((pos 118) *ℤ k)) +ℤ (pos 400))))) ≤ℤ ((pos 1000) *ℤ (n *ℤ (e *ℤ (k *ℤ (((pos 10) *ℤ t) +ℤ (pos 19))))))
moment_sum n e k t d hn he hk hd = prove_le_by (n ∷ e ∷ k ∷ t ∷ d ∷ []) (Lt (Num (pos 0)) (Var 0) ∷ Lt (Num (pos 0)) (Var 1) ∷ Le (Num (pos 1000)) (Var 2) ∷ Eq (Var 4) (Mul (Var 3) (Var 2)) ∷ []) (Add (Mul (Var 1) (Mul (Num (pos 7072)) (Mul (Var 0) (Var 2)))) (Mul (Num (pos 100)) (Mul (Mul (Var 0) (Var 1)) (Add (Add (Mul (Num (pos 100)) (Var 4)) (Mul (Num (pos 118)) (Var 2))) (Num (pos 400)))))) (Mul (Num (pos 1000)) (Mul (Var 0) (Mul (Var 1) (Mul (Var 2) (Add (Mul (Num (pos 10)) (Var 3)) (Num (pos 19))))))) (Plus (Hyp 0) (Plus (Times (Lit 128) (Times (Times (Plus (Hyp 1) (Lit 1)) (Plus (Hyp 2) (Lit 1))) (Hyp 3))) (Plus (Times (Lit 88000) (Times (Plus (Hyp 1) (Lit 1)) (Plus (Hyp 2) (Lit 1)))) (TimesEq 4 (Mul (Num (pos 10000)) (Mul (Var 0) (Var 1))))))) 0 (hn, (he, (hk, (hd, tt)))) refl

-- vars n e k t d; hyp hn: 0 < n; hyp he: 0 < e; hyp hk: 1000 <= k; hyp hd: d == t*k; goal e*(7072*(n*k)) + 100*(n*(e*((100*d + 124*k) + 300))) <= 10*((n*e)*(k*(1000*t + 1951))); mul hn+ * he+ * hk; mul hn+ * he+; eqmul hd * (10000*(n*e))
pub helix_sum : (n e k t d : ℤ) → (pos 0) <ℤ n → (pos 0) <ℤ e → (pos 1000) ≤ℤ k → d ≡ (t *ℤ k) → ((e *ℤ ((pos 7072) *ℤ (n *ℤ k))) +ℤ ((pos 100) *ℤ (n *ℤ (e *ℤ ((((pos 100) *ℤ d) +ℤ ((pos 124) *ℤ k)) +ℤ (pos 300)))))) ≤ℤ ((pos 10) *ℤ ((n *ℤ e) *ℤ (k *ℤ (((pos 1000) *ℤ t) +ℤ (pos 1951)))))
helix_sum n e k t d hn he hk hd = prove_le_by (n ∷ e ∷ k ∷ t ∷ d ∷ []) (Lt (Num (pos 0)) (Var 0) ∷ Lt (Num (pos 0)) (Var 1) ∷ Le (Num (pos 1000)) (Var 2) ∷ Eq (Var 4) (Mul (Var 3) (Var 2)) ∷ []) (Add (Mul (Var 1) (Mul (Num (pos 7072)) (Mul (Var 0) (Var 2)))) (Mul (Num (pos 100)) (Mul (Var 0) (Mul (Var 1) (Add (Add (Mul (Num (pos 100)) (Var 4)) (Mul (Num (pos 124)) (Var 2))) (Num (pos 300))))))) (Mul (Num (pos 10)) (Mul (Mul (Var 0) (Var 1)) (Mul (Var 2) (Add (Mul (Num (pos 1000)) (Var 3)) (Num (pos 1951)))))) (Plus (Hyp 0) (Plus (Times (Lit 38) (Times (Times (Plus (Hyp 1) (Lit 1)) (Plus (Hyp 2) (Lit 1))) (Hyp 3))) (Plus (Times (Lit 8000) (Times (Plus (Hyp 1) (Lit 1)) (Plus (Hyp 2) (Lit 1)))) (TimesEq 4 (Mul (Num (pos 10000)) (Mul (Var 0) (Var 1))))))) 0 (hn, (he, (hk, (hd, tt)))) refl

-- vars n e k p h; hyp hh: 4*((k*p-h)*(k*p-h)) <= k*k; goal 4*((e*(n*(k*p)) - n*(e*h))*(e*(n*(k*p)) - n*(e*h))) <= (n*(e*k))*(n*(e*k)); mul hh * sq(n*e)
pub height_near : (n e k p h : ℤ) → ((pos 4) *ℤ (((k *ℤ p) -ℤ h) *ℤ ((k *ℤ p) -ℤ h))) ≤ℤ (k *ℤ k) → ((pos 4) *ℤ (((e *ℤ (n *ℤ (k *ℤ p))) -ℤ (n *ℤ (e *ℤ h))) *ℤ ((e *ℤ (n *ℤ (k *ℤ p))) -ℤ (n *ℤ (e *ℤ h))))) ≤ℤ ((n *ℤ (e *ℤ k)) *ℤ (n *ℤ (e *ℤ k)))
height_near n e k p h hh = prove_le_by (n ∷ e ∷ k ∷ p ∷ h ∷ []) (Le (Mul (Num (pos 4)) (Mul (Sub (Mul (Var 2) (Var 3)) (Var 4)) (Sub (Mul (Var 2) (Var 3)) (Var 4)))) (Mul (Var 2) (Var 2)) ∷ []) (Mul (Num (pos 4)) (Mul (Sub (Mul (Var 1) (Mul (Var 0) (Mul (Var 2) (Var 3)))) (Mul (Var 0) (Mul (Var 1) (Var 4)))) (Sub (Mul (Var 1) (Mul (Var 0) (Mul (Var 2) (Var 3)))) (Mul (Var 0) (Mul (Var 1) (Var 4)))))) (Mul (Mul (Var 0) (Mul (Var 1) (Var 2))) (Mul (Var 0) (Mul (Var 1) (Var 2)))) (Plus (Hyp 0) (Times (Hyp 1) (Sq (Mul (Var 0) (Var 1))))) 0 (hh, tt) refl

pub hundreds_square : (a b : ℤ) → ((pos 10000) *ℤ ((a *ℤ a) +ℤ (b *ℤ b))) ≡ ((((pos 100) *ℤ a) *ℤ ((pos 100) *ℤ a)) +ℤ (((pos 100) *ℤ b) *ℤ ((pos 100) *ℤ b)))
hundreds_square a b = ring (a ∷ b ∷ []) (Mul (Num (pos 10000)) (Add (Mul (Var 0) (Var 0)) (Mul (Var 1) (Var 1)))) (Add (Mul (Mul (Num (pos 100)) (Var 0)) (Mul (Num (pos 100)) (Var 0))) (Mul (Mul (Num (pos 100)) (Var 1)) (Mul (Num (pos 100)) (Var 1)))) refl

pub thousand_times : (d : ℤ) → ((pos 10000) *ℤ d) ≡ ((pos 10) *ℤ ((pos 1000) *ℤ d))
thousand_times d = ring (d ∷ []) (Mul (Num (pos 10000)) (Var 0)) (Mul (Num (pos 10)) (Mul (Num (pos 1000)) (Var 0))) refl

pub helix_reach : (n e k t : ℤ) → ((n *ℤ e) *ℤ (k *ℤ (((pos 1000) *ℤ t) +ℤ (pos 2000)))) ≡ ((pos 100) *ℤ (n *ℤ (e *ℤ (k *ℤ (((pos 10) *ℤ t) +ℤ (pos 20))))))
helix_reach n e k t = ring (n ∷ e ∷ k ∷ t ∷ []) (Mul (Mul (Var 0) (Var 1)) (Mul (Var 2) (Add (Mul (Num (pos 1000)) (Var 3)) (Num (pos 2000))))) (Mul (Num (pos 100)) (Mul (Var 0) (Mul (Var 1) (Mul (Var 2) (Add (Mul (Num (pos 10)) (Var 3)) (Num (pos 20))))))) refl

pub helix_height : (n e k : ℤ) → ((n *ℤ (e *ℤ k)) *ℤ (n *ℤ (e *ℤ k))) ≡ (((n *ℤ e) *ℤ k) *ℤ ((n *ℤ e) *ℤ k))
helix_height n e k = ring (n ∷ e ∷ k ∷ []) (Mul (Mul (Var 0) (Mul (Var 1) (Var 2))) (Mul (Var 0) (Mul (Var 1) (Var 2)))) (Mul (Mul (Mul (Var 0) (Var 1)) (Var 2)) (Mul (Mul (Var 0) (Var 1)) (Var 2))) refl

-- vars x y h r s b; hyp hp: (1000*x)*(1000*x) + (1000*y)*(1000*y) <= r*r; hyp hh: 4*(h*h) <= s*s; hyp ht: r*r + 250000*(s*s) <= (100*b)*(100*b); goal 100*((x*x+y*y)+h*h) <= b*b
pub helix_last : (x y h r s b : ℤ) → ((((pos 1000) *ℤ x) *ℤ ((pos 1000) *ℤ x)) +ℤ (((pos 1000) *ℤ y) *ℤ ((pos 1000) *ℤ y))) ≤ℤ (r *ℤ r) → ((pos 4) *ℤ (h *ℤ h)) ≤ℤ (s *ℤ s) → ((r *ℤ r) +ℤ ((pos 250000) *ℤ (s *ℤ s))) ≤ℤ (((pos 100) *ℤ b) *ℤ ((pos 100) *ℤ b)) → ((pos 100) *ℤ (((x *ℤ x) +ℤ (y *ℤ y)) +ℤ (h *ℤ h))) ≤ℤ (b *ℤ b)
helix_last x y h r s b hp hh ht = prove_le_by (x ∷ y ∷ h ∷ r ∷ s ∷ b ∷ []) (Le (Add (Mul (Mul (Num (pos 1000)) (Var 0)) (Mul (Num (pos 1000)) (Var 0))) (Mul (Mul (Num (pos 1000)) (Var 1)) (Mul (Num (pos 1000)) (Var 1)))) (Mul (Var 3) (Var 3)) ∷ Le (Mul (Num (pos 4)) (Mul (Var 2) (Var 2))) (Mul (Var 4) (Var 4)) ∷ Le (Add (Mul (Var 3) (Var 3)) (Mul (Num (pos 250000)) (Mul (Var 4) (Var 4)))) (Mul (Mul (Num (pos 100)) (Var 5)) (Mul (Num (pos 100)) (Var 5))) ∷ []) (Mul (Num (pos 100)) (Add (Add (Mul (Var 0) (Var 0)) (Mul (Var 1) (Var 1))) (Mul (Var 2) (Var 2)))) (Mul (Var 5) (Var 5)) (Plus (Times (Lit 10000) (Hyp 0)) (Plus (Hyp 1) (Plus (Times (Lit 250000) (Hyp 2)) (Hyp 3)))) 9999 (hp, (hh, (ht, tt))) refl
