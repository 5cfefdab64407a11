-- Polynomial facts behind the signs of products in a turn.
-- Written by tools/certificates.py from tools/certificates/mill_arc_signs.spec.
use Rattle.std.proofs.Common.{◌≡◌, [], ◌∷◌, refl}
use lib.IntN.{ℤ, pos, negsuc, ◌+ℤ◌, ◌-ℤ◌, ◌*ℤ◌}
use lib.Signed.{◌<ℤ◌, ◌≤ℤ◌}
use Rattle.mill_base.proofs.Ring.{Var, Num, Add, Sub, Mul, Neg}
use Rattle.mill_base.proofs.Cert.{Le, Lt, Eq, Hyp, TimesEq, Lit, Plus, Times, prove_le_by, prove_lt_by}

-- vars f g n a b c; hyp hf: 0 < f; hyp hg: 0 < g; hyp hn: n == 0; hyp ha: 0 < a; hyp hh: f*c + g*a == n*b; goal c < 0; mul goal * hf+; mul goal * hg+; mul hf+ * hg+; mul goal * hf; mul goal * hg; mul goal * hn+; mul goal * hn; mul hf * hg; mul hg+ * ha+; mul hg * ha; mul hg+ * ha; eqmul hn * (b)
pub half_c_low : (f g n a b c : ℤ) → (pos 0) <ℤ f → (pos 0) <ℤ g → n ≡ (pos 0) → (pos 0) <ℤ a → ((f *ℤ c) +ℤ (g *ℤ a)) ≡ (n *ℤ b) → c <ℤ (pos 0)
half_c_low f g n a b c hf hg hn ha hh = prove_lt_by (f ∷ g ∷ n ∷ a ∷ b ∷ c ∷ []) (Lt (Num (pos 0)) (Var 0) ∷ Lt (Num (pos 0)) (Var 1) ∷ Eq (Var 2) (Num (pos 0)) ∷ Lt (Num (pos 0)) (Var 3) ∷ Eq (Add (Mul (Var 0) (Var 5)) (Mul (Var 1) (Var 3))) (Mul (Var 2) (Var 4)) ∷ []) (Var 5) (Num (pos 0)) (Plus (Hyp 2) (Plus (Hyp 4) (Plus (TimesEq 5 (Num (pos 1))) (Plus (Times (Hyp 0) (Plus (Hyp 1) (Lit 1))) (Plus (Times (Hyp 2) (Hyp 4)) (TimesEq 3 (Var 4))))))) 0 (hf, (hg, (hn, (ha, (hh, tt))))) refl

-- vars f g n a b c; hyp hf: 0 < f; hyp hg: 0 < g; hyp hn: n == 0; hyp ha: a < 0; hyp hh: f*c + g*a == n*b; goal 0 < c; mul goal * hf+; mul goal * hg+; mul hf+ * hg+; mul goal * hf; mul goal * hg; mul goal * hn+; mul goal * hn; mul hf * hg; mul hg+ * ha+; mul hg * ha; mul hg+ * ha; eqmul hn * (b)
pub half_c_high : (f g n a b c : ℤ) → (pos 0) <ℤ f → (pos 0) <ℤ g → n ≡ (pos 0) → a <ℤ (pos 0) → ((f *ℤ c) +ℤ (g *ℤ a)) ≡ (n *ℤ b) → (pos 0) <ℤ c
half_c_high f g n a b c hf hg hn ha hh = prove_lt_by (f ∷ g ∷ n ∷ a ∷ b ∷ c ∷ []) (Lt (Num (pos 0)) (Var 0) ∷ Lt (Num (pos 0)) (Var 1) ∷ Eq (Var 2) (Num (pos 0)) ∷ Lt (Var 3) (Num (pos 0)) ∷ Eq (Add (Mul (Var 0) (Var 5)) (Mul (Var 1) (Var 3))) (Mul (Var 2) (Var 4)) ∷ []) (Num (pos 0)) (Var 5) (Plus (Hyp 0) (Plus (Hyp 2) (Plus (Hyp 4) (Plus (TimesEq 5 (Num (negsuc 0))) (Plus (Times (Hyp 0) (Hyp 1)) (Plus (Times (Hyp 2) (Hyp 4)) (TimesEq 3 (Neg (Var 4))))))))) 0 (hf, (hg, (hn, (ha, (hh, tt))))) refl

-- vars f g n a b c; hyp hf: 0 < f; hyp hg: 0 < g; hyp hn: n == 0; hyp ha: a == 0; hyp hh: f*c + g*a == n*b; goal c <= 0; mul goal * hf+; mul goal * hg+; mul hf+ * hg+; mul goal * hf; mul goal * hg; mul goal * hn+; mul goal * hn; mul hf * hg; eqmul ha * (g); eqmul hn * (b)
pub half_c_none : (f g n a b c : ℤ) → (pos 0) <ℤ f → (pos 0) <ℤ g → n ≡ (pos 0) → a ≡ (pos 0) → ((f *ℤ c) +ℤ (g *ℤ a)) ≡ (n *ℤ b) → c ≤ℤ (pos 0)
half_c_none f g n a b c hf hg hn ha hh = prove_le_by (f ∷ g ∷ n ∷ a ∷ b ∷ c ∷ []) (Lt (Num (pos 0)) (Var 0) ∷ Lt (Num (pos 0)) (Var 1) ∷ Eq (Var 2) (Num (pos 0)) ∷ Eq (Var 3) (Num (pos 0)) ∷ Eq (Add (Mul (Var 0) (Var 5)) (Mul (Var 1) (Var 3))) (Mul (Var 2) (Var 4)) ∷ []) (Var 5) (Num (pos 0)) (Plus (Hyp 1) (Plus (TimesEq 5 (Num (pos 1))) (Plus (Times (Hyp 0) (Plus (Hyp 1) (Lit 1))) (Plus (TimesEq 4 (Neg (Var 1))) (TimesEq 3 (Var 4)))))) 0 (hf, (hg, (hn, (ha, (hh, tt))))) refl

-- vars p f r a b o; hyp hp: 0 < p; hyp hf: 0 < f; hyp ha: a == 0; hyp ho: o < 0; hyp hh: p*b == r*a - f*o; goal 0 < b; mul goal * hp+; mul hf+ * ho+; mul hf * ho; mul hf+ * ho; eqmul ha * (r)
pub b_high : (p f r a b o : ℤ) → (pos 0) <ℤ p → (pos 0) <ℤ f → a ≡ (pos 0) → o <ℤ (pos 0) → (p *ℤ b) ≡ ((r *ℤ a) -ℤ (f *ℤ o)) → (pos 0) <ℤ b
b_high p f r a b o hp hf ha ho hh = prove_lt_by (p ∷ f ∷ r ∷ a ∷ b ∷ o ∷ []) (Lt (Num (pos 0)) (Var 0) ∷ Lt (Num (pos 0)) (Var 1) ∷ Eq (Var 3) (Num (pos 0)) ∷ Lt (Var 5) (Num (pos 0)) ∷ Eq (Mul (Var 0) (Var 4)) (Sub (Mul (Var 2) (Var 3)) (Mul (Var 1) (Var 5))) ∷ []) (Num (pos 0)) (Var 4) (Plus (Hyp 2) (Plus (Hyp 4) (Plus (TimesEq 5 (Num (negsuc 0))) (Plus (Times (Hyp 0) (Plus (Hyp 1) (Lit 1))) (Plus (Times (Hyp 2) (Hyp 4)) (TimesEq 3 (Neg (Var 2)))))))) 0 (hp, (hf, (ha, (ho, (hh, tt))))) refl

-- vars p f r a b o; hyp hp: 0 < p; hyp hf: 0 < f; hyp ha: a == 0; hyp ho: 0 < o; hyp hh: p*b == r*a - f*o; goal b < 0; mul goal * hp+; mul hf+ * ho+; mul hf * ho; mul hf+ * ho; eqmul ha * (r)
pub b_low : (p f r a b o : ℤ) → (pos 0) <ℤ p → (pos 0) <ℤ f → a ≡ (pos 0) → (pos 0) <ℤ o → (p *ℤ b) ≡ ((r *ℤ a) -ℤ (f *ℤ o)) → b <ℤ (pos 0)
b_low p f r a b o hp hf ha ho hh = prove_lt_by (p ∷ f ∷ r ∷ a ∷ b ∷ o ∷ []) (Lt (Num (pos 0)) (Var 0) ∷ Lt (Num (pos 0)) (Var 1) ∷ Eq (Var 3) (Num (pos 0)) ∷ Lt (Num (pos 0)) (Var 5) ∷ Eq (Mul (Var 0) (Var 4)) (Sub (Mul (Var 2) (Var 3)) (Mul (Var 1) (Var 5))) ∷ []) (Var 4) (Num (pos 0)) (Plus (Hyp 2) (Plus (Hyp 4) (Plus (TimesEq 5 (Num (pos 1))) (Plus (Times (Hyp 0) (Plus (Hyp 1) (Lit 1))) (Plus (Times (Hyp 2) (Hyp 4)) (TimesEq 3 (Var 2))))))) 0 (hp, (hf, (ha, (ho, (hh, tt))))) refl

-- vars p d n a c o; hyp hp: 0 < p; hyp hd: 0 < d; hyp hn: n == 0; hyp ha: 0 < a; hyp hh: p*c == d*a - n*o; goal 0 < c; mul goal * hp+; mul hd+ * ha+; mul hd * ha; mul hd+ * ha; eqmul hn * (o)
pub along_high : (p d n a c o : ℤ) → (pos 0) <ℤ p → (pos 0) <ℤ d → n ≡ (pos 0) → (pos 0) <ℤ a → (p *ℤ c) ≡ ((d *ℤ a) -ℤ (n *ℤ o)) → (pos 0) <ℤ c
along_high p d n a c o hp hd hn ha hh = prove_lt_by (p ∷ d ∷ n ∷ a ∷ c ∷ o ∷ []) (Lt (Num (pos 0)) (Var 0) ∷ Lt (Num (pos 0)) (Var 1) ∷ Eq (Var 2) (Num (pos 0)) ∷ Lt (Num (pos 0)) (Var 3) ∷ Eq (Mul (Var 0) (Var 4)) (Sub (Mul (Var 1) (Var 3)) (Mul (Var 2) (Var 5))) ∷ []) (Num (pos 0)) (Var 4) (Plus (Hyp 2) (Plus (Hyp 4) (Plus (TimesEq 5 (Num (negsuc 0))) (Plus (Times (Hyp 0) (Plus (Hyp 1) (Lit 1))) (Plus (Times (Hyp 2) (Hyp 4)) (TimesEq 3 (Var 5))))))) 0 (hp, (hd, (hn, (ha, (hh, tt))))) refl

-- vars p d n a c o; hyp hp: 0 < p; hyp hd: 0 < d; hyp hn: n == 0; hyp ha: a <= 0; hyp hh: p*c == d*a - n*o; goal c <= 0; mul goal * hp+; mul goal * hp; mul hd+ * ha; eqmul hn * (o)
pub along_low : (p d n a c o : ℤ) → (pos 0) <ℤ p → (pos 0) <ℤ d → n ≡ (pos 0) → a ≤ℤ (pos 0) → (p *ℤ c) ≡ ((d *ℤ a) -ℤ (n *ℤ o)) → c ≤ℤ (pos 0)
along_low p d n a c o hp hd hn ha hh = prove_le_by (p ∷ d ∷ n ∷ a ∷ c ∷ o ∷ []) (Lt (Num (pos 0)) (Var 0) ∷ Lt (Num (pos 0)) (Var 1) ∷ Eq (Var 2) (Num (pos 0)) ∷ Le (Var 3) (Num (pos 0)) ∷ Eq (Mul (Var 0) (Var 4)) (Sub (Mul (Var 1) (Var 3)) (Mul (Var 2) (Var 5))) ∷ []) (Var 4) (Num (pos 0)) (Plus (Hyp 1) (Plus (TimesEq 5 (Num (pos 1))) (Plus (Times (Hyp 0) (Plus (Hyp 1) (Lit 1))) (Plus (Times (Plus (Hyp 2) (Lit 1)) (Hyp 4)) (TimesEq 3 (Neg (Var 5))))))) 0 (hp, (hd, (hn, (ha, (hh, tt))))) refl

-- vars p d n f g r; hyp hp: 0 < p; hyp hd: 0 < d; hyp hn: n == 0; hyp hf: 0 < f; hyp hh: p*g == r*n - f*d; goal g < 0; mul goal * hp+; mul hd+ * hf+; mul hd * hf; mul hd+ * hf; eqmul hn * (r)
pub second_low_side : (p d n f g r : ℤ) → (pos 0) <ℤ p → (pos 0) <ℤ d → n ≡ (pos 0) → (pos 0) <ℤ f → (p *ℤ g) ≡ ((r *ℤ n) -ℤ (f *ℤ d)) → g <ℤ (pos 0)
second_low_side p d n f g r hp hd hn hf hh = prove_lt_by (p ∷ d ∷ n ∷ f ∷ g ∷ r ∷ []) (Lt (Num (pos 0)) (Var 0) ∷ Lt (Num (pos 0)) (Var 1) ∷ Eq (Var 2) (Num (pos 0)) ∷ Lt (Num (pos 0)) (Var 3) ∷ Eq (Mul (Var 0) (Var 4)) (Sub (Mul (Var 5) (Var 2)) (Mul (Var 3) (Var 1))) ∷ []) (Var 4) (Num (pos 0)) (Plus (Hyp 2) (Plus (Hyp 4) (Plus (TimesEq 5 (Num (pos 1))) (Plus (Times (Hyp 0) (Plus (Hyp 1) (Lit 1))) (Plus (Times (Hyp 2) (Hyp 4)) (TimesEq 3 (Var 5))))))) 0 (hp, (hd, (hn, (hf, (hh, tt))))) refl

-- vars p d n f g r; hyp hp: 0 < p; hyp hd: 0 < d; hyp hn: n == 0; hyp hf: f < 0; hyp hh: p*g == r*n - f*d; goal 0 < g; mul goal * hp+; mul hd+ * hf+; mul hd * hf; mul hd+ * hf; eqmul hn * (r)
pub second_high_side : (p d n f g r : ℤ) → (pos 0) <ℤ p → (pos 0) <ℤ d → n ≡ (pos 0) → f <ℤ (pos 0) → (p *ℤ g) ≡ ((r *ℤ n) -ℤ (f *ℤ d)) → (pos 0) <ℤ g
second_high_side p d n f g r hp hd hn hf hh = prove_lt_by (p ∷ d ∷ n ∷ f ∷ g ∷ r ∷ []) (Lt (Num (pos 0)) (Var 0) ∷ Lt (Num (pos 0)) (Var 1) ∷ Eq (Var 2) (Num (pos 0)) ∷ Lt (Var 3) (Num (pos 0)) ∷ Eq (Mul (Var 0) (Var 4)) (Sub (Mul (Var 5) (Var 2)) (Mul (Var 3) (Var 1))) ∷ []) (Num (pos 0)) (Var 4) (Plus (Hyp 2) (Plus (Hyp 4) (Plus (TimesEq 5 (Num (negsuc 0))) (Plus (Times (Hyp 0) (Plus (Hyp 1) (Lit 1))) (Plus (Times (Hyp 2) (Hyp 4)) (TimesEq 3 (Neg (Var 5)))))))) 0 (hp, (hd, (hn, (hf, (hh, tt))))) refl

-- vars p d n f g r; hyp hp: 0 < p; hyp hn: n == 0; hyp hf: f == 0; hyp hh: p*g == r*n - f*d; goal g <= 0; mul goal * hp+; mul goal * hp; eqmul hn * (r); eqmul hf * (d)
pub second_none_most : (p d n f g r : ℤ) → (pos 0) <ℤ p → n ≡ (pos 0) → f ≡ (pos 0) → (p *ℤ g) ≡ ((r *ℤ n) -ℤ (f *ℤ d)) → g ≤ℤ (pos 0)
second_none_most p d n f g r hp hn hf hh = prove_le_by (p ∷ d ∷ n ∷ f ∷ g ∷ r ∷ []) (Lt (Num (pos 0)) (Var 0) ∷ Eq (Var 2) (Num (pos 0)) ∷ Eq (Var 3) (Num (pos 0)) ∷ Eq (Mul (Var 0) (Var 4)) (Sub (Mul (Var 5) (Var 2)) (Mul (Var 3) (Var 1))) ∷ []) (Var 4) (Num (pos 0)) (Plus (Hyp 1) (Plus (TimesEq 4 (Num (pos 1))) (Plus (Times (Hyp 0) (Plus (Hyp 1) (Lit 1))) (Plus (TimesEq 2 (Var 5)) (TimesEq 3 (Neg (Var 1))))))) 0 (hp, (hn, (hf, (hh, tt)))) refl

-- vars p d n f g r; hyp hp: 0 < p; hyp hn: n == 0; hyp hf: f == 0; hyp hh: p*g == r*n - f*d; goal 0 <= g; mul goal * hp+; mul goal * hp; eqmul hn * (r); eqmul hf * (d)
pub second_none_least : (p d n f g r : ℤ) → (pos 0) <ℤ p → n ≡ (pos 0) → f ≡ (pos 0) → (p *ℤ g) ≡ ((r *ℤ n) -ℤ (f *ℤ d)) → (pos 0) ≤ℤ g
second_none_least p d n f g r hp hn hf hh = prove_le_by (p ∷ d ∷ n ∷ f ∷ g ∷ r ∷ []) (Lt (Num (pos 0)) (Var 0) ∷ Eq (Var 2) (Num (pos 0)) ∷ Eq (Var 3) (Num (pos 0)) ∷ Eq (Mul (Var 0) (Var 4)) (Sub (Mul (Var 5) (Var 2)) (Mul (Var 3) (Var 1))) ∷ []) (Num (pos 0)) (Var 4) (Plus (Hyp 1) (Plus (TimesEq 4 (Num (negsuc 0))) (Plus (Times (Hyp 0) (Plus (Hyp 1) (Lit 1))) (Plus (TimesEq 2 (Neg (Var 5))) (TimesEq 3 (Var 1)))))) 0 (hp, (hn, (hf, (hh, tt)))) refl

-- vars p f r a l o; hyp hp: 0 < p; hyp hr: r < 0; hyp hf: f == 0; hyp ho: o < 0; hyp hh: p*l == r*o + f*a; goal 0 < l; mul goal * hp+; mul hr+ * ho+; mul hr * ho; mul hr+ * ho; eqmul hf * (a)
pub back_high : (p f r a l o : ℤ) → (pos 0) <ℤ p → r <ℤ (pos 0) → f ≡ (pos 0) → o <ℤ (pos 0) → (p *ℤ l) ≡ ((r *ℤ o) +ℤ (f *ℤ a)) → (pos 0) <ℤ l
back_high p f r a l o hp hr hf ho hh = prove_lt_by (p ∷ f ∷ r ∷ a ∷ l ∷ o ∷ []) (Lt (Num (pos 0)) (Var 0) ∷ Lt (Var 2) (Num (pos 0)) ∷ Eq (Var 1) (Num (pos 0)) ∷ Lt (Var 5) (Num (pos 0)) ∷ Eq (Mul (Var 0) (Var 4)) (Add (Mul (Var 2) (Var 5)) (Mul (Var 1) (Var 3))) ∷ []) (Num (pos 0)) (Var 4) (Plus (Hyp 2) (Plus (Hyp 4) (Plus (TimesEq 5 (Num (negsuc 0))) (Plus (Times (Hyp 0) (Plus (Hyp 1) (Lit 1))) (Plus (Times (Hyp 2) (Hyp 4)) (TimesEq 3 (Neg (Var 3)))))))) 0 (hp, (hr, (hf, (ho, (hh, tt))))) refl

-- vars p f r a l o; hyp hp: 0 < p; hyp hr: r < 0; hyp hf: f == 0; hyp ho: 0 < o; hyp hh: p*l == r*o + f*a; goal l < 0; mul goal * hp+; mul hr+ * ho+; mul hr * ho; mul hr+ * ho; eqmul hf * (a)
pub back_low : (p f r a l o : ℤ) → (pos 0) <ℤ p → r <ℤ (pos 0) → f ≡ (pos 0) → (pos 0) <ℤ o → (p *ℤ l) ≡ ((r *ℤ o) +ℤ (f *ℤ a)) → l <ℤ (pos 0)
back_low p f r a l o hp hr hf ho hh = prove_lt_by (p ∷ f ∷ r ∷ a ∷ l ∷ o ∷ []) (Lt (Num (pos 0)) (Var 0) ∷ Lt (Var 2) (Num (pos 0)) ∷ Eq (Var 1) (Num (pos 0)) ∷ Lt (Num (pos 0)) (Var 5) ∷ Eq (Mul (Var 0) (Var 4)) (Add (Mul (Var 2) (Var 5)) (Mul (Var 1) (Var 3))) ∷ []) (Var 4) (Num (pos 0)) (Plus (Hyp 2) (Plus (Hyp 4) (Plus (TimesEq 5 (Num (pos 1))) (Plus (Times (Hyp 0) (Plus (Hyp 1) (Lit 1))) (Plus (Times (Hyp 2) (Hyp 4)) (TimesEq 3 (Var 3))))))) 0 (hp, (hr, (hf, (ho, (hh, tt))))) refl

-- vars p f r a b o; hyp hp: 0 < p; hyp hr: r < 0; hyp hf: f == 0; hyp ha: 0 < a; hyp hh: p*b == r*a - f*o; goal b < 0; mul goal * hp+; mul hr+ * ha+; mul hr * ha; mul hr+ * ha; eqmul hf * (o)
pub line_low : (p f r a b o : ℤ) → (pos 0) <ℤ p → r <ℤ (pos 0) → f ≡ (pos 0) → (pos 0) <ℤ a → (p *ℤ b) ≡ ((r *ℤ a) -ℤ (f *ℤ o)) → b <ℤ (pos 0)
line_low p f r a b o hp hr hf ha hh = prove_lt_by (p ∷ f ∷ r ∷ a ∷ b ∷ o ∷ []) (Lt (Num (pos 0)) (Var 0) ∷ Lt (Var 2) (Num (pos 0)) ∷ Eq (Var 1) (Num (pos 0)) ∷ Lt (Num (pos 0)) (Var 3) ∷ Eq (Mul (Var 0) (Var 4)) (Sub (Mul (Var 2) (Var 3)) (Mul (Var 1) (Var 5))) ∷ []) (Var 4) (Num (pos 0)) (Plus (Hyp 2) (Plus (Hyp 4) (Plus (TimesEq 5 (Num (pos 1))) (Plus (Times (Hyp 0) (Plus (Hyp 1) (Lit 1))) (Plus (Times (Hyp 2) (Hyp 4)) (TimesEq 3 (Neg (Var 5)))))))) 0 (hp, (hr, (hf, (ha, (hh, tt))))) refl

-- vars p f r a b o; hyp hp: 0 < p; hyp hr: r < 0; hyp hf: f == 0; hyp ha: a < 0; hyp hh: p*b == r*a - f*o; goal 0 < b; mul goal * hp+; mul hr+ * ha+; mul hr * ha; mul hr+ * ha; eqmul hf * (o)
pub line_high : (p f r a b o : ℤ) → (pos 0) <ℤ p → r <ℤ (pos 0) → f ≡ (pos 0) → a <ℤ (pos 0) → (p *ℤ b) ≡ ((r *ℤ a) -ℤ (f *ℤ o)) → (pos 0) <ℤ b
line_high p f r a b o hp hr hf ha hh = prove_lt_by (p ∷ f ∷ r ∷ a ∷ b ∷ o ∷ []) (Lt (Num (pos 0)) (Var 0) ∷ Lt (Var 2) (Num (pos 0)) ∷ Eq (Var 1) (Num (pos 0)) ∷ Lt (Var 3) (Num (pos 0)) ∷ Eq (Mul (Var 0) (Var 4)) (Sub (Mul (Var 2) (Var 3)) (Mul (Var 1) (Var 5))) ∷ []) (Num (pos 0)) (Var 4) (Plus (Hyp 2) (Plus (Hyp 4) (Plus (TimesEq 5 (Num (negsuc 0))) (Plus (Times (Hyp 0) (Plus (Hyp 1) (Lit 1))) (Plus (Times (Hyp 2) (Hyp 4)) (TimesEq 3 (Var 5))))))) 0 (hp, (hr, (hf, (ha, (hh, tt))))) refl

-- vars p f r a b o; hyp hp: 0 < p; hyp hf: f == 0; hyp ha: a == 0; hyp hh: p*b == r*a - f*o; goal b <= 0; mul goal * hp+; mul goal * hp; eqmul hf * (o); eqmul ha * (r)
pub line_most : (p f r a b o : ℤ) → (pos 0) <ℤ p → f ≡ (pos 0) → a ≡ (pos 0) → (p *ℤ b) ≡ ((r *ℤ a) -ℤ (f *ℤ o)) → b ≤ℤ (pos 0)
line_most p f r a b o hp hf ha hh = prove_le_by (p ∷ f ∷ r ∷ a ∷ b ∷ o ∷ []) (Lt (Num (pos 0)) (Var 0) ∷ Eq (Var 1) (Num (pos 0)) ∷ Eq (Var 3) (Num (pos 0)) ∷ Eq (Mul (Var 0) (Var 4)) (Sub (Mul (Var 2) (Var 3)) (Mul (Var 1) (Var 5))) ∷ []) (Var 4) (Num (pos 0)) (Plus (Hyp 1) (Plus (TimesEq 4 (Num (pos 1))) (Plus (Times (Hyp 0) (Plus (Hyp 1) (Lit 1))) (Plus (TimesEq 2 (Neg (Var 5))) (TimesEq 3 (Var 2)))))) 0 (hp, (hf, (ha, (hh, tt)))) refl

-- vars p f r a b o; hyp hp: 0 < p; hyp hf: f == 0; hyp ha: a == 0; hyp hh: p*b == r*a - f*o; goal 0 <= b; mul goal * hp+; mul goal * hp; eqmul hf * (o); eqmul ha * (r)
pub line_least : (p f r a b o : ℤ) → (pos 0) <ℤ p → f ≡ (pos 0) → a ≡ (pos 0) → (p *ℤ b) ≡ ((r *ℤ a) -ℤ (f *ℤ o)) → (pos 0) ≤ℤ b
line_least p f r a b o hp hf ha hh = prove_le_by (p ∷ f ∷ r ∷ a ∷ b ∷ o ∷ []) (Lt (Num (pos 0)) (Var 0) ∷ Eq (Var 1) (Num (pos 0)) ∷ Eq (Var 3) (Num (pos 0)) ∷ Eq (Mul (Var 0) (Var 4)) (Sub (Mul (Var 2) (Var 3)) (Mul (Var 1) (Var 5))) ∷ []) (Num (pos 0)) (Var 4) (Plus (Hyp 1) (Plus (TimesEq 4 (Num (negsuc 0))) (Plus (Times (Hyp 0) (Plus (Hyp 1) (Lit 1))) (Plus (TimesEq 2 (Var 5)) (TimesEq 3 (Neg (Var 2))))))) 0 (hp, (hf, (ha, (hh, tt)))) refl

-- vars f g n a b c; hyp hf: 0 < f; hyp hg: g < 0; hyp hn: n < 0; hyp hb: 0 < b; hyp hc: 0 < c; hyp hh: f*c + g*a == n*b; goal 0 < a; mul goal * hf+; mul goal * hg+; mul goal * hn+; mul hf+ * hc+; mul hn+ * hb+; mul hf * hc; mul hn * hb; mul hf+ * hc; mul hn+ * hb; mul goal * hg; mul goal * hf
pub second_pos : (f g n a b c : ℤ) → (pos 0) <ℤ f → g <ℤ (pos 0) → n <ℤ (pos 0) → (pos 0) <ℤ b → (pos 0) <ℤ c → ((f *ℤ c) +ℤ (g *ℤ a)) ≡ (n *ℤ b) → (pos 0) <ℤ a
second_pos f g n a b c hf hg hn hb hc hh = prove_lt_by (f ∷ g ∷ n ∷ a ∷ b ∷ c ∷ []) (Lt (Num (pos 0)) (Var 0) ∷ Lt (Var 1) (Num (pos 0)) ∷ Lt (Var 2) (Num (pos 0)) ∷ Lt (Num (pos 0)) (Var 4) ∷ Lt (Num (pos 0)) (Var 5) ∷ Eq (Add (Mul (Var 0) (Var 5)) (Mul (Var 1) (Var 3))) (Mul (Var 2) (Var 4)) ∷ []) (Num (pos 0)) (Var 3) (Plus (Hyp 0) (Plus (Hyp 1) (Plus (Hyp 3) (Plus (Hyp 4) (Plus (Hyp 5) (Plus (TimesEq 6 (Num (pos 1))) (Plus (Times (Hyp 1) (Hyp 5)) (Plus (Times (Hyp 3) (Hyp 4)) (Times (Hyp 0) (Hyp 2)))))))))) 1 (hf, (hg, (hn, (hb, (hc, (hh, tt)))))) refl

-- vars f g n a b c; hyp hf: 0 < f; hyp hg: g < 0; hyp hn: n < 0; hyp hb: b <= 0; hyp hc: c <= 0; hyp hh: f*c + g*a == n*b; goal a <= 0; mul goal * hf+; mul goal * hg+; mul goal * hn+; mul hf+ * hc+; mul hn+ * hb+; mul hf * hc; mul hn * hb; mul hf+ * hc; mul hn+ * hb; mul goal * hg; mul goal * hf
pub second_neg : (f g n a b c : ℤ) → (pos 0) <ℤ f → g <ℤ (pos 0) → n <ℤ (pos 0) → b ≤ℤ (pos 0) → c ≤ℤ (pos 0) → ((f *ℤ c) +ℤ (g *ℤ a)) ≡ (n *ℤ b) → a ≤ℤ (pos 0)
second_neg f g n a b c hf hg hn hb hc hh = prove_le_by (f ∷ g ∷ n ∷ a ∷ b ∷ c ∷ []) (Lt (Num (pos 0)) (Var 0) ∷ Lt (Var 1) (Num (pos 0)) ∷ Lt (Var 2) (Num (pos 0)) ∷ Le (Var 4) (Num (pos 0)) ∷ Le (Var 5) (Num (pos 0)) ∷ Eq (Add (Mul (Var 0) (Var 5)) (Mul (Var 1) (Var 3))) (Mul (Var 2) (Var 4)) ∷ []) (Var 3) (Num (pos 0)) (Plus (Hyp 2) (Plus (Hyp 4) (Plus (Hyp 5) (Plus (TimesEq 6 (Num (negsuc 0))) (Plus (Times (Hyp 0) (Plus (Hyp 2) (Lit 1))) (Plus (Times (Hyp 1) (Hyp 5)) (Times (Hyp 3) (Hyp 4)))))))) 0 (hf, (hg, (hn, (hb, (hc, (hh, tt)))))) refl

-- vars f g n a b c; hyp hf: f < 0; hyp hg: 0 < g; hyp hn: n < 0; hyp ha: 0 < a; hyp hb: 0 < b; hyp hh: f*c + g*a == n*b; goal 0 < c; mul goal * hf+; mul hg+ * ha+; mul hn+ * hb+; mul hg * ha; mul hn * hb; mul hg+ * ha; mul hn+ * hb; mul goal * hf
pub first_pos : (f g n a b c : ℤ) → f <ℤ (pos 0) → (pos 0) <ℤ g → n <ℤ (pos 0) → (pos 0) <ℤ a → (pos 0) <ℤ b → ((f *ℤ c) +ℤ (g *ℤ a)) ≡ (n *ℤ b) → (pos 0) <ℤ c
first_pos f g n a b c hf hg hn ha hb hh = prove_lt_by (f ∷ g ∷ n ∷ a ∷ b ∷ c ∷ []) (Lt (Var 0) (Num (pos 0)) ∷ Lt (Num (pos 0)) (Var 1) ∷ Lt (Var 2) (Num (pos 0)) ∷ Lt (Num (pos 0)) (Var 3) ∷ Lt (Num (pos 0)) (Var 4) ∷ Eq (Add (Mul (Var 0) (Var 5)) (Mul (Var 1) (Var 3))) (Mul (Var 2) (Var 4)) ∷ []) (Num (pos 0)) (Var 5) (Plus (Hyp 0) (Plus (Hyp 2) (Plus (Hyp 3) (Plus (Hyp 4) (Plus (Hyp 5) (Plus (TimesEq 6 (Num (pos 1))) (Plus (Times (Hyp 2) (Hyp 4)) (Plus (Times (Hyp 3) (Hyp 5)) (Times (Hyp 0) (Hyp 1)))))))))) 1 (hf, (hg, (hn, (ha, (hb, (hh, tt)))))) refl

-- vars f g n a b c; hyp hf: f < 0; hyp hg: 0 < g; hyp hn: n < 0; hyp ha: a <= 0; hyp hb: b <= 0; hyp hh: f*c + g*a == n*b; goal c <= 0; mul goal * hf+; mul hg+ * ha+; mul hn+ * hb+; mul hg * ha; mul hn * hb; mul hg+ * ha; mul hn+ * hb; mul goal * hf
pub first_neg : (f g n a b c : ℤ) → f <ℤ (pos 0) → (pos 0) <ℤ g → n <ℤ (pos 0) → a ≤ℤ (pos 0) → b ≤ℤ (pos 0) → ((f *ℤ c) +ℤ (g *ℤ a)) ≡ (n *ℤ b) → c ≤ℤ (pos 0)
first_neg f g n a b c hf hg hn ha hb hh = prove_le_by (f ∷ g ∷ n ∷ a ∷ b ∷ c ∷ []) (Lt (Var 0) (Num (pos 0)) ∷ Lt (Num (pos 0)) (Var 1) ∷ Lt (Var 2) (Num (pos 0)) ∷ Le (Var 3) (Num (pos 0)) ∷ Le (Var 4) (Num (pos 0)) ∷ Eq (Add (Mul (Var 0) (Var 5)) (Mul (Var 1) (Var 3))) (Mul (Var 2) (Var 4)) ∷ []) (Var 5) (Num (pos 0)) (Plus (Hyp 1) (Plus (Hyp 4) (Plus (Hyp 5) (Plus (TimesEq 6 (Num (negsuc 0))) (Plus (Times (Hyp 0) (Plus (Hyp 1) (Lit 1))) (Plus (Times (Hyp 2) (Hyp 4)) (Times (Hyp 3) (Hyp 5)))))))) 0 (hf, (hg, (hn, (ha, (hb, (hh, tt)))))) refl

-- vars m f r a b l; hyp hm: 0 < m; hyp hf: 0 < f; hyp hb: b == 0; hyp hl: l < 0; hyp hh: m*a == r*b + f*l; goal a < 0; mul goal * hm+; mul hf+ * hl+; mul hf * hl; mul hf+ * hl; eqmul hb * (r)
pub middle_low : (m f r a b l : ℤ) → (pos 0) <ℤ m → (pos 0) <ℤ f → b ≡ (pos 0) → l <ℤ (pos 0) → (m *ℤ a) ≡ ((r *ℤ b) +ℤ (f *ℤ l)) → a <ℤ (pos 0)
middle_low m f r a b l hm hf hb hl hh = prove_lt_by (m ∷ f ∷ r ∷ a ∷ b ∷ l ∷ []) (Lt (Num (pos 0)) (Var 0) ∷ Lt (Num (pos 0)) (Var 1) ∷ Eq (Var 4) (Num (pos 0)) ∷ Lt (Var 5) (Num (pos 0)) ∷ Eq (Mul (Var 0) (Var 3)) (Add (Mul (Var 2) (Var 4)) (Mul (Var 1) (Var 5))) ∷ []) (Var 3) (Num (pos 0)) (Plus (Hyp 2) (Plus (Hyp 4) (Plus (TimesEq 5 (Num (pos 1))) (Plus (Times (Hyp 0) (Plus (Hyp 1) (Lit 1))) (Plus (Times (Hyp 2) (Hyp 4)) (TimesEq 3 (Var 2))))))) 0 (hm, (hf, (hb, (hl, (hh, tt))))) refl

-- vars m f r a b l; hyp hm: 0 < m; hyp hf: 0 < f; hyp hb: b == 0; hyp hl: 0 < l; hyp hh: m*a == r*b + f*l; goal 0 < a; mul goal * hm+; mul hf+ * hl+; mul hf * hl; mul hf+ * hl; eqmul hb * (r)
pub middle_high : (m f r a b l : ℤ) → (pos 0) <ℤ m → (pos 0) <ℤ f → b ≡ (pos 0) → (pos 0) <ℤ l → (m *ℤ a) ≡ ((r *ℤ b) +ℤ (f *ℤ l)) → (pos 0) <ℤ a
middle_high m f r a b l hm hf hb hl hh = prove_lt_by (m ∷ f ∷ r ∷ a ∷ b ∷ l ∷ []) (Lt (Num (pos 0)) (Var 0) ∷ Lt (Num (pos 0)) (Var 1) ∷ Eq (Var 4) (Num (pos 0)) ∷ Lt (Num (pos 0)) (Var 5) ∷ Eq (Mul (Var 0) (Var 3)) (Add (Mul (Var 2) (Var 4)) (Mul (Var 1) (Var 5))) ∷ []) (Num (pos 0)) (Var 3) (Plus (Hyp 2) (Plus (Hyp 4) (Plus (TimesEq 5 (Num (negsuc 0))) (Plus (Times (Hyp 0) (Plus (Hyp 1) (Lit 1))) (Plus (Times (Hyp 2) (Hyp 4)) (TimesEq 3 (Neg (Var 2)))))))) 0 (hm, (hf, (hb, (hl, (hh, tt))))) refl

-- vars f g n a b c; hyp hf: 0 < f; hyp hg: g == 0; hyp hn: n < 0; hyp hb: 0 < b; hyp hh: f*c + g*a == n*b; goal c < 0; mul goal * hf+; mul hn+ * hb+; mul hn * hb; mul hn+ * hb; mul goal * hf; eqmul hg * (a)
pub end_low : (f g n a b c : ℤ) → (pos 0) <ℤ f → g ≡ (pos 0) → n <ℤ (pos 0) → (pos 0) <ℤ b → ((f *ℤ c) +ℤ (g *ℤ a)) ≡ (n *ℤ b) → c <ℤ (pos 0)
end_low f g n a b c hf hg hn hb hh = prove_lt_by (f ∷ g ∷ n ∷ a ∷ b ∷ c ∷ []) (Lt (Num (pos 0)) (Var 0) ∷ Eq (Var 1) (Num (pos 0)) ∷ Lt (Var 2) (Num (pos 0)) ∷ Lt (Num (pos 0)) (Var 4) ∷ Eq (Add (Mul (Var 0) (Var 5)) (Mul (Var 1) (Var 3))) (Mul (Var 2) (Var 4)) ∷ []) (Var 5) (Num (pos 0)) (Plus (Hyp 3) (Plus (Hyp 4) (Plus (TimesEq 5 (Num (pos 1))) (Plus (Times (Hyp 0) (Plus (Hyp 1) (Lit 1))) (Plus (Times (Hyp 3) (Hyp 4)) (TimesEq 2 (Neg (Var 3)))))))) 0 (hf, (hg, (hn, (hb, (hh, tt))))) refl

-- vars f g n a b c; hyp hf: 0 < f; hyp hg: g == 0; hyp hn: n < 0; hyp hb: b < 0; hyp hh: f*c + g*a == n*b; goal 0 < c; mul goal * hf+; mul hn+ * hb+; mul hn * hb; mul hn+ * hb; mul goal * hf; eqmul hg * (a)
pub end_high : (f g n a b c : ℤ) → (pos 0) <ℤ f → g ≡ (pos 0) → n <ℤ (pos 0) → b <ℤ (pos 0) → ((f *ℤ c) +ℤ (g *ℤ a)) ≡ (n *ℤ b) → (pos 0) <ℤ c
end_high f g n a b c hf hg hn hb hh = prove_lt_by (f ∷ g ∷ n ∷ a ∷ b ∷ c ∷ []) (Lt (Num (pos 0)) (Var 0) ∷ Eq (Var 1) (Num (pos 0)) ∷ Lt (Var 2) (Num (pos 0)) ∷ Lt (Var 4) (Num (pos 0)) ∷ Eq (Add (Mul (Var 0) (Var 5)) (Mul (Var 1) (Var 3))) (Mul (Var 2) (Var 4)) ∷ []) (Num (pos 0)) (Var 5) (Plus (Hyp 0) (Plus (Hyp 3) (Plus (Hyp 4) (Plus (TimesEq 5 (Num (negsuc 0))) (Plus (Times (Hyp 3) (Hyp 4)) (Plus (Times (Hyp 0) (Hyp 1)) (TimesEq 2 (Var 3)))))))) 0 (hf, (hg, (hn, (hb, (hh, tt))))) refl

-- vars f g n a b c; hyp hf: 0 < f; hyp hg: g == 0; hyp hb: b == 0; hyp hh: f*c + g*a == n*b; goal c <= 0; mul goal * hf+; mul goal * hf; eqmul hg * (a); eqmul hb * (n)
pub end_none : (f g n a b c : ℤ) → (pos 0) <ℤ f → g ≡ (pos 0) → b ≡ (pos 0) → ((f *ℤ c) +ℤ (g *ℤ a)) ≡ (n *ℤ b) → c ≤ℤ (pos 0)
end_none f g n a b c hf hg hb hh = prove_le_by (f ∷ g ∷ n ∷ a ∷ b ∷ c ∷ []) (Lt (Num (pos 0)) (Var 0) ∷ Eq (Var 1) (Num (pos 0)) ∷ Eq (Var 4) (Num (pos 0)) ∷ Eq (Add (Mul (Var 0) (Var 5)) (Mul (Var 1) (Var 3))) (Mul (Var 2) (Var 4)) ∷ []) (Var 5) (Num (pos 0)) (Plus (Hyp 1) (Plus (TimesEq 4 (Num (pos 1))) (Plus (Times (Hyp 0) (Plus (Hyp 1) (Lit 1))) (Plus (TimesEq 2 (Neg (Var 3))) (TimesEq 3 (Var 2)))))) 0 (hf, (hg, (hb, (hh, tt)))) refl

-- vars p d n f g r; hyp hp: 0 < p; hyp hn: n < 0; hyp hf: f == 0; hyp hr: r < 0; hyp hh: p*g == r*n - f*d; goal 0 < g; mul goal * hp+; mul hr+ * hn+; mul hr * hn; mul hr+ * hn; eqmul hf * (d)
pub second_side : (p d n f g r : ℤ) → (pos 0) <ℤ p → n <ℤ (pos 0) → f ≡ (pos 0) → r <ℤ (pos 0) → (p *ℤ g) ≡ ((r *ℤ n) -ℤ (f *ℤ d)) → (pos 0) <ℤ g
second_side p d n f g r hp hn hf hr hh = prove_lt_by (p ∷ d ∷ n ∷ f ∷ g ∷ r ∷ []) (Lt (Num (pos 0)) (Var 0) ∷ Lt (Var 2) (Num (pos 0)) ∷ Eq (Var 3) (Num (pos 0)) ∷ Lt (Var 5) (Num (pos 0)) ∷ Eq (Mul (Var 0) (Var 4)) (Sub (Mul (Var 5) (Var 2)) (Mul (Var 3) (Var 1))) ∷ []) (Num (pos 0)) (Var 4) (Plus (Hyp 2) (Plus (Hyp 4) (Plus (TimesEq 5 (Num (negsuc 0))) (Plus (Times (Hyp 0) (Plus (Hyp 1) (Lit 1))) (Plus (Times (Hyp 4) (Hyp 2)) (TimesEq 3 (Var 1))))))) 0 (hp, (hn, (hf, (hr, (hh, tt))))) refl

-- vars p d n a c o; hyp hp: 0 < p; hyp hn: n < 0; hyp ha: a == 0; hyp ho: o < 0; hyp hh: p*c == d*a - n*o; goal c < 0; mul goal * hp+; mul hn+ * ho+; mul hn * ho; mul hn+ * ho; eqmul ha * (d)
pub last_low : (p d n a c o : ℤ) → (pos 0) <ℤ p → n <ℤ (pos 0) → a ≡ (pos 0) → o <ℤ (pos 0) → (p *ℤ c) ≡ ((d *ℤ a) -ℤ (n *ℤ o)) → c <ℤ (pos 0)
last_low p d n a c o hp hn ha ho hh = prove_lt_by (p ∷ d ∷ n ∷ a ∷ c ∷ o ∷ []) (Lt (Num (pos 0)) (Var 0) ∷ Lt (Var 2) (Num (pos 0)) ∷ Eq (Var 3) (Num (pos 0)) ∷ Lt (Var 5) (Num (pos 0)) ∷ Eq (Mul (Var 0) (Var 4)) (Sub (Mul (Var 1) (Var 3)) (Mul (Var 2) (Var 5))) ∷ []) (Var 4) (Num (pos 0)) (Plus (Hyp 2) (Plus (Hyp 4) (Plus (TimesEq 5 (Num (pos 1))) (Plus (Times (Hyp 0) (Plus (Hyp 1) (Lit 1))) (Plus (Times (Hyp 2) (Hyp 4)) (TimesEq 3 (Var 1))))))) 0 (hp, (hn, (ha, (ho, (hh, tt))))) refl

-- vars p d n a c o; hyp hp: 0 < p; hyp hn: n < 0; hyp ha: a == 0; hyp ho: 0 < o; hyp hh: p*c == d*a - n*o; goal 0 < c; mul goal * hp+; mul hn+ * ho+; mul hn * ho; mul hn+ * ho; eqmul ha * (d)
pub last_high : (p d n a c o : ℤ) → (pos 0) <ℤ p → n <ℤ (pos 0) → a ≡ (pos 0) → (pos 0) <ℤ o → (p *ℤ c) ≡ ((d *ℤ a) -ℤ (n *ℤ o)) → (pos 0) <ℤ c
last_high p d n a c o hp hn ha ho hh = prove_lt_by (p ∷ d ∷ n ∷ a ∷ c ∷ o ∷ []) (Lt (Num (pos 0)) (Var 0) ∷ Lt (Var 2) (Num (pos 0)) ∷ Eq (Var 3) (Num (pos 0)) ∷ Lt (Num (pos 0)) (Var 5) ∷ Eq (Mul (Var 0) (Var 4)) (Sub (Mul (Var 1) (Var 3)) (Mul (Var 2) (Var 5))) ∷ []) (Num (pos 0)) (Var 4) (Plus (Hyp 2) (Plus (Hyp 4) (Plus (TimesEq 5 (Num (negsuc 0))) (Plus (Times (Hyp 0) (Plus (Hyp 1) (Lit 1))) (Plus (Times (Hyp 2) (Hyp 4)) (TimesEq 3 (Neg (Var 1)))))))) 0 (hp, (hn, (ha, (ho, (hh, tt))))) refl

-- vars p d n f g r; hyp hp: 0 < p; hyp hd: 0 <= d; hyp hn: n < 0; hyp hf: f < 0; hyp hr: r < 0; hyp hh: p*g == r*n - f*d; goal 0 < g; mul goal * hp+; mul hr+ * hn+; mul hr * hn; mul hr+ * hn; mul hf+ * hd
pub first_side : (p d n f g r : ℤ) → (pos 0) <ℤ p → (pos 0) ≤ℤ d → n <ℤ (pos 0) → f <ℤ (pos 0) → r <ℤ (pos 0) → (p *ℤ g) ≡ ((r *ℤ n) -ℤ (f *ℤ d)) → (pos 0) <ℤ g
first_side p d n f g r hp hd hn hf hr hh = prove_lt_by (p ∷ d ∷ n ∷ f ∷ g ∷ r ∷ []) (Lt (Num (pos 0)) (Var 0) ∷ Le (Num (pos 0)) (Var 1) ∷ Lt (Var 2) (Num (pos 0)) ∷ Lt (Var 3) (Num (pos 0)) ∷ Lt (Var 5) (Num (pos 0)) ∷ Eq (Mul (Var 0) (Var 4)) (Sub (Mul (Var 5) (Var 2)) (Mul (Var 3) (Var 1))) ∷ []) (Num (pos 0)) (Var 4) (Plus (Hyp 3) (Plus (Hyp 5) (Plus (TimesEq 6 (Num (negsuc 0))) (Plus (Times (Hyp 0) (Plus (Hyp 1) (Lit 1))) (Plus (Times (Hyp 5) (Hyp 3)) (Times (Plus (Hyp 4) (Lit 1)) (Hyp 2))))))) 0 (hp, (hd, (hn, (hf, (hr, (hh, tt)))))) refl
