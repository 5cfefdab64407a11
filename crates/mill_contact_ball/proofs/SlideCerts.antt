-- Polynomial facts behind the descent of a quadratic form.
-- Written by tools/certificates.py from tools/certificates/mill_contact_ball_slide.spec.
use Rattle.std.proofs.Common.{◌≡◌, [], ◌∷◌, refl}
use lib.IntN.{ℤ, pos, ◌+ℤ◌, ◌-ℤ◌, ◌*ℤ◌}
use lib.Signed.{◌<ℤ◌, ◌≤ℤ◌}
use Rattle.mill_base.proofs.Ring.{Var, Num, Add, Sub, Mul, Neg, ring}
use Rattle.mill_base.proofs.Cert.{Le, Lt, Eq, Hyp, TimesEq, Lit, Plus, Times, prove_lt_by}

-- vars s q p f m d; hyp hf: f < 0; hyp hm: m <= 0; hyp hd: d <= 0; hyp hp: 0 <= p; hyp hq: 0 < q; goal (q*q)*f+2*((q*p)*m)+(p*p)*d < 0; mul hf * hq+ * hq+; mul hf+ * hq * hq; mul hf+ * hq; mul hq * hq; mul hm * hq+ * hp; mul hd * hp * hp
pub later_form : (s q p f m d : ℤ) → f <ℤ (pos 0) → m ≤ℤ (pos 0) → d ≤ℤ (pos 0) → (pos 0) ≤ℤ p → (pos 0) <ℤ q → ((((q *ℤ q) *ℤ f) +ℤ ((pos 2) *ℤ ((q *ℤ p) *ℤ m))) +ℤ ((p *ℤ p) *ℤ d)) <ℤ (pos 0)
later_form s q p f m d hf hm hd hp hq = prove_lt_by (s ∷ q ∷ p ∷ f ∷ m ∷ d ∷ []) (Lt (Var 3) (Num (pos 0)) ∷ Le (Var 4) (Num (pos 0)) ∷ Le (Var 5) (Num (pos 0)) ∷ Le (Num (pos 0)) (Var 2) ∷ Lt (Num (pos 0)) (Var 1) ∷ []) (Add (Add (Mul (Mul (Var 1) (Var 1)) (Var 3)) (Mul (Num (pos 2)) (Mul (Mul (Var 1) (Var 2)) (Var 4)))) (Mul (Mul (Var 2) (Var 2)) (Var 5))) (Num (pos 0)) (Plus (Hyp 0) (Plus (Times (Lit 2) (Hyp 5)) (Plus (Times (Times (Hyp 1) (Plus (Hyp 5) (Lit 1))) (Plus (Hyp 5) (Lit 1))) (Plus (Times (Hyp 5) (Hyp 5)) (Plus (Times (Lit 2) (Times (Times (Hyp 2) (Plus (Hyp 5) (Lit 1))) (Hyp 4))) (Times (Times (Hyp 3) (Hyp 4)) (Hyp 4))))))) 0 (hf, (hm, (hd, (hp, (hq, tt))))) refl

pub form3_moves : (X Y Z N x y z n q p : ℤ) → ((((((q *ℤ X) +ℤ (p *ℤ x)) *ℤ ((q *ℤ X) +ℤ (p *ℤ x))) +ℤ (((q *ℤ Y) +ℤ (p *ℤ y)) *ℤ ((q *ℤ Y) +ℤ (p *ℤ y)))) +ℤ (((q *ℤ Z) +ℤ (p *ℤ z)) *ℤ ((q *ℤ Z) +ℤ (p *ℤ z)))) -ℤ (((q *ℤ N) +ℤ (p *ℤ n)) *ℤ ((q *ℤ N) +ℤ (p *ℤ n)))) ≡ ((((q *ℤ q) *ℤ ((((X *ℤ X) +ℤ (Y *ℤ Y)) +ℤ (Z *ℤ Z)) -ℤ (N *ℤ N))) +ℤ ((pos 2) *ℤ ((q *ℤ p) *ℤ ((((X *ℤ x) +ℤ (Y *ℤ y)) +ℤ (Z *ℤ z)) -ℤ (N *ℤ n))))) +ℤ ((p *ℤ p) *ℤ ((((x *ℤ x) +ℤ (y *ℤ y)) +ℤ (z *ℤ z)) -ℤ (n *ℤ n))))
form3_moves X Y Z N x y z n q p = ring (X ∷ Y ∷ Z ∷ N ∷ x ∷ y ∷ z ∷ n ∷ q ∷ p ∷ []) (Sub (Add (Add (Mul (Add (Mul (Var 8) (Var 0)) (Mul (Var 9) (Var 4))) (Add (Mul (Var 8) (Var 0)) (Mul (Var 9) (Var 4)))) (Mul (Add (Mul (Var 8) (Var 1)) (Mul (Var 9) (Var 5))) (Add (Mul (Var 8) (Var 1)) (Mul (Var 9) (Var 5))))) (Mul (Add (Mul (Var 8) (Var 2)) (Mul (Var 9) (Var 6))) (Add (Mul (Var 8) (Var 2)) (Mul (Var 9) (Var 6))))) (Mul (Add (Mul (Var 8) (Var 3)) (Mul (Var 9) (Var 7))) (Add (Mul (Var 8) (Var 3)) (Mul (Var 9) (Var 7))))) (Add (Add (Mul (Mul (Var 8) (Var 8)) (Sub (Add (Add (Mul (Var 0) (Var 0)) (Mul (Var 1) (Var 1))) (Mul (Var 2) (Var 2))) (Mul (Var 3) (Var 3)))) (Mul (Num (pos 2)) (Mul (Mul (Var 8) (Var 9)) (Sub (Add (Add (Mul (Var 0) (Var 4)) (Mul (Var 1) (Var 5))) (Mul (Var 2) (Var 6))) (Mul (Var 3) (Var 7)))))) (Mul (Mul (Var 9) (Var 9)) (Sub (Add (Add (Mul (Var 4) (Var 4)) (Mul (Var 5) (Var 5))) (Mul (Var 6) (Var 6))) (Mul (Var 7) (Var 7))))) refl

-- vars x y z n X Y Z N; hyp ex: x == X; hyp ey: y == Y; hyp ez: z == Z; hyp en: n == N; hyp h: (X*X+Y*Y+Z*Z)-N*N < 0; goal (x*x+y*y+z*z)-n*n < 0; eqmul ex * (x+X); eqmul ey * (y+Y); eqmul ez * (z+Z); eqmul en * (n+N)
pub form_is : (x y z n X Y Z N : ℤ) → x ≡ X → y ≡ Y → z ≡ Z → n ≡ N → ((((X *ℤ X) +ℤ (Y *ℤ Y)) +ℤ (Z *ℤ Z)) -ℤ (N *ℤ N)) <ℤ (pos 0) → ((((x *ℤ x) +ℤ (y *ℤ y)) +ℤ (z *ℤ z)) -ℤ (n *ℤ n)) <ℤ (pos 0)
form_is x y z n X Y Z N ex ey ez en h = prove_lt_by (x ∷ y ∷ z ∷ n ∷ X ∷ Y ∷ Z ∷ N ∷ []) (Eq (Var 0) (Var 4) ∷ Eq (Var 1) (Var 5) ∷ Eq (Var 2) (Var 6) ∷ Eq (Var 3) (Var 7) ∷ Lt (Sub (Add (Add (Mul (Var 4) (Var 4)) (Mul (Var 5) (Var 5))) (Mul (Var 6) (Var 6))) (Mul (Var 7) (Var 7))) (Num (pos 0)) ∷ []) (Sub (Add (Add (Mul (Var 0) (Var 0)) (Mul (Var 1) (Var 1))) (Mul (Var 2) (Var 2))) (Mul (Var 3) (Var 3))) (Num (pos 0)) (Plus (Hyp 0) (Plus (Hyp 5) (Plus (TimesEq 1 (Add (Var 0) (Var 4))) (Plus (TimesEq 2 (Add (Var 1) (Var 5))) (Plus (TimesEq 3 (Add (Var 2) (Var 6))) (TimesEq 4 (Neg (Add (Var 3) (Var 7))))))))) 0 (ex, (ey, (ez, (en, (h, tt))))) refl
