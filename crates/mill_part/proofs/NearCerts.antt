-- Written by tools/certificates.py from tools/certificates/mill_part_near.spec.
use Rattle.std.proofs.Common.{[], ◌∷◌, refl}
use lib.IntN.{ℤ, pos, ◌+ℤ◌, ◌-ℤ◌, ◌*ℤ◌}
use lib.Signed.{◌<ℤ◌, ◌≤ℤ◌}
use Rattle.mill_base.proofs.Ring.{Var, Num, Add, Sub, Mul}
use Rattle.mill_base.proofs.Cert.{Le, Lt, Hyp, Sq, Lit, Plus, Times, prove_le_by}

-- vars u v w a b c x r l; hyp uo: 0 <= u; hyp vo: 0 <= v; hyp wo: 0 <= w; hyp some: 0 < (u+v)+w; hyp ha: l <= a; hyp hb: l <= b; hyp hc: l <= c; hyp near: ((u*a+v*b)+w*c) - ((u+v)+w)*x <= ((u+v)+w)*r; goal l <= x + r; mul uo * ha; mul vo * hb; mul wo * hc; mul some+ * goal
pub mean_reaches_up : (u v w a b c x r l : ℤ) → (pos 0) ≤ℤ u → (pos 0) ≤ℤ v → (pos 0) ≤ℤ w → (pos 0) <ℤ ((u +ℤ v) +ℤ w) → l ≤ℤ a → l ≤ℤ b → l ≤ℤ c → ((((u *ℤ a) +ℤ (v *ℤ b)) +ℤ (w *ℤ c)) -ℤ (((u +ℤ v) +ℤ w) *ℤ x)) ≤ℤ (((u +ℤ v) +ℤ w) *ℤ r) → l ≤ℤ (x +ℤ r)
mean_reaches_up u v w a b c x r l uo vo wo some ha hb hc near = prove_le_by (u ∷ v ∷ w ∷ a ∷ b ∷ c ∷ x ∷ r ∷ l ∷ []) (Le (Num (pos 0)) (Var 0) ∷ Le (Num (pos 0)) (Var 1) ∷ Le (Num (pos 0)) (Var 2) ∷ Lt (Num (pos 0)) (Add (Add (Var 0) (Var 1)) (Var 2)) ∷ Le (Var 8) (Var 3) ∷ Le (Var 8) (Var 4) ∷ Le (Var 8) (Var 5) ∷ Le (Sub (Add (Add (Mul (Var 0) (Var 3)) (Mul (Var 1) (Var 4))) (Mul (Var 2) (Var 5))) (Mul (Add (Add (Var 0) (Var 1)) (Var 2)) (Var 6))) (Mul (Add (Add (Var 0) (Var 1)) (Var 2)) (Var 7)) ∷ []) (Var 8) (Add (Var 6) (Var 7)) (Plus (Hyp 4) (Plus (Hyp 8) (Plus (Times (Hyp 1) (Hyp 5)) (Plus (Times (Hyp 2) (Hyp 6)) (Plus (Times (Hyp 3) (Hyp 7)) (Times (Plus (Hyp 4) (Lit 1)) (Hyp 0))))))) 0 (uo, (vo, (wo, (some, (ha, (hb, (hc, (near, tt)))))))) refl

-- vars u v w a b c x r m; hyp uo: 0 <= u; hyp vo: 0 <= v; hyp wo: 0 <= w; hyp some: 0 < (u+v)+w; hyp ha: a <= m; hyp hb: b <= m; hyp hc: c <= m; hyp near: 0 - (((u*a+v*b)+w*c) - ((u+v)+w)*x) <= ((u+v)+w)*r; goal x - r <= m; mul uo * ha; mul vo * hb; mul wo * hc; mul some+ * goal
pub mean_reaches_down : (u v w a b c x r m : ℤ) → (pos 0) ≤ℤ u → (pos 0) ≤ℤ v → (pos 0) ≤ℤ w → (pos 0) <ℤ ((u +ℤ v) +ℤ w) → a ≤ℤ m → b ≤ℤ m → c ≤ℤ m → ((pos 0) -ℤ ((((u *ℤ a) +ℤ (v *ℤ b)) +ℤ (w *ℤ c)) -ℤ (((u +ℤ v) +ℤ w) *ℤ x))) ≤ℤ (((u +ℤ v) +ℤ w) *ℤ r) → (x -ℤ r) ≤ℤ m
mean_reaches_down u v w a b c x r m uo vo wo some ha hb hc near = prove_le_by (u ∷ v ∷ w ∷ a ∷ b ∷ c ∷ x ∷ r ∷ m ∷ []) (Le (Num (pos 0)) (Var 0) ∷ Le (Num (pos 0)) (Var 1) ∷ Le (Num (pos 0)) (Var 2) ∷ Lt (Num (pos 0)) (Add (Add (Var 0) (Var 1)) (Var 2)) ∷ Le (Var 3) (Var 8) ∷ Le (Var 4) (Var 8) ∷ Le (Var 5) (Var 8) ∷ Le (Sub (Num (pos 0)) (Sub (Add (Add (Mul (Var 0) (Var 3)) (Mul (Var 1) (Var 4))) (Mul (Var 2) (Var 5))) (Mul (Add (Add (Var 0) (Var 1)) (Var 2)) (Var 6)))) (Mul (Add (Add (Var 0) (Var 1)) (Var 2)) (Var 7)) ∷ []) (Sub (Var 6) (Var 7)) (Var 8) (Plus (Hyp 4) (Plus (Hyp 8) (Plus (Times (Hyp 1) (Hyp 5)) (Plus (Times (Hyp 2) (Hyp 6)) (Plus (Times (Hyp 3) (Hyp 7)) (Times (Plus (Hyp 4) (Lit 1)) (Hyp 0))))))) 0 (uo, (vo, (wo, (some, (ha, (hb, (hc, (near, tt)))))))) refl

-- vars a b n r; hyp ro: 0 <= r; hyp some: 0 < n; hyp near: a*a+b*b < (n*r)*(n*r); goal a <= n*r; square b; mul goal * goal; mul goal * ro * some+; mul ro * some+
pub nearer_up : (a b n r : ℤ) → (pos 0) ≤ℤ r → (pos 0) <ℤ n → ((a *ℤ a) +ℤ (b *ℤ b)) <ℤ ((n *ℤ r) *ℤ (n *ℤ r)) → a ≤ℤ (n *ℤ r)
nearer_up a b n r ro some near = prove_le_by (a ∷ b ∷ n ∷ r ∷ []) (Le (Num (pos 0)) (Var 3) ∷ Lt (Num (pos 0)) (Var 2) ∷ Lt (Add (Mul (Var 0) (Var 0)) (Mul (Var 1) (Var 1))) (Mul (Mul (Var 2) (Var 3)) (Mul (Var 2) (Var 3))) ∷ []) (Var 0) (Mul (Var 2) (Var 3)) (Plus (Times (Lit 2) (Hyp 0)) (Plus (Hyp 3) (Plus (Sq (Var 1)) (Plus (Times (Hyp 0) (Hyp 0)) (Plus (Times (Lit 2) (Times (Times (Hyp 0) (Hyp 1)) (Plus (Hyp 2) (Lit 1)))) (Times (Lit 2) (Times (Hyp 1) (Plus (Hyp 2) (Lit 1))))))))) 1 (ro, (some, (near, tt))) refl

-- vars a b n r; hyp ro: 0 <= r; hyp some: 0 < n; hyp near: a*a+b*b < (n*r)*(n*r); goal 0-a <= n*r; square b; mul goal * goal; mul goal * ro * some+; mul ro * some+
pub nearer_down : (a b n r : ℤ) → (pos 0) ≤ℤ r → (pos 0) <ℤ n → ((a *ℤ a) +ℤ (b *ℤ b)) <ℤ ((n *ℤ r) *ℤ (n *ℤ r)) → ((pos 0) -ℤ a) ≤ℤ (n *ℤ r)
nearer_down a b n r ro some near = prove_le_by (a ∷ b ∷ n ∷ r ∷ []) (Le (Num (pos 0)) (Var 3) ∷ Lt (Num (pos 0)) (Var 2) ∷ Lt (Add (Mul (Var 0) (Var 0)) (Mul (Var 1) (Var 1))) (Mul (Mul (Var 2) (Var 3)) (Mul (Var 2) (Var 3))) ∷ []) (Sub (Num (pos 0)) (Var 0)) (Mul (Var 2) (Var 3)) (Plus (Times (Lit 2) (Hyp 0)) (Plus (Hyp 3) (Plus (Sq (Var 1)) (Plus (Times (Hyp 0) (Hyp 0)) (Plus (Times (Lit 2) (Times (Times (Hyp 0) (Hyp 1)) (Plus (Hyp 2) (Lit 1)))) (Times (Lit 2) (Times (Hyp 1) (Plus (Hyp 2) (Lit 1))))))))) 1 (ro, (some, (near, tt))) refl
