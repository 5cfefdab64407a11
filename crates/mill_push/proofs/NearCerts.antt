-- Written by tools/certificates.py from tools/certificates/mill_push_near.spec.
use Rattle.std.proofs.Common.{[], ◌∷◌, refl}
use lib.IntN.{ℤ, pos, ◌+ℤ◌, ◌-ℤ◌, ◌*ℤ◌}
use lib.Signed.{◌<ℤ◌, ◌≤ℤ◌}
use Rattle.mill_base.proofs.Ring.{Var, Num, Add, Sub, Mul}
use Rattle.mill_base.proofs.Cert.{Le, Lt, Hyp, Plus, Times, refute, prove_le_by}

-- vars u v w a b c z; hyp hu: 0 <= u; hyp hv: 0 <= v; hyp hw: 0 <= w; hyp ha: z <= a; hyp hb: z <= b; hyp hc: z <= c; goal ((u+v)+w)*z <= (u*a+v*b)+w*c; mul hu * ha; mul hv * hb; mul hw * hc
pub mean_high : (u v w a b c z : ℤ) → (pos 0) ≤ℤ u → (pos 0) ≤ℤ v → (pos 0) ≤ℤ w → z ≤ℤ a → z ≤ℤ b → z ≤ℤ c → (((u +ℤ v) +ℤ w) *ℤ z) ≤ℤ (((u *ℤ a) +ℤ (v *ℤ b)) +ℤ (w *ℤ c))
mean_high u v w a b c z hu hv hw ha hb hc = prove_le_by (u ∷ v ∷ w ∷ a ∷ b ∷ c ∷ z ∷ []) (Le (Num (pos 0)) (Var 0) ∷ Le (Num (pos 0)) (Var 1) ∷ Le (Num (pos 0)) (Var 2) ∷ Le (Var 6) (Var 3) ∷ Le (Var 6) (Var 4) ∷ Le (Var 6) (Var 5) ∷ []) (Mul (Add (Add (Var 0) (Var 1)) (Var 2)) (Var 6)) (Add (Add (Mul (Var 0) (Var 3)) (Mul (Var 1) (Var 4))) (Mul (Var 2) (Var 5))) (Plus (Hyp 0) (Plus (Times (Hyp 1) (Hyp 4)) (Plus (Times (Hyp 2) (Hyp 5)) (Times (Hyp 3) (Hyp 6))))) 0 (hu, (hv, (hw, (ha, (hb, (hc, tt)))))) refl

-- vars u v w a b c z; hyp hu: 0 <= u; hyp hv: 0 <= v; hyp hw: 0 <= w; hyp ha: a <= z; hyp hb: b <= z; hyp hc: c <= z; goal (u*a+v*b)+w*c <= ((u+v)+w)*z; mul hu * ha; mul hv * hb; mul hw * hc
pub mean_low : (u v w a b c z : ℤ) → (pos 0) ≤ℤ u → (pos 0) ≤ℤ v → (pos 0) ≤ℤ w → a ≤ℤ z → b ≤ℤ z → c ≤ℤ z → (((u *ℤ a) +ℤ (v *ℤ b)) +ℤ (w *ℤ c)) ≤ℤ (((u +ℤ v) +ℤ w) *ℤ z)
mean_low u v w a b c z hu hv hw ha hb hc = prove_le_by (u ∷ v ∷ w ∷ a ∷ b ∷ c ∷ z ∷ []) (Le (Num (pos 0)) (Var 0) ∷ Le (Num (pos 0)) (Var 1) ∷ Le (Num (pos 0)) (Var 2) ∷ Le (Var 3) (Var 6) ∷ Le (Var 4) (Var 6) ∷ Le (Var 5) (Var 6) ∷ []) (Add (Add (Mul (Var 0) (Var 3)) (Mul (Var 1) (Var 4))) (Mul (Var 2) (Var 5))) (Mul (Add (Add (Var 0) (Var 1)) (Var 2)) (Var 6)) (Plus (Hyp 0) (Plus (Times (Hyp 1) (Hyp 4)) (Plus (Times (Hyp 2) (Hyp 5)) (Times (Hyp 3) (Hyp 6))))) 0 (hu, (hv, (hw, (ha, (hb, (hc, tt)))))) refl

-- vars n x r p l; hyp hn: 0 < n; hyp hp: p - n*x < r*n; hyp hl: n*l <= p; hyp hx: x + r <= l; goal false; mul hn * hx; mul hx
pub reaches_up : (n x r p l : ℤ) → (pos 0) <ℤ n → (p -ℤ (n *ℤ x)) <ℤ (r *ℤ n) → (n *ℤ l) ≤ℤ p → (x +ℤ r) ≤ℤ l → ⊥
reaches_up n x r p l hn hp hl hx = refute (n ∷ x ∷ r ∷ p ∷ l ∷ []) (Lt (Num (pos 0)) (Var 0) ∷ Lt (Sub (Var 3) (Mul (Var 0) (Var 1))) (Mul (Var 2) (Var 0)) ∷ Le (Mul (Var 0) (Var 4)) (Var 3) ∷ Le (Add (Var 1) (Var 2)) (Var 4) ∷ []) (Plus (Hyp 1) (Plus (Hyp 2) (Plus (Hyp 3) (Times (Hyp 0) (Hyp 3))))) 0 (hn, (hp, (hl, (hx, tt)))) refl

-- vars n x r p h; hyp hn: 0 < n; hyp hp: n*x - p < r*n; hyp hl: p <= n*h; hyp hx: h <= x - r; goal false; mul hn * hx; mul hx
pub reaches_down : (n x r p h : ℤ) → (pos 0) <ℤ n → ((n *ℤ x) -ℤ p) <ℤ (r *ℤ n) → p ≤ℤ (n *ℤ h) → h ≤ℤ (x -ℤ r) → ⊥
reaches_down n x r p h hn hp hl hx = refute (n ∷ x ∷ r ∷ p ∷ h ∷ []) (Lt (Num (pos 0)) (Var 0) ∷ Lt (Sub (Mul (Var 0) (Var 1)) (Var 3)) (Mul (Var 2) (Var 0)) ∷ Le (Var 3) (Mul (Var 0) (Var 4)) ∷ Le (Var 4) (Sub (Var 1) (Var 2)) ∷ []) (Plus (Hyp 1) (Plus (Hyp 2) (Plus (Hyp 3) (Times (Hyp 0) (Hyp 3))))) 0 (hn, (hp, (hl, (hx, tt)))) refl
