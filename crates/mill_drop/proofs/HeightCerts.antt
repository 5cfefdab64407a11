-- Written by tools/certificates.py from tools/certificates/mill_drop_heights.spec.
use Rattle.std.proofs.Common.{[], ◌∷◌, refl}
use lib.IntN.{ℤ, pos, ◌+ℤ◌, ◌*ℤ◌}
use lib.Signed.{◌<ℤ◌, ◌≤ℤ◌}
use Rattle.mill_base.proofs.Ring.{Var, Num, Add, Mul}
use Rattle.mill_base.proofs.Cert.{Le, Lt, Hyp, Plus, Times, prove_le_by}

-- vars u v w a b c z; hyp hu: 0 <= u; hyp hv: 0 <= v; hyp hw: 0 <= w; hyp ha: a <= z; hyp hb: b <= z; hyp hc: c <= z; goal (u*a+v*b)+w*c <= ((u+v)+w)*z; mul hu * ha; mul hv * hb; mul hw * hc
pub mean_low : (u v w a b c z : ℤ) → (pos 0) ≤ℤ u → (pos 0) ≤ℤ v → (pos 0) ≤ℤ w → a ≤ℤ z → b ≤ℤ z → c ≤ℤ z → (((u *ℤ a) +ℤ (v *ℤ b)) +ℤ (w *ℤ c)) ≤ℤ (((u +ℤ v) +ℤ w) *ℤ z)
mean_low u v w a b c z hu hv hw ha hb hc = prove_le_by (u ∷ v ∷ w ∷ a ∷ b ∷ c ∷ z ∷ []) (Le (Num (pos 0)) (Var 0) ∷ Le (Num (pos 0)) (Var 1) ∷ Le (Num (pos 0)) (Var 2) ∷ Le (Var 3) (Var 6) ∷ Le (Var 4) (Var 6) ∷ Le (Var 5) (Var 6) ∷ []) (Add (Add (Mul (Var 0) (Var 3)) (Mul (Var 1) (Var 4))) (Mul (Var 2) (Var 5))) (Mul (Add (Add (Var 0) (Var 1)) (Var 2)) (Var 6)) (Plus (Hyp 0) (Plus (Times (Hyp 1) (Hyp 4)) (Plus (Times (Hyp 2) (Hyp 5)) (Times (Hyp 3) (Hyp 6))))) 0 (hu, (hv, (hw, (ha, (hb, (hc, tt)))))) refl

-- vars n l z; hyp hn: 0 < n; hyp hl: l <= z; goal n*l <= n*z; mul hn * hl; mul hl
pub times_mono : (n l z : ℤ) → (pos 0) <ℤ n → l ≤ℤ z → (n *ℤ l) ≤ℤ (n *ℤ z)
times_mono n l z hn hl = prove_le_by (n ∷ l ∷ z ∷ []) (Lt (Num (pos 0)) (Var 0) ∷ Le (Var 1) (Var 2) ∷ []) (Mul (Var 0) (Var 1)) (Mul (Var 0) (Var 2)) (Plus (Hyp 0) (Plus (Hyp 2) (Times (Hyp 1) (Hyp 2)))) 0 (hn, (hl, tt)) refl
