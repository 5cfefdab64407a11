-- Polynomial facts behind a point over another denominator.
-- Written by tools/certificates.py from tools/certificates/mill_sweep_unscaled.spec.
use Rattle.std.proofs.Common.{◌≡◌, [], ◌∷◌, refl}
use lib.IntN.{ℤ, pos, ◌+ℤ◌, ◌-ℤ◌, ◌*ℤ◌}
use lib.Signed.{◌<ℤ◌, ◌≤ℤ◌}
use Rattle.mill_base.proofs.Ring.{Var, Num, Add, Sub, Mul, ring}
use Rattle.mill_base.proofs.Cert.{Le, Lt, Hyp, Lit, Plus, Times, prove_le_by}

pub scaled_near : (k x y : ℤ) → (((k *ℤ x) *ℤ (k *ℤ x)) +ℤ ((k *ℤ y) *ℤ (k *ℤ y))) ≡ ((k *ℤ k) *ℤ ((x *ℤ x) +ℤ (y *ℤ y)))
scaled_near k x y = ring (k ∷ x ∷ y ∷ []) (Add (Mul (Mul (Var 0) (Var 1)) (Mul (Var 0) (Var 1))) (Mul (Mul (Var 0) (Var 2)) (Mul (Var 0) (Var 2)))) (Mul (Mul (Var 0) (Var 0)) (Add (Mul (Var 1) (Var 1)) (Mul (Var 2) (Var 2)))) refl

pub scaled_radius : (k r n : ℤ) → ((r *ℤ r) *ℤ ((k *ℤ n) *ℤ (k *ℤ n))) ≡ ((k *ℤ k) *ℤ ((r *ℤ r) *ℤ (n *ℤ n)))
scaled_radius k r n = ring (k ∷ r ∷ n ∷ []) (Mul (Mul (Var 1) (Var 1)) (Mul (Mul (Var 0) (Var 2)) (Mul (Var 0) (Var 2)))) (Mul (Mul (Var 0) (Var 0)) (Mul (Mul (Var 1) (Var 1)) (Mul (Var 2) (Var 2)))) refl

pub scaled_centre : (k r n : ℤ) → (r *ℤ (k *ℤ n)) ≡ (k *ℤ (r *ℤ n))
scaled_centre k r n = ring (k ∷ r ∷ n ∷ []) (Mul (Var 1) (Mul (Var 0) (Var 2))) (Mul (Var 0) (Mul (Var 1) (Var 2))) refl

pub scaled_sphere : (k x y z r n : ℤ) → ((((k *ℤ x) *ℤ (k *ℤ x)) +ℤ ((k *ℤ y) *ℤ (k *ℤ y))) +ℤ (((k *ℤ z) -ℤ (r *ℤ (k *ℤ n))) *ℤ ((k *ℤ z) -ℤ (r *ℤ (k *ℤ n))))) ≡ ((k *ℤ k) *ℤ (((x *ℤ x) +ℤ (y *ℤ y)) +ℤ ((z -ℤ (r *ℤ n)) *ℤ (z -ℤ (r *ℤ n)))))
scaled_sphere k x y z r n = ring (k ∷ x ∷ y ∷ z ∷ r ∷ n ∷ []) (Add (Add (Mul (Mul (Var 0) (Var 1)) (Mul (Var 0) (Var 1))) (Mul (Mul (Var 0) (Var 2)) (Mul (Var 0) (Var 2)))) (Mul (Sub (Mul (Var 0) (Var 3)) (Mul (Var 4) (Mul (Var 0) (Var 5)))) (Sub (Mul (Var 0) (Var 3)) (Mul (Var 4) (Mul (Var 0) (Var 5)))))) (Mul (Mul (Var 0) (Var 0)) (Add (Add (Mul (Var 1) (Var 1)) (Mul (Var 2) (Var 2))) (Mul (Sub (Var 3) (Mul (Var 4) (Var 5))) (Sub (Var 3) (Mul (Var 4) (Var 5)))))) refl

pub scaled_slope : (k a x y : ℤ) → ((a *ℤ a) *ℤ (((k *ℤ x) *ℤ (k *ℤ x)) +ℤ ((k *ℤ y) *ℤ (k *ℤ y)))) ≡ ((k *ℤ k) *ℤ ((a *ℤ a) *ℤ ((x *ℤ x) +ℤ (y *ℤ y))))
scaled_slope k a x y = ring (k ∷ a ∷ x ∷ y ∷ []) (Mul (Mul (Var 1) (Var 1)) (Add (Mul (Mul (Var 0) (Var 2)) (Mul (Var 0) (Var 2))) (Mul (Mul (Var 0) (Var 3)) (Mul (Var 0) (Var 3))))) (Mul (Mul (Var 0) (Var 0)) (Mul (Mul (Var 1) (Var 1)) (Add (Mul (Var 2) (Var 2)) (Mul (Var 3) (Var 3))))) refl

pub scaled_zero : (k : ℤ) → (k *ℤ (pos 0)) ≡ (pos 0)
scaled_zero k = ring (k ∷ []) (Mul (Var 0) (Num (pos 0))) (Num (pos 0)) refl

pub mean_offset : (u v w q t : ℤ) → (((pos 1) *ℤ (((u *ℤ q) +ℤ (v *ℤ q)) +ℤ (w *ℤ q))) -ℤ (((u +ℤ v) +ℤ w) *ℤ t)) ≡ (((u +ℤ v) +ℤ w) *ℤ (((pos 1) *ℤ q) -ℤ ((pos 1) *ℤ t)))
mean_offset u v w q t = ring (u ∷ v ∷ w ∷ q ∷ t ∷ []) (Sub (Mul (Num (pos 1)) (Add (Add (Mul (Var 0) (Var 3)) (Mul (Var 1) (Var 3))) (Mul (Var 2) (Var 3)))) (Mul (Add (Add (Var 0) (Var 1)) (Var 2)) (Var 4))) (Mul (Add (Add (Var 0) (Var 1)) (Var 2)) (Sub (Mul (Num (pos 1)) (Var 3)) (Mul (Num (pos 1)) (Var 4)))) refl

pub one_scaled : (n : ℤ) → ((pos 1) *ℤ n) ≡ (n *ℤ ((pos 1) *ℤ (pos 1)))
one_scaled n = ring (n ∷ []) (Mul (Num (pos 1)) (Var 0)) (Mul (Var 0) (Mul (Num (pos 1)) (Num (pos 1)))) refl

-- vars n a z l; hyp hn: 0 < n; hyp h: l <= z; goal 1*a - n*(z - 0) <= 1*a - n*l; mul hn+ * h
pub higher_over_lower : (n a z l : ℤ) → (pos 0) <ℤ n → l ≤ℤ z → (((pos 1) *ℤ a) -ℤ (n *ℤ (z -ℤ (pos 0)))) ≤ℤ (((pos 1) *ℤ a) -ℤ (n *ℤ l))
higher_over_lower n a z l hn h = prove_le_by (n ∷ a ∷ z ∷ l ∷ []) (Lt (Num (pos 0)) (Var 0) ∷ Le (Var 3) (Var 2) ∷ []) (Sub (Mul (Num (pos 1)) (Var 1)) (Mul (Var 0) (Sub (Var 2) (Num (pos 0))))) (Sub (Mul (Num (pos 1)) (Var 1)) (Mul (Var 0) (Var 3))) (Plus (Hyp 0) (Times (Plus (Hyp 1) (Lit 1)) (Hyp 2))) 0 (hn, (h, tt)) refl
