-- Polynomial facts behind the law that a move that passes a line of points passes each point under it.
-- Written by tools/certificates.py from tools/certificates/mill_dexel_line.spec.
use Rattle.std.proofs.Common.{◌≡◌, [], ◌∷◌, refl}
use lib.IntN.{ℤ, pos, ◌+ℤ◌, ◌-ℤ◌, ◌*ℤ◌}
use lib.Signed.{◌<ℤ◌, ◌≤ℤ◌}
use Rattle.mill_base.proofs.Ring.{Var, Num, Add, Sub, Mul, ring}
use Rattle.mill_base.proofs.Cert.{Le, Lt, Hyp, Lit, Plus, Times, prove_le_by, prove_lt_by}

pub line_mean : (x0 x1 x : ℤ) → (((x1 -ℤ x) *ℤ x0) +ℤ ((x -ℤ x0) *ℤ x1)) ≡ (((x1 -ℤ x) +ℤ (x -ℤ x0)) *ℤ x)
line_mean x0 x1 x = ring (x0 ∷ x1 ∷ x ∷ []) (Add (Mul (Sub (Var 1) (Var 2)) (Var 0)) (Mul (Sub (Var 2) (Var 0)) (Var 1))) (Mul (Add (Sub (Var 1) (Var 2)) (Sub (Var 2) (Var 0))) (Var 2)) refl

pub line_end : (x0 x1 : ℤ) → (((pos 1) *ℤ x0) +ℤ ((pos 0) *ℤ x1)) ≡ (((pos 1) +ℤ (pos 0)) *ℤ x0)
line_end x0 x1 = ring (x0 ∷ x1 ∷ []) (Add (Mul (Num (pos 1)) (Var 0)) (Mul (Num (pos 0)) (Var 1))) (Mul (Add (Num (pos 1)) (Num (pos 0))) (Var 0)) refl

-- vars a b n; hyp hk: 0 < a+b; hyp hn: 0 < n; goal 0 < (a+b)*n; mul hk+ * hn+; mul hk * hn
pub line_some : (a b n : ℤ) → (pos 0) <ℤ (a +ℤ b) → (pos 0) <ℤ n → (pos 0) <ℤ ((a +ℤ b) *ℤ n)
line_some a b n hk hn = prove_lt_by (a ∷ b ∷ n ∷ []) (Lt (Num (pos 0)) (Add (Var 0) (Var 1)) ∷ Lt (Num (pos 0)) (Var 2) ∷ []) (Num (pos 0)) (Mul (Add (Var 0) (Var 1)) (Var 2)) (Plus (Hyp 0) (Plus (Hyp 1) (Plus (Hyp 2) (Times (Hyp 1) (Hyp 2))))) 0 (hk, (hn, tt)) refl

-- vars n a; hyp hn: 0 < n; hyp ha: 0 <= a; goal 0 <= n*a; mul hn+ * ha
pub line_part : (n a : ℤ) → (pos 0) <ℤ n → (pos 0) ≤ℤ a → (pos 0) ≤ℤ (n *ℤ a)
line_part n a hn ha = prove_le_by (n ∷ a ∷ []) (Lt (Num (pos 0)) (Var 0) ∷ Le (Num (pos 0)) (Var 1) ∷ []) (Num (pos 0)) (Mul (Var 0) (Var 1)) (Plus (Hyp 0) (Times (Plus (Hyp 1) (Lit 1)) (Hyp 2))) 0 (hn, (ha, tt)) refl

pub line_weights : (n a b : ℤ) → ((a +ℤ b) *ℤ n) ≡ (((n *ℤ a) +ℤ (n *ℤ b)) +ℤ (pos 0))
line_weights n a b = ring (n ∷ a ∷ b ∷ []) (Mul (Add (Var 1) (Var 2)) (Var 0)) (Add (Add (Mul (Var 0) (Var 1)) (Mul (Var 0) (Var 2))) (Num (pos 0))) refl

pub line_times : (n a b x : ℤ) → (((a +ℤ b) *ℤ n) *ℤ x) ≡ (n *ℤ ((a +ℤ b) *ℤ x))
line_times n a b x = ring (n ∷ a ∷ b ∷ x ∷ []) (Mul (Mul (Add (Var 1) (Var 2)) (Var 0)) (Var 3)) (Mul (Var 0) (Mul (Add (Var 1) (Var 2)) (Var 3))) refl

pub line_parts : (n a b x0 x1 : ℤ) → (n *ℤ ((a *ℤ x0) +ℤ (b *ℤ x1))) ≡ ((((n *ℤ a) *ℤ x0) +ℤ ((n *ℤ b) *ℤ x1)) +ℤ ((pos 0) *ℤ x1))
line_parts n a b x0 x1 = ring (n ∷ a ∷ b ∷ x0 ∷ x1 ∷ []) (Mul (Var 0) (Add (Mul (Var 1) (Var 3)) (Mul (Var 2) (Var 4)))) (Add (Add (Mul (Mul (Var 0) (Var 1)) (Var 3)) (Mul (Mul (Var 0) (Var 2)) (Var 4))) (Mul (Num (pos 0)) (Var 4))) refl

pub line_level : (n a b y : ℤ) → (((a +ℤ b) *ℤ n) *ℤ y) ≡ ((((n *ℤ a) *ℤ y) +ℤ ((n *ℤ b) *ℤ y)) +ℤ ((pos 0) *ℤ y))
line_level n a b y = ring (n ∷ a ∷ b ∷ y ∷ []) (Mul (Mul (Add (Var 1) (Var 2)) (Var 0)) (Var 3)) (Add (Add (Mul (Mul (Var 0) (Var 1)) (Var 3)) (Mul (Mul (Var 0) (Var 2)) (Var 3))) (Mul (Num (pos 0)) (Var 3))) refl

pub line_offset : (k u v w x t : ℤ) → (k *ℤ (((pos 1) *ℤ (((u *ℤ x) +ℤ (v *ℤ x)) +ℤ (w *ℤ x))) -ℤ (((u +ℤ v) +ℤ w) *ℤ t))) ≡ (((pos 1) *ℤ ((k *ℤ ((u +ℤ v) +ℤ w)) *ℤ x)) -ℤ ((k *ℤ ((u +ℤ v) +ℤ w)) *ℤ t))
line_offset k u v w x t = ring (k ∷ u ∷ v ∷ w ∷ x ∷ t ∷ []) (Mul (Var 0) (Sub (Mul (Num (pos 1)) (Add (Add (Mul (Var 1) (Var 4)) (Mul (Var 2) (Var 4))) (Mul (Var 3) (Var 4)))) (Mul (Add (Add (Var 1) (Var 2)) (Var 3)) (Var 5)))) (Sub (Mul (Num (pos 1)) (Mul (Mul (Var 0) (Add (Add (Var 1) (Var 2)) (Var 3))) (Var 4))) (Mul (Mul (Var 0) (Add (Add (Var 1) (Var 2)) (Var 3))) (Var 5))) refl

pub line_denominator : (k n : ℤ) → (k *ℤ ((pos 1) *ℤ n)) ≡ ((pos 1) *ℤ (k *ℤ n))
line_denominator k n = ring (k ∷ n ∷ []) (Mul (Var 0) (Mul (Num (pos 1)) (Var 1))) (Mul (Num (pos 1)) (Mul (Var 0) (Var 1))) refl

-- vars k u v w z t top; hyp hk: 0 < k; hyp hn: 0 < (u+v)+w; hyp h: z <= top; goal k*(1*((u*z+v*z)+w*z) - ((u+v)+w)*t) <= 1*((k*((u+v)+w))*top) - (k*((u+v)+w))*t; mul hk+ * hn+ * h
pub line_height : (k u v w z t top : ℤ) → (pos 0) <ℤ k → (pos 0) <ℤ ((u +ℤ v) +ℤ w) → z ≤ℤ top → (k *ℤ (((pos 1) *ℤ (((u *ℤ z) +ℤ (v *ℤ z)) +ℤ (w *ℤ z))) -ℤ (((u +ℤ v) +ℤ w) *ℤ t))) ≤ℤ (((pos 1) *ℤ ((k *ℤ ((u +ℤ v) +ℤ w)) *ℤ top)) -ℤ ((k *ℤ ((u +ℤ v) +ℤ w)) *ℤ t))
line_height k u v w z t top hk hn h = prove_le_by (k ∷ u ∷ v ∷ w ∷ z ∷ t ∷ top ∷ []) (Lt (Num (pos 0)) (Var 0) ∷ Lt (Num (pos 0)) (Add (Add (Var 1) (Var 2)) (Var 3)) ∷ Le (Var 4) (Var 6) ∷ []) (Mul (Var 0) (Sub (Mul (Num (pos 1)) (Add (Add (Mul (Var 1) (Var 4)) (Mul (Var 2) (Var 4))) (Mul (Var 3) (Var 4)))) (Mul (Add (Add (Var 1) (Var 2)) (Var 3)) (Var 5)))) (Sub (Mul (Num (pos 1)) (Mul (Mul (Var 0) (Add (Add (Var 1) (Var 2)) (Var 3))) (Var 6))) (Mul (Mul (Var 0) (Add (Add (Var 1) (Var 2)) (Var 3))) (Var 5))) (Plus (Hyp 0) (Times (Times (Plus (Hyp 1) (Lit 1)) (Plus (Hyp 2) (Lit 1))) (Hyp 3))) 0 (hk, (hn, (h, tt))) refl
