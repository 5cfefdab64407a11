-- Polynomial facts behind points near the vertical plane along x.
-- Written by tools/certificates.py from tools/certificates/mill_geom_strip.spec.
use Rattle.std.proofs.Common.{◌≡◌, [], ◌∷◌, refl}
use lib.IntN.{ℤ, pos, ◌+ℤ◌, ◌-ℤ◌, ◌*ℤ◌}
use lib.Signed.{◌<ℤ◌}
use Rattle.mill_base.proofs.Ring.{Var, Num, Add, Sub, Mul, ring}
use Rattle.mill_base.proofs.Cert.{Lt, Eq, Hyp, TimesEq, Plus, Times, prove_lt_by}

pub mirror_mean : (u v w a b c : ℤ) → (((u *ℤ ((pos 0) -ℤ a)) +ℤ (v *ℤ ((pos 0) -ℤ b))) +ℤ (w *ℤ ((pos 0) -ℤ c))) ≡ ((pos 0) -ℤ (((u *ℤ a) +ℤ (v *ℤ b)) +ℤ (w *ℤ c)))
mirror_mean u v w a b c = ring (u ∷ v ∷ w ∷ a ∷ b ∷ c ∷ []) (Add (Add (Mul (Var 0) (Sub (Num (pos 0)) (Var 3))) (Mul (Var 1) (Sub (Num (pos 0)) (Var 4)))) (Mul (Var 2) (Sub (Num (pos 0)) (Var 5)))) (Sub (Num (pos 0)) (Add (Add (Mul (Var 0) (Var 3)) (Mul (Var 1) (Var 4))) (Mul (Var 2) (Var 5)))) refl

-- vars X Y Z q; hyp e: Z == 0-Y; hyp h: X*X+Y*Y < q; goal X*X+Z*Z < q; eqmul e * (Z-Y)
pub mirror_near : (X Y Z q : ℤ) → Z ≡ ((pos 0) -ℤ Y) → ((X *ℤ X) +ℤ (Y *ℤ Y)) <ℤ q → ((X *ℤ X) +ℤ (Z *ℤ Z)) <ℤ q
mirror_near X Y Z q e h = prove_lt_by (X ∷ Y ∷ Z ∷ q ∷ []) (Eq (Var 2) (Sub (Num (pos 0)) (Var 1)) ∷ Lt (Add (Mul (Var 0) (Var 0)) (Mul (Var 1) (Var 1))) (Var 3) ∷ []) (Add (Mul (Var 0) (Var 0)) (Mul (Var 2) (Var 2))) (Var 3) (Plus (Hyp 0) (Plus (Hyp 2) (TimesEq 1 (Sub (Var 2) (Var 1))))) 0 (e, (h, tt)) refl

-- vars y h n g r; hyp lo: 0-r*n < y; hyp hi: y < r*n; goal (1*y-0*h)*(1*y-0*h) < (r*r)*((1*n+0*g)*(1*n+0*g)); mul lo * hi; mul lo+ * hi+
pub low_near : (y h n g r : ℤ) → ((pos 0) -ℤ (r *ℤ n)) <ℤ y → y <ℤ (r *ℤ n) → ((((pos 1) *ℤ y) -ℤ ((pos 0) *ℤ h)) *ℤ (((pos 1) *ℤ y) -ℤ ((pos 0) *ℤ h))) <ℤ ((r *ℤ r) *ℤ ((((pos 1) *ℤ n) +ℤ ((pos 0) *ℤ g)) *ℤ (((pos 1) *ℤ n) +ℤ ((pos 0) *ℤ g))))
low_near y h n g r lo hi = prove_lt_by (y ∷ h ∷ n ∷ g ∷ r ∷ []) (Lt (Sub (Num (pos 0)) (Mul (Var 4) (Var 2))) (Var 0) ∷ Lt (Var 0) (Mul (Var 4) (Var 2)) ∷ []) (Mul (Sub (Mul (Num (pos 1)) (Var 0)) (Mul (Num (pos 0)) (Var 1))) (Sub (Mul (Num (pos 1)) (Var 0)) (Mul (Num (pos 0)) (Var 1)))) (Mul (Mul (Var 4) (Var 4)) (Mul (Add (Mul (Num (pos 1)) (Var 2)) (Mul (Num (pos 0)) (Var 3))) (Add (Mul (Num (pos 1)) (Var 2)) (Mul (Num (pos 0)) (Var 3))))) (Plus (Hyp 0) (Plus (Hyp 1) (Plus (Hyp 2) (Times (Hyp 1) (Hyp 2))))) 0 (lo, (hi, tt)) refl

-- vars y h n g r; hyp lo: 0-r*n < y; hyp hi: y < r*n; goal (0*h-1*y)*(0*h-1*y) < (r*r)*((0*g+1*n)*(0*g+1*n)); mul lo * hi; mul lo+ * hi+
pub high_near : (y h n g r : ℤ) → ((pos 0) -ℤ (r *ℤ n)) <ℤ y → y <ℤ (r *ℤ n) → ((((pos 0) *ℤ h) -ℤ ((pos 1) *ℤ y)) *ℤ (((pos 0) *ℤ h) -ℤ ((pos 1) *ℤ y))) <ℤ ((r *ℤ r) *ℤ ((((pos 0) *ℤ g) +ℤ ((pos 1) *ℤ n)) *ℤ (((pos 0) *ℤ g) +ℤ ((pos 1) *ℤ n))))
high_near y h n g r lo hi = prove_lt_by (y ∷ h ∷ n ∷ g ∷ r ∷ []) (Lt (Sub (Num (pos 0)) (Mul (Var 4) (Var 2))) (Var 0) ∷ Lt (Var 0) (Mul (Var 4) (Var 2)) ∷ []) (Mul (Sub (Mul (Num (pos 0)) (Var 1)) (Mul (Num (pos 1)) (Var 0))) (Sub (Mul (Num (pos 0)) (Var 1)) (Mul (Num (pos 1)) (Var 0)))) (Mul (Mul (Var 4) (Var 4)) (Mul (Add (Mul (Num (pos 0)) (Var 3)) (Mul (Num (pos 1)) (Var 2))) (Add (Mul (Num (pos 0)) (Var 3)) (Mul (Num (pos 1)) (Var 2))))) (Plus (Hyp 0) (Plus (Hyp 1) (Plus (Hyp 2) (Times (Hyp 1) (Hyp 2))))) 0 (lo, (hi, tt)) refl

-- vars n g; hyp h: 0 < n; goal 0 < 1*n+0*g
pub low_some : (n g : ℤ) → (pos 0) <ℤ n → (pos 0) <ℤ (((pos 1) *ℤ n) +ℤ ((pos 0) *ℤ g))
low_some n g h = prove_lt_by (n ∷ g ∷ []) (Lt (Num (pos 0)) (Var 0) ∷ []) (Num (pos 0)) (Add (Mul (Num (pos 1)) (Var 0)) (Mul (Num (pos 0)) (Var 1))) (Plus (Hyp 0) (Hyp 1)) 0 (h, tt) refl

-- vars n g; hyp h: 0 < n; goal 0 < 0*g+1*n
pub high_some : (n g : ℤ) → (pos 0) <ℤ n → (pos 0) <ℤ (((pos 0) *ℤ g) +ℤ ((pos 1) *ℤ n))
high_some n g h = prove_lt_by (n ∷ g ∷ []) (Lt (Num (pos 0)) (Var 0) ∷ []) (Num (pos 0)) (Add (Mul (Num (pos 0)) (Var 1)) (Mul (Num (pos 1)) (Var 0))) (Plus (Hyp 0) (Hyp 1)) 0 (h, tt) refl

pub low_place : (x z : ℤ) → x ≡ (((pos 1) *ℤ x) +ℤ ((pos 0) *ℤ z))
low_place x z = ring (x ∷ z ∷ []) (Var 0) (Add (Mul (Num (pos 1)) (Var 0)) (Mul (Num (pos 0)) (Var 1))) refl

pub high_place : (x z : ℤ) → x ≡ (((pos 0) *ℤ z) +ℤ ((pos 1) *ℤ x))
high_place x z = ring (x ∷ z ∷ []) (Var 0) (Add (Mul (Num (pos 0)) (Var 1)) (Mul (Num (pos 1)) (Var 0))) refl

pub cancels : (y h : ℤ) → (((((pos 0) -ℤ h) *ℤ y) -ℤ (((pos 0) -ℤ y) *ℤ h)) *ℤ ((((pos 0) -ℤ h) *ℤ y) -ℤ (((pos 0) -ℤ y) *ℤ h))) ≡ (pos 0)
cancels y h = ring (y ∷ h ∷ []) (Mul (Sub (Mul (Sub (Num (pos 0)) (Var 1)) (Var 0)) (Mul (Sub (Num (pos 0)) (Var 0)) (Var 1))) (Sub (Mul (Sub (Num (pos 0)) (Var 1)) (Var 0)) (Mul (Sub (Num (pos 0)) (Var 0)) (Var 1)))) (Num (pos 0)) refl

pub mixed_mirror : (k m P Q : ℤ) → ((k *ℤ P) +ℤ (m *ℤ Q)) ≡ ((k *ℤ P) -ℤ (m *ℤ ((pos 0) -ℤ Q)))
mixed_mirror k m P Q = ring (k ∷ m ∷ P ∷ Q ∷ []) (Add (Mul (Var 0) (Var 2)) (Mul (Var 1) (Var 3))) (Sub (Mul (Var 0) (Var 2)) (Mul (Var 1) (Sub (Num (pos 0)) (Var 3)))) refl

-- vars X Y q; hyp e: X == 0; hyp h: Y*Y < q; goal X*X+Y*Y < q; eqmul e * X
pub axis_near : (X Y q : ℤ) → X ≡ (pos 0) → (Y *ℤ Y) <ℤ q → ((X *ℤ X) +ℤ (Y *ℤ Y)) <ℤ q
axis_near X Y q e h = prove_lt_by (X ∷ Y ∷ q ∷ []) (Eq (Var 0) (Num (pos 0)) ∷ Lt (Mul (Var 1) (Var 1)) (Var 2) ∷ []) (Add (Mul (Var 0) (Var 0)) (Mul (Var 1) (Var 1))) (Var 2) (Plus (Hyp 0) (Plus (Hyp 2) (TimesEq 1 (Var 0)))) 0 (e, (h, tt)) refl

pub unslid : (u v w a b c : ℤ) → (((u *ℤ (a -ℤ (pos 0))) +ℤ (v *ℤ (b -ℤ (pos 0)))) +ℤ (w *ℤ (c -ℤ (pos 0)))) ≡ (((u *ℤ a) +ℤ (v *ℤ b)) +ℤ (w *ℤ c))
unslid u v w a b c = ring (u ∷ v ∷ w ∷ a ∷ b ∷ c ∷ []) (Add (Add (Mul (Var 0) (Sub (Var 3) (Num (pos 0)))) (Mul (Var 1) (Sub (Var 4) (Num (pos 0))))) (Mul (Var 2) (Sub (Var 5) (Num (pos 0))))) (Add (Add (Mul (Var 0) (Var 3)) (Mul (Var 1) (Var 4))) (Mul (Var 2) (Var 5))) refl
