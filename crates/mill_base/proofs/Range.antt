-- That a polynomial of bounded numbers fits a width, by computation.
use Rattle.std.proofs.Common.{◌≡◌, ℕ, suc, zero, ◌+◌, ◌*◌, ◌^◌, ◌<◌, ◌≤◌, true, ltb, List, [], ◌∷◌, sym, subst, arith, FitsSigned}
use Rattle.std.proofs.Math.Nat.{mul-le-mul}
use lib.Dec.{ltb→lt, T}
use lib.IntN.{ℤ, neg_ℤ, ◌+ℤ◌, ◌*ℤ◌, nat_abs}
use mir.Syntax.{Width}
use mir.Val.{hbits}
use Rattle.std.proofs.lemmas.Int.{ints, unsigned_abs-mul, fits_signed_from_abs}
use Rattle.mill_base.proofs.Ring.{E, Var, Num, Add, Sub, Mul, Neg, at, den}

abbrev pub nth : List ℕ → ℕ → ℕ
nth [] i = 0
nth (x ∷ bs) zero = x
nth (x ∷ bs) (suc i) = nth bs i

-- how far from 0 the expression can be
abbrev pub bound : List ℕ → E → ℕ
bound bs (Var i) = nth bs i
bound bs (Num c) = nat_abs c
bound bs (Add a b) = bound bs a + bound bs b
bound bs (Sub a b) = bound bs a + bound bs b
bound bs (Mul a b) = bound bs a * bound bs b
bound bs (Neg a) = bound bs a

-- each variable is at most its bound away from 0
abbrev pub Bounded : List ℤ → List ℕ → Type 0
Bounded [] bs = Unit {0}
Bounded (x ∷ ρ) [] = (nat_abs x ≤ 0) × Bounded ρ []
Bounded (x ∷ ρ) (b ∷ bs) = (nat_abs x ≤ b) × Bounded ρ bs

at_is : (ρ : List ℤ) (bs : List ℕ) (i : ℕ) → Bounded ρ bs → nat_abs (at ρ i) ≤ nth bs i
at_is [] [] i h = omega arith
at_is [] (b ∷ bs) i h = omega arith
at_is (x ∷ ρ) [] zero h = h.0
at_is (x ∷ ρ) [] (suc i) h = at_is ρ [] i h.1
at_is (x ∷ ρ) (b ∷ bs) zero h = h.0
at_is (x ∷ ρ) (b ∷ bs) (suc i) h = at_is ρ bs i h.1

abs-add : (x y : ℤ) (a b : ℕ) → nat_abs x ≤ a → nat_abs y ≤ b → nat_abs (x +ℤ y) ≤ a + b
abs-add x y a b h k = omega (arith, ints)

abs-neg : (x : ℤ) (a : ℕ) → nat_abs x ≤ a → nat_abs (neg_ℤ x) ≤ a
abs-neg x a h = omega (arith, ints)

abs-mul : (x y : ℤ) (a b : ℕ) → nat_abs x ≤ a → nat_abs y ≤ b → nat_abs (x *ℤ y) ≤ a * b
abs-mul x y a b h k = rw unsigned_abs-mul (mul-le-mul h k)

pub bound_is : (ρ : List ℤ) (bs : List ℕ) (e : E) → Bounded ρ bs → nat_abs (den ρ e) ≤ bound bs e
bound_is ρ bs (Var i) h = at_is ρ bs i h
bound_is ρ bs (Num c) h = omega arith
bound_is ρ bs (Add a b) h = abs-add (den ρ a) (den ρ b) (bound bs a) (bound bs b) (bound_is ρ bs a h) (bound_is ρ bs b h)
bound_is ρ bs (Sub a b) h = abs-add (den ρ a) (neg_ℤ (den ρ b)) (bound bs a) (bound bs b) (bound_is ρ bs a h) (abs-neg (den ρ b) (bound bs b) (bound_is ρ bs b h))
bound_is ρ bs (Mul a b) h = abs-mul (den ρ a) (den ρ b) (bound bs a) (bound bs b) (bound_is ρ bs a h) (bound_is ρ bs b h)
bound_is ρ bs (Neg a) h = abs-neg (den ρ a) (bound bs a) (bound_is ρ bs a h)

pub fits : (w : Width) (ρ : List ℤ) (bs : List ℕ) (e : E) → Bounded ρ bs → ltb (bound bs e) (2 ^ hbits w) ≡ true → FitsSigned w (den ρ e)
fits w ρ bs e h c = fits_signed_from_abs w (den ρ e) (let k = bound_is ρ bs e h in let l : bound bs e < 2 ^ hbits w = ltb→lt _ _ (subst T (sym c) tt) in omega arith)
