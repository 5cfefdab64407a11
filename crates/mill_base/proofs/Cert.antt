-- Inequalities over ℤ by a certificate: a sum of products of hypotheses, squares and numerals that is the wanted polynomial.
use Rattle.std.proofs.Common.{◌≡◌, ℕ, suc, zero, Bool, true, false, List, [], ◌∷◌, refl, arith}
use lib.IntN.{ℤ, pos, negsuc, ◌*ℤ◌}
use lib.Signed.{◌<ℤ◌, ◌≤ℤ◌, lt_z}
use Rattle.std.proofs.lemmas.Int.{ints}
use Rattle.mill_base.proofs.Integers.{sq-ℤ, mul_nonneg-ℤ}
use Rattle.mill_base.proofs.Ring.{E, Num, Add, Sub, Mul, den, norm, all_zero, ring}

-- a hypothesis between two polynomials
pub data H : Type 0 where
  Le : E → E → H
  Lt : E → E → H
  Eq : E → E → H

abbrev pub Holds : List ℤ → H → Type 0
Holds ρ (Le a b) = den ρ a ≤ℤ den ρ b
Holds ρ (Lt a b) = den ρ a <ℤ den ρ b
Holds ρ (Eq a b) = den ρ a ≡ den ρ b

abbrev pub Given : List ℤ → List H → Type 0
Given ρ [] = Unit {0}
Given ρ (h ∷ hs) = Holds ρ h × Given ρ hs

pub data C : Type 0 where
  Hyp : ℕ → C  -- right side less left side, and less 1 where strict; 0 for an equation
  TimesEq : ℕ → E → C  -- any multiple of an equation's right side less its left
  Sq : E → C
  Lit : ℕ → C
  Plus : C → C → C
  Times : C → C → C

abbrev pub gap : H → E
gap (Le a b) = Sub b a
gap (Lt a b) = Sub (Sub b a) (Num (pos 1))
gap (Eq a b) = Num (pos 0)

abbrev pub gap_at : List H → ℕ → E
gap_at [] i = Num (pos 0)
gap_at (h ∷ hs) zero = gap h
gap_at (h ∷ hs) (suc i) = gap_at hs i

abbrev pub diff : H → E
diff (Le a b) = Num (pos 0)
diff (Lt a b) = Num (pos 0)
diff (Eq a b) = Sub b a

abbrev pub diff_at : List H → ℕ → E
diff_at [] i = Num (pos 0)
diff_at (h ∷ hs) zero = diff h
diff_at (h ∷ hs) (suc i) = diff_at hs i

abbrev pub value : List H → C → E
value hs (Hyp i) = gap_at hs i
value hs (TimesEq i e) = Mul e (diff_at hs i)
value hs (Sq e) = Mul e e
value hs (Lit n) = Num (pos n)
value hs (Plus a b) = Add (value hs a) (value hs b)
value hs (Times a b) = Mul (value hs a) (value hs b)

gap_is : (ρ : List ℤ) (h : H) → Holds ρ h → (pos 0) ≤ℤ den ρ (gap h)
gap_is ρ (Le a b) h = omega (arith, ints)
gap_is ρ (Lt a b) h = omega (arith, ints)
gap_is ρ (Eq a b) h = omega (arith, ints)

gap_at_is : (ρ : List ℤ) (hs : List H) (i : ℕ) → Given ρ hs → (pos 0) ≤ℤ den ρ (gap_at hs i)
gap_at_is ρ [] i g = omega (arith, ints)
gap_at_is ρ (h ∷ hs) zero g = gap_is ρ h g.0
gap_at_is ρ (h ∷ hs) (suc i) g = gap_at_is ρ hs i g.1

diff_is : (ρ : List ℤ) (h : H) → Holds ρ h → den ρ (diff h) ≡ pos 0
diff_is ρ (Le a b) h = refl
diff_is ρ (Lt a b) h = refl
diff_is ρ (Eq a b) h = omega (arith, ints)

diff_at_is : (ρ : List ℤ) (hs : List H) (i : ℕ) → Given ρ hs → den ρ (diff_at hs i) ≡ pos 0
diff_at_is ρ [] i g = refl
diff_at_is ρ (h ∷ hs) zero g = diff_is ρ h g.0
diff_at_is ρ (h ∷ hs) (suc i) g = diff_at_is ρ hs i g.1

mul-zero-ℤ : (x y : ℤ) → y ≡ pos 0 → (pos 0) ≤ℤ (x *ℤ y)
mul-zero-ℤ x y e = rw e (omega (arith, ints))

value_is : (ρ : List ℤ) (hs : List H) (g : Given ρ hs) (c : C) → (pos 0) ≤ℤ den ρ (value hs c)
value_is ρ hs g (Hyp i) = gap_at_is ρ hs i g
value_is ρ hs g (TimesEq i e) = mul-zero-ℤ (den ρ e) (den ρ (diff_at hs i)) (diff_at_is ρ hs i g)
value_is ρ hs g (Sq e) = sq-ℤ (den ρ e)
value_is ρ hs g (Lit n) = omega (arith, ints)
value_is ρ hs g (Plus a b) = let p = value_is ρ hs g a in let q = value_is ρ hs g b in omega (arith, ints, p, q)
value_is ρ hs g (Times a b) = mul_nonneg-ℤ (den ρ (value hs a)) (den ρ (value hs b)) (value_is ρ hs g a) (value_is ρ hs g b)

-- the hypotheses contradict each other: the certificate's polynomial is -1 - n
pub refute : (ρ : List ℤ) (hs : List H) (c : C) (n : ℕ) → Given ρ hs → all_zero (norm (Add (value hs c) (Num (pos (suc n))))) ≡ true → ⊥
refute ρ hs c n g e =
    let p = value_is ρ hs g c in
    let q = ring ρ (value hs c) (Num (negsuc n)) e in
    below (den ρ (value hs c)) p q
  where
    below : (x : ℤ) → (pos 0) ≤ℤ x → x ≡ negsuc n → ⊥
    below x h e = omega (arith, ints)

-- an order, by refuting its opposite
pub by_opposite_le : (x y : ℤ) → (y <ℤ x → ⊥) → x ≤ℤ y
by_opposite_le x y f = by (lt_z y x) refl
  where
    by : (b : Bool) → lt_z y x ≡ b → x ≤ℤ y
    by true e = absurd (f (omega (arith, ints)))
    by false e = omega (arith, ints)

pub by_opposite_lt : (x y : ℤ) → (y ≤ℤ x → ⊥) → x <ℤ y
by_opposite_lt x y f = by (lt_z x y) refl
  where
    by : (b : Bool) → lt_z x y ≡ b → x <ℤ y
    by true e = omega (arith, ints)
    by false e = absurd (f (omega (arith, ints)))

pub prove_le_by : (ρ : List ℤ) (hs : List H) (a b : E) (c : C) (n : ℕ) → Given ρ hs → all_zero (norm (Add (value (Lt b a ∷ hs) c) (Num (pos (suc n))))) ≡ true → den ρ a ≤ℤ den ρ b
prove_le_by ρ hs a b c n g e = by_opposite_le (den ρ a) (den ρ b) (λ h. refute ρ (Lt b a ∷ hs) c n (h, g) e)

pub prove_lt_by : (ρ : List ℤ) (hs : List H) (a b : E) (c : C) (n : ℕ) → Given ρ hs → all_zero (norm (Add (value (Le b a ∷ hs) c) (Num (pos (suc n))))) ≡ true → den ρ a <ℤ den ρ b
prove_lt_by ρ hs a b c n g e = by_opposite_lt (den ρ a) (den ρ b) (λ h. refute ρ (Le b a ∷ hs) c n (h, g) e)
