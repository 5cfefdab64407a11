-- The lesser and the greater of two numbers.
use Rattle.std.proofs.Common.{◌≡◌, ◌⊎◌, inl, inr, refl, Bool, true, false, arith}
use Rattle.std.specs.Prelude.{ℤ, ◌<ℤ◌, ◌≤ℤ◌, cond, int_lt}
use Rattle.std.specs.Int.{int_max}
use Rattle.std.proofs.lemmas.Int.{ints}
use Rattle.mill_base.specs.Numbers.{lesser, greater}

pub greater_left : (a b : ℤ) → a ≤ℤ greater a b
greater_left a b = by (int_lt a b) refl
  where
    by : (t : Bool) → int_lt a b ≡ t → a ≤ℤ cond t b a
    by true e = omega (arith, ints)
    by false e = omega (arith, ints)

pub greater_right : (a b : ℤ) → b ≤ℤ greater a b
greater_right a b = by (int_lt a b) refl
  where
    by : (t : Bool) → int_lt a b ≡ t → b ≤ℤ cond t b a
    by true e = omega (arith, ints)
    by false e = omega (arith, ints)

-- the greater of two is one of them, so what bounds both bounds it
pub greater_least : (a b c : ℤ) → a ≤ℤ c → b ≤ℤ c → greater a b ≤ℤ c
greater_least a b c h k = by (int_lt a b)
  where
    by : (t : Bool) → cond t b a ≤ℤ c
    by true = k
    by false = h

pub lesser_left : (a b : ℤ) → lesser a b ≤ℤ a
lesser_left a b = by (int_lt b a) refl
  where
    by : (t : Bool) → int_lt b a ≡ t → cond t b a ≤ℤ a
    by true e = omega (arith, ints)
    by false e = omega (arith, ints)

-- the lesser of two is under h only where one of them is
pub lesser_under : (a b h : ℤ) → lesser a b <ℤ h → (a <ℤ h) ⊎ (b <ℤ h)
lesser_under a b h = by (int_lt b a)
  where
    by : (t : Bool) → cond t b a <ℤ h → (a <ℤ h) ⊎ (b <ℤ h)
    by true l = inr l
    by false l = inl l

pub lesser_right : (a b : ℤ) → lesser a b ≤ℤ b
lesser_right a b = by (int_lt b a) refl
  where
    by : (t : Bool) → int_lt b a ≡ t → cond t b a ≤ℤ b
    by true e = omega (arith, ints)
    by false e = omega (arith, ints)

pub greater_is : (a b : ℤ) → (greater a b ≡ a) ⊎ (greater a b ≡ b)
greater_is a b = by (int_lt a b)
  where
    by : (t : Bool) → (cond t b a ≡ a) ⊎ (cond t b a ≡ b)
    by true = inr refl
    by false = inl refl

-- the greater of a number and a lesser one is that number
pub greater_of_less : (a b : ℤ) → b ≤ℤ a → a ≡ greater a b
greater_of_less a b h = by (int_lt a b) refl
  where
    by : (t : Bool) → int_lt a b ≡ t → a ≡ cond t b a
    by true e = absurd (omega (arith, ints))
    by false e = refl

-- the same as the code has it
pub most_is : (a b : ℤ) → int_max a b ≡ greater a b
most_is a b = grind (arith, ints)
