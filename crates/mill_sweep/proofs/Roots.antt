-- The root of the sum of two squares, from the longer of the two lengths on.
use Rattle.std.specs.Prelude.{◌≡◌, ℕ, ◌+◌, ◌*◌, ◌≤◌, max, min}
use Rattle.std.specs.Int.{div_ceil}
use Rattle.std.proofs.Common.{inl, inr, arith}
use Rattle.std.proofs.Math.Nat.{mul-le-mul}
use Rattle.std.proofs.lemmas.Bool.{cases_lt}
use Rattle.std.proofs.lemmas.Grind.{div_ceil_times}

-- sorted by their lengths, their squares have the same sum
pub sorted_sum : (a b : ℕ) → max a b * max a b + min a b * min a b ≡ a * a + b * b
sorted_sum a b = elim (cases_lt a b) [
  | inl less ↦ let most : max a b ≡ b = omega arith in let least : min a b ≡ a = omega arith in rw (most, least) (omega arith)
  | inr more ↦ let most : max a b ≡ a = omega arith in let least : min a b ≡ b = omega arith in rw (most, least) (omega arith)
]

-- the square of the longer and half of the shorter isn't
pub longer_over : (a b : ℕ) → b ≤ a → a * a + b * b ≤ (a + div_ceil b 2) * (a + div_ceil b 2)
longer_over a b order = by (div_ceil b 2) (div_ceil_times b 2 (omega arith)).0
  where
    by : (h : ℕ) → b ≤ h * 2 → a * a + b * b ≤ (a + h) * (a + h)
    by h half = let square : b * b ≤ a * (h * 2) = mul-le-mul order half in omega arith
