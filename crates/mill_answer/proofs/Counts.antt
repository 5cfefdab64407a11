-- Counts and statuses that differ.
use Rattle.std.proofs.Common.{◌≡◌, ◌≢◌, ℕ, arith}
use Rattle.std.specs.Prelude.{◌<◌, ◌-◌, ◌^◌}
use Rattle.mill_io.specs.Causes.{Rose}

-- what rose didn't stay
pub stays : (a b : ℕ) → a < b → b ≡ a → ⊥
stays a b h e = omega (h, e, arith)

-- a number isn't one that is greater, or less
pub no : (a b : ℕ) → a < b → a ≢ b
no a b h e = omega (h, e, arith)

pub on : (a b : ℕ) → b < a → a ≢ b
on a b h e = omega (h, e, arith)

-- a count that can still rise, and rose, is greater
pub rises : (before now : ℕ) → before < 2 ^ 64 - 1 → Rose before now → before < now
rises before now room rose = omega (room, rose, arith)
