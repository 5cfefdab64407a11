-- Products and powers of ten within their bounds.
use Rattle.std.specs.Prelude.{◌≡◌, ℕ, ◌*◌, ◌^◌, ◌≤◌}
use Rattle.std.proofs.Common.{arith}
use Rattle.std.proofs.Math.Nat.{mul-le-mul, one-le-pow, pow-le-pow_right}

pub times_most : (a b : ℕ) → a ≤ 10 ^ 26 → b ≤ 25400 → a * b ≤ 10 ^ 32
times_most a b p q = by (a * b) (mul-le-mul {n₁ = a} {m₁ = b} {n₂ = 10 ^ 26} {m₂ = 25400} p q)
  where
    by : (t : ℕ) → t ≤ 10 ^ 26 * 25400 → t ≤ 10 ^ 32
    by t h = omega arith

pub raised_most : (a b : ℕ) → a ≤ 10 ^ 18 → b ≤ 10 ^ 18 → a * b ≤ 10 ^ 36
raised_most a b p q = mul-le-mul {n₁ = a} {m₁ = b} {n₂ = 10 ^ 18} {m₂ = 10 ^ 18} p q

pub ten_most : (s : ℕ) → s ≤ 18 → 10 ^ s ≤ 10 ^ 18
ten_most s le = pow-le-pow_right {n = 10} (omega arith) {i = s} {j = 18} le

pub ten_least : (s : ℕ) → 1 ≤ 10 ^ s
ten_least s = one-le-pow s 10 (omega arith)
