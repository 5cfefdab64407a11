-- Powers of two at half an exponent, and a search for a root.
use Rattle.std.specs.Prelude.{◌≡◌, ℕ, ◌+◌, ◌*◌, ◌/◌, ◌^◌, ◌<◌, ◌≤◌}
use Rattle.std.proofs.Common.{arith, subst}
use Rattle.std.proofs.lemmas.Nat.{pow-add}
use Rattle.std.proofs.Math.Pow.{pow_mono}

-- the square of the power at half the exponent, rounded down, is at most the power
pub square_at_half : (k : ℕ) → 2 ^ (k / 2) * 2 ^ (k / 2) ≤ 2 ^ k
square_at_half k = subst (λ s. s ≤ 2 ^ k) (pow-add 2 (k / 2) (k / 2)) (pow_mono {i = k / 2 + k / 2} {j = k} (omega (arith)))

-- the square of the next power is at least the next power
pub square_over_half : (k : ℕ) → 2 * 2 ^ k ≤ (2 * 2 ^ (k / 2)) * (2 * 2 ^ (k / 2))
square_over_half k = by (pow-add 2 1 k) (pow-add 2 1 (k / 2)) (pow-add 2 (1 + k / 2) (1 + k / 2))
  where
    by : 2 ^ (1 + k) ≡ 2 ^ 1 * 2 ^ k → 2 ^ (1 + k / 2) ≡ 2 ^ 1 * 2 ^ (k / 2) → 2 ^ ((1 + k / 2) + (1 + k / 2)) ≡ 2 ^ (1 + k / 2) * 2 ^ (1 + k / 2) → 2 * 2 ^ k ≤ (2 * 2 ^ (k / 2)) * (2 * 2 ^ (k / 2))
    by one half both = subst (λ s. s ≤ (2 * 2 ^ (k / 2)) * (2 * 2 ^ (k / 2))) one (subst (λ s. 2 ^ (1 + k) ≤ s * s) half (subst (λ s. 2 ^ (1 + k) ≤ s) both (pow_mono {i = 1 + k} {j = (1 + k / 2) + (1 + k / 2)} (omega (arith)))))

-- the root of n lies from low on and under high
pub record IsRootBetween (n low high : ℕ) : Type 0 where
  pub low_ok : low * low ≤ n
  pub high_ok : n < high * high
  pub most : high ≤ 2 ^ 32
