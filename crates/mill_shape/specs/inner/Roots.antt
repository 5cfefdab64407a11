-- Roots of whole numbers, rounded down and up.
use Rattle.std.specs.Prelude.{ℕ, ◌+◌, ◌-◌, ◌*◌, ◌<◌, ◌≤◌}

-- r is the greatest number whose square is at most n
pub record IsFloorRoot (n r : ℕ) : Type 0 where
  pub below : r * r ≤ n
  pub above : n < (r + 1) * (r + 1)

-- r is the least number whose square is at least n
pub record IsCeilRoot (n r : ℕ) : Type 0 where
  pub reaches : n ≤ r * r
  pub least : 0 < r → (r - 1) * (r - 1) < n
