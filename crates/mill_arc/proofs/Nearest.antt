-- A number rounded to the nearest whole number is at most a half from it.
use Rattle.std.specs.Prelude.{◌≡◌, ℕ, suc, ◌+◌, ◌*◌, ◌<◌, ◌≤◌, ℤ, pos, negsuc, neg_ℤ, ◌-ℤ◌, ◌*ℤ◌, ◌≤ℤ◌}
use Rattle.std.proofs.Common.{ap, arith, ◌∙◌}
use Rattle.std.proofs.Math.Nat.{lt-div-mul-add, mul-div-le}
use Rattle.std.proofs.lemmas.Int.{ints}
use lib.IntN.{*ℤ_comm}
use Rattle.mill_base.proofs.Integers.{neg-mul-ℤ}
use Rattle.mill_arc.specs.Places.{nearest, nearest_up}

-- how far n times the nearest number is over z, twice
pub record IsHalf (n : ℕ) (z t : ℤ) : Type 0 where
  pub most : (pos 2 *ℤ (pos n *ℤ t -ℤ z)) ≤ℤ pos n
  pub least : (pos 0 -ℤ pos n) ≤ℤ (pos 2 *ℤ (pos n *ℤ t -ℤ z))

up_half : (a n q : ℕ) → (2 * n) * q ≤ 2 * a + n → 2 * a + n < q * (2 * n) + 2 * n → IsHalf n (pos a) (pos q)
up_half a n q low high = record { most = omega (arith, ints); least = omega (arith, ints) }

pub nearest_half : (z : ℤ) (n : ℕ) → 0 < n → IsHalf n z (nearest z n)
unfolding nearest
nearest_half (pos a) n some = up_half a n (nearest_up a n) (mul-div-le (2 * a + n) (2 * n)) (lt-div-mul-add {a = 2 * a + n} {b = 2 * n} (omega arith))
nearest_half (negsuc a) n some =
    let half = up_half (suc a) n (nearest_up (suc a) n) (mul-div-le (2 * suc a + n) (2 * n)) (lt-div-mul-add {a = 2 * suc a + n} {b = 2 * n} (omega arith)) in
    turned (nearest_up (suc a) n) half
  where
    other : (q : ℤ) → pos n *ℤ neg_ℤ q ≡ neg_ℤ (pos n *ℤ q)
    other q = *ℤ_comm (pos n) (neg_ℤ q) ∙ neg-mul-ℤ q (pos n) ∙ ap neg_ℤ (*ℤ_comm q (pos n))

    over : (s r : ℤ) → r ≡ neg_ℤ s → (pos 2 *ℤ (s -ℤ pos (suc a))) ≤ℤ pos n → (pos 0 -ℤ pos n) ≤ℤ (pos 2 *ℤ (r -ℤ negsuc a))
    over s r e h = omega (arith, ints)

    under : (s r : ℤ) → r ≡ neg_ℤ s → (pos 0 -ℤ pos n) ≤ℤ (pos 2 *ℤ (s -ℤ pos (suc a))) → (pos 2 *ℤ (r -ℤ negsuc a)) ≤ℤ pos n
    under s r e h = omega (arith, ints)

    turned : (q : ℕ) → IsHalf n (pos (suc a)) (pos q) → IsHalf n (negsuc a) (neg_ℤ (pos q))
    turned q h = record {
      most = under (pos n *ℤ pos q) (pos n *ℤ neg_ℤ (pos q)) (other (pos q)) h.least;
      least = over (pos n *ℤ pos q) (pos n *ℤ neg_ℤ (pos q)) (other (pos q)) h.most;
    }
