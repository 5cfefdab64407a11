-- Heights over a tool's tip.
use Rattle.std.specs.Prelude.{◌≡◌, ℤ, pos, negsuc, zero, suc, ◌+ℤ◌, ◌*ℤ◌}
use Rattle.std.proofs.Common.{refl, arith}
use Rattle.std.proofs.lemmas.Int.{ints}
use Rattle.mill_base.specs.Solids.{higher}

nothing_higher : (m z : ℤ) → z ≡ z +ℤ m *ℤ pos 0
nothing_higher m z = omega (arith, ints)

pub higher_is : (m z lift : ℤ) → higher m z lift ≡ z +ℤ m *ℤ lift
higher_is m z (pos zero) = nothing_higher m z
higher_is m z (pos (suc n)) = refl
higher_is m z (negsuc n) = refl

pub higher_once : (z lift : ℤ) → higher (pos 1) z lift ≡ z +ℤ lift
higher_once z lift = rw (higher_is (pos 1) z lift) (once z lift)
  where
    once : (a b : ℤ) → (a +ℤ pos 1 *ℤ b) ≡ a +ℤ b
    once a b = omega (arith, ints)
