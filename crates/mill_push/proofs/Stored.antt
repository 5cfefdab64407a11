-- Positions as the machine stores them.
use Rattle.std.proofs.Common.{◌≡◌, ◌<◌, w32, to_z, of_z, false, arith}
use Rattle.std.specs.Prelude.{nat_abs}
use Rattle.std.proofs.lemmas.Int.{ints, to_z-of_z, fits_signed_from_abs}
use lib.IntN.{ℤ, pos, ◌+ℤ◌, ◌-ℤ◌}
use lib.Signed.{◌≤ℤ◌, lt_z}
use Rattle.mill_base.specs.Numbers.{Within}
use Rattle.mill_base.specs.declared.limits.TheConstants.{MAX_COORDINATE}

-- what a test tells
pub at_most_from : (a b : ℤ) → lt_z b a ≡ false → a ≤ℤ b
at_most_from a b h = omega (h, arith, ints)

-- a small number is stored as it is
pub small : (v : ℤ) → nat_abs v < 2147483648 → to_z w32 (of_z w32 v) ≡ v
small v h = to_z-of_z w32 v (fits_signed_from_abs w32 v h)

-- a number between two in range, and its neighbours
pub within_between : (low v high : ℤ) → Within MAX_COORDINATE low → Within MAX_COORDINATE high → low ≤ℤ v → v ≤ℤ high → Within MAX_COORDINATE v
within_between low v high h k a b = let x = h.within in let y = k.within in record { within = omega (arith, ints) }

pub less_one : (v : ℤ) → Within MAX_COORDINATE v → to_z w32 (of_z w32 (v -ℤ pos 1)) ≡ v -ℤ pos 1
less_one v h = let w = h.within in small (v -ℤ pos 1) (omega (arith, ints))

pub and_one : (v : ℤ) → Within MAX_COORDINATE v → to_z w32 (of_z w32 (v +ℤ pos 1)) ≡ v +ℤ pos 1
and_one v h = let w = h.within in small (v +ℤ pos 1) (omega (arith, ints))

pub through : (a b c : ℤ) → a ≤ℤ b → b ≤ℤ c → a ≤ℤ c
through a b c h k = omega (arith, ints)

pub stored : (v : ℤ) → Within MAX_COORDINATE v → to_z w32 (of_z w32 v) ≡ v
stored v h = let w = h.within in small v (omega (arith, ints))

-- a reach, and a reach more or less than a position
pub stored_reach : (r : ℤ) → (pos 1) ≤ℤ r → r ≤ℤ pos 10000 → to_z w32 (of_z w32 r) ≡ r
stored_reach r a b = small r (omega (arith, ints))

pub stored_slope : (a : ℤ) → (pos 1) ≤ℤ a → a ≤ℤ pos 100 → to_z w32 (of_z w32 a) ≡ a
stored_slope a h k = small a (omega (arith, ints))

pub less_reach : (x r : ℤ) → Within MAX_COORDINATE x → (pos 1) ≤ℤ r → r ≤ℤ pos 10000 → to_z w32 (of_z w32 (x -ℤ r)) ≡ x -ℤ r
less_reach x r h a b = let w = h.within in small (x -ℤ r) (omega (arith, ints))

pub and_reach : (x r : ℤ) → Within MAX_COORDINATE x → (pos 1) ≤ℤ r → r ≤ℤ pos 10000 → to_z w32 (of_z w32 (x +ℤ r)) ≡ x +ℤ r
and_reach x r h a b = let w = h.within in small (x +ℤ r) (omega (arith, ints))

-- how far it is from a to b
pub difference : (a b : ℤ) → Within MAX_COORDINATE a → Within MAX_COORDINATE b → to_z w32 (of_z w32 (b -ℤ a)) ≡ b -ℤ a
difference a b h k = let x = h.within in let y = k.within in small (b -ℤ a) (omega (arith, ints))
