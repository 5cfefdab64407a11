-- A number in range keeps its value in 32 bits.
use Rattle.std.proofs.Common.{◌≡◌, arith}
use Rattle.std.proofs.lemmas.Int.{ints}
use Rattle.std.specs.Prelude.{ℤ, pos, neg_ℤ, ◌+ℤ◌, ◌-ℤ◌, ◌*ℤ◌, ◌≤ℤ◌}
use mir.Syntax.{w32}
use mir.Val.{to_z, of_z}
use Rattle.mill_base.specs.Numbers.{Within}
use Rattle.mill_base.specs.Sizes.{HasRadius}
use Rattle.mill_base.specs.Solids.{IsLift}
use Rattle.mill_base.specs.Units.{greatest_of}
use Rattle.mill_base.specs.declared.limits.TheConstants.{MAX_COORDINATE, MAX_RADIUS}
use Rattle.mill_base.specs.declared.unit.Unit.{Unit}
use Rattle.mill_base.proofs.Ranges.{greatest_of-le}
use Rattle.mill_job.specs.Jobs.{IsFrom}
use Rattle.mill_job.specs.declared.limits.TheConstants.{MAX_SLACK}
use Rattle.mill_margin.specs.Margins.{IsMargin}

pub stored_number : {lo hi z : ℤ} → IsFrom lo hi z → neg_ℤ (pos MAX_COORDINATE) ≤ℤ lo → hi ≤ℤ pos MAX_COORDINATE → to_z w32 (of_z w32 z) ≡ z
stored_number h low high = omega (arith, ints)

pub stored_coordinate : (unit : Unit) {z : ℤ} → Within (greatest_of unit) z → to_z w32 (of_z w32 z) ≡ z
stored_coordinate unit h = omega (arith, ints, greatest_of-le unit)

-- the greatest coordinate is stored too
pub most : (unit : Unit) → pos (greatest_of unit) ≤ℤ pos MAX_COORDINATE
most unit = omega (arith, ints, greatest_of-le unit)

-- so is a lift
pub stored_lift : {z : ℤ} → IsLift z → to_z w32 (of_z w32 z) ≡ z
stored_lift h = omega (arith, ints, h)

-- so is a difference of two coordinates
pub stored_height : (unit : Unit) {high low : ℤ} → Within (greatest_of unit) high → Within (greatest_of unit) low
    → to_z w32 (of_z w32 (to_z w32 (of_z w32 high) -ℤ to_z w32 (of_z w32 low))) ≡ high -ℤ low
stored_height unit h l = omega (arith, ints, greatest_of-le unit)

-- and a thousand layers
pub stored_layers : (unit : Unit) {layer : ℤ} → IsFrom (pos 0) (pos (greatest_of unit)) layer
    → to_z w32 (of_z w32 (pos 1000 *ℤ to_z w32 (of_z w32 layer))) ≡ pos 1000 *ℤ layer
stored_layers unit h = omega (arith, ints, greatest_of-le unit)

-- the offset of a margin is small
pub small_offset : {s o : ℤ} → IsMargin s → s ≤ℤ o → o ≤ℤ (pos 17 *ℤ s) → IsFrom (pos 0) (pos 8500) o
small_offset h least most = record { low = omega (arith, ints, h); high = omega (arith, ints, h) }

-- so its double is stored, and a height with it
pub stored_double : {z : ℤ} → IsFrom (pos 0) (pos 8500) z → to_z w32 (of_z w32 (pos 2 *ℤ to_z w32 (of_z w32 z))) ≡ pos 2 *ℤ z
stored_double h = omega (arith, ints)

pub stored_over : (unit : Unit) {top z : ℤ} → Within (greatest_of unit) top → IsFrom (pos 0) (pos 8500) z
    → to_z w32 (of_z w32 (to_z w32 (of_z w32 top) +ℤ to_z w32 (of_z w32 z))) ≡ top +ℤ z
stored_over unit t h = omega (arith, ints, greatest_of-le unit)

-- and a height less it
pub stored_under : (unit : Unit) {clear z : ℤ} → Within (greatest_of unit) clear → IsFrom (pos 0) (pos 8500) z
    → to_z w32 (of_z w32 (to_z w32 (of_z w32 clear) -ℤ to_z w32 (of_z w32 z))) ≡ clear -ℤ z
stored_under unit t h = omega (arith, ints, greatest_of-le unit)

-- and a radius with a slack around it
pub stored_around : {r s : ℤ} → HasRadius r MAX_RADIUS → IsFrom (pos 0) MAX_SLACK s → to_z w32 (of_z w32 (to_z w32 (of_z w32 r) +ℤ to_z w32 (of_z w32 s))) ≡ r +ℤ s
stored_around size h = omega (arith, ints, size, h)
