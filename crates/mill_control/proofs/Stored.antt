-- A number in range keeps its value in 32 bits.
use Rattle.std.proofs.Common.{◌≡◌, arith}
use Rattle.std.proofs.lemmas.Int.{ints}
use Rattle.std.specs.Prelude.{ℤ, pos, ◌+ℤ◌, ◌≤ℤ◌}
use mir.Syntax.{w32}
use mir.Val.{to_z, of_z}
use Rattle.mill_base.specs.Numbers.{Within}
use Rattle.mill_base.specs.Units.{greatest_of}
use Rattle.mill_base.specs.declared.unit.Unit.{Unit}
use Rattle.mill_base.proofs.Ranges.{greatest_of-le}

-- a height shortly over another
pub stored_over : (unit : Unit) {depth clearance : ℤ} → Within (greatest_of unit) depth → pos 0 ≤ℤ clearance → clearance ≤ℤ pos 65535
    → to_z w32 (of_z w32 (to_z w32 (of_z w32 depth) +ℤ to_z w32 (of_z w32 clearance))) ≡ depth +ℤ clearance
stored_over unit h least most = omega (arith, ints, greatest_of-le unit)
