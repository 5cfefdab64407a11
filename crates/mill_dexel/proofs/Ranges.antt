-- A coordinate of a job's unit is in the range that calls take, also as it is stored.
use Rattle.std.specs.Prelude.{ℤ}
use Rattle.std.proofs.Common.{sym, subst}
use mir.Syntax.{w32}
use Rattle.mill_base.specs.Numbers.{Within}
use Rattle.mill_base.specs.Units.{greatest_of}
use Rattle.mill_base.specs.declared.limits.TheConstants.{MAX_COORDINATE}
use Rattle.mill_base.specs.declared.unit.Unit.{Unit}
use Rattle.mill_base.proofs.Machine.{stored}
use Rattle.mill_base.proofs.Ranges.{coordinate, within_of_unit}

pub stored_within : (unit : Unit) (z : ℤ) → Within (greatest_of unit) z → Within MAX_COORDINATE (stored w32 z)
stored_within unit z h =
    let in_range = within_of_unit unit z h in
    subst (Within MAX_COORDINATE) (sym (coordinate z in_range)) in_range
