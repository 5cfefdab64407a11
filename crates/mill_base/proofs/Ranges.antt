-- What texts give is in the range that calls take, and 32 bits hold it.
use native.Mathlib.Omega.{arith}
use Rattle.std.specs.Prelude.{◌≡◌, ◌≤◌, ℤ, List}
use Rattle.std.proofs.Common.{refl}
use mir.Syntax.{w32}
use Rattle.mill_base.specs.Numbers.{Within}
use Rattle.mill_base.specs.Units.{greatest_of}
use Rattle.mill_base.specs.Ranges.{IsInRange, MoveInRange, MovesInRange, IsInUnitRange, MoveInUnitRange, MovesInUnitRange}
use Rattle.mill_base.specs.declared.limits.TheConstants.{MAX_COORDINATE}
use Rattle.mill_base.specs.declared.points.Pt3.{Pt3}
use Rattle.mill_base.specs.declared.motion.Move.{Move}
use Rattle.mill_base.specs.declared.unit.Unit.{Unit}
use Rattle.mill_base.specs.declared.unit.Unit.TheVariants.{Hundredth, Thousandth}
use Rattle.mill_base.proofs.Machine.{stored, kept}

pub greatest_of-le : (unit : Unit) → greatest_of unit ≤ MAX_COORDINATE
greatest_of-le Hundredth = omega arith
greatest_of-le Thousandth = omega arith

pub within_of_unit : (unit : Unit) (a : ℤ) → Within (greatest_of unit) a → Within MAX_COORDINATE a
within_of_unit unit a h = record { within = omega (arith, greatest_of-le unit, h.within) }

pub in_range_of_unit : (unit : Unit) (p : Pt3) → IsInUnitRange unit p → IsInRange p
in_range_of_unit unit p h =
    record { x_ok = within_of_unit unit p.x h.x_ok; y_ok = within_of_unit unit p.y h.y_ok; z_ok = within_of_unit unit p.z h.z_ok }

pub move_of_unit : (unit : Unit) (move : Move) → MoveInUnitRange unit move → MoveInRange move
move_of_unit unit move h = record { from_ok = in_range_of_unit unit move.from h.from_ok; to_ok = in_range_of_unit unit move.to h.to_ok }

pub moves_of_unit : (unit : Unit) (moves : List Move) → MovesInUnitRange unit moves → MovesInRange moves
moves_of_unit unit moves h = λ move member. move_of_unit unit move (h move member)

-- a coordinate is stored as it is
pub coordinate : (z : ℤ) → Within MAX_COORDINATE z → stored w32 z ≡ z
coordinate z h = kept w32 z 524287 h.within refl
