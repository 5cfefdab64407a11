-- The unit of a text's lengths: a hundredth or a thousandth of a millimetre.
use Rattle.std.specs.Prelude.{ℕ}
use Rattle.mill_base.specs.declared.limits.TheConstants.{MAX_COORDINATE, MAX_TEXT_COORDINATE}
use Rattle.mill_base.specs.declared.unit.Unit.{Unit}
use Rattle.mill_base.specs.declared.unit.Unit.TheVariants.{Hundredth, Thousandth}

-- how many decimals of a millimetre stand for whole units
abbrev pub places_of : Unit → ℕ
places_of Hundredth = 2
places_of Thousandth = 3

-- the greatest magnitude of a coordinate that a text in this unit may give
abbrev pub greatest_of : Unit → ℕ
greatest_of Hundredth = MAX_TEXT_COORDINATE
greatest_of Thousandth = MAX_COORDINATE
