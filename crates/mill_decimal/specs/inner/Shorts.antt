-- What a short decimal means.
use Rattle.std.specs.Prelude.{pos, ◌+ℤ◌, ◌-ℤ◌}
use Rattle.mill_base.specs.declared.unit.Unit.{Unit}
use Rattle.mill_base.specs.Units.{places_of}
use Rattle.mill_decimal.specs.declared.scaled.Scaled.{Scaled}
use Rattle.mill_decimal.specs.declared.short.Short.{Short}

-- its units: each digit behind the point takes one from the power, and each decimal of a unit adds one
abbrev pub scaled_from : Unit → Short → Scaled
scaled_from unit s = record { negative = s.negative; mantissa = s.mantissa; power = (pos 0 -ℤ pos s.places) +ℤ pos (places_of unit) }
