-- A tool at one height over a part.
use Rattle.std.specs.Prelude.{ℤ}
use Rattle.mill_geom.specs.declared.touch.Axis.{Axis}
use Rattle.mill_push.specs.Fibers.{IsBlocked}
use Rattle.mill_level.specs.declared.cut.Cut.{Cut}

-- the tool gouges the part at the position v of the fiber along this axis at the other coordinate across
abbrev pub BlockedOn : Cut → Axis → ℤ → ℤ → Type 0
BlockedOn cut axis at v = IsBlocked cut.tool cut.part.now (record { axis = axis; at = at; z = cut.z }) v
