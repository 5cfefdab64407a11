-- The axis across a fiber, along which a triangle may lie beside it.
use Rattle.mill_geom.specs.declared.touch.Axis.{Axis}
use Rattle.mill_geom.specs.declared.touch.Axis.TheVariants.{X, Y}

-- the axis across an axis
abbrev pub other_than : Axis → Axis
other_than X = Y
other_than Y = X
