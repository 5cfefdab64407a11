-- Where an arc lies, in nanometres, and how far its numbers go.
use Rattle.std.specs.Prelude.{ℕ, ℤ, ◌*◌, ◌^◌, ◌≡◌}
use Rattle.mill_base.specs.Numbers.{Within}
use Rattle.mill_base.specs.Units.{greatest_of}
use Rattle.mill_base.specs.declared.points.Pt3.{Pt3}
use Rattle.mill_base.specs.declared.unit.Unit.{Unit}
use Rattle.mill_arc.specs.Arcs.{IsArc}
use Rattle.mill_arc.specs.Vectors.{IsNear}
use Rattle.mill_arc.specs.declared.vectors.Vector.{Vector}
use Rattle.mill_control.specs.Unrounded.{text_of}
use Rattle.mill_control.specs.declared.unrounded.Coordinate.{Coordinate}
use Rattle.mill_block.specs.declared.machine_arc.Coordinates.{Coordinates}
use Rattle.mill_block.specs.declared.machine_arc.Sweep.{Sweep}
use Rattle.mill_block.specs.declared.machine_arc.WidePoint.{WidePoint}

-- the greatest magnitude of a coordinate, in nanometres
abbrev pub NANO : ℕ
NANO = 2 ^ 17 * 10 ^ 4

abbrev pub point_of : WidePoint → Pt3
point_of q = record { x = q.x; y = q.y; z = q.z }

pub record IsPointWithin (m : ℕ) (q : WidePoint) : Type 0 where
  pub x_within : Within m q.x
  pub y_within : Within m q.y
  pub z_within : Within m q.z

pub record IsWithin (m : ℕ) (v : Vector) : Type 0 where
  pub first_within : Within m v.first
  pub second_within : Within m v.second

-- ---- a text's own numbers

abbrev pub texts_of : Coordinates → Pt3
texts_of c = record { x = text_of c.x; y = text_of c.y; z = text_of c.z }

-- its units are in range, and it has at most half of one beside them
pub record FitsCoordinate (unit : Unit) (c : Coordinate) : Type 0 where
  pub units : Within (greatest_of unit) c.units
  pub finer : Within (5 * 10 ^ 17) c.finer

pub record FitCoordinates (unit : Unit) (c : Coordinates) : Type 0 where
  pub x_fits : FitsCoordinate unit c.x
  pub y_fits : FitsCoordinate unit c.y
  pub z_fits : FitsCoordinate unit c.z

-- ---- an arc

-- its chords can be made, and can be placed
pub record FitsSweep (w : Sweep) : Type 0 where
  pub arc : IsArc w.arc
  pub centre : IsNear w.centre
  pub from : Within (2 ^ 32) w.from
  pub to : Within (2 ^ 32) w.to
