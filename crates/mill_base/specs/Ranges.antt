-- The two ranges of coordinates: what calls take, and what texts give, which lies within it.
use Rattle.std.specs.Prelude.{List, Contains}
use Rattle.mill_base.specs.Numbers.{Within}
use Rattle.mill_base.specs.Units.{greatest_of}
use Rattle.mill_base.specs.declared.limits.TheConstants.{MAX_COORDINATE}
use Rattle.mill_base.specs.declared.points.Pt3.{Pt3}
use Rattle.mill_base.specs.declared.points.Tri.{Tri}
use Rattle.mill_base.specs.declared.motion.Move.{Move}
use Rattle.mill_base.specs.declared.unit.Unit.{Unit}

-- ---- what calls take

-- each coordinate of the point is one that calls take
pub record IsInRange (p : Pt3) : Type 0 where
  pub x_ok : Within MAX_COORDINATE p.x
  pub y_ok : Within MAX_COORDINATE p.y
  pub z_ok : Within MAX_COORDINATE p.z

-- so is each of a triangle's corners
pub record TriInRange (tri : Tri) : Type 0 where
  pub a_ok : IsInRange tri.a
  pub b_ok : IsInRange tri.b
  pub c_ok : IsInRange tri.c

-- so are a move's two ends
pub record MoveInRange (move : Move) : Type 0 where
  pub from_ok : IsInRange move.from
  pub to_ok : IsInRange move.to

-- so is each triangle of a list
abbrev pub TrisInRange : List Tri → Type 0
TrisInRange tris = (tri : Tri) → Contains tris tri → TriInRange tri

-- so is each move of a list
abbrev pub MovesInRange : List Move → Type 0
MovesInRange moves = (m : Move) → Contains moves m → MoveInRange m

-- ---- what texts in a unit give

-- each coordinate of the point is one that a text in this unit may give
pub record IsInUnitRange (unit : Unit) (p : Pt3) : Type 0 where
  pub x_ok : Within (greatest_of unit) p.x
  pub y_ok : Within (greatest_of unit) p.y
  pub z_ok : Within (greatest_of unit) p.z

-- so is each of a triangle's corners
pub record TriInUnitRange (unit : Unit) (tri : Tri) : Type 0 where
  pub a_ok : IsInUnitRange unit tri.a
  pub b_ok : IsInUnitRange unit tri.b
  pub c_ok : IsInUnitRange unit tri.c

-- so are a move's two ends
pub record MoveInUnitRange (unit : Unit) (move : Move) : Type 0 where
  pub from_ok : IsInUnitRange unit move.from
  pub to_ok : IsInUnitRange unit move.to

-- so is each triangle of a list
abbrev pub TrisInUnitRange : Unit → List Tri → Type 0
TrisInUnitRange unit tris = (tri : Tri) → Contains tris tri → TriInUnitRange unit tri

-- so is each move of a list
abbrev pub MovesInUnitRange : Unit → List Move → Type 0
MovesInUnitRange unit moves = (m : Move) → Contains moves m → MoveInUnitRange unit m
