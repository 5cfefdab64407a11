-- Boxes of triangles in x and y, and when they meet.
use Rattle.std.specs.Prelude.{ℕ, ◌<◌, ℤ, pos, ◌≤ℤ◌, List, [], ◌∷◌, length, map, fold, slice_index_or}
use Rattle.mill_base.specs.Numbers.{Within, lesser, greater}
use Rattle.mill_base.specs.declared.limits.TheConstants.{MAX_COORDINATE}
use Rattle.mill_base.specs.Points.{least_x, least_y, most_x, most_y}
use Rattle.mill_base.specs.declared.points.Tri.{Tri}
use Rattle.mill_base.specs.declared.points.Box2.{Box2}

-- the box of a triangle
abbrev pub box_of : Tri → Box2
box_of t = record { x0 = least_x t; y0 = least_y t; x1 = most_x t; y1 = most_y t }

-- the boxes of a list of triangles, in its order
abbrev pub boxes_of : List Tri → List Box2
boxes_of tris = map box_of tris

-- the box of the origin
abbrev pub origin_box : Box2
origin_box = record { x0 = pos 0; y0 = pos 0; x1 = pos 0; y1 = pos 0 }

-- the box of number i
abbrev pub box_at : List Box2 → ℕ → Box2
box_at boxes i = slice_index_or boxes i origin_box

-- the point (x, y) is in the box or on its border
pub record IsIn (b : Box2) (x y : ℤ) : Type 0 where
  pub right : b.x0 ≤ℤ x
  pub left : x ≤ℤ b.x1
  pub over : b.y0 ≤ℤ y
  pub under : y ≤ℤ b.y1

-- some point is in both boxes
pub record Meet (a b : Box2) : Type 0 where
  pub x : ℤ
  pub y : ℤ
  pub in_first : IsIn a x y
  pub in_second : IsIn b x y

-- the box of number i meets the area
pub record IsNear (boxes : List Box2) (area : Box2) (i : ℕ) : Type 0 where
  pub within : i < length boxes
  pub meets : Meet (box_at boxes i) area

-- the least box that holds both
abbrev pub widened : Box2 → Box2 → Box2
widened a b = record { x0 = lesser a.x0 b.x0; y0 = lesser a.y0 b.y0; x1 = greater a.x1 b.x1; y1 = greater a.y1 b.y1 }

-- the least box that holds the boxes of all triangles; without triangles, that of the origin
abbrev pub bounds_of : List Tri → Box2
bounds_of [] = origin_box
bounds_of (t ∷ tris) = fold (λ b u. widened b (box_of u)) (box_of t) tris

-- the ends are in range and the right way round
pub record IsBounds (b : Box2) : Type 0 where
  pub x0_ok : Within MAX_COORDINATE b.x0
  pub y0_ok : Within MAX_COORDINATE b.y0
  pub x1_ok : Within MAX_COORDINATE b.x1
  pub y1_ok : Within MAX_COORDINATE b.y1
  pub x_order : b.x0 ≤ℤ b.x1
  pub y_order : b.y0 ≤ℤ b.y1

-- the inner box's ends are the right way round and within the outer box
pub record IsInside (outer inner : Box2) : Type 0 where
  pub west : outer.x0 ≤ℤ inner.x0
  pub x_order : inner.x0 ≤ℤ inner.x1
  pub east : inner.x1 ≤ℤ outer.x1
  pub south : outer.y0 ≤ℤ inner.y0
  pub y_order : inner.y0 ≤ℤ inner.y1
  pub north : inner.y1 ≤ℤ outer.y1

-- so is each box of the list
abbrev pub AllInside : Box2 → List Box2 → Type 0
AllInside outer boxes = (i : ℕ) → i < length boxes → IsInside outer (box_at boxes i)

-- a box holds exactly what two others have in common
abbrev pub IsCommon : Box2 → Box2 → Box2 → Type 0
IsCommon a b both = (x y : ℤ) → IsIn a x y → IsIn b x y → IsIn both x y
