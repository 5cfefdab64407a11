-- The lists of triangles that make a part.
use Rattle.std.specs.Prelude.{◌<◌, ◌^◌, ℤ, List, [], ◌∷◌, length, Option, Some, None}
use Rattle.std.specs.Option.{option_map_or}
use Rattle.mill_base.specs.Numbers.{greater}
use Rattle.mill_base.specs.Points.{highest}
use Rattle.mill_base.specs.Ranges.{TrisInRange}
use Rattle.mill_base.specs.declared.points.Tri.{Tri}

-- each coordinate is in range, and the triangles can be numbered by 32 bits
pub record IsPartList (tris : List Tri) : Type 0 where
  pub in_range : TrisInRange tris
  pub count : length tris < 2 ^ 32

-- the greatest height of any corner; none without triangles
abbrev pub top_of : List Tri → Option ℤ
top_of [] = None
top_of (tri ∷ tris) = Some (option_map_or (greater (highest tri)) (top_of tris) (highest tri))
