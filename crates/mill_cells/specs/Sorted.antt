-- What a grid of cells knows of each triangle.
use Rattle.std.specs.Prelude.{ℕ, ℤ, pos, ◌<ℤ◌, ◌≤ℤ◌, int_lt, List, map, filter, slice_index_or, All}
use Rattle.mill_base.specs.Points.{highest}
use Rattle.mill_base.specs.declared.points.Tri.{Tri}
use Rattle.mill_base.specs.declared.points.Box2.{Box2}
use Rattle.mill_cells.specs.Boxes.{boxes_of, IsNear}

-- the boxes and the tops of the triangles, in their order
pub record Sorted : Type 0 where
  pub boxes : List Box2
  pub tops : List ℤ

-- a triangle's top is the greatest of its three heights, in units
abbrev pub sorted_of : List Tri → Sorted
sorted_of tris = record { boxes = boxes_of tris; tops = map highest tris }

-- the height of number i in the list
abbrev pub top_at : List ℤ → ℕ → ℤ
top_at heights i = slice_index_or heights i (pos 0)

-- none of these numbers has a top over the height
abbrev pub AreUnder : List ℤ → ℤ → List ℕ → Type 0
AreUnder tops height = All (λ i. top_at tops i ≤ℤ height)

-- the box of number i meets the area, and its top is over the height
pub record IsNearOver (sorted : Sorted) (area : Box2) (height : ℤ) (i : ℕ) : Type 0 where
  pub near : IsNear sorted.boxes area i
  pub over : height <ℤ top_at sorted.tops i

-- of these numbers, those whose top is over the height
abbrev pub over_of : List ℤ → ℤ → List ℕ → List ℕ
over_of tops height numbers = filter (λ i. int_lt height (top_at tops i)) numbers
