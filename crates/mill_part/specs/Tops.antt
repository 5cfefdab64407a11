-- The part's greatest height.
use Rattle.std.specs.Prelude.{◌≡◌, ◌⊎◌, ℤ, List, Contains}
use Rattle.mill_base.specs.Covers.{IsUnder}
use Rattle.mill_base.specs.declared.points.Tri.{Tri}

-- z is the height of one of the triangle's corners
abbrev pub HasCornerAt : Tri → ℤ → Type 0
HasCornerAt tri z = (tri.a.z ≡ z) ⊎ ((tri.b.z ≡ z) ⊎ (tri.c.z ≡ z))

-- top is the height of some corner of the part, and no corner is higher
pub record IsTop (part : List Tri) (top : ℤ) : Type 0 where
  pub under : IsUnder part top
  pub tri : Tri
  pub member : Contains part tri
  pub corner : HasCornerAt tri top
