-- Which heights of a column the part or the floor covers.
use Rattle.std.specs.Prelude.{◌≡◌, ◌⊎◌, ℤ, ◌+ℤ◌, ◌-ℤ◌, ◌*ℤ◌, ◌<ℤ◌, ◌≤ℤ◌, List, Contains}
use Rattle.mill_base.specs.Numbers.{square}
use Rattle.mill_base.specs.Points.{IsPointOf}
use Rattle.mill_base.specs.declared.points.Pt3.{Pt3}
use Rattle.mill_base.specs.declared.points.Tri.{Tri}

-- the point p over n stands on the column (x, y), or at a horizontal distance to it strictly less than band
abbrev pub IsBeside : ℤ → ℤ → ℤ → ℤ → Pt3 → Type 0
IsBeside band x y n p = ((p.x ≡ n *ℤ x) × (p.y ≡ n *ℤ y)) ⊎ ((square (p.x -ℤ n *ℤ x) +ℤ square (p.y -ℤ n *ℤ y)) <ℤ square (n *ℤ band))

-- some part point of height at least h stands on the column, or nearer to it than band
pub record HasPointOver (part : List Tri) (band x y h : ℤ) : Type 0 where
  pub tri : Tri
  pub member : Contains part tri
  pub n : ℤ
  pub p : Pt3
  pub point : IsPointOf tri n p
  pub high : (n *ℤ h) ≤ℤ p.z
  pub beside : IsBeside band x y n p

-- the height h of the column (x, y) is the floor's or lower, or some part point near it is at least as high
abbrev pub Covered : List Tri → ℤ → ℤ → ℤ → ℤ → ℤ → Type 0
Covered part floor band x y h = (h ≤ℤ floor) ⊎ HasPointOver part band x y h

-- h is the greatest covered whole height that isn't over top
pub record IsHighestCovered (part : List Tri) (floor band x y top h : ℤ) : Type 0 where
  pub covered : Covered part floor band x y h
  pub under : h ≤ℤ top
  pub highest : (higher : ℤ) → h <ℤ higher → higher ≤ℤ top → ¬ Covered part floor band x y higher

-- the part's greatest height is at most top
abbrev pub IsUnder : List Tri → ℤ → Type 0
IsUnder part top = (tri : Tri) → Contains part tri → (tri.a.z ≤ℤ top) × (tri.b.z ≤ℤ top) × (tri.c.z ≤ℤ top)

-- if a height is covered, so is every lesser one
abbrev pub CoveredBelow : Type 0
CoveredBelow = (part : List Tri) (floor band x y h lower : ℤ) → lower ≤ℤ h → Covered part floor band x y h → Covered part floor band x y lower
