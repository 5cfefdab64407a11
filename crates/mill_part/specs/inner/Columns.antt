-- At what heights a triangle stands over a column.
use Rattle.std.specs.Prelude.{◌≡◌, ◌⊎◌, ℤ, pos, ◌+ℤ◌, ◌-ℤ◌, ◌*ℤ◌, ◌<ℤ◌, ◌≤ℤ◌, Option, Some, None}
use Rattle.mill_base.specs.Points.{IsPointOf}
use Rattle.mill_base.specs.Covers.{IsBeside}
use Rattle.mill_base.specs.declared.points.Pt3.{Pt3}
use Rattle.mill_base.specs.declared.points.Tri.{Tri}
use Rattle.mill_base.specs.declared.points.Box2.{Box2}

-- the sum of three numbers, each times its weight
abbrev pub weigh : ℤ → ℤ → ℤ → ℤ → ℤ → ℤ → ℤ
weigh u v w a b c = (u *ℤ a +ℤ v *ℤ b) +ℤ w *ℤ c

-- with these weights, none of them negative, the mean of the triangle's corners is at least as high as h
pub record Reaches (tri : Tri) (u v w h : ℤ) : Type 0 where
  pub u_ok : (pos 0) ≤ℤ u
  pub v_ok : (pos 0) ≤ℤ v
  pub w_ok : (pos 0) ≤ℤ w
  pub high : (((u +ℤ v) +ℤ w) *ℤ h) ≤ℤ weigh u v w tri.a.z tri.b.z tri.c.z

-- some point of the triangle, with the weights u, v and w, is at least as high as h and stands on the column (x, y)
pub record StandsOver (tri : Tri) (x y h : ℤ) : Type 0 where
  pub u : ℤ
  pub v : ℤ
  pub w : ℤ
  pub some : (pos 0) <ℤ ((u +ℤ v) +ℤ w)
  pub on_x : weigh u v w tri.a.x tri.b.x tri.c.x ≡ ((u +ℤ v) +ℤ w) *ℤ x
  pub on_y : weigh u v w tri.a.y tri.b.y tri.c.y ≡ ((u +ℤ v) +ℤ w) *ℤ y
  pub reaches : Reaches tri u v w h

-- some point of the triangle is at least as high as h, and on the column (x, y) or nearer to it than band
pub record CoversColumn (tri : Tri) (band x y h : ℤ) : Type 0 where
  pub n : ℤ
  pub p : Pt3
  pub point : IsPointOf tri n p
  pub high : (n *ℤ h) ≤ℤ p.z
  pub beside : IsBeside band x y n p

-- the square about (x, y) that reaches as far as band in x and in y
abbrev pub square_about : ℤ → ℤ → ℤ → Box2
square_about band x y = record { x0 = x -ℤ band; y0 = y -ℤ band; x1 = x +ℤ band; y1 = y +ℤ band }

-- the greatest number that has a property; none if no number has it
abbrev pub IsGreatest : (ℤ → Type 0) → Option ℤ → Type 0
IsGreatest Has None = (h : ℤ) → ¬ Has h
IsGreatest Has (Some top) = Has top × ((h : ℤ) → Has h → h ≤ℤ top)

-- q is the greatest whole number that is at most n/d
pub record IsFloor (n d q : ℤ) : Type 0 where
  pub below : (d *ℤ q) ≤ℤ n
  pub next : n <ℤ (d *ℤ (q +ℤ pos 1))

-- twice the area between the column (x, y) and the corners p and q, seen from above; positive where they turn left
abbrev pub turn_of : Pt3 → Pt3 → ℤ → ℤ → ℤ
turn_of p q x y = (p.x -ℤ x) *ℤ (q.y -ℤ y) -ℤ (p.y -ℤ y) *ℤ (q.x -ℤ x)

-- three numbers are all over a fourth, all under it, or one of the two
abbrev pub AreOver : ℤ → ℤ → ℤ → ℤ → Type 0
AreOver a b c at = (at <ℤ a) × (at <ℤ b) × (at <ℤ c)

abbrev pub AreUnder : ℤ → ℤ → ℤ → ℤ → Type 0
AreUnder a b c at = (a <ℤ at) × (b <ℤ at) × (c <ℤ at)

abbrev pub AreApart : ℤ → ℤ → ℤ → ℤ → Type 0
AreApart a b c at = AreOver a b c at ⊎ AreUnder a b c at

-- the corners have this x
abbrev pub IsUpright : Tri → ℤ → Type 0
IsUpright tri x = (tri.a.x ≡ x) × (tri.b.x ≡ x) × (tri.c.x ≡ x)
