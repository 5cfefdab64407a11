-- Points of triangles, as weighted sums of their corners over a whole denominator.
use Rattle.std.specs.Prelude.{◌≡◌, ℕ, ℤ, pos, List, slice_index_or, ◌+ℤ◌, ◌-ℤ◌, ◌*ℤ◌, ◌<ℤ◌, ◌≤ℤ◌}
use Rattle.mill_base.specs.Numbers.{lesser, greater}
use Rattle.mill_base.specs.declared.points.Pt3.{Pt3}
use Rattle.mill_base.specs.declared.points.Tri.{Tri}

-- the point at these three coordinates
abbrev pub point_at : ℤ → ℤ → ℤ → Pt3
point_at x y z = record { x = x; y = y; z = z }

-- sum, difference and multiple of points, coordinate by coordinate
abbrev pub plus : Pt3 → Pt3 → Pt3
plus p q = record { x = p.x +ℤ q.x; y = p.y +ℤ q.y; z = p.z +ℤ q.z }

abbrev pub minus : Pt3 → Pt3 → Pt3
minus p q = record { x = p.x -ℤ q.x; y = p.y -ℤ q.y; z = p.z -ℤ q.z }

abbrev pub times : ℤ → Pt3 → Pt3
times n p = record { x = n *ℤ p.x; y = n *ℤ p.y; z = n *ℤ p.z }

-- the point p over the denominator n is a weighted mean of the triangle's corners: p = u*A + v*B + w*C and n = u + v + w
pub record IsPointOf (tri : Tri) (n : ℤ) (p : Pt3) : Type 0 where
  pub u : ℤ
  pub v : ℤ
  pub w : ℤ
  pub u_ok : (pos 0) ≤ℤ u
  pub v_ok : (pos 0) ≤ℤ v
  pub w_ok : (pos 0) ≤ℤ w
  pub some : (pos 0) <ℤ n
  pub weights : n ≡ (u +ℤ v) +ℤ w
  pub place : p ≡ plus (plus (times u tri.a) (times v tri.b)) (times w tri.c)

-- the triangle of three equal corners, which is a point
abbrev pub point_tri : Pt3 → Tri
point_tri p = record { a = p; b = p; c = p }

-- triangle i; there is none past the end, so what stands there is never looked at
abbrev pub tri_at : List Tri → ℕ → Tri
tri_at part i = slice_index_or part i (point_tri (point_at (pos 0) (pos 0) (pos 0)))

-- the greatest of a triangle's three heights
abbrev pub highest : Tri → ℤ
highest tri = greater tri.a.z (greater tri.b.z tri.c.z)

-- the least and the greatest x and y of a triangle
abbrev pub least_x : Tri → ℤ
least_x t = lesser t.a.x (lesser t.b.x t.c.x)

abbrev pub most_x : Tri → ℤ
most_x t = greater t.a.x (greater t.b.x t.c.x)

abbrev pub least_y : Tri → ℤ
least_y t = lesser t.a.y (lesser t.b.y t.c.y)

abbrev pub most_y : Tri → ℤ
most_y t = greater t.a.y (greater t.b.y t.c.y)
