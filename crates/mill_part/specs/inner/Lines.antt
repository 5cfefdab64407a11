-- At what heights an edge or a triangle that is seen as a line from above stands over a column.
use Rattle.std.specs.Prelude.{◌≡◌, ℤ, pos, ◌+ℤ◌, ◌*ℤ◌, ◌<ℤ◌, ◌≤ℤ◌}
use Rattle.mill_part.specs.inner.Columns.{weigh}
use Rattle.mill_part.specs.declared.line.LineCorner.{LineCorner}

-- some point between p and q, with the weights u and v, is at least as high as h and stands on the column
pub record EdgeOver (p q : LineCorner) (h : ℤ) : Type 0 where
  pub u : ℤ
  pub v : ℤ
  pub u_ok : (pos 0) ≤ℤ u
  pub v_ok : (pos 0) ≤ℤ v
  pub some : (pos 0) <ℤ (u +ℤ v)
  pub on : (u *ℤ p.at +ℤ v *ℤ q.at) ≡ pos 0
  pub high : ((u +ℤ v) *ℤ h) ≤ℤ (u *ℤ p.z +ℤ v *ℤ q.z)

-- some point between a, b and c, with the weights u, v and w, is at least as high as h and stands on the column
pub record LineOver (a b c : LineCorner) (h : ℤ) : Type 0 where
  pub u : ℤ
  pub v : ℤ
  pub w : ℤ
  pub u_ok : (pos 0) ≤ℤ u
  pub v_ok : (pos 0) ≤ℤ v
  pub w_ok : (pos 0) ≤ℤ w
  pub some : (pos 0) <ℤ ((u +ℤ v) +ℤ w)
  pub on : weigh u v w a.at b.at c.at ≡ pos 0
  pub high : (((u +ℤ v) +ℤ w) *ℤ h) ≤ℤ weigh u v w a.z b.z c.z
