-- Points of segments and triangles on the level z = 0 or over it, in the open cylinder of radius r about the vertical axis through the origin.
use Rattle.std.specs.Prelude.{ℤ, pos, ◌+ℤ◌, ◌-ℤ◌, ◌*ℤ◌, ◌<ℤ◌, ◌≤ℤ◌}
use Rattle.mill_base.specs.Numbers.{square}
use Rattle.mill_base.specs.Points.{IsPointOf}
use Rattle.mill_base.specs.Cutters.{apart}
use Rattle.mill_base.specs.declared.points.Pt3.{Pt3}
use Rattle.mill_base.specs.declared.points.Tri.{Tri}
use Rattle.mill_geom.specs.declared.offset.Offset.{Offset}
use Rattle.mill_geom.specs.Offsets.{mean2, mean3}
use Rattle.mill_geom.specs.Forms.{form_of}

-- some point of the triangle is at least as high as the centre, and nearer than r to the vertical axis through it
pub record Reaches (r : ℤ) (centre : Pt3) (tri : Tri) : Type 0 where
  pub n : ℤ
  pub p : Pt3
  pub point : IsPointOf tri n p
  pub high : (n *ℤ centre.z) ≤ℤ p.z
  pub near : (square (p.x -ℤ n *ℤ centre.x) +ℤ square (p.y -ℤ n *ℤ centre.y)) <ℤ square (n *ℤ r)

-- some point of the triangle is nearer to the axis than r, and on the level or over it; being near, it has a weight that isn't 0
pub record ReachesTriangle (r : ℤ) (a b c : Offset) : Type 0 where
  pub u : ℤ
  pub v : ℤ
  pub w : ℤ
  pub u_ok : (pos 0) ≤ℤ u
  pub v_ok : (pos 0) ≤ℤ v
  pub w_ok : (pos 0) ≤ℤ w
  pub near : apart (mean3 u v w a b c) <ℤ (square r *ℤ square ((u +ℤ v) +ℤ w))
  pub level : (pos 0) ≤ℤ (mean3 u v w a b c).z

-- some point of the segment from p to q is nearer to the axis than r, and on the level or over it
pub record ReachesSegment (r : ℤ) (p q : Offset) : Type 0 where
  pub u : ℤ
  pub v : ℤ
  pub u_ok : (pos 0) ≤ℤ u
  pub v_ok : (pos 0) ≤ℤ v
  pub near : apart (mean2 u v p q) <ℤ (square r *ℤ square (u +ℤ v))
  pub level : (pos 0) ≤ℤ (mean2 u v p q).z

-- the corner p is nearer to the axis than r, and on the level or over it
pub record ReachesCorner (r : ℤ) (p : Offset) : Type 0 where
  pub near : form_of r p p <ℤ pos 0
  pub level : (pos 0) ≤ℤ p.z

-- the corner straight over or under p at the height 1
abbrev pub raised_of : Offset → Offset
raised_of p = record { x = p.x; y = p.y; z = pos 1 }

-- no corner is over the level
pub record AllUnder (a b c : Offset) : Type 0 where
  pub first : a.z ≤ℤ pos 0
  pub second : b.z ≤ℤ pos 0
  pub third : c.z ≤ℤ pos 0
