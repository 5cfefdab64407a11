-- Points of segments and triangles in the open cylinder of radius r about the vertical axis through the origin, over the level z = 0.
use Rattle.std.specs.Prelude.{◌≡◌, ℤ, pos, ◌+ℤ◌, ◌*ℤ◌, ◌<ℤ◌, ◌≤ℤ◌}
use Rattle.mill_base.specs.Numbers.{square}
use Rattle.mill_base.specs.Cutters.{InFlat, apart}
use Rattle.mill_geom.specs.declared.offset.Offset.{Offset}
use Rattle.mill_geom.specs.Offsets.{mean2, mean3}

-- some point of the segment from p to q is nearer to the axis than r and over the level
pub record TouchesSegment (r : ℤ) (p q : Offset) : Type 0 where
  pub u : ℤ
  pub v : ℤ
  pub u_ok : (pos 0) ≤ℤ u
  pub v_ok : (pos 0) ≤ℤ v
  pub some : (pos 0) <ℤ (u +ℤ v)
  pub inside : InFlat r (u +ℤ v) (mean2 u v p q)

-- some point of the triangle is nearer to the axis than r and over the level
pub record TouchesTriangle (r : ℤ) (a b c : Offset) : Type 0 where
  pub u : ℤ
  pub v : ℤ
  pub w : ℤ
  pub u_ok : (pos 0) ≤ℤ u
  pub v_ok : (pos 0) ≤ℤ v
  pub w_ok : (pos 0) ≤ℤ w
  pub some : (pos 0) <ℤ ((u +ℤ v) +ℤ w)
  pub inside : InFlat r ((u +ℤ v) +ℤ w) (mean3 u v w a b c)

-- some point of the triangle is nearer to the axis than r and on the level
pub record OnLevel (r : ℤ) (a b c : Offset) : Type 0 where
  pub u : ℤ
  pub v : ℤ
  pub w : ℤ
  pub u_ok : (pos 0) ≤ℤ u
  pub v_ok : (pos 0) ≤ℤ v
  pub w_ok : (pos 0) ≤ℤ w
  pub near : apart (mean3 u v w a b c) <ℤ (square r *ℤ square ((u +ℤ v) +ℤ w))
  pub level : (mean3 u v w a b c).z ≡ pos 0

-- no edge has a point nearer to the axis than r and over the level
pub record EdgesClear (r : ℤ) (a b c : Offset) : Type 0 where
  pub ab : ¬ TouchesSegment r a b
  pub bc : ¬ TouchesSegment r b c
  pub ca : ¬ TouchesSegment r c a
