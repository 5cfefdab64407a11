-- Points of a triangle on the level or over it, each over a whole denominator.
use Rattle.std.specs.Prelude.{◌≡◌, ℤ, pos, ◌+ℤ◌, ◌-ℤ◌, ◌*ℤ◌, ◌<ℤ◌, ◌≤ℤ◌}
use Rattle.mill_base.specs.Numbers.{Within}
use Rattle.mill_geom.specs.Widths.{most_area, most_fall}
use Rattle.mill_geom.specs.declared.offset.Offset.{Offset}
use Rattle.mill_geom.specs.declared.spot.Spot.{Spot}
use Rattle.mill_geom.specs.Offsets.{mean3}

-- the spot is a point of the triangle, on the level or over it
pub record IsSpot (a b c : Offset) (s : Spot) : Type 0 where
  pub u : ℤ
  pub v : ℤ
  pub w : ℤ
  pub u_ok : (pos 0) ≤ℤ u
  pub v_ok : (pos 0) ≤ℤ v
  pub w_ok : (pos 0) ≤ℤ w
  pub some : (pos 0) <ℤ s.n
  pub time : s.n ≡ (u +ℤ v) +ℤ w
  pub x_is : s.x ≡ (mean3 u v w a b c).x
  pub y_is : s.y ≡ (mean3 u v w a b c).y
  pub level : (pos 0) ≤ℤ (mean3 u v w a b c).z

-- the coordinates and the denominator of a spot are small
pub record SpotInRange (s : Spot) : Type 0 where
  pub x_ok : Within most_area s.x
  pub y_ok : Within most_area s.y
  pub n_ok : Within most_fall s.n

-- the spot is one of the triangle's, and its y is less than r
pub record IsBelow (r : ℤ) (a b c : Offset) (s : Spot) : Type 0 where
  pub spot : IsSpot a b c s
  pub range : SpotInRange s
  pub below : s.y <ℤ (r *ℤ s.n)

-- no point of the triangle on the level or over it has a y less than r
abbrev pub AllBeyond : ℤ → Offset → Offset → Offset → Type 0
AllBeyond r a b c = (u v w : ℤ) → (pos 0) ≤ℤ u → (pos 0) ≤ℤ v → (pos 0) ≤ℤ w → (pos 0) ≤ℤ (mean3 u v w a b c).z → (r *ℤ ((u +ℤ v) +ℤ w)) ≤ℤ (mean3 u v w a b c).y

-- the corner is on the level or over it, and its y is less than r
pub record LowCorner (r : ℤ) (p : Offset) : Type 0 where
  pub level : (pos 0) ≤ℤ p.z
  pub below : p.y <ℤ r

-- the coordinate, over z - w, at which the edge from height z and coordinate f to height w and coordinate g crosses the level
abbrev pub crossing_of : ℤ → ℤ → ℤ → ℤ → ℤ
crossing_of z w f g = (pos 0 -ℤ w) *ℤ f +ℤ z *ℤ g

-- the edge from p, over the level, to q, under it, crosses the level at a y less than r
pub record LowCrossing (r : ℤ) (p q : Offset) : Type 0 where
  pub up : (pos 0) <ℤ p.z
  pub down : q.z <ℤ pos 0
  pub below : crossing_of p.z q.z p.y q.y <ℤ (r *ℤ (p.z -ℤ q.z))
