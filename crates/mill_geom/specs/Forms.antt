-- The numbers whose signs tell how segments and triangles lie about a vertical axis through the origin and about the level z = 0.
use Rattle.std.specs.Prelude.{◌⊎◌, ℤ, pos, ◌+ℤ◌, ◌-ℤ◌, ◌*ℤ◌, ◌<ℤ◌, ◌≤ℤ◌}
use Rattle.mill_base.specs.Numbers.{square}
use Rattle.mill_geom.specs.declared.offset.Offset.{Offset}

-- the dot product in x and y, less the square of the radius
abbrev pub form_of : ℤ → Offset → Offset → ℤ
form_of r p q = (p.x *ℤ q.x +ℤ p.y *ℤ q.y) -ℤ r *ℤ r

-- a*u*u + 2*h*u*v + b*v*v is negative at some u and v that are not negative
abbrev pub PairHits : ℤ → ℤ → ℤ → Type 0
PairHits a h b = (a <ℤ pos 0) ⊎ ((b <ℤ pos 0) ⊎ ((h <ℤ pos 0) × ((a *ℤ b) <ℤ (h *ℤ h))))

-- from the forms a, h, b of two ends at the heights z and w on both sides of the level: the forms of the first end with the point on the level, and of that point with itself
abbrev pub cut_mid_of : ℤ → ℤ → ℤ → ℤ → ℤ
cut_mid_of a h z w = (pos 0 -ℤ w) *ℤ a +ℤ z *ℤ h

abbrev pub cut_end_of : ℤ → ℤ → ℤ → ℤ → ℤ → ℤ
cut_end_of a h b z w = ((pos 0 -ℤ w) *ℤ (pos 0 -ℤ w) *ℤ a +ℤ pos 2 *ℤ (z *ℤ (pos 0 -ℤ w) *ℤ h)) +ℤ z *ℤ z *ℤ b

-- twice the area that two offsets span in x and y, with its sign
abbrev pub cross_of : Offset → Offset → ℤ
cross_of p q = p.x *ℤ q.y -ℤ p.y *ℤ q.x

-- six times the volume that three offsets span, with its sign
abbrev pub volume_of : Offset → Offset → Offset → ℤ
volume_of a b c = (cross_of b c *ℤ a.z +ℤ cross_of c a *ℤ b.z) +ℤ cross_of a b *ℤ c.z

-- how steep the triangle's plane is in x and in y: the horizontal coordinates of its normal, with a quarter turn
abbrev pub slope_x_of : Offset → Offset → Offset → ℤ
slope_x_of a b c = (a.z *ℤ (c.x -ℤ b.x) +ℤ b.z *ℤ (a.x -ℤ c.x)) +ℤ c.z *ℤ (b.x -ℤ a.x)

abbrev pub slope_y_of : Offset → Offset → Offset → ℤ
slope_y_of a b c = (a.z *ℤ (c.y -ℤ b.y) +ℤ b.z *ℤ (a.y -ℤ c.y)) +ℤ c.z *ℤ (b.y -ℤ a.y)

-- the form of the two points in which the edges from p to q and to s meet the level, from the forms of the corners and their heights
abbrev pub mixed_form_of : ℤ → ℤ → ℤ → ℤ → ℤ → ℤ → ℤ → ℤ
mixed_form_of pp pq ps qs p q s = ((p *ℤ p *ℤ qs -ℤ p *ℤ s *ℤ pq) -ℤ p *ℤ q *ℤ ps) +ℤ q *ℤ s *ℤ pp

abbrev pub level_form_of : ℤ → Offset → Offset → Offset → ℤ
level_form_of r p q s = mixed_form_of (form_of r p p) (form_of r p q) (form_of r p s) (form_of r q s) p.z q.z s.z

-- the line in which the plane meets the level is nearer to the axis than r
abbrev pub IsLineNear : ℤ → Offset → Offset → Offset → Type 0
IsLineNear r a b c = square (volume_of a b c) <ℤ ((r *ℤ r) *ℤ (square (slope_x_of a b c) +ℤ square (slope_y_of a b c)))

-- the corner p is on one side of the level, and the others are on the other side or on the level
abbrev pub IsAlone : Offset → Offset → Offset → Type 0
IsAlone p q s = (((pos 0) <ℤ p.z) × ((q.z ≤ℤ pos 0) × (s.z ≤ℤ pos 0))) ⊎ ((p.z <ℤ pos 0) × (((pos 0) <ℤ q.z) × ((pos 0) <ℤ s.z)))

-- some corner is over the level
abbrev pub IsOver : Offset → Offset → Offset → Type 0
IsOver a b c = ((pos 0) <ℤ a.z) ⊎ (((pos 0) <ℤ b.z) ⊎ ((pos 0) <ℤ c.z))

-- three areas aren't negative and a volume is positive, or the areas aren't positive and the volume is negative
pub record AllUp (i j k volume : ℤ) : Type 0 where
  pub first : (pos 0) ≤ℤ i
  pub second : (pos 0) ≤ℤ j
  pub third : (pos 0) ≤ℤ k
  pub over : (pos 0) <ℤ volume

pub record AllDown (i j k volume : ℤ) : Type 0 where
  pub first : i ≤ℤ pos 0
  pub second : j ≤ℤ pos 0
  pub third : k ≤ℤ pos 0
  pub under : volume <ℤ pos 0

-- the axis meets the triangle over the level
abbrev pub IsPierced : Offset → Offset → Offset → Type 0
IsPierced a b c = AllUp (cross_of b c) (cross_of c a) (cross_of a b) (volume_of a b c) ⊎ AllDown (cross_of b c) (cross_of c a) (cross_of a b) (volume_of a b c)
