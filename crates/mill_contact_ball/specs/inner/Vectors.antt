-- Cross products of offsets, and the numbers by which a triangle's plane is compared with a sphere about the origin.
use Rattle.std.specs.Prelude.{◌≡◌, ℕ, ℤ, ◌+ℤ◌, ◌-ℤ◌, ◌*ℤ◌}
use Rattle.mill_base.specs.Numbers.{Within}
use Rattle.mill_geom.specs.declared.offset.Offset.{Offset}
use Rattle.mill_contact_ball.specs.declared.vector.Vector.{Vector}

-- the dot product of two offsets, less the square of the radius
abbrev pub form_of : ℤ → Offset → Offset → ℤ
form_of r p q = ((p.x *ℤ q.x +ℤ p.y *ℤ q.y) +ℤ p.z *ℤ q.z) -ℤ r *ℤ r

-- a*b - c*d
abbrev pub minor_of : ℤ → ℤ → ℤ → ℤ → ℤ
minor_of a b c d = a *ℤ b -ℤ c *ℤ d

-- the vector is the cross product of two offsets
pub record IsCross (v : Vector) (p q : Offset) : Type 0 where
  pub x_is : v.x ≡ minor_of p.y q.z p.z q.y
  pub y_is : v.y ≡ minor_of p.z q.x p.x q.z
  pub z_is : v.z ≡ minor_of p.x q.y p.y q.x

-- the vector is the sum of three
pub record IsSum (v p q s : Vector) : Type 0 where
  pub x_is : v.x ≡ (p.x +ℤ q.x) +ℤ s.x
  pub y_is : v.y ≡ (p.y +ℤ q.y) +ℤ s.y
  pub z_is : v.z ≡ (p.z +ℤ q.z) +ℤ s.z

-- the dot product of two vectors, and of a vector and an offset
abbrev pub dot_of : Vector → Vector → ℤ
dot_of v w = (v.x *ℤ w.x +ℤ v.y *ℤ w.y) +ℤ v.z *ℤ w.z

abbrev pub height_of : Vector → Offset → ℤ
height_of v p = (v.x *ℤ p.x +ℤ v.y *ℤ p.y) +ℤ v.z *ℤ p.z

-- the magnitude of each coordinate is at most m
pub record VectorWithin (m : ℕ) (v : Vector) : Type 0 where
  pub x_ok : Within m v.x
  pub y_ok : Within m v.y
  pub z_ok : Within m v.z
