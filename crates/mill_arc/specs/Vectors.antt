-- Vectors in the plane of an arc.
use Rattle.std.specs.Prelude.{Bool, true, false, ◌^◌, ℤ, neg_ℤ, ◌+ℤ◌, ◌-ℤ◌, ◌*ℤ◌}
use Rattle.mill_base.specs.Numbers.{Within}
use Rattle.mill_arc.specs.declared.vectors.Vector.{Vector}

abbrev pub vector : ℤ → ℤ → Vector
vector a b = record { first = a; second = b }

-- the product of both lengths and of the cosine of the angle between them
abbrev pub dot : Vector → Vector → ℤ
dot a b = a.first *ℤ b.first +ℤ a.second *ℤ b.second

-- the product of both lengths and of the sine of the angle from a to b; counterclockwise is from the first axis to the second
abbrev pub ahead : Bool → Vector → Vector → ℤ
ahead true a b = a.first *ℤ b.second -ℤ a.second *ℤ b.first
ahead false a b = a.second *ℤ b.first -ℤ a.first *ℤ b.second

-- a + b, a - b, and the way back
abbrev pub plus : Vector → Vector → Vector
plus a b = vector (a.first +ℤ b.first) (a.second +ℤ b.second)

abbrev pub minus : Vector → Vector → Vector
minus a b = vector (a.first -ℤ b.first) (a.second -ℤ b.second)

abbrev pub opposite : Vector → Vector
opposite a = vector (neg_ℤ a.first) (neg_ℤ a.second)

-- the way from a to b, turned back by a quarter: it points from the centre to the middle of a sector from a to b that lies between two quarters and three
abbrev pub turned_way : Bool → Vector → Vector → Vector
turned_way true a b = vector (b.second -ℤ a.second) (a.first -ℤ b.first)
turned_way false a b = vector (a.second -ℤ b.second) (b.first -ℤ a.first)

-- k times a
abbrev pub times : ℤ → Vector → Vector
times k a = vector (k *ℤ a.first) (k *ℤ a.second)

-- its coordinates are small enough for products
pub record IsNear (a : Vector) : Type 0 where
  pub first : Within (2 ^ 32) a.first
  pub second : Within (2 ^ 32) a.second
