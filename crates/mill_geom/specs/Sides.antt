-- What a touch test tells of the positions along an axis.
use Rattle.std.specs.Prelude.{◌≡◌, ℤ, pos, ◌+ℤ◌, ◌-ℤ◌, ◌*ℤ◌, ◌<ℤ◌, ◌≤ℤ◌}
use Rattle.mill_base.specs.Numbers.{square}
use Rattle.mill_base.specs.declared.points.Pt3.{Pt3}
use Rattle.mill_geom.specs.declared.offset.Offset.{Offset}
use Rattle.mill_geom.specs.declared.spot.Spot.{Spot}
use Rattle.mill_geom.specs.declared.touch.Axis.{Axis}
use Rattle.mill_geom.specs.declared.touch.Axis.TheVariants.{X, Y}
use Rattle.mill_geom.specs.declared.touch.Side.{Side}
use Rattle.mill_geom.specs.declared.touch.Side.TheVariants.{Less, More, Never}
use Rattle.mill_geom.specs.declared.touch.Touch.{Touch}
use Rattle.mill_geom.specs.declared.touch.Touch.TheVariants.{Inside, Apart}
use Rattle.mill_geom.specs.Offsets.{AllFrom, AllTo}
use Rattle.mill_geom.specs.Forms.{IsOver}
use Rattle.mill_geom.specs.Contacts.{TouchesTriangle}

-- where T t says that there is a touch at the position t along the axis: there is none at 0 and any greater position, none at 0 and any lesser one, or none at all
abbrev pub IsOnSide : Side → (ℤ → Type 0) → Type 0
IsOnSide Less T = (t : ℤ) → (pos 0) ≤ℤ t → ¬ T t
IsOnSide More T = (t : ℤ) → t ≤ℤ pos 0 → ¬ T t
IsOnSide Never T = (t : ℤ) → ¬ T t

-- there is a touch at 0, or none on the side
abbrev pub IsTouch : Touch → (ℤ → Type 0) → Type 0
IsTouch Inside T = T (pos 0)
IsTouch (Apart side) T = IsOnSide side T

-- the point that is t further along the axis
abbrev pub along : Axis → Pt3 → ℤ → Pt3
along X p t = record { x = p.x +ℤ t; y = p.y; z = p.z }
along Y p t = record { x = p.x; y = p.y +ℤ t; z = p.z }

-- the offset with the axis for x
abbrev pub turned_to : Axis → Offset → Offset
turned_to X p = p
turned_to Y p = record { x = p.y; y = p.x; z = p.z }

-- the offset on the other side of the vertical plane along x
abbrev pub mirrored_of : Offset → Offset
mirrored_of p = record { x = p.x; y = pos 0 -ℤ p.y; z = p.z }

-- the offset from a centre that is t further along x
abbrev pub slid_by : ℤ → Offset → Offset
slid_by t p = record { x = p.x -ℤ t; y = p.y; z = p.z }

-- with the centre t further along x, some point of the triangle is nearer to the axis than r and over the level
abbrev pub TouchesSlid : ℤ → Offset → Offset → Offset → ℤ → Type 0
TouchesSlid r a b c t = TouchesTriangle r (slid_by t a) (slid_by t b) (slid_by t c)

-- the spot has a denominator over 0, and its y is less than r
pub record IsSpotUnder (r : ℤ) (s : Spot) : Type 0 where
  pub some : (pos 0) <ℤ s.n
  pub under : s.y <ℤ (r *ℤ s.n)

-- x is that of a weighted sum of two spots, the second one mirrored, which is nearer to the vertical plane along x than r
pub record IsBetween (r : ℤ) (low high : Spot) (x : ℤ) : Type 0 where
  pub k : ℤ
  pub m : ℤ
  pub k_ok : (pos 0) ≤ℤ k
  pub m_ok : (pos 0) ≤ℤ m
  pub some : (pos 0) <ℤ (k *ℤ low.n +ℤ m *ℤ high.n)
  pub near : square (k *ℤ low.y -ℤ m *ℤ high.y) <ℤ (square r *ℤ square (k *ℤ low.n +ℤ m *ℤ high.n))
  pub place : x ≡ k *ℤ low.x +ℤ m *ℤ high.x

-- some corner is over the level, and the upright boxes of the triangle and of the cylinder overlap
pub record IsBoxNear (r : ℤ) (a b c : Offset) : Type 0 where
  pub over : IsOver a b c
  pub x_from : ¬ AllFrom r a.x b.x c.x
  pub x_to : ¬ AllTo (pos 0 -ℤ r) a.x b.x c.x
  pub y_from : ¬ AllFrom r a.y b.y c.y
  pub y_to : ¬ AllTo (pos 0 -ℤ r) a.y b.y c.y
