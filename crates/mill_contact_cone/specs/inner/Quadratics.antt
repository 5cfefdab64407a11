-- The forms that decide whether a segment comes into the cone cutter, and the part of the segment on which each decides.
use Rattle.std.specs.Prelude.{◌≡◌, ◌⊎◌, ℤ, pos, ◌+ℤ◌, ◌-ℤ◌, ◌*ℤ◌, ◌<ℤ◌, ◌≤ℤ◌}
use Rattle.mill_base.specs.Numbers.{Within}
use Rattle.mill_geom.specs.Widths.{most_lift}
use Rattle.mill_contact_cone.specs.Cones.{IsCornerOf}
use Rattle.mill_contact_cone.specs.inner.Widths.{most_cone_form}
use Rattle.mill_contact_cone.specs.declared.corner.Cone.{Cone}
use Rattle.mill_contact_cone.specs.declared.corner.Corner.{Corner}
use Rattle.mill_contact_cone.specs.declared.quadratic.Form.{Form}
use Rattle.mill_contact_cone.specs.declared.quadratic.Blend.{Blend}

-- the three numbers of a form are small
pub record FormInRange (f : Form) : Type 0 where
  pub a_ok : Within most_cone_form f.a
  pub h_ok : Within most_cone_form f.h
  pub b_ok : Within most_cone_form f.b

-- the weights of a blend are small, and not negative
pub record BlendInRange (p : Blend) : Type 0 where
  pub u_ok : Within most_lift p.u
  pub v_ok : Within most_lift p.v
  pub u_least : (pos 0) ≤ℤ p.u
  pub v_least : (pos 0) ≤ℤ p.v

-- the value of the form at the weights u and v
abbrev pub value_of : Form → ℤ → ℤ → ℤ
value_of f u v = (f.a *ℤ (u *ℤ u) +ℤ pos 2 *ℤ (f.h *ℤ (u *ℤ v))) +ℤ f.b *ℤ (v *ℤ v)

-- the bilinear form of two blends
abbrev pub polar_of : Form → Blend → Blend → ℤ
polar_of f p q = (p.u *ℤ q.u *ℤ f.a +ℤ (p.u *ℤ q.v +ℤ p.v *ℤ q.u) *ℤ f.h) +ℤ p.v *ℤ q.v *ℤ f.b

-- positive where q comes after p on the way from the first end to the last
abbrev pub turn_of : Blend → Blend → ℤ
turn_of p q = p.u *ℤ q.v -ℤ p.v *ℤ q.u

-- the form is negative at some weights between those of two blends
pub record HitsBetween (f : Form) (from to : Blend) : Type 0 where
  pub u : ℤ
  pub v : ℤ
  pub u_ok : (pos 0) ≤ℤ u
  pub v_ok : (pos 0) ≤ℤ v
  pub after : (pos 0) ≤ℤ (from.u *ℤ v -ℤ from.v *ℤ u)
  pub before : (pos 0) ≤ℤ (u *ℤ to.v -ℤ v *ℤ to.u)
  pub negative : value_of f u v <ℤ pos 0

-- the product of corners whose sign decides over the height of the rim
abbrev pub upper_of : Cone → Corner → Corner → ℤ
upper_of k p q = (p.x *ℤ q.x +ℤ p.y *ℤ q.y) -ℤ k.radius *ℤ k.radius

-- the product of corners whose sign decides under the height of the rim
abbrev pub lower_of : Cone → Corner → Corner → ℤ
lower_of k p q = k.rise *ℤ k.rise *ℤ (p.x *ℤ q.x +ℤ p.y *ℤ q.y) -ℤ k.run *ℤ k.run *ℤ (p.z *ℤ q.z)

-- the form of a segment's two ends that decides over the height of the rim
pub record IsUpperForm (k : Cone) (p q : Corner) (f : Form) : Type 0 where
  pub a_is : f.a ≡ upper_of k p p
  pub h_is : f.h ≡ upper_of k p q
  pub b_is : f.b ≡ upper_of k q q

-- the form of a segment's two ends that decides under the height of the rim
pub record IsLowerForm (k : Cone) (p q : Corner) (f : Form) : Type 0 where
  pub a_is : f.a ≡ lower_of k p p
  pub h_is : f.h ≡ lower_of k p q
  pub b_is : f.b ≡ lower_of k q q

-- times the square of the rise, the product that decides under the height of the rim of the last end and of the point of the segment at the height of the tip, where the first end is under that
abbrev pub slant_of : Corner → Corner → ℤ
slant_of p q = q.z *ℤ (p.x *ℤ q.x +ℤ p.y *ℤ q.y) -ℤ p.z *ℤ (q.x *ℤ q.x +ℤ q.y *ℤ q.y)

-- where a quantity that is f at the first end and g at the last begins not to be negative: at the first end, or where it is 0
abbrev pub IsStart : ℤ → ℤ → Blend → Type 0
IsStart f g p = (((pos 0) ≤ℤ f) × ((p.u ≡ pos 1) × (p.v ≡ pos 0))) ⊎ ((f <ℤ pos 0) × ((p.u ≡ g) × (p.v ≡ pos 0 -ℤ f)))

-- a segment of the cone's corners whose last end isn't lower than its first, and is over the tip and not over the height of the rim
pub record IsLowerEdge (k : Cone) (p q : Corner) : Type 0 where
  pub p_is : IsCornerOf k p
  pub q_is : IsCornerOf k q
  pub rising : p.z ≤ℤ q.z
  pub q_up : (pos 0) <ℤ q.z
  pub under : q.over ≤ℤ pos 0

-- a segment of the cone's corners whose ends are at or over the height of the rim, and the last one over it
pub record IsUpperEdge (k : Cone) (p q : Corner) : Type 0 where
  pub p_is : IsCornerOf k p
  pub q_is : IsCornerOf k q
  pub p_over : (pos 0) ≤ℤ p.over
  pub q_over : (pos 0) <ℤ q.over
