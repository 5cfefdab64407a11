-- Where a point stands that a cutter holds: strictly over the tip, and strictly within the radius.
use Rattle.std.specs.Prelude.{ℤ, pos, ◌+ℤ◌, ◌-ℤ◌, ◌*ℤ◌, ◌<ℤ◌, ◌≤ℤ◌}
use Rattle.std.proofs.Common.{inl, inr, arith}
use Rattle.std.proofs.lemmas.Int.{ints}
use Rattle.mill_base.proofs.Integers.{mul_pos-ℤ}
use Rattle.mill_base.specs.Numbers.{square}
use Rattle.mill_base.specs.Points.{minus, times}
use Rattle.mill_base.specs.Cutters.{Inside, apart}
use Rattle.mill_base.specs.Contact.{Holds}
use Rattle.mill_base.specs.Sizes.{radius_of}
use Rattle.mill_base.specs.declared.points.Pt3.{Pt3}
use Rattle.mill_base.specs.declared.cutter.Cutter.{Cutter}
use Rattle.mill_base.specs.declared.cutter.Cutter.TheVariants.{Flat, Ball, Cone}
use Rattle.mill_shape.proofs.HoldingCerts.{near_east, near_west, near_north, near_south, over_centre, in_sphere}

-- what is inside any of the cutters is nearer to the axis than the radius
pub inside_near : (cutter : Cutter) (n : ℤ) (d : Pt3) → Inside cutter n d → apart d <ℤ (square (radius_of cutter) *ℤ square n)
inside_near (Flat r) n d i = i.near
inside_near (Ball r) n d i = i.near
inside_near (Cone r a b) n d i = i.near

-- what is inside any of the cutters is over the tip's plane
pub inside_over : (cutter : Cutter) (n : ℤ) (d : Pt3) → (pos 1) ≤ℤ radius_of cutter → (pos 0) <ℤ n → Inside cutter n d → (pos 0) <ℤ d.z
inside_over (Flat r) n d hr hn i = i.over
inside_over (Ball r) n d hr hn i = elim i.over [
  | inl high ↦ over_centre d.z r n (omega (arith, ints)) hn high
  | inr deep ↦ in_sphere d.x d.y d.z r n (omega (arith, ints)) hn deep
]
inside_over (Cone r a b) n d hr hn i = i.over

-- a point that the cutter holds is strictly over its tip
pub holds_over_tip : (cutter : Cutter) (m : ℤ) (t : Pt3) (n : ℤ) (p : Pt3) → (pos 1) ≤ℤ radius_of cutter → (pos 0) <ℤ m → (pos 0) <ℤ n → Holds cutter m t n p
    → (n *ℤ t.z) <ℤ (m *ℤ p.z)
holds_over_tip cutter m t n p hr hm hn h =
    let over = inside_over cutter (m *ℤ n) (minus (times m p) (times n t)) hr (mul_pos-ℤ m n hm hn) h in
    omega (arith, ints)

-- a point that the cutter holds is strictly within its radius
pub holds_near : (cutter : Cutter) (m : ℤ) (t : Pt3) (n : ℤ) (p : Pt3) → Holds cutter m t n p
    → (square (m *ℤ p.x -ℤ n *ℤ t.x) +ℤ square (m *ℤ p.y -ℤ n *ℤ t.y)) <ℤ (square (radius_of cutter) *ℤ square (m *ℤ n))
holds_near cutter m t n p h = inside_near cutter (m *ℤ n) (minus (times m p) (times n t)) h

-- x and y are over -reach and under reach
pub record IsAround (reach x y : ℤ) : Type 0 where
  pub east : x <ℤ reach
  pub west : ((pos 0) -ℤ x) <ℤ reach
  pub north : y <ℤ reach
  pub south : ((pos 0) -ℤ y) <ℤ reach

-- what is nearer to the axis than r is so in x and in y
pub near_around : (x y r n : ℤ) → (pos 0) <ℤ r → (pos 0) <ℤ n → (square x +ℤ square y) <ℤ (square r *ℤ square n) → IsAround (r *ℤ n) x y
near_around x y r n hr hn h = record {
  east = near_east x y r n hr hn h;
  west = near_west x y r n hr hn h;
  north = near_north x y r n hr hn h;
  south = near_south x y r n hr hn h;
}

-- in x and in y, a point that the cutter holds is nearer to the tip than the radius
pub holds_around : (cutter : Cutter) (m : ℤ) (t : Pt3) (n : ℤ) (p : Pt3) → (pos 1) ≤ℤ radius_of cutter → (pos 0) <ℤ m → (pos 0) <ℤ n → Holds cutter m t n p
    → IsAround (radius_of cutter *ℤ (m *ℤ n)) (m *ℤ p.x -ℤ n *ℤ t.x) (m *ℤ p.y -ℤ n *ℤ t.y)
holds_around cutter m t n p hr hm hn h =
    near_around (m *ℤ p.x -ℤ n *ℤ t.x) (m *ℤ p.y -ℤ n *ℤ t.y) (radius_of cutter) (m *ℤ n) (omega (arith, ints)) (mul_pos-ℤ m n hm hn) (holds_near cutter m t n p h)
