-- What a corner inside the cutter and the box of the triangle say of touches.
use lib.IntN.{ℤ, pos, ◌+ℤ◌, ◌*ℤ◌}
use lib.Signed.{◌<ℤ◌, ◌≤ℤ◌}
use Rattle.std.proofs.Common.{inl, inr, arith}
use Rattle.std.proofs.lemmas.Int.{ints}
use Rattle.mill_geom.specs.declared.offset.Offset.{Offset}
use Rattle.mill_base.proofs.Exit.{split_lt}
use Rattle.mill_geom.specs.Offsets.{mean3}
use Rattle.mill_geom.specs.Contacts.{TouchesTriangle}
use Rattle.mill_geom.specs.Gaps.{AllApart, AllUpTo}
use Rattle.mill_geom.proofs.Corners.{turn_touch}
use Rattle.mill_contact_flat.specs.Flats.{IsCornerInside}
use Rattle.mill_contact_flat.proofs.CornerCerts.{corner_near, corner_over, axis_far, under_level}

-- a corner inside is a point of the triangle that is
pub first_touch : (r : ℤ) (a b c : Offset) → IsCornerInside r a → TouchesTriangle r a b c
first_touch r a b c h = record {
  u = pos 1;
  v = pos 0;
  w = pos 0;
  u_ok = omega (arith, ints);
  v_ok = omega (arith, ints);
  w_ok = omega (arith, ints);
  some = omega (arith, ints);
  inside = record {
    near = corner_near a.x a.y b.x b.y c.x c.y r h.near;
    over = corner_over a.z b.z c.z h.over;
  };
}

pub second_touch : (r : ℤ) (a b c : Offset) → IsCornerInside r b → TouchesTriangle r a b c
second_touch r a b c h = turn_touch r a b c (first_touch r b c a h)

pub third_touch : (r : ℤ) (a b c : Offset) → IsCornerInside r c → TouchesTriangle r a b c
third_touch r a b c h = turn_touch r a b c (turn_touch r b c a (first_touch r c a b h))

time_ok : (n : ℤ) → (pos 0) <ℤ n → (pos 0) ≤ℤ n
time_ok n h = omega (arith, ints)

-- a triangle whose highest corner isn't over the level has no touch
pub under_none : (r : ℤ) (a b c : Offset) (top : ℤ) → AllUpTo top a b c → top ≤ℤ pos 0 → TouchesTriangle r a b c → ⊥
under_none r a b c top up low t = under_level (mean3 t.u t.v t.w a b c).z ((t.u +ℤ t.v) +ℤ t.w) top (time_ok _ t.some) low (up t.u t.v t.w t.u_ok t.v_ok t.w_ok) t.inside.over

at_least : (x y : ℤ) → (x <ℤ y → ⊥) → y ≤ℤ x
at_least x y h = elim (split_lt x y) [ inl l ↦ absurd (h l) | inr l ↦ l ]

-- nor has one whose box is as far from the axis as the radius
pub apart_none : (r : ℤ) (a b c : Offset) (gap : ℤ) → AllApart gap a b c → (gap <ℤ (r *ℤ r) → ⊥) → TouchesTriangle r a b c → ⊥
apart_none r a b c gap apart far t =
    axis_far (mean3 t.u t.v t.w a b c).x (mean3 t.u t.v t.w a b c).y ((t.u +ℤ t.v) +ℤ t.w) gap r (apart t.u t.v t.w t.u_ok t.v_ok t.w_ok) (at_least gap (r *ℤ r) far) t.inside.near
