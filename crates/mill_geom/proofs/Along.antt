-- Touches at the places along an axis, and what an answer about some touches says of others.
use Rattle.std.proofs.Common.{◌≡◌, refl, arith}
use lib.IntN.{ℤ, pos, ◌+ℤ◌, ◌-ℤ◌}
use Rattle.std.proofs.lemmas.Int.{ints}
use Rattle.mill_base.specs.declared.points.Pt3.{Pt3}
use Rattle.mill_base.specs.declared.points.Tri.{Tri}
use Rattle.mill_base.specs.declared.cutter.Cutter.TheVariants.{Flat}
use Rattle.mill_base.specs.Contact.{Touches}
use Rattle.mill_geom.specs.declared.offset.Offset.{Offset}
use Rattle.mill_geom.specs.declared.touch.Axis.{Axis}
use Rattle.mill_geom.specs.declared.touch.Axis.TheVariants.{X, Y}
use Rattle.mill_geom.specs.declared.touch.Side.{Side}
use Rattle.mill_geom.specs.declared.touch.Side.TheVariants.{Less, More, Never}
use Rattle.mill_geom.specs.declared.touch.Touch.{Touch}
use Rattle.mill_geom.specs.declared.touch.Touch.TheVariants.{Inside, Apart}
use Rattle.mill_geom.specs.Offsets.{mean3, IsOffset}
use Rattle.mill_geom.specs.Contacts.{TouchesTriangle}
use Rattle.mill_geom.specs.Sides.{IsOnSide, IsTouch, TouchesSlid, along, slid_by, turned_to}
use Rattle.mill_geom.proofs.LevelCerts.{near_same}
use Rattle.mill_geom.proofs.PlaceCerts.{swap_near}
use Rattle.mill_geom.proofs.StripCerts.{unslid}
use Rattle.mill_geom.proofs.Places.{touch_place, place_touch}

-- a touch is one at the position 0
pub touch_here : (r : ℤ) (a b c : Offset) → TouchesTriangle r a b c → TouchesSlid r a b c (pos 0)
touch_here r a b c v = record {
  u = v.u;
  v = v.v;
  w = v.w;
  u_ok = v.u_ok;
  v_ok = v.v_ok;
  w_ok = v.w_ok;
  some = v.some;
  inside = record {
    near = near_same _ _ _ (mean3 v.u v.v v.w a b c).x (mean3 v.u v.v v.w a b c).y ((v.u +ℤ v.v) +ℤ v.w) r (unslid v.u v.v v.w a.x b.x c.x) refl refl v.inside.near;
    over = v.inside.over;
  };
}

-- x and y change places
pub swap_touch : (r : ℤ) (a b c : Offset) → TouchesTriangle r a b c → TouchesTriangle r (turned_to Y a) (turned_to Y b) (turned_to Y c)
swap_touch r a b c v = record {
  u = v.u;
  v = v.v;
  w = v.w;
  u_ok = v.u_ok;
  v_ok = v.v_ok;
  w_ok = v.w_ok;
  some = v.some;
  inside = record {
    near = swap_near (mean3 v.u v.v v.w a b c).x (mean3 v.u v.v v.w a b c).y _ v.inside.near;
    over = v.inside.over;
  };
}

-- what an answer says of some touches, it says of others that there are no more of, and at 0 no fewer
pub side_carried : (s : Side) (T S : ℤ → Type 0) → ((t : ℤ) → S t → T t) → IsOnSide s T → IsOnSide s S
side_carried Less T S back h = λ t ht v. h t ht (back t v)
side_carried More T S back h = λ t ht v. h t ht (back t v)
side_carried Never T S back h = λ t v. h t (back t v)

pub touch_carried : (s : Touch) (T S : ℤ → Type 0) → (T (pos 0) → S (pos 0)) → ((t : ℤ) → S t → T t) → IsTouch s T → IsTouch s S
touch_carried Inside T S there back h = there h
touch_carried (Apart s) T S there back h = side_carried s T S back h

pub moved : (d p m t : ℤ) → d ≡ p -ℤ m → d -ℤ t ≡ p -ℤ (m +ℤ t)
moved d p m t e = omega (arith, ints)

unfoldable pub slid_y : ℤ → Offset → Offset
slid_y t p = record { x = p.x; y = p.y -ℤ t; z = p.z }

offset_x : (d : Offset) (p tip : Pt3) (t : ℤ) → IsOffset d p tip → IsOffset (slid_by t d) p (along X tip t)
offset_x d p tip t o = record { x_is = moved d.x p.x tip.x t o.x_is; y_is = o.y_is; z_is = o.z_is }

offset_y : (d : Offset) (p tip : Pt3) (t : ℤ) → IsOffset d p tip → IsOffset (slid_y t d) p (along Y tip t)
unfolding slid_y
offset_y d p tip t o = record { x_is = o.x_is; y_is = moved d.y p.y tip.y t o.y_is; z_is = o.z_is }

-- the touches of a triangle's offsets, turned to the axis, are those of the triangle at the tips along it
pub at_along : (r : ℤ) (tri : Tri) (tip : Pt3) (axis : Axis) (a b c : Offset) (t : ℤ) → IsOffset a tri.a tip → IsOffset b tri.b tip → IsOffset c tri.c tip
    → TouchesSlid r (turned_to axis a) (turned_to axis b) (turned_to axis c) t → Touches (Flat r) (pos 1) (along axis tip t) tri
unfolding slid_y
at_along r tri tip X a b c t oa ob oc v = touch_place r tri (along X tip t) (slid_by t a) (slid_by t b) (slid_by t c) (offset_x a tri.a tip t oa) (offset_x b tri.b tip t ob) (offset_x c tri.c tip t oc) v
at_along r tri tip Y a b c t oa ob oc v =
    touch_place r tri (along Y tip t) (slid_y t a) (slid_y t b) (slid_y t c) (offset_y a tri.a tip t oa) (offset_y b tri.b tip t ob) (offset_y c tri.c tip t oc)
    (swap_touch r (slid_by t (turned_to Y a)) (slid_by t (turned_to Y b)) (slid_by t (turned_to Y c)) v)

pub along_at : (r : ℤ) (tri : Tri) (tip : Pt3) (axis : Axis) (a b c : Offset) (t : ℤ) → IsOffset a tri.a tip → IsOffset b tri.b tip → IsOffset c tri.c tip
    → Touches (Flat r) (pos 1) (along axis tip t) tri → TouchesSlid r (turned_to axis a) (turned_to axis b) (turned_to axis c) t
unfolding slid_y
along_at r tri tip X a b c t oa ob oc v = place_touch r tri (along X tip t) (slid_by t a) (slid_by t b) (slid_by t c) (offset_x a tri.a tip t oa) (offset_x b tri.b tip t ob) (offset_x c tri.c tip t oc) v
along_at r tri tip Y a b c t oa ob oc v =
    swap_touch r (slid_y t a) (slid_y t b) (slid_y t c)
    (place_touch r tri (along Y tip t) (slid_y t a) (slid_y t b) (slid_y t c) (offset_y a tri.a tip t oa) (offset_y b tri.b tip t ob) (offset_y c tri.c tip t oc) v)

-- an answer about the turned offsets is one about the triangle
pub touch_along : (s : Touch) (r : ℤ) (tri : Tri) (tip : Pt3) (axis : Axis) (a b c : Offset) → IsOffset a tri.a tip → IsOffset b tri.b tip → IsOffset c tri.c tip
    → IsTouch s (TouchesSlid r (turned_to axis a) (turned_to axis b) (turned_to axis c)) → IsTouch s (λ t. Touches (Flat r) (pos 1) (along axis tip t) tri)
touch_along s r tri tip axis a b c oa ob oc h =
    touch_carried s (TouchesSlid r (turned_to axis a) (turned_to axis b) (turned_to axis c)) (λ t. Touches (Flat r) (pos 1) (along axis tip t) tri)
    (at_along r tri tip axis a b c (pos 0) oa ob oc) (λ t. along_at r tri tip axis a b c t oa ob oc) h
