-- Meetings at the positions along an axis, and what the cylinder's side says where the sphere meets nothing.
use Rattle.std.proofs.Common.{inl, inr, refl, Option, Some, None, IfSome}
use lib.IntN.{ℤ, pos, ◌+ℤ◌}
use lib.Signed.{◌≤ℤ◌}
use Rattle.mill_base.specs.declared.points.Pt3.{Pt3}
use Rattle.mill_base.specs.declared.points.Tri.{Tri}
use Rattle.mill_base.specs.declared.cutter.Cutter.TheVariants.{Ball}
use Rattle.mill_base.specs.Contact.{Touches}
use Rattle.mill_geom.specs.declared.offset.Offset.{Offset}
use Rattle.mill_geom.specs.declared.touch.Axis.{Axis}
use Rattle.mill_geom.specs.declared.touch.Axis.TheVariants.{X, Y}
use Rattle.mill_geom.specs.declared.touch.Side.{Side}
use Rattle.mill_geom.specs.declared.touch.Touch.{Touch}
use Rattle.mill_geom.specs.Offsets.{mean3, IsOffset}
use Rattle.mill_geom.specs.Sides.{IsOnSide, IsTouch, TouchesSlid, along, slid_by, turned_to}
use Rattle.mill_geom.proofs.StripCerts.{unslid}
use Rattle.mill_geom.proofs.Along.{touch_here, swap_touch, moved, slid_y, along_at as flat_along_at, side_carried, touch_carried}
use Rattle.mill_contact_ball.specs.Centres.{sphere_centre}
use Rattle.mill_contact_ball.specs.inner.Spheres.{MeetsSphere, MeetsBall, MeetsAt, flat_of}
use Rattle.mill_contact_ball.proofs.ShadowCerts.{swap_sphere}
use Rattle.mill_contact_ball.proofs.Shadows.{same_sphere, flat_never}
use Rattle.mill_contact_ball.proofs.Places.{ball_place, place_ball, in_cylinder}

-- a meeting is one at the position 0
pub meeting_here : (r : ℤ) (a b c : Offset) → MeetsBall r a b c → MeetsAt r a b c (pos 0)
meeting_here r a b c (inr v) = inr (touch_here r a b c v)
meeting_here r a b c (inl v) =
    let s = v.at in
    let m = mean3 s.u s.v s.w a b c in
    let n = (s.u +ℤ s.v) +ℤ s.w in
    inl (record {
      at = s;
      spot = record {
        u_ok = v.spot.u_ok;
        v_ok = v.spot.v_ok;
        w_ok = v.spot.w_ok;
        inside = record { near = same_sphere _ m.y m.z n m.x m.y m.z n r (unslid s.u s.v s.w a.x b.x c.x) refl refl refl v.spot.inside.near };
      };
    })

-- where the sphere meets nothing along x, the cylinder's side is the ball's
pub cylinder_side : (s : Side) (r : ℤ) (a b c : Offset) → (MeetsSphere r (flat_of a) (flat_of b) (flat_of c) → ⊥) → IsOnSide s (TouchesSlid r a b c) → IsOnSide s (MeetsAt r a b c)
cylinder_side s r a b c none h = side_carried s (TouchesSlid r a b c) (MeetsAt r a b c) back h
  where
    back : (t : ℤ) → MeetsAt r a b c t → TouchesSlid r a b c t
    back t (inl v) = absurd (flat_never r a b c t none v)
    back t (inr v) = v

-- x and y change places
swap_meeting : (r : ℤ) (a b c : Offset) → MeetsBall r a b c → MeetsBall r (turned_to Y a) (turned_to Y b) (turned_to Y c)
swap_meeting r a b c (inl v) =
    let s = v.at in
    let m = mean3 s.u s.v s.w a b c in
    inl (record {
      at = s;
      spot = record { u_ok = v.spot.u_ok; v_ok = v.spot.v_ok; w_ok = v.spot.w_ok; inside = record { near = swap_sphere m.x m.y m.z _ v.spot.inside.near } };
    })
swap_meeting r a b c (inr v) = inr (swap_touch r a b c v)

offset_x : (d : Offset) (r : ℤ) (p tip : Pt3) (t : ℤ) → IsOffset d p (sphere_centre r tip) → IsOffset (slid_by t d) p (sphere_centre r (along X tip t))
offset_x d r p tip t o = record { x_is = moved d.x p.x tip.x t o.x_is; y_is = o.y_is; z_is = o.z_is }

offset_y : (d : Offset) (r : ℤ) (p tip : Pt3) (t : ℤ) → IsOffset d p (sphere_centre r tip) → IsOffset (slid_y t d) p (sphere_centre r (along Y tip t))
unfolding slid_y
offset_y d r p tip t o = record { x_is = o.x_is; y_is = moved d.y p.y tip.y t o.y_is; z_is = o.z_is }

-- the meetings of a triangle's offsets, turned to the axis, are the touches of the triangle at the tips along it
at_along : (r : ℤ) (tri : Tri) (tip : Pt3) (axis : Axis) (a b c : Offset) (t : ℤ) → IsOffset a tri.a (sphere_centre r tip) → IsOffset b tri.b (sphere_centre r tip) → IsOffset c tri.c (sphere_centre r tip)
    → MeetsAt r (turned_to axis a) (turned_to axis b) (turned_to axis c) t → Touches (Ball r) (pos 1) (along axis tip t) tri
unfolding slid_y
at_along r tri tip X a b c t oa ob oc v = ball_place r tri (along X tip t) (slid_by t a) (slid_by t b) (slid_by t c) (offset_x a r tri.a tip t oa) (offset_x b r tri.b tip t ob) (offset_x c r tri.c tip t oc) v
at_along r tri tip Y a b c t oa ob oc v =
    ball_place r tri (along Y tip t) (slid_y t a) (slid_y t b) (slid_y t c) (offset_y a r tri.a tip t oa) (offset_y b r tri.b tip t ob) (offset_y c r tri.c tip t oc)
    (swap_meeting r (slid_by t (turned_to Y a)) (slid_by t (turned_to Y b)) (slid_by t (turned_to Y c)) v)

along_at : (r : ℤ) (tri : Tri) (tip : Pt3) (axis : Axis) (a b c : Offset) (t : ℤ) → IsOffset a tri.a (sphere_centre r tip) → IsOffset b tri.b (sphere_centre r tip) → IsOffset c tri.c (sphere_centre r tip)
    → Touches (Ball r) (pos 1) (along axis tip t) tri → MeetsAt r (turned_to axis a) (turned_to axis b) (turned_to axis c) t
unfolding slid_y
along_at r tri tip X a b c t oa ob oc v = place_ball r tri (along X tip t) (slid_by t a) (slid_by t b) (slid_by t c) (offset_x a r tri.a tip t oa) (offset_x b r tri.b tip t ob) (offset_x c r tri.c tip t oc) v
along_at r tri tip Y a b c t oa ob oc v =
    swap_meeting r (slid_y t a) (slid_y t b) (slid_y t c)
    (place_ball r tri (along Y tip t) (slid_y t a) (slid_y t b) (slid_y t c) (offset_y a r tri.a tip t oa) (offset_y b r tri.b tip t ob) (offset_y c r tri.c tip t oc) v)

-- an answer about the turned offsets is one about the triangle
pub touch_along : (s : Touch) (r : ℤ) (tri : Tri) (tip : Pt3) (axis : Axis) (a b c : Offset) → IsOffset a tri.a (sphere_centre r tip) → IsOffset b tri.b (sphere_centre r tip) → IsOffset c tri.c (sphere_centre r tip)
    → IsTouch s (MeetsAt r (turned_to axis a) (turned_to axis b) (turned_to axis c)) → IsTouch s (λ t. Touches (Ball r) (pos 1) (along axis tip t) tri)
touch_along s r tri tip axis a b c oa ob oc h =
    touch_carried s (MeetsAt r (turned_to axis a) (turned_to axis b) (turned_to axis c)) (λ t. Touches (Ball r) (pos 1) (along axis tip t) tri)
    (at_along r tri tip axis a b c (pos 0) oa ob oc) (λ t. along_at r tri tip axis a b c t oa ob oc) h

-- a ball lies in the flat cutter of its radius, so where the box keeps that off the triangle, it keeps the ball off
pub box_along : (s : Option Side) (r : ℤ) (tri : Tri) (tip : Pt3) (axis : Axis) (a b c : Offset) → (pos 1) ≤ℤ r → IsOffset a tri.a tip → IsOffset b tri.b tip → IsOffset c tri.c tip
    → IfSome s (λ side. IsOnSide side (TouchesSlid r (turned_to axis a) (turned_to axis b) (turned_to axis c))) → IfSome s (λ side. IsOnSide side (λ t. Touches (Ball r) (pos 1) (along axis tip t) tri))
box_along None r tri tip axis a b c hr oa ob oc h = tt
box_along (Some side) r tri tip axis a b c hr oa ob oc h =
    side_carried side (TouchesSlid r (turned_to axis a) (turned_to axis b) (turned_to axis c)) (λ t. Touches (Ball r) (pos 1) (along axis tip t) tri)
    (λ t v. flat_along_at r tri tip axis a b c t oa ob oc (in_cylinder r tri (along axis tip t) hr v)) h
