-- Touches of a triangle and of its corners, seen from the tip, are the same, at each position along an axis.
use Rattle.std.proofs.Common.{refl, sym, ap, ◌∙◌, subst}
use lib.IntN.{ℤ, pos, ◌+ℤ◌, ◌*ℤ◌}
use lib.Signed.{◌<ℤ◌}
use Rattle.mill_base.specs.declared.points.Pt3.{Pt3}
use Rattle.mill_base.specs.declared.points.Tri.{Tri}
use Rattle.mill_base.specs.declared.cutter.Cutter.TheVariants.{Cone as ConeCutter}
use Rattle.mill_base.specs.Points.{plus, times}
use Rattle.mill_base.specs.Contact.{Touches}
use Rattle.mill_base.proofs.Integers.{one-mul-ℤ}
use Rattle.mill_geom.specs.declared.touch.Axis.{Axis}
use Rattle.mill_geom.specs.declared.touch.Axis.TheVariants.{X, Y}
use Rattle.mill_geom.specs.declared.touch.Side.{Side}
use Rattle.mill_geom.specs.declared.touch.Touch.{Touch}
use Rattle.mill_geom.specs.Offsets.{mean3, IsOffset}
use Rattle.mill_geom.specs.Sides.{IsOnSide, IsTouch, TouchesSlid, along}
use Rattle.mill_geom.proofs.PlaceCerts.{swap_near}
use Rattle.mill_geom.proofs.Places.{spot}
use Rattle.mill_geom.proofs.StripCerts.{unslid}
use Rattle.mill_geom.proofs.Along.{side_carried, touch_carried, moved}
use Rattle.mill_contact_cone.specs.declared.corner.Cone.{Cone}
use Rattle.mill_contact_cone.specs.declared.corner.Corner.{Corner}
use Rattle.mill_contact_cone.specs.Cones.{plain, TouchesCone}
use Rattle.mill_contact_cone.specs.inner.Positions.{IsAlong, slid, ConeAt}
use Rattle.mill_contact_cone.proofs.Zones.{same_inside}
use Rattle.mill_contact_cone.proofs.Whole.{cone_flat}
use Rattle.mill_contact_cone.proofs.SideCerts.{steep_swapped}

-- the corners are those of the triangle
pub record Placed (tri : Tri) (tip : Pt3) (a b c : Corner) : Type 0 where
  pub a_at : IsOffset (plain a) tri.a tip
  pub b_at : IsOffset (plain b) tri.b tip
  pub c_at : IsOffset (plain c) tri.c tip

pub cone_place : (k : Cone) (tri : Tri) (tip : Pt3) (a b c : Corner) → Placed tri tip a b c → TouchesCone k a b c → Touches (ConeCutter k.radius k.rise k.run) (pos 1) tip tri
cone_place k tri tip a b c o t =
    let s = (t.u +ℤ t.v) +ℤ t.w in
    let p = plus (plus (times t.u tri.a) (times t.v tri.b)) (times t.w tri.c) in
    record {
      n = s;
      p = p;
      point = record { u = t.u; v = t.v; w = t.w; u_ok = t.u_ok; v_ok = t.v_ok; w_ok = t.w_ok; some = t.some; weights = refl; place = refl };
      inside = same_inside k.radius k.rise k.run s (pos 1 *ℤ s) _ _ _ _ _ _ (sym (one-mul-ℤ s))
          (sym (spot p.x s tip.x t.u t.v t.w tri.a.x tri.b.x tri.c.x a.x b.x c.x refl refl o.a_at.x_is o.b_at.x_is o.c_at.x_is))
          (sym (spot p.y s tip.y t.u t.v t.w tri.a.y tri.b.y tri.c.y a.y b.y c.y refl refl o.a_at.y_is o.b_at.y_is o.c_at.y_is))
          (sym (spot p.z s tip.z t.u t.v t.w tri.a.z tri.b.z tri.c.z a.z b.z c.z refl refl o.a_at.z_is o.b_at.z_is o.c_at.z_is)) t.inside;
    }

pub place_cone : (k : Cone) (tri : Tri) (tip : Pt3) (a b c : Corner) → Placed tri tip a b c → Touches (ConeCutter k.radius k.rise k.run) (pos 1) tip tri → TouchesCone k a b c
place_cone k tri tip a b c o t =
    let q = t.point in
    record {
      u = q.u;
      v = q.v;
      w = q.w;
      u_ok = q.u_ok;
      v_ok = q.v_ok;
      w_ok = q.w_ok;
      some = subst (λ s. (pos 0) <ℤ s) q.weights q.some;
      inside = same_inside k.radius k.rise k.run (pos 1 *ℤ t.n) ((q.u +ℤ q.v) +ℤ q.w) _ _ _ _ _ _ (one-mul-ℤ t.n ∙ q.weights)
          (spot t.p.x t.n tip.x q.u q.v q.w tri.a.x tri.b.x tri.c.x a.x b.x c.x (ap (λ (p : Pt3). p.x) q.place) q.weights o.a_at.x_is o.b_at.x_is o.c_at.x_is)
          (spot t.p.y t.n tip.y q.u q.v q.w tri.a.y tri.b.y tri.c.y a.y b.y c.y (ap (λ (p : Pt3). p.y) q.place) q.weights o.a_at.y_is o.b_at.y_is o.c_at.y_is)
          (spot t.p.z t.n tip.z q.u q.v q.w tri.a.z tri.b.z tri.c.z a.z b.z c.z (ap (λ (p : Pt3). p.z) q.place) q.weights o.a_at.z_is o.b_at.z_is o.c_at.z_is) t.inside;
    }

-- x and y change places
swapped : Corner → Corner
swapped p = record { x = p.y; y = p.x; z = p.z; over = p.over }

cone_swapped : (k : Cone) (a b c : Corner) → TouchesCone k a b c → TouchesCone k (swapped a) (swapped b) (swapped c)
unfolding swapped
cone_swapped k a b c t = record {
  u = t.u;
  v = t.v;
  w = t.w;
  u_ok = t.u_ok;
  v_ok = t.v_ok;
  w_ok = t.w_ok;
  some = t.some;
  inside = record {
    near = swap_near (mean3 t.u t.v t.w (plain a) (plain b) (plain c)).x (mean3 t.u t.v t.w (plain a) (plain b) (plain c)).y _ t.inside.near;
    over = t.inside.over;
    steep = steep_swapped (mean3 t.u t.v t.w (plain a) (plain b) (plain c)).x (mean3 t.u t.v t.w (plain a) (plain b) (plain c)).y (mean3 t.u t.v t.w (plain a) (plain b) (plain c)).z k.rise k.run t.inside.steep;
  };
}

along_x : (d : Corner) (p tip : Pt3) (t : ℤ) → IsAlong X d p tip → IsOffset (plain (slid t d)) p (along X tip t)
along_x d p tip t o = record { x_is = moved d.x p.x tip.x t o.x_is; y_is = o.y_is; z_is = o.z_is }

along_y : (d : Corner) (p tip : Pt3) (t : ℤ) → IsAlong Y d p tip → IsOffset (plain (swapped (slid t d))) p (along Y tip t)
unfolding swapped
along_y d p tip t o = record { x_is = o.x_is; y_is = moved d.x p.y tip.y t o.y_is; z_is = o.z_is }

-- the corners of the triangle, with the axis for x
pub record AllAlong (axis : Axis) (tri : Tri) (tip : Pt3) (a b c : Corner) : Type 0 where
  pub a_at : IsAlong axis a tri.a tip
  pub b_at : IsAlong axis b tri.b tip
  pub c_at : IsAlong axis c tri.c tip

placed_x : (tri : Tri) (tip : Pt3) (a b c : Corner) (t : ℤ) → AllAlong X tri tip a b c → Placed tri (along X tip t) (slid t a) (slid t b) (slid t c)
placed_x tri tip a b c t o = record { a_at = along_x a tri.a tip t o.a_at; b_at = along_x b tri.b tip t o.b_at; c_at = along_x c tri.c tip t o.c_at }

placed_y : (tri : Tri) (tip : Pt3) (a b c : Corner) (t : ℤ) → AllAlong Y tri tip a b c → Placed tri (along Y tip t) (swapped (slid t a)) (swapped (slid t b)) (swapped (slid t c))
placed_y tri tip a b c t o = record { a_at = along_y a tri.a tip t o.a_at; b_at = along_y b tri.b tip t o.b_at; c_at = along_y c tri.c tip t o.c_at }

-- the touches of the corners at the positions along x are those of the triangle at the tips along the axis
at_along : (k : Cone) (tri : Tri) (tip : Pt3) (axis : Axis) (a b c : Corner) (t : ℤ) → AllAlong axis tri tip a b c → ConeAt k a b c t → Touches (ConeCutter k.radius k.rise k.run) (pos 1) (along axis tip t) tri
at_along k tri tip X a b c t o v = cone_place k tri (along X tip t) (slid t a) (slid t b) (slid t c) (placed_x tri tip a b c t o) v
at_along k tri tip Y a b c t o v =
    cone_place k tri (along Y tip t) (swapped (slid t a)) (swapped (slid t b)) (swapped (slid t c)) (placed_y tri tip a b c t o) (cone_swapped k (slid t a) (slid t b) (slid t c) v)

back_again : (k : Cone) (a b c : Corner) → TouchesCone k (swapped a) (swapped b) (swapped c) → TouchesCone k a b c
unfolding swapped
back_again k a b c t = cone_swapped k (swapped a) (swapped b) (swapped c) t

along_at : (k : Cone) (tri : Tri) (tip : Pt3) (axis : Axis) (a b c : Corner) (t : ℤ) → AllAlong axis tri tip a b c → Touches (ConeCutter k.radius k.rise k.run) (pos 1) (along axis tip t) tri → ConeAt k a b c t
along_at k tri tip X a b c t o v = place_cone k tri (along X tip t) (slid t a) (slid t b) (slid t c) (placed_x tri tip a b c t o) v
along_at k tri tip Y a b c t o v =
    back_again k (slid t a) (slid t b) (slid t c) (place_cone k tri (along Y tip t) (swapped (slid t a)) (swapped (slid t b)) (swapped (slid t c)) (placed_y tri tip a b c t o) v)

-- an answer about the corners is one about the triangle
pub touch_along : (s : Touch) (k : Cone) (tri : Tri) (tip : Pt3) (axis : Axis) (a b c : Corner) → AllAlong axis tri tip a b c → IsTouch s (ConeAt k a b c)
    → IsTouch s (λ t. Touches (ConeCutter k.radius k.rise k.run) (pos 1) (along axis tip t) tri)
touch_along s k tri tip axis a b c o h =
    touch_carried s (ConeAt k a b c) (λ t. Touches (ConeCutter k.radius k.rise k.run) (pos 1) (along axis tip t) tri) (at_along k tri tip axis a b c (pos 0) o) (λ t. along_at k tri tip axis a b c t o) h

-- a touch is one at the position 0
pub touch_here : (k : Cone) (a b c : Corner) → TouchesCone k a b c → ConeAt k a b c (pos 0)
touch_here k a b c t = record {
  u = t.u;
  v = t.v;
  w = t.w;
  u_ok = t.u_ok;
  v_ok = t.v_ok;
  w_ok = t.w_ok;
  some = t.some;
  inside = same_inside k.radius k.rise k.run ((t.u +ℤ t.v) +ℤ t.w) ((t.u +ℤ t.v) +ℤ t.w) _ _ _ _ _ _ refl (sym (unslid t.u t.v t.w a.x b.x c.x)) refl refl t.inside;
}

-- the side that the cylinder's box shows is the cone's
pub box_shows : (s : Side) (k : Cone) (a b c : Corner) → IsOnSide s (TouchesSlid k.radius (plain a) (plain b) (plain c)) → IsOnSide s (ConeAt k a b c)
box_shows s k a b c h = side_carried s (TouchesSlid k.radius (plain a) (plain b) (plain c)) (ConeAt k a b c) (λ t v. cone_flat k (slid t a) (slid t b) (slid t c) v) h
