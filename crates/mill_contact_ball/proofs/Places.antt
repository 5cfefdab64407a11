-- What the ball cutter strictly holds of a triangle, and what the sphere and the cylinder over its centre hold of the offsets from that centre, are the same.
use Rattle.std.proofs.Common.{◌≡◌, inl, inr, refl, sym, ap, ◌∙◌, subst, arith}
use lib.IntN.{ℤ, pos, ◌+ℤ◌, ◌-ℤ◌, ◌*ℤ◌}
use lib.Signed.{◌<ℤ◌, ◌≤ℤ◌}
use Rattle.std.proofs.lemmas.Int.{ints}
use Rattle.mill_base.specs.declared.points.Pt3.{Pt3}
use Rattle.mill_base.specs.declared.points.Tri.{Tri}
use Rattle.mill_base.specs.declared.cutter.Cutter.TheVariants.{Flat, Ball}
use Rattle.mill_base.specs.Cutters.{InBall}
use Rattle.mill_base.specs.Points.{plus, times, minus}
use Rattle.mill_base.specs.Contact.{Touches}
use Rattle.mill_base.proofs.Integers.{one-mul-ℤ, mul_pos-ℤ}
use Rattle.mill_base.proofs.Exit.{split_lt}
use Rattle.mill_geom.specs.declared.offset.Offset.{Offset}
use Rattle.mill_geom.specs.Offsets.{mean3, IsOffset}
use Rattle.mill_geom.specs.Contacts.{TouchesTriangle}
use Rattle.mill_geom.proofs.LevelCerts.{near_same}
use Rattle.mill_geom.proofs.Places.{spot}
use Rattle.mill_contact_ball.specs.Centres.{sphere_centre}
use Rattle.mill_contact_ball.specs.inner.Spheres.{InSphere, MeetsSphere, MeetsBall}
use Rattle.mill_contact_ball.proofs.PlaceCerts.{raised, sphere_there, sphere_near, sphere_back, level_back, some_weight, over_centre as over_tip, in_sphere}

-- the offset d over m from the tip and the offset e over n from the centre go to one point
pub record Same (r m n : ℤ) (d e : Pt3) : Type 0 where
  pub x : d.x ≡ e.x
  pub y : d.y ≡ e.y
  pub z : d.z -ℤ r *ℤ m ≡ e.z
  pub time : m ≡ n

same : (r : ℤ) (tri : Tri) (tip : Pt3) (a b c : Offset) (u v w n : ℤ) (p : Pt3) → IsOffset a tri.a (sphere_centre r tip) → IsOffset b tri.b (sphere_centre r tip) → IsOffset c tri.c (sphere_centre r tip)
    → n ≡ (u +ℤ v) +ℤ w → p ≡ plus (plus (times u tri.a) (times v tri.b)) (times w tri.c)
    → Same r (pos 1 *ℤ n) ((u +ℤ v) +ℤ w) (minus (times (pos 1) p) (times n tip)) (mean3 u v w a b c)
same r tri tip a b c u v w n p oa ob oc en ep = record {
  x = spot p.x n tip.x u v w tri.a.x tri.b.x tri.c.x a.x b.x c.x (ap (λ (q : Pt3). q.x) ep) en oa.x_is ob.x_is oc.x_is;
  y = spot p.y n tip.y u v w tri.a.y tri.b.y tri.c.y a.y b.y c.y (ap (λ (q : Pt3). q.y) ep) en oa.y_is ob.y_is oc.y_is;
  z = raised p.z n tip.z r ∙ spot p.z n (tip.z +ℤ r) u v w tri.a.z tri.b.z tri.c.z a.z b.z c.z (ap (λ (q : Pt3). q.z) ep) en oa.z_is ob.z_is oc.z_is;
  time = one-mul-ℤ n ∙ en;
}

-- what the sphere or the cylinder holds, the cutter does
sphere_held : (r m n : ℤ) (d e : Pt3) → Same r m n d e → InSphere r n e → InBall r m d
sphere_held r m n d e s h = record {
  near = sphere_near d.x d.y m e.x e.y e.z n r s.x s.y s.time h.near;
  over = inr (sphere_there d.x d.y d.z m e.x e.y e.z n r s.x s.y s.z s.time h.near);
}

over_centre : (z k e : ℤ) → z -ℤ k ≡ e → (pos 0) <ℤ e → k ≤ℤ z
over_centre z k e s h = omega (arith, ints)

at_centre : (z k e : ℤ) → z -ℤ k ≡ e → k ≤ℤ z → (pos 0) ≤ℤ e
at_centre z k e s h = omega (arith, ints)

-- the point that a touch tells, by the weights of a triangle
pub sphere_place : (r : ℤ) (tri : Tri) (tip : Pt3) (a b c : Offset) → IsOffset a tri.a (sphere_centre r tip) → IsOffset b tri.b (sphere_centre r tip) → IsOffset c tri.c (sphere_centre r tip)
    → MeetsSphere r a b c → Touches (Ball r) (pos 1) tip tri
sphere_place r tri tip a b c oa ob oc t =
    let s = t.at in
    let e = mean3 s.u s.v s.w a b c in
    record {
      n = (s.u +ℤ s.v) +ℤ s.w;
      p = plus (plus (times s.u tri.a) (times s.v tri.b)) (times s.w tri.c);
      point = record {
        u = s.u;
        v = s.v;
        w = s.w;
        u_ok = t.spot.u_ok;
        v_ok = t.spot.v_ok;
        w_ok = t.spot.w_ok;
        some = some_weight e.x e.y e.z s.u s.v s.w r t.spot.u_ok t.spot.v_ok t.spot.w_ok t.spot.inside.near;
        weights = refl;
        place = refl;
      };
      inside = sphere_held r _ _ _ _ (same r tri tip a b c s.u s.v s.w _ _ oa ob oc refl refl) t.spot.inside;
    }

pub cylinder_place : (r : ℤ) (tri : Tri) (tip : Pt3) (a b c : Offset) → IsOffset a tri.a (sphere_centre r tip) → IsOffset b tri.b (sphere_centre r tip) → IsOffset c tri.c (sphere_centre r tip)
    → TouchesTriangle r a b c → Touches (Ball r) (pos 1) tip tri
cylinder_place r tri tip a b c oa ob oc t =
    let p = plus (plus (times t.u tri.a) (times t.v tri.b)) (times t.w tri.c) in
    let n = (t.u +ℤ t.v) +ℤ t.w in
    let s = same r tri tip a b c t.u t.v t.w n p oa ob oc refl refl in
    let d = minus (times (pos 1) p) (times n tip) in
    let e = mean3 t.u t.v t.w a b c in
    record {
      n = n;
      p = p;
      point = record { u = t.u; v = t.v; w = t.w; u_ok = t.u_ok; v_ok = t.v_ok; w_ok = t.w_ok; some = t.some; weights = refl; place = refl };
      inside = record {
        near = near_same d.x d.y (pos 1 *ℤ n) e.x e.y n r s.x s.y s.time t.inside.near;
        over = inl (over_centre d.z (r *ℤ (pos 1 *ℤ n)) e.z s.z t.inside.over);
      };
    }

pub ball_place : (r : ℤ) (tri : Tri) (tip : Pt3) (a b c : Offset) → IsOffset a tri.a (sphere_centre r tip) → IsOffset b tri.b (sphere_centre r tip) → IsOffset c tri.c (sphere_centre r tip)
    → MeetsBall r a b c → Touches (Ball r) (pos 1) tip tri
ball_place r tri tip a b c oa ob oc (inl t) = sphere_place r tri tip a b c oa ob oc t
ball_place r tri tip a b c oa ob oc (inr t) = cylinder_place r tri tip a b c oa ob oc t

-- the weights of the point that the cutter holds are those of one that the sphere or the cylinder holds
pub place_ball : (r : ℤ) (tri : Tri) (tip : Pt3) (a b c : Offset) → IsOffset a tri.a (sphere_centre r tip) → IsOffset b tri.b (sphere_centre r tip) → IsOffset c tri.c (sphere_centre r tip)
    → Touches (Ball r) (pos 1) tip tri → MeetsBall r a b c
place_ball r tri tip a b c oa ob oc t =
    let k = t.point in
    let d = minus (times (pos 1) t.p) (times t.n tip) in
    let e = mean3 k.u k.v k.w a b c in
    let s = same r tri tip a b c k.u k.v k.w t.n t.p oa ob oc k.weights k.place in
    let n = (k.u +ℤ k.v) +ℤ k.w in
    elim t.inside.over [
      | inr h ↦ inl (record {
        at = record { u = k.u; v = k.v; w = k.w };
        spot = record { u_ok = k.u_ok; v_ok = k.v_ok; w_ok = k.w_ok; inside = record { near = sphere_back d.x d.y d.z (pos 1 *ℤ t.n) e.x e.y e.z n r s.x s.y s.z s.time h } };
      })
      | inl h ↦ elim (split_lt (pos 0) e.z) [
        | inl up ↦ inr (record {
          u = k.u;
          v = k.v;
          w = k.w;
          u_ok = k.u_ok;
          v_ok = k.v_ok;
          w_ok = k.w_ok;
          some = subst (λ x. (pos 0) <ℤ x) k.weights k.some;
          inside = record { near = near_same e.x e.y n d.x d.y (pos 1 *ℤ t.n) r (sym s.x) (sym s.y) (sym s.time) t.inside.near; over = up };
        })
        | inr low ↦ inl (record {
          at = record { u = k.u; v = k.v; w = k.w };
          spot = record {
            u_ok = k.u_ok;
            v_ok = k.v_ok;
            w_ok = k.w_ok;
            inside = record { near = level_back d.x d.y (pos 1 *ℤ t.n) e.x e.y e.z n r s.x s.y s.time low (at_centre d.z (r *ℤ (pos 1 *ℤ t.n)) e.z s.z h) t.inside.near };
          };
        })
      ]
    ]

-- what a ball holds, the flat cutter of its radius holds
pub in_cylinder : (r : ℤ) (tri : Tri) (tip : Pt3) → (pos 1) ≤ℤ r → Touches (Ball r) (pos 1) tip tri → Touches (Flat r) (pos 1) tip tri
in_cylinder r tri tip hr t =
    let d = minus (times (pos 1) t.p) (times t.n tip) in
    let some = over_one r hr in
    let time = mul_pos-ℤ (pos 1) t.n one t.point.some in
    record {
      n = t.n;
      p = t.p;
      point = t.point;
      inside = record {
        near = t.inside.near;
        over = elim t.inside.over [ inl high ↦ over_tip d.z r (pos 1 *ℤ t.n) some time high | inr deep ↦ in_sphere d.x d.y d.z r (pos 1 *ℤ t.n) some time deep ];
      };
    }
  where
    one : (pos 0) <ℤ pos 1
    one = omega (arith, ints)

    over_one : (r : ℤ) → (pos 1) ≤ℤ r → (pos 0) <ℤ r
    over_one r h = omega (arith, ints)
