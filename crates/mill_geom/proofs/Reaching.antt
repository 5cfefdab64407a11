-- Points on the level or over it: of a triangle with a corner over the level, of one without, and of the part's triangle about a centre.
use Rattle.std.proofs.Common.{◌≡◌, inl, inr, refl, sym, ap, ◌∙◌, subst, arith}
use lib.IntN.{ℤ, pos, ◌+ℤ◌, ◌-ℤ◌, ◌*ℤ◌}
use lib.Signed.{◌<ℤ◌, ◌≤ℤ◌}
use Rattle.std.proofs.lemmas.Int.{ints}
use Rattle.mill_base.specs.declared.points.Pt3.{Pt3}
use Rattle.mill_base.specs.declared.points.Tri.{Tri}
use Rattle.mill_base.specs.Points.{plus, times}
use Rattle.mill_base.proofs.Integers.{zero-mul-ℤ, one-mul-ℤ}
use Rattle.mill_base.proofs.Exit.{split_lt}
use Rattle.mill_geom.specs.declared.offset.Offset.{Offset}
use Rattle.mill_geom.specs.Offsets.{mean2, mean3, IsOffset}
use Rattle.mill_geom.specs.Forms.{IsOver}
use Rattle.mill_geom.specs.Contacts.{TouchesSegment, TouchesTriangle}
use Rattle.mill_geom.specs.Reaches.{Reaches, ReachesTriangle, ReachesSegment, ReachesCorner, AllUnder, raised_of}
use Rattle.mill_geom.proofs.Corners.{Closed, weak, opened, turn_touch, turn_closed, gone_first}
use Rattle.mill_geom.proofs.LevelCerts.{near_same, some_of}
use Rattle.mill_geom.proofs.ReachCerts.{sunk_first, sunk_end, lone_near, lone_level, corner_near, placed, placed_near, near_placed}

closed_of : (r : ℤ) (a b c : Offset) → ReachesTriangle r a b c → Closed r a b c
closed_of r a b c t = record { u = t.u; v = t.v; w = t.w; u_ok = t.u_ok; v_ok = t.v_ok; w_ok = t.w_ok; near = t.near; level = t.level }

of_closed : (r : ℤ) (a b c : Offset) → Closed r a b c → ReachesTriangle r a b c
of_closed r a b c t = record { u = t.u; v = t.v; w = t.w; u_ok = t.u_ok; v_ok = t.v_ok; w_ok = t.w_ok; near = t.near; level = t.level }

-- the corners in another order
pub turn_reach : (r : ℤ) (a b c : Offset) → ReachesTriangle r b c a → ReachesTriangle r a b c
turn_reach r a b c t = of_closed r a b c (turn_closed r a b c (closed_of r b c a t))

pub back_reach : (r : ℤ) (a b c : Offset) → ReachesTriangle r a b c → ReachesTriangle r b c a
back_reach r a b c t = turn_reach r b c a (turn_reach r c a b t)

-- a point over the level isn't under it
pub touch_reach : (r : ℤ) (a b c : Offset) → TouchesTriangle r a b c → ReachesTriangle r a b c
touch_reach r a b c t = record { u = t.u; v = t.v; w = t.w; u_ok = t.u_ok; v_ok = t.v_ok; w_ok = t.w_ok; near = t.inside.near; level = weak _ t.inside.over }

-- where some corner is over the level, a near point on the level gives one over it
pub over_touch : (r : ℤ) (a b c : Offset) → (pos 0) <ℤ r → IsOver a b c → ReachesTriangle r a b c → TouchesTriangle r a b c
over_touch r a b c hr (inl up) t = opened r a b c hr up (closed_of r a b c t)
over_touch r a b c hr (inr (inl up)) t = turn_touch r a b c (opened r b c a hr up (closed_of r b c a (back_reach r a b c t)))
over_touch r a b c hr (inr (inr up)) t =
    turn_touch r a b c (turn_touch r b c a (opened r c a b hr up (closed_of r c a b (turn_reach r c a b t))))

-- where none is, all are on it or under it
pub none_over : (a b c : Offset) → ¬ IsOver a b c → AllUnder a b c
none_over a b c none = record { first = not_over a.z (λ h. none (inl h)); second = not_over b.z (λ h. none (inr (inl h))); third = not_over c.z (λ h. none (inr (inr h))) }
  where
    not_over : (z : ℤ) → ¬ ((pos 0) <ℤ z) → z ≤ℤ pos 0
    not_over z h = elim (split_lt (pos 0) z) [ inl up ↦ absurd (h up) | inr under ↦ under ]

none_left : (u : ℤ) → (pos 0) ≤ℤ u → u ≤ℤ pos 0 → u ≡ pos 0
none_left u h k = omega (arith, ints)

-- a first corner under the level has no weight, where no other is over it
pub without_first : (r : ℤ) (a b c : Offset) → a.z <ℤ pos 0 → b.z ≤ℤ pos 0 → c.z ≤ℤ pos 0 → ReachesTriangle r a b c → ReachesSegment r b c
without_first r a b c ha hb hc t =
    let none = none_left t.u t.u_ok (sunk_first t.u t.v t.w a.z b.z c.z t.u_ok t.v_ok t.w_ok ha hb hc t.level) in
    record {
      u = t.v;
      v = t.w;
      u_ok = t.v_ok;
      v_ok = t.w_ok;
      near = near_same (mean2 t.v t.w b c).x (mean2 t.v t.w b c).y (t.v +ℤ t.w) (mean3 t.u t.v t.w a b c).x (mean3 t.u t.v t.w a b c).y ((t.u +ℤ t.v) +ℤ t.w) r
          (sym (gone_first a.x (t.v *ℤ b.x) (t.w *ℤ c.x) t.u none)) (sym (gone_first a.y (t.v *ℤ b.y) (t.w *ℤ c.y) t.u none)) (sum_less t.u t.v t.w none) t.near;
      level = subst (λ s. (pos 0) ≤ℤ s) (gone_first a.z (t.v *ℤ b.z) (t.w *ℤ c.z) t.u none) t.level;
    }
  where
    sum_less : (u v w : ℤ) → u ≡ pos 0 → v +ℤ w ≡ (u +ℤ v) +ℤ w
    sum_less u v w e = omega (arith, ints, e)

-- a point of the edge opposite to the first corner is one of the triangle
pub with_first : (r : ℤ) (a b c : Offset) → ReachesSegment r b c → ReachesTriangle r a b c
with_first r a b c t = record {
  u = pos 0;
  v = t.u;
  w = t.v;
  u_ok = omega (arith, ints);
  v_ok = t.u_ok;
  w_ok = t.v_ok;
  near = near_same (mean3 (pos 0) t.u t.v a b c).x (mean3 (pos 0) t.u t.v a b c).y ((pos 0 +ℤ t.u) +ℤ t.v) (mean2 t.u t.v b c).x (mean2 t.u t.v b c).y (t.u +ℤ t.v) r
      (gone_first a.x (t.u *ℤ b.x) (t.v *ℤ c.x) (pos 0) refl) (gone_first a.y (t.u *ℤ b.y) (t.v *ℤ c.y) (pos 0) refl) (plain t.u t.v) t.near;
  level = subst (λ s. (pos 0) ≤ℤ s) (sym (gone_first a.z (t.u *ℤ b.z) (t.v *ℤ c.z) (pos 0) refl)) t.level;
}
  where
    plain : (u v : ℤ) → (pos 0 +ℤ u) +ℤ v ≡ u +ℤ v
    plain u v = omega (arith, ints)

gone : (u p x : ℤ) → u ≡ pos 0 → u *ℤ p +ℤ x ≡ x
gone u p x e = rw e (let z = zero-mul-ℤ p in omega (arith, ints))

-- the ends in another order
pub swap_reach : (r : ℤ) (p q : Offset) → ReachesSegment r p q → ReachesSegment r q p
swap_reach r p q t = record {
  u = t.v;
  v = t.u;
  u_ok = t.v_ok;
  v_ok = t.u_ok;
  near = near_same (mean2 t.v t.u q p).x (mean2 t.v t.u q p).y (t.v +ℤ t.u) (mean2 t.u t.v p q).x (mean2 t.u t.v p q).y (t.u +ℤ t.v) r
      (swapped (t.v *ℤ q.x) (t.u *ℤ p.x)) (swapped (t.v *ℤ q.y) (t.u *ℤ p.y)) (swapped t.v t.u) t.near;
  level = subst (λ s. (pos 0) ≤ℤ s) (swapped (t.u *ℤ p.z) (t.v *ℤ q.z)) t.level;
}
  where
    swapped : (x y : ℤ) → x +ℤ y ≡ y +ℤ x
    swapped x y = omega (arith, ints)

-- an end under the level has no weight, where the other isn't over it
pub without_end : (r : ℤ) (p q : Offset) → p.z <ℤ pos 0 → q.z ≤ℤ pos 0 → ReachesSegment r p q → ReachesCorner r q
without_end r p q hp hq t =
    let none = none_left t.u t.u_ok (sunk_end t.u t.v p.z q.z t.u_ok t.v_ok hp hq t.level) in
    let near = near_same (t.v *ℤ q.x) (t.v *ℤ q.y) t.v (mean2 t.u t.v p q).x (mean2 t.u t.v p q).y (t.u +ℤ t.v) r
    (sym (gone t.u p.x (t.v *ℤ q.x) none)) (sym (gone t.u p.y (t.v *ℤ q.y) none)) (sum_less t.u t.v none) t.near in
    record {
      near = lone_near t.v q.x q.y r t.v_ok near;
      level = lone_level t.v q.z (some_of (t.v *ℤ q.x) (t.v *ℤ q.y) t.v r t.v_ok near) (subst (λ s. (pos 0) ≤ℤ s) (gone t.u p.z (t.v *ℤ q.z) none) t.level);
    }
  where
    sum_less : (u v : ℤ) → u ≡ pos 0 → v ≡ u +ℤ v
    sum_less u v e = omega (arith, ints, e)

-- a corner is a point of its edge
pub with_end : (r : ℤ) (p q : Offset) → ReachesCorner r q → ReachesSegment r p q
with_end r p q t = record {
  u = pos 0;
  v = pos 1;
  u_ok = omega (arith, ints);
  v_ok = omega (arith, ints);
  near = corner_near q.x q.y (mean2 (pos 0) (pos 1) p q).x (mean2 (pos 0) (pos 1) p q).y r (alone p.x q.x) (alone p.y q.y) t.near;
  level = subst (λ s. (pos 0) ≤ℤ s) (sym (alone p.z q.z)) t.level;
}
  where
    alone : (a b : ℤ) → pos 0 *ℤ a +ℤ pos 1 *ℤ b ≡ b
    alone a b = gone (pos 0) a (pos 1 *ℤ b) refl ∙ one-mul-ℤ b

plain2 : (u v : ℤ) → u +ℤ v ≡ u *ℤ pos 1 +ℤ v *ℤ pos 1
plain2 u v = omega (arith, ints)

plain3 : (u v w : ℤ) → (u +ℤ v) +ℤ w ≡ (u *ℤ pos 1 +ℤ v *ℤ pos 1) +ℤ w *ℤ pos 1
plain3 u v w = omega (arith, ints)

sum2 : (u v : ℤ) → (pos 0) ≤ℤ u → (pos 0) ≤ℤ v → (pos 0) ≤ℤ (u +ℤ v)
sum2 u v hu hv = omega (arith, ints)

sum3 : (u v w : ℤ) → (pos 0) ≤ℤ u → (pos 0) ≤ℤ v → (pos 0) ≤ℤ w → (pos 0) ≤ℤ ((u +ℤ v) +ℤ w)
sum3 u v w hu hv hw = omega (arith, ints)

-- raised, a near point is over the level
pub raised_segment : (r : ℤ) (p q : Offset) → ReachesSegment r p q → TouchesSegment r (raised_of p) (raised_of q)
raised_segment r p q t =
    let some = some_of (mean2 t.u t.v p q).x (mean2 t.u t.v p q).y (t.u +ℤ t.v) r (sum2 t.u t.v t.u_ok t.v_ok) t.near in
    record {
      u = t.u;
      v = t.v;
      u_ok = t.u_ok;
      v_ok = t.v_ok;
      some = some;
      inside = record { near = t.near; over = subst (λ s. (pos 0) <ℤ s) (plain2 t.u t.v) some };
    }

pub raised_triangle : (r : ℤ) (a b c : Offset) → ReachesTriangle r a b c → TouchesTriangle r (raised_of a) (raised_of b) (raised_of c)
raised_triangle r a b c t =
    let some = some_of (mean3 t.u t.v t.w a b c).x (mean3 t.u t.v t.w a b c).y ((t.u +ℤ t.v) +ℤ t.w) r (sum3 t.u t.v t.w t.u_ok t.v_ok t.w_ok) t.near in
    record {
      u = t.u;
      v = t.v;
      w = t.w;
      u_ok = t.u_ok;
      v_ok = t.v_ok;
      w_ok = t.w_ok;
      some = some;
      inside = record { near = t.near; over = subst (λ s. (pos 0) <ℤ s) (plain3 t.u t.v t.w) some };
    }

-- and what was raised from the level isn't under it
pub on_level : (z : ℤ) → z ≤ℤ pos 0 → (pos 0) ≤ℤ z → z ≡ pos 0
on_level z h k = omega (arith, ints)

pub lowered_segment : (r : ℤ) (p q : Offset) → p.z ≡ pos 0 → q.z ≡ pos 0 → TouchesSegment r (raised_of p) (raised_of q) → ReachesSegment r p q
lowered_segment r p q hp hq t = record { u = t.u; v = t.v; u_ok = t.u_ok; v_ok = t.v_ok; near = t.inside.near; level = rw (hp, hq) (flat t.u t.v) }
  where
    flat : (u v : ℤ) → (pos 0) ≤ℤ (u *ℤ pos 0 +ℤ v *ℤ pos 0)
    flat u v = omega (arith, ints)

pub lowered_triangle : (r : ℤ) (a b c : Offset) → a.z ≡ pos 0 → b.z ≡ pos 0 → c.z ≡ pos 0 → TouchesTriangle r (raised_of a) (raised_of b) (raised_of c) → ReachesTriangle r a b c
lowered_triangle r a b c ha hb hc t = record {
  u = t.u;
  v = t.v;
  w = t.w;
  u_ok = t.u_ok;
  v_ok = t.v_ok;
  w_ok = t.w_ok;
  near = t.inside.near;
  level = rw (ha, hb, hc) (flat t.u t.v t.w);
}
  where
    flat : (u v w : ℤ) → (pos 0) ≤ℤ ((u *ℤ pos 0 +ℤ v *ℤ pos 0) +ℤ w *ℤ pos 0)
    flat u v w = omega (arith, ints)

-- one coordinate of a weighted sum, from the corners' and from the offsets'
spot : (p n t u v w a b c x y z : ℤ) → p ≡ (u *ℤ a +ℤ v *ℤ b) +ℤ w *ℤ c → n ≡ (u +ℤ v) +ℤ w → x ≡ a -ℤ t → y ≡ b -ℤ t → z ≡ c -ℤ t
    → p -ℤ n *ℤ t ≡ (u *ℤ x +ℤ v *ℤ y) +ℤ w *ℤ z
spot p n t u v w a b c x y z ep en ex ey ez = rw (ep, en, ex, ey, ez) (placed u v w a b c t)

high_of : (p q m : ℤ) → p -ℤ q ≡ m → (pos 0) ≤ℤ m → q ≤ℤ p
high_of p q m e h = omega (arith, ints, e, h)

of_high : (p q m : ℤ) → p -ℤ q ≡ m → q ≤ℤ p → (pos 0) ≤ℤ m
of_high p q m e h = omega (arith, ints, e, h)

-- points of the triangle and of the offsets of its corners are the same
pub reach_place : (r : ℤ) (tri : Tri) (centre : Pt3) (a b c : Offset) → IsOffset a tri.a centre → IsOffset b tri.b centre → IsOffset c tri.c centre
    → ReachesTriangle r a b c → Reaches r centre tri
reach_place r tri centre a b c oa ob oc t =
    let n = (t.u +ℤ t.v) +ℤ t.w in
    let m = mean3 t.u t.v t.w a b c in
    let p = plus (plus (times t.u tri.a) (times t.v tri.b)) (times t.w tri.c) in
    record {
      n = n;
      p = p;
      point = record {
        u = t.u;
        v = t.v;
        w = t.w;
        u_ok = t.u_ok;
        v_ok = t.v_ok;
        w_ok = t.w_ok;
        some = some_of m.x m.y n r (sum3 t.u t.v t.w t.u_ok t.v_ok t.w_ok) t.near;
        weights = refl;
        place = refl;
      };
      high = high_of p.z (n *ℤ centre.z) m.z (spot p.z n centre.z t.u t.v t.w tri.a.z tri.b.z tri.c.z a.z b.z c.z refl refl oa.z_is ob.z_is oc.z_is) t.level;
      near = placed_near (p.x -ℤ n *ℤ centre.x) (p.y -ℤ n *ℤ centre.y) n m.x m.y n r
          (spot p.x n centre.x t.u t.v t.w tri.a.x tri.b.x tri.c.x a.x b.x c.x refl refl oa.x_is ob.x_is oc.x_is)
          (spot p.y n centre.y t.u t.v t.w tri.a.y tri.b.y tri.c.y a.y b.y c.y refl refl oa.y_is ob.y_is oc.y_is) refl t.near;
    }

pub place_reach : (r : ℤ) (tri : Tri) (centre : Pt3) (a b c : Offset) → IsOffset a tri.a centre → IsOffset b tri.b centre → IsOffset c tri.c centre
    → Reaches r centre tri → ReachesTriangle r a b c
place_reach r tri centre a b c oa ob oc t =
    let k = t.point in
    let m = mean3 k.u k.v k.w a b c in
    record {
      u = k.u;
      v = k.v;
      w = k.w;
      u_ok = k.u_ok;
      v_ok = k.v_ok;
      w_ok = k.w_ok;
      near = near_placed (t.p.x -ℤ t.n *ℤ centre.x) (t.p.y -ℤ t.n *ℤ centre.y) t.n m.x m.y ((k.u +ℤ k.v) +ℤ k.w) r
          (spot t.p.x t.n centre.x k.u k.v k.w tri.a.x tri.b.x tri.c.x a.x b.x c.x (ap (λ (q : Pt3). q.x) k.place) k.weights oa.x_is ob.x_is oc.x_is)
          (spot t.p.y t.n centre.y k.u k.v k.w tri.a.y tri.b.y tri.c.y a.y b.y c.y (ap (λ (q : Pt3). q.y) k.place) k.weights oa.y_is ob.y_is oc.y_is) k.weights t.near;
      level = of_high t.p.z (t.n *ℤ centre.z) m.z
          (spot t.p.z t.n centre.z k.u k.v k.w tri.a.z tri.b.z tri.c.z a.z b.z c.z (ap (λ (q : Pt3). q.z) k.place) k.weights oa.z_is ob.z_is oc.z_is) t.high;
    }
