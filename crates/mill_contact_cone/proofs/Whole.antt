-- A triangle and the cone cutter: the edges, the axis and the line at the height at which the cone reaches its radius find each touch.
use Rattle.std.proofs.Common.{◌≡◌, ◌⊎◌, inl, inr, refl, sym, subst, arith}
use lib.IntN.{ℤ, pos, ◌+ℤ◌, ◌-ℤ◌, ◌*ℤ◌}
use lib.Signed.{◌<ℤ◌, ◌≤ℤ◌}
use Rattle.std.proofs.lemmas.Int.{ints}
use Rattle.mill_base.specs.Numbers.{square}
use Rattle.mill_base.specs.Cutters.{apart}
use Rattle.mill_base.proofs.Exit.{split_lt}
use Rattle.mill_geom.specs.Offsets.{mean2, mean3}
use Rattle.mill_geom.specs.Forms.{cross_of, IsPierced, IsOver}
use Rattle.mill_geom.specs.Contacts.{TouchesSegment, TouchesTriangle, OnLevel, EdgesClear}
use Rattle.mill_geom.proofs.Descend.{V4, Weights, Hit, Boundary}
use Rattle.mill_geom.proofs.Triangles.{Still, cross_still, opposite, interior}
use Rattle.mill_geom.proofs.Corners.{corner, gone_first, gone_second, gone_third}
use Rattle.mill_geom.proofs.Touching.{some_weight, no_touch}
use Rattle.mill_geom.proofs.LevelCerts.{turned_over, mirror_le, mirror_ge}
use Rattle.mill_contact_cone.specs.declared.corner.Cone.{Cone}
use Rattle.mill_contact_cone.specs.declared.corner.Corner.{Corner}
use Rattle.mill_contact_cone.specs.Cones.{IsCone, IsCornerOf, plain, lifted, TouchesEdge, TouchesCone, EdgesFree}
use Rattle.mill_contact_cone.proofs.Sizes.{radius_positive, rise_positive, run_positive}
use Rattle.mill_contact_cone.proofs.Zones.{upper_inside, upper_edge, lower_edge, same_inside}
use Rattle.mill_contact_cone.proofs.ZoneCerts.{lower_near, level_three, level_three_back, low_three}
use Rattle.mill_contact_cone.proofs.WholeCerts.{axis_near, axis_steep, scaled_sum, scaled_hit, hit_scaled, scaled_time, time_scaled, zero_time, scaled_cross, cross_up, cross_down, volume_up, volume_down, lifted_up, lifted_down, under_back, under_of}

weak : (x : ℤ) → (pos 0) <ℤ x → (pos 0) ≤ℤ x
weak x h = omega (arith, ints)

pub zero_ok : (pos 0) ≤ℤ pos 0
zero_ok = omega (arith, ints)

opposed : (x : ℤ) → x ≤ℤ pos 0 → (pos 0) ≤ℤ (pos 0 -ℤ x)
opposed x h = omega (arith, ints)

both_ways : (x : ℤ) → x ≤ℤ pos 0 → (pos 0) ≤ℤ x → x ≡ pos 0
both_ways x h k = omega (arith, ints)

-- the corners of the triangle are the cone's
pub record Corners (k : Cone) (a b c : Corner) : Type 0 where
  pub cone : IsCone k
  pub a_is : IsCornerOf k a
  pub b_is : IsCornerOf k b
  pub c_is : IsCornerOf k c

-- ---- each test that finds something finds a touch

-- a point of the triangle in the cylinder, over the height at which the cone reaches its radius
pub cone_upper : (k : Cone) (a b c : Corner) → Corners k a b c → TouchesTriangle k.radius (lifted a) (lifted b) (lifted c) → TouchesCone k a b c
cone_upper k a b c g t = record {
  u = t.u;
  v = t.v;
  w = t.w;
  u_ok = t.u_ok;
  v_ok = t.v_ok;
  w_ok = t.w_ok;
  some = t.some;
  inside = upper_inside k ((t.u +ℤ t.v) +ℤ t.w) (mean3 t.u t.v t.w (plain a) (plain b) (plain c)) g.cone (weak _ t.some) t.inside.near
      (level_three t.u t.v t.w a.over b.over c.over a.z b.z c.z k.rise k.run k.radius g.a_is g.b_is g.c_is (weak _ t.inside.over));
}

pub plain_sum : (u v : ℤ) → u +ℤ v ≡ (u +ℤ v) +ℤ pos 0
plain_sum u v = omega (arith, ints)

-- a point of an edge
abbrev pub cone_edge : (k : Cone) (p q s : Corner) → TouchesEdge k p q → TouchesCone k p q s
cone_edge k p q s t = record {
  u = t.u;
  v = t.v;
  w = pos 0;
  u_ok = t.u_ok;
  v_ok = t.v_ok;
  w_ok = zero_ok;
  some = subst (λ n. (pos 0) <ℤ n) (plain_sum t.u t.v) t.some;
  inside = same_inside k.radius k.rise k.run (t.u +ℤ t.v) ((t.u +ℤ t.v) +ℤ pos 0) _ _ _ _ _ _ (plain_sum t.u t.v) (sym (gone_third (t.u *ℤ p.x) (t.v *ℤ q.x) s.x (pos 0) refl))
      (sym (gone_third (t.u *ℤ p.y) (t.v *ℤ q.y) s.y (pos 0) refl)) (sym (gone_third (t.u *ℤ p.z) (t.v *ℤ q.z) s.z (pos 0) refl)) t.inside;
}

turn_sum : (x y z : ℤ) → (x +ℤ y) +ℤ z ≡ (z +ℤ x) +ℤ y
turn_sum x y z = omega (arith, ints)

-- the corners in another order
pub cone_turned : (k : Cone) (a b c : Corner) → TouchesCone k b c a → TouchesCone k a b c
cone_turned k a b c t = record {
  u = t.w;
  v = t.u;
  w = t.v;
  u_ok = t.w_ok;
  v_ok = t.u_ok;
  w_ok = t.v_ok;
  some = subst (λ n. (pos 0) <ℤ n) (turn_sum t.u t.v t.w) t.some;
  inside = same_inside k.radius k.rise k.run ((t.u +ℤ t.v) +ℤ t.w) ((t.w +ℤ t.u) +ℤ t.v) _ _ _ _ _ _ (turn_sum t.u t.v t.w) (turn_sum (t.u *ℤ b.x) (t.v *ℤ c.x) (t.w *ℤ a.x))
      (turn_sum (t.u *ℤ b.y) (t.v *ℤ c.y) (t.w *ℤ a.y)) (turn_sum (t.u *ℤ b.z) (t.v *ℤ c.z) (t.w *ℤ a.z)) t.inside;
}

-- a point of the triangle on the axis, over the tip
cone_axis : (k : Cone) (a b c : Corner) (i j l : ℤ) → IsCone k → Still (corner k.radius (plain a)) (corner k.radius (plain b)) (corner k.radius (plain c)) i j l → (pos 0) ≤ℤ i → (pos 0) ≤ℤ j → (pos 0) ≤ℤ l
    → (pos 0) <ℤ ((i *ℤ a.z +ℤ j *ℤ b.z) +ℤ l *ℤ c.z) → TouchesCone k a b c
cone_axis k a b c i j l g s hi hj hl h =
    let n = some_weight i j l a.z b.z c.z hi hj hl h in
    record {
      u = i;
      v = j;
      w = l;
      u_ok = hi;
      v_ok = hj;
      w_ok = hl;
      some = n;
      inside = record {
        near = axis_near _ _ k.radius ((i +ℤ j) +ℤ l) s.x s.y (radius_positive k g) n;
        over = h;
        steep = axis_steep _ _ ((i *ℤ a.z +ℤ j *ℤ b.z) +ℤ l *ℤ c.z) k.rise k.run s.x s.y (run_positive k g) h;
      };
    }

-- the axis meets the triangle over the tip
pub cone_pierced : (k : Cone) (a b c : Corner) → IsCone k → IsPierced (plain a) (plain b) (plain c) → TouchesCone k a b c
cone_pierced k a b c g (inl p) =
    cone_axis k a b c _ _ _ g (cross_still (corner k.radius (plain a)) (corner k.radius (plain b)) (corner k.radius (plain c))) p.first p.second p.third p.over
cone_pierced k a b c g (inr p) =
    cone_axis k a b c _ _ _ g
    (opposite (corner k.radius (plain a)) (corner k.radius (plain b)) (corner k.radius (plain c)) _ _ _ (cross_still (corner k.radius (plain a)) (corner k.radius (plain b)) (corner k.radius (plain c))))
    (opposed _ p.first) (opposed _ p.second) (opposed _ p.third)
    (turned_over (cross_of (plain b) (plain c)) (cross_of (plain c) (plain a)) (cross_of (plain a) (plain b)) a.z b.z c.z p.under)

-- ---- where none of them finds anything, there is no touch

-- the corner as a vector whose time is its height: where the form of these is negative, it is in the cone
abbrev low : Cone → Corner → ℤ → V4
low k p l = record { x = k.rise *ℤ p.x; y = k.rise *ℤ p.y; n = k.run *ℤ p.z; l = l }

-- the points of the triangle that a side test lets through are at or under the height at which the cone reaches its radius
abbrev Under : Corner → Corner → Corner → ℤ → ℤ → ℤ → Type 0
Under a b c x y z = (u v w : ℤ) → Weights u v w → (pos 0) ≤ℤ ((u *ℤ x +ℤ v *ℤ y) +ℤ w *ℤ z) → ((u *ℤ a.over +ℤ v *ℤ b.over) +ℤ w *ℤ c.over) ≤ℤ pos 0

low_hit : (k : Cone) (a b c : Corner) (x y z u v w : ℤ) → IsCone k
    → (square k.rise *ℤ apart (mean3 u v w (plain a) (plain b) (plain c))) <ℤ (square k.run *ℤ square (mean3 u v w (plain a) (plain b) (plain c)).z) → (pos 0) ≤ℤ (mean3 u v w (plain a) (plain b) (plain c)).z
    → (pos 0) ≤ℤ ((u *ℤ x +ℤ v *ℤ y) +ℤ w *ℤ z) → Hit (low k a x) (low k b y) (low k c z) u v w
low_hit k a b c x y z u v w g steep height side =
    let m = mean3 u v w (plain a) (plain b) (plain c) in
    record {
      near = scaled_hit m.x m.y m.z k.rise k.run _ _ _ (scaled_sum u v w k.rise a.x b.x c.x) (scaled_sum u v w k.rise a.y b.y c.y) (scaled_sum u v w k.run a.z b.z c.z) steep;
      time = scaled_time k.run m.z _ (scaled_sum u v w k.run a.z b.z c.z) (run_positive k g) height;
      side = side;
    }

-- a pair of the triangle's corners that has a point in the cone
lower_pair : (k : Cone) (p q : Corner) (u v x y z : ℤ) → IsCone k → IsCornerOf k p → IsCornerOf k q → x ≡ (mean2 u v (plain p) (plain q)).x → y ≡ (mean2 u v (plain p) (plain q)).y → z ≡ (mean2 u v (plain p) (plain q)).z
    → (pos 0) ≤ℤ u → (pos 0) ≤ℤ v → (square k.rise *ℤ (x *ℤ x +ℤ y *ℤ y)) <ℤ (square k.run *ℤ square z) → (pos 0) ≤ℤ z → (u *ℤ p.over +ℤ v *ℤ q.over) ≤ℤ pos 0 → TouchesEdge k p q
lower_pair k p q u v x y z g ep eq ex ey ez hu hv steep height level =
    lower_edge k p q g ep eq (record { u = u; v = v; u_ok = hu; v_ok = hv; steep = rw (ex, ey, ez) at steep; height = rw ez at height; level = level })

low_boundary : (k : Cone) (a b c : Corner) (x y z : ℤ) → Corners k a b c → EdgesFree k a b c → Under a b c x y z
    → ((u v w : ℤ) → Weights u v w → Hit (low k a x) (low k b y) (low k c z) u v w → (u *ℤ x +ℤ v *ℤ y) +ℤ w *ℤ z ≡ pos 0 → ⊥)
    → Boundary (low k a x) (low k b y) (low k c z) → ⊥
low_boundary k a b c x y z g free under level t = by t.edge
  where
    steep : (square k.rise *ℤ apart (mean3 t.u t.v t.w (plain a) (plain b) (plain c))) <ℤ (square k.run *ℤ square (mean3 t.u t.v t.w (plain a) (plain b) (plain c)).z)
    steep = hit_scaled (mean3 t.u t.v t.w (plain a) (plain b) (plain c)).x (mean3 t.u t.v t.w (plain a) (plain b) (plain c)).y (mean3 t.u t.v t.w (plain a) (plain b) (plain c)).z k.rise k.run _ _ _
        (scaled_sum t.u t.v t.w k.rise a.x b.x c.x) (scaled_sum t.u t.v t.w k.rise a.y b.y c.y) (scaled_sum t.u t.v t.w k.run a.z b.z c.z) t.hit.near

    height : (pos 0) ≤ℤ (mean3 t.u t.v t.w (plain a) (plain b) (plain c)).z
    height = time_scaled k.run (mean3 t.u t.v t.w (plain a) (plain b) (plain c)).z _ (scaled_sum t.u t.v t.w k.run a.z b.z c.z) (run_positive k g.cone) t.hit.time

    low_level : ((t.u *ℤ a.over +ℤ t.v *ℤ b.over) +ℤ t.w *ℤ c.over) ≤ℤ pos 0
    low_level = under t.u t.v t.w t.weights t.hit.side

    by : (t.u ≡ pos 0) ⊎ ((t.v ≡ pos 0) ⊎ ((t.w ≡ pos 0) ⊎ ((t.u *ℤ x +ℤ t.v *ℤ y) +ℤ t.w *ℤ z ≡ pos 0))) → ⊥
    by (inl e) = free.bc (lower_pair k b c t.v t.w _ _ _ g.cone g.b_is g.c_is (gone_first a.x (t.v *ℤ b.x) (t.w *ℤ c.x) t.u e) (gone_first a.y (t.v *ℤ b.y) (t.w *ℤ c.y) t.u e)
        (gone_first a.z (t.v *ℤ b.z) (t.w *ℤ c.z) t.u e) t.weights.v_ok t.weights.w_ok steep height (subst (λ s. s ≤ℤ pos 0) (gone_first a.over (t.v *ℤ b.over) (t.w *ℤ c.over) t.u e) low_level))
    by (inr (inl e)) = free.ca (lower_pair k c a t.w t.u _ _ _ g.cone g.c_is g.a_is (gone_second (t.u *ℤ a.x) b.x (t.w *ℤ c.x) t.v e) (gone_second (t.u *ℤ a.y) b.y (t.w *ℤ c.y) t.v e)
        (gone_second (t.u *ℤ a.z) b.z (t.w *ℤ c.z) t.v e) t.weights.w_ok t.weights.u_ok steep height (subst (λ s. s ≤ℤ pos 0) (gone_second (t.u *ℤ a.over) b.over (t.w *ℤ c.over) t.v e) low_level))
    by (inr (inr (inl e))) = free.ab (lower_pair k a b t.u t.v _ _ _ g.cone g.a_is g.b_is (gone_third (t.u *ℤ a.x) (t.v *ℤ b.x) c.x t.w e) (gone_third (t.u *ℤ a.y) (t.v *ℤ b.y) c.y t.w e)
        (gone_third (t.u *ℤ a.z) (t.v *ℤ b.z) c.z t.w e) t.weights.u_ok t.weights.v_ok steep height (subst (λ s. s ≤ℤ pos 0) (gone_third (t.u *ℤ a.over) (t.v *ℤ b.over) c.over t.w e) low_level))
    by (inr (inr (inr e))) = level t.u t.v t.w t.weights t.hit e

abbrev IsCrossed : Cone → Corner → Corner → Corner → ℤ → ℤ → ℤ → Type 0
IsCrossed k a b c x y z = (Boundary (low k a x) (low k b y) (low k c z) → ⊥) → (u v w : ℤ) → Weights u v w → Hit (low k a x) (low k b y) (low k c z) u v w → IsPierced (plain a) (plain b) (plain c)

-- a point in the cone, where the boundary has none
low_pierced : (k : Cone) (a b c : Corner) (x y z : ℤ) → IsCone k → IsCrossed k a b c x y z
low_pierced k a b c x y z g free u v w s h =
    let m = rise_positive k g in
    let i = scaled_cross k.rise b.x b.y c.x c.y in
    let j = scaled_cross k.rise c.x c.y a.x a.y in
    let l = scaled_cross k.rise a.x a.y b.x b.y in
    elim (interior (low k a x) (low k b y) (low k c z) u v w free s h) [
      | inl p ↦ inl (record {
        first = cross_up k.rise _ _ i m p.weights.u_ok;
        second = cross_up k.rise _ _ j m p.weights.v_ok;
        third = cross_up k.rise _ _ l m p.weights.w_ok;
        over = volume_up k.rise k.run _ _ _ _ _ _ a.z b.z c.z i j l (run_positive k g) p.time;
      })
      | inr p ↦ inr (record {
        first = cross_down k.rise _ _ i m p.weights.u_ok;
        second = cross_down k.rise _ _ j m p.weights.v_ok;
        third = cross_down k.rise _ _ l m p.weights.w_ok;
        under = volume_down k.rise k.run _ _ _ _ _ _ a.z b.z c.z i j l (run_positive k g) p.time;
      })
    ]

-- the axis meets the triangle over the height at which the cone reaches its radius, so over the tip
lifted_pierced : (k : Cone) (a b c : Corner) → Corners k a b c → IsPierced (lifted a) (lifted b) (lifted c) → IsPierced (plain a) (plain b) (plain c)
lifted_pierced k a b c g (inl p) = inl (record {
  first = p.first;
  second = p.second;
  third = p.third;
  over = lifted_up _ _ _ a.over b.over c.over a.z b.z c.z k.rise k.radius k.run g.a_is g.b_is g.c_is p.first p.second p.third (rise_positive k g.cone) (radius_positive k g.cone) (run_positive k g.cone) p.over;
})
lifted_pierced k a b c g (inr p) = inr (record {
  first = p.first;
  second = p.second;
  third = p.third;
  under = lifted_down _ _ _ a.over b.over c.over a.z b.z c.z k.rise k.radius k.run g.a_is g.b_is g.c_is p.first p.second p.third (rise_positive k g.cone) (radius_positive k g.cone) (run_positive k g.cone) p.under;
})

segment_edge : (k : Cone) (p q : Corner) → IsCone k → IsCornerOf k p → IsCornerOf k q → TouchesSegment k.radius (lifted p) (lifted q) → TouchesEdge k p q
segment_edge k p q g ep eq t = upper_edge k p q g ep eq (record { u = t.u; v = t.v; u_ok = t.u_ok; v_ok = t.v_ok; near = t.inside.near; level = weak _ t.inside.over })

-- edges that keep off the cutter keep off its cylinder
pub free_clear : (k : Cone) (a b c : Corner) → Corners k a b c → EdgesFree k a b c → EdgesClear k.radius (lifted a) (lifted b) (lifted c)
free_clear k a b c g free = record {
  ab = λ t. free.ab (segment_edge k a b g.cone g.a_is g.b_is t);
  bc = λ t. free.bc (segment_edge k b c g.cone g.b_is g.c_is t);
  ca = λ t. free.ca (segment_edge k c a g.cone g.c_is g.a_is t);
}

-- with some corner over the height of the rim
missed_over : (k : Cone) (a b c : Corner) → Corners k a b c → EdgesFree k a b c → (IsPierced (plain a) (plain b) (plain c) → ⊥) → (OnLevel k.radius (lifted a) (lifted b) (lifted c) → ⊥) → TouchesCone k a b c → ⊥
missed_over k a b c g free axis level t = by (split_lt (pos 0) ((t.u *ℤ a.over +ℤ t.v *ℤ b.over) +ℤ t.w *ℤ c.over))
  where
    weights : Weights t.u t.v t.w
    weights = record { u_ok = t.u_ok; v_ok = t.v_ok; w_ok = t.w_ok }

    on_level : (u v w : ℤ) → Weights u v w → Hit (low k a (pos 0 -ℤ a.over)) (low k b (pos 0 -ℤ b.over)) (low k c (pos 0 -ℤ c.over)) u v w → (u *ℤ (pos 0 -ℤ a.over) +ℤ v *ℤ (pos 0 -ℤ b.over)) +ℤ w *ℤ (pos 0 -ℤ c.over) ≡ pos 0 → ⊥
    on_level u v w s h e =
        let m = mean3 u v w (plain a) (plain b) (plain c) in
        let under = mirror_le u v w a.over b.over c.over e in
        let steep = hit_scaled m.x m.y m.z k.rise k.run _ _ _ (scaled_sum u v w k.rise a.x b.x c.x) (scaled_sum u v w k.rise a.y b.y c.y) (scaled_sum u v w k.run a.z b.z c.z) h.near in
        level (record {
          u = u;
          v = v;
          w = w;
          u_ok = s.u_ok;
          v_ok = s.v_ok;
          w_ok = s.w_ok;
          near = lower_near (apart m) k.rise k.run k.radius ((u +ℤ v) +ℤ w) m.z steep (rise_positive k g.cone) (run_positive k g.cone)
              (time_scaled k.run m.z _ (scaled_sum u v w k.run a.z b.z c.z) (run_positive k g.cone) h.time)
              (level_three_back u v w a.over b.over c.over a.z b.z c.z k.rise k.run k.radius g.a_is g.b_is g.c_is under);
          level = both_ways _ under (mirror_ge u v w a.over b.over c.over e);
        })

    by : ((pos 0) <ℤ ((t.u *ℤ a.over +ℤ t.v *ℤ b.over) +ℤ t.w *ℤ c.over)) ⊎ (((t.u *ℤ a.over +ℤ t.v *ℤ b.over) +ℤ t.w *ℤ c.over) ≤ℤ pos 0) → ⊥
    by (inl h) = no_touch k.radius (lifted a) (lifted b) (lifted c) (radius_positive k g.cone) (free_clear k a b c g free) (λ p. axis (lifted_pierced k a b c g p)) level
        (record { u = t.u; v = t.v; w = t.w; u_ok = t.u_ok; v_ok = t.v_ok; w_ok = t.w_ok; some = t.some; inside = record { near = t.inside.near; over = h } })
    by (inr h) = axis (low_pierced k a b c (pos 0 -ℤ a.over) (pos 0 -ℤ b.over) (pos 0 -ℤ c.over) g.cone
        (low_boundary k a b c (pos 0 -ℤ a.over) (pos 0 -ℤ b.over) (pos 0 -ℤ c.over) g free (λ u v w s l. under_of u v w a.over b.over c.over l) on_level) t.u t.v t.w weights
        (low_hit k a b c (pos 0 -ℤ a.over) (pos 0 -ℤ b.over) (pos 0 -ℤ c.over) t.u t.v t.w g.cone t.inside.steep (weak _ t.inside.over) (under_back t.u t.v t.w a.over b.over c.over h)))

-- with no corner over it, the cone alone decides
missed_under : (k : Cone) (a b c : Corner) → Corners k a b c → EdgesFree k a b c → (IsPierced (plain a) (plain b) (plain c) → ⊥) → a.over ≤ℤ pos 0 → b.over ≤ℤ pos 0 → c.over ≤ℤ pos 0 → TouchesCone k a b c → ⊥
missed_under k a b c g free axis ha hb hc t =
    axis (low_pierced k a b c (k.run *ℤ a.z) (k.run *ℤ b.z) (k.run *ℤ c.z) g.cone
    (low_boundary k a b c (k.run *ℤ a.z) (k.run *ℤ b.z) (k.run *ℤ c.z) g free (λ u v w s l. low_three u v w a.over b.over c.over s.u_ok s.v_ok s.w_ok ha hb hc)
    (λ u v w s h e. zero_time _ _ _ e h.near)) t.u t.v t.w (record { u_ok = t.u_ok; v_ok = t.v_ok; w_ok = t.w_ok })
    (low_hit k a b c (k.run *ℤ a.z) (k.run *ℤ b.z) (k.run *ℤ c.z) t.u t.v t.w g.cone t.inside.steep (weak _ t.inside.over)
    (scaled_time k.run (mean3 t.u t.v t.w (plain a) (plain b) (plain c)).z _ (scaled_sum t.u t.v t.w k.run a.z b.z c.z) (run_positive k g.cone) (weak _ t.inside.over))))

-- with the edges free, the axis not through the triangle over the tip and no near point at the height of the rim, there is no touch
pub cone_missed : (k : Cone) (a b c : Corner) → Corners k a b c → EdgesFree k a b c → (IsPierced (plain a) (plain b) (plain c) → ⊥)
    → (IsOver (lifted a) (lifted b) (lifted c) → EdgesClear k.radius (lifted a) (lifted b) (lifted c) → OnLevel k.radius (lifted a) (lifted b) (lifted c) → ⊥) → TouchesCone k a b c → ⊥
cone_missed k a b c g free axis level t = by (split_lt (pos 0) a.over) (split_lt (pos 0) b.over) (split_lt (pos 0) c.over)
  where
    over : IsOver (lifted a) (lifted b) (lifted c) → ⊥
    over o = missed_over k a b c g free axis (level o (free_clear k a b c g free)) t

    by : ((pos 0) <ℤ a.over) ⊎ (a.over ≤ℤ pos 0) → ((pos 0) <ℤ b.over) ⊎ (b.over ≤ℤ pos 0) → ((pos 0) <ℤ c.over) ⊎ (c.over ≤ℤ pos 0) → ⊥
    by (inl x) y z = over (inl x)
    by (inr x) (inl y) z = over (inr (inl y))
    by (inr x) (inr y) (inl z) = over (inr (inr z))
    by (inr x) (inr y) (inr z) = missed_under k a b c g free axis x y z t

-- what is in the cone cutter is in the cylinder of its radius over the tip
pub cone_flat : (k : Cone) (a b c : Corner) → TouchesCone k a b c → TouchesTriangle k.radius (plain a) (plain b) (plain c)
cone_flat k a b c t = record { u = t.u; v = t.v; w = t.w; u_ok = t.u_ok; v_ok = t.v_ok; w_ok = t.w_ok; some = t.some; inside = record { near = t.inside.near; over = t.inside.over } }
