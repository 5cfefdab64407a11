-- What a solid holds, it holds with a margin around it with its tip a margin away.
use Rattle.std.specs.Prelude.{ℤ, pos, ◌+ℤ◌, ◌-ℤ◌, ◌*ℤ◌, ◌<ℤ◌, ◌≤ℤ◌}
use Rattle.std.proofs.Common.{inl, inr, subst, sym, arith}
use Rattle.std.proofs.lemmas.Int.{ints}
use Rattle.mill_base.proofs.Exit.{split_lt}
use Rattle.mill_base.proofs.Integers.{mul_nonneg-ℤ}
use Rattle.mill_base.proofs.SolidLemmas.{higher_is}
use Rattle.mill_base.specs.Contact.{Holds}
use Rattle.mill_base.specs.Cutters.{InFlat, InBall, InCone}
use Rattle.mill_base.specs.Numbers.{square}
use Rattle.mill_base.specs.Points.{minus, times, point_at}
use Rattle.mill_base.specs.Sizes.{IsCutter, radius_of, with_radius}
use Rattle.mill_base.specs.Solids.{raised}
use Rattle.mill_base.specs.declared.limits.TheConstants.{MAX_COORDINATE}
use Rattle.mill_base.specs.declared.points.Pt3.{Pt3}
use Rattle.mill_base.specs.declared.cutter.Cutter.{Cutter}
use Rattle.mill_base.specs.declared.cutter.Cutter.TheVariants.{Flat, Ball, Cone}
use Rattle.mill_margin.specs.Laws.{GrownHolds}
use Rattle.mill_margin.specs.Margins.{IsWithin, offset_of}
use Rattle.mill_margin.proofs.MarginCerts.{shift_sq, product_4, product_pair, flat_part, down_part, dot_2, sum_2, dot_3, sum_3, sum_over, near_scale, near_unscale, up_unscale, sphere_scale, sphere_unscale, centre_over, centre_unscale, wall_scale, wall_over, slope_over, slope_across, slope_scaled, wall_unscale, wall_part, squares_sum}
use Rattle.mill_margin.proofs.Offsets.{offset_reaches, offset_least}

over_0 : (x : ℤ) → (pos 1) ≤ℤ x → (pos 0) <ℤ x
over_0 x h = omega (arith, ints)

at_least : (x : ℤ) → (pos 1) ≤ℤ x → (pos 0) ≤ℤ x
at_least x h = omega (arith, ints)

after : (x y : ℤ) → (pos 0) ≤ℤ x → x ≤ℤ y → (pos 0) ≤ℤ y
after x y h k = omega (arith, ints)

same : (x : ℤ) → x ≤ℤ x
same x = omega (arith, ints)

-- the point so much higher, whatever the lift
abbrev pub risen : ℤ → ℤ → Pt3 → Pt3
risen l n p = point_at p.x p.y (p.z +ℤ n *ℤ l)

pub held_risen : (cutter : Cutter) (l n k : ℤ) (r p : Pt3) → Holds cutter n (raised l n r) k p → Holds cutter n (risen l n r) k p
held_risen cutter l n k r p h = subst (λ z. Holds cutter n (point_at r.x r.y z) k p) (higher_is n r.z l) h

pub risen_held : (cutter : Cutter) (l n k : ℤ) (r p : Pt3) → Holds cutter n (risen l n r) k p → Holds cutter n (raised l n r) k p
risen_held cutter l n k r p h = subst (λ z. Holds cutter n (point_at r.x r.y z) k p) (sym (higher_is n r.z l)) h

-- a point p over k, held with the tip r over n, which is at most s from the tip t over m
module _ (s m n k l : ℤ) (t r p : Pt3) (hs : (pos 0) ≤ℤ s) (hm : (pos 0) <ℤ m) (hn : (pos 0) <ℤ n) (hk : (pos 0) <ℤ k) (within : IsWithin s m t n r) where
  -- the way from the one tip to the other, over the common denominator, and how long it may be
  abbrev way_x : ℤ
  way_x = k *ℤ (m *ℤ r.x -ℤ n *ℤ t.x)

  abbrev way_y : ℤ
  way_y = k *ℤ (m *ℤ r.y -ℤ n *ℤ t.y)

  abbrev way_z : ℤ
  way_z = k *ℤ (m *ℤ r.z -ℤ n *ℤ t.z)

  abbrev way : ℤ
  way = k *ℤ (m *ℤ (n *ℤ s))

  way_square : ((square way_x +ℤ square way_y) +ℤ square way_z) ≤ℤ square way
  way_square = shift_sq m n k s t.x t.y t.z r.x r.y r.z within.near

  way_flat : (square way_x +ℤ square way_y) ≤ℤ square way
  way_flat = flat_part way_x way_y way_z way way_square

  way_least : (pos 0) ≤ℤ way
  way_least = product_4 k m n s hk hm hn hs

  way_down : (pos 0 -ℤ way_z) ≤ℤ way
  way_down = down_part way_x way_y way_z way way_square way_least

  -- the way from the tip to the point
  abbrev x : ℤ
  x = n *ℤ p.x -ℤ k *ℤ r.x

  abbrev y : ℤ
  y = n *ℤ p.y -ℤ k *ℤ r.y

  abbrev z : ℤ
  z = n *ℤ p.z -ℤ k *ℤ (r.z +ℤ n *ℤ l)

  -- over the tip's plane, it is over that of a tip that is lower by at least s
  outer_over : (o : ℤ) → s ≤ℤ o → (pos 0) <ℤ z → (pos 0) <ℤ (m *ℤ p.z -ℤ k *ℤ (t.z +ℤ m *ℤ (l -ℤ o)))
  outer_over o ho over = up_unscale m n k s o l p.z t.z r.z hm hn hk over way_down ho

  -- nearer to the axis than R, it is nearer to the other than R + s
  module _ (R : ℤ) (hR : (pos 0) ≤ℤ R) (near : (square x +ℤ square y) <ℤ (square R *ℤ square (n *ℤ k))) where
    abbrev width : ℤ
    width = m *ℤ ((n *ℤ k) *ℤ R)

    width_least : (pos 0) ≤ℤ width
    width_least = product_pair m n k R hm hn hk hR

    inner_near : (square (m *ℤ x) +ℤ square (m *ℤ y)) <ℤ square width
    inner_near = near_scale x y R (n *ℤ k) m hm near

    across : ((m *ℤ x) *ℤ way_x +ℤ (m *ℤ y) *ℤ way_y) ≤ℤ (width *ℤ way)
    across = dot_2 (m *ℤ x) (m *ℤ y) way_x way_y width way inner_near way_flat width_least way_least

    outer_near : (square (m *ℤ p.x -ℤ k *ℤ t.x) +ℤ square (m *ℤ p.y -ℤ k *ℤ t.y)) <ℤ (square (R +ℤ s) *ℤ square (m *ℤ k))
    outer_near = near_unscale m n k s R p.x p.y t.x t.y r.x r.y hn (sum_2 (m *ℤ x) (m *ℤ y) way_x way_y width way inner_near way_flat across)

  pub outer_flat : (R : ℤ) → (pos 0) ≤ℤ R → InFlat R (n *ℤ k) (minus (times n p) (times k (risen l n r)))
      → InFlat (R +ℤ s) (m *ℤ k) (minus (times m p) (times k (risen (l -ℤ s) m t)))
  outer_flat R hR i = record { near = outer_near R hR i.near; over = outer_over s (same s) i.over }

  pub outer_ball : (R : ℤ) → (pos 0) ≤ℤ R → InBall R (n *ℤ k) (minus (times n p) (times k (risen l n r)))
      → InBall (R +ℤ s) (m *ℤ k) (minus (times m p) (times k (risen (l -ℤ s) m t)))
  outer_ball R hR i =
      let w = width R hR i.near in
      let up = m *ℤ (z -ℤ R *ℤ (n *ℤ k)) in
      let round = sphere_unscale m n k s R l p.x p.y p.z t.x t.y t.z r.x r.y r.z hn in
      record {
        near = outer_near R hR i.near;
        over = elim i.over [
          | inr deep ↦
              let inside = sphere_scale x y z R (n *ℤ k) m hm deep in
              let dot = dot_3 (m *ℤ x) (m *ℤ y) up way_x way_y way_z w way inside way_square (width_least R hR i.near) way_least in
              inr (round (sum_3 (m *ℤ x) (m *ℤ y) up way_x way_y way_z w way inside way_square dot))
          | inl high ↦ elim (split_lt (up +ℤ way_z) (pos 0)) [
            | inr over ↦ inl (centre_unscale m n k s R l p.z t.z r.z hn over)
            | inl under ↦ inr (round (sum_over (m *ℤ x) (m *ℤ y) up way_x way_y way_z w way (inner_near R hR i.near) way_square (across R hR i.near) (centre_over m z R (n *ℤ k) hm high) under))
          ]
        ];
      }

  pub outer_cone : (R a b o : ℤ) → (pos 0) ≤ℤ R → (pos 0) <ℤ b → s ≤ℤ o → (square s *ℤ (square a +ℤ square b)) ≤ℤ square (b *ℤ o)
      → InCone R a b (n *ℤ k) (minus (times n p) (times k (risen l n r)))
      → InCone (R +ℤ s) a b (m *ℤ k) (minus (times m p) (times k (risen (l -ℤ o) m t)))
  outer_cone R a b o hR hb ho reaches i =
      let lowered = b *ℤ (k *ℤ (m *ℤ (n *ℤ o))) in
      let lowered_least = mul_nonneg-ℤ b (k *ℤ (m *ℤ (n *ℤ o))) (after_0 b hb) (product_4 k m n o hk hm hn (after s o hs ho)) in
      let flat = squares_sum way_x way_y in
      let slope = slope_scaled a b s o k m n way_x way_y way_z reaches way_square in
      let out = slope_over a b lowered (square way_x +ℤ square way_y) way_z lowered_least flat slope in
      let wide = wall_part a way_x way_y (lowered +ℤ b *ℤ way_z) (slope_across a b lowered (square way_x +ℤ square way_y) way_z flat slope out) in
      let steep = wall_scale a b x y z m hm i.steep in
      let up = wall_over b m z hb hm i.over in
      let dot = dot_2 (a *ℤ (m *ℤ x)) (a *ℤ (m *ℤ y)) (a *ℤ way_x) (a *ℤ way_y) (b *ℤ (m *ℤ z)) (lowered +ℤ b *ℤ way_z) steep wide up out in
      record {
        near = outer_near R hR i.near;
        over = outer_over o ho i.over;
        steep = wall_unscale m n k o l a b p.x p.y p.z t.x t.y t.z r.x r.y r.z hn
            (sum_2 (a *ℤ (m *ℤ x)) (a *ℤ (m *ℤ y)) (a *ℤ way_x) (a *ℤ way_y) (b *ℤ (m *ℤ z)) (lowered +ℤ b *ℤ way_z) steep wide dot);
      }
    where
      after_0 : (q : ℤ) → (pos 0) <ℤ q → (pos 0) ≤ℤ q
      after_0 q h = omega (arith, ints)

-- so it is for each kind of cutter
outer_held : (cutter : Cutter) (s m n k l : ℤ) (t r p : Pt3) → IsCutter cutter → (pos 0) ≤ℤ s → s ≤ℤ pos MAX_COORDINATE → (pos 0) <ℤ m → (pos 0) <ℤ n → (pos 0) <ℤ k → IsWithin s m t n r
    → Holds cutter n (risen l n r) k p → Holds (with_radius cutter (radius_of cutter +ℤ s)) m (risen (l -ℤ offset_of cutter s) m t) k p
outer_held (Flat R) s m n k l t r p ok hs most hm hn hk within h = outer_flat s m n k l t r p hs hm hn hk within R (at_least R ok.least) h
outer_held (Ball R) s m n k l t r p ok hs most hm hn hk within h = outer_ball s m n k l t r p hs hm hn hk within R (at_least R ok.least) h
outer_held (Cone R a b) s m n k l t r p ok hs most hm hn hk within h =
    outer_cone s m n k l t r p hs hm hn hk within R a b (offset_of (Cone R a b) s) (at_least R ok.0.least) (over_0 b ok.1.run)
    (offset_least a b s hs most ok.1) (offset_reaches a b s hs most ok.1) h

pub grown_holds : GrownHolds
grown_holds solid s m n k t r p ok hs most hm hn hk within h =
    risen_held (with_radius solid.cutter (radius_of solid.cutter +ℤ s)) (solid.lift -ℤ offset_of solid.cutter s) m k t p
    (outer_held solid.cutter s m n k solid.lift t r p ok hs most hm hn hk within (held_risen solid.cutter solid.lift n k r p h))
