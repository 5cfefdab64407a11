-- A cutter that holds a point over a greater denominator holds the same point over a lesser one.
use Rattle.std.specs.Prelude.{◌≡◌, ℤ, pos, ◌+ℤ◌, ◌*ℤ◌, ◌<ℤ◌}
use Rattle.std.proofs.Common.{inl, inr, subst}
use Rattle.mill_base.proofs.Integers.{mul_pos-ℤ}
use Rattle.mill_base.specs.Numbers.{square}
use Rattle.mill_base.specs.Points.{plus, minus, times, point_tri}
use Rattle.mill_base.specs.Cutters.{Inside}
use Rattle.mill_base.specs.Contact.{Holds, Touches}
use Rattle.mill_base.specs.declared.points.Pt3.{Pt3}
use Rattle.mill_base.specs.declared.cutter.Cutter.{Cutter}
use Rattle.mill_base.specs.declared.cutter.Cutter.TheVariants.{Flat, Ball, Cone}
use Rattle.mill_sweep.proofs.LeafCerts.{scale_down, scale_down_le}
use Rattle.mill_sweep.proofs.UnscaledCerts.{scaled_near, scaled_radius, scaled_centre, scaled_sphere, scaled_slope, scaled_zero, mean_offset, one_scaled}

module _ (k : ℤ) (hk : (pos 0) <ℤ k) where
  less : (a b c d : ℤ) → c ≡ (k *ℤ k) *ℤ a → d ≡ (k *ℤ k) *ℤ b → c <ℤ d → a <ℤ b
  less a b c d e f h = scale_down (k *ℤ k) a b (mul_pos-ℤ k k hk hk) (rw (← e, ← f) h)

  over : (z : ℤ) → (pos 0) <ℤ (k *ℤ z) → (pos 0) <ℤ z
  over z h = scale_down k (pos 0) z hk (rw (scaled_zero k) h)

  near : (x y r n : ℤ) → (square (k *ℤ x) +ℤ square (k *ℤ y)) <ℤ (square r *ℤ square (k *ℤ n)) → (square x +ℤ square y) <ℤ (square r *ℤ square n)
  near x y r n h = less _ _ _ _ (scaled_near k x y) (scaled_radius k r n) h

  -- what is inside, with its offset and its denominator both k times as great, is inside
  inside_unscaled : (cutter : Cutter) (n : ℤ) (d : Pt3) → Inside cutter (k *ℤ n) (times k d) → Inside cutter n d
  inside_unscaled (Flat r) n d i = record { near = near d.x d.y r n i.near; over = over d.z i.over }
  inside_unscaled (Ball r) n d i = record {
    near = near d.x d.y r n i.near;
    over = elim i.over [
      | inl high ↦ inl (scale_down_le k (r *ℤ n) d.z hk (rw (← scaled_centre k r n) high))
      | inr deep ↦ inr (less _ _ _ _ (scaled_sphere k d.x d.y d.z r n) (scaled_radius k r n) deep)
    ];
  }
  inside_unscaled (Cone r a b) n d i = record {
    near = near d.x d.y r n i.near;
    over = over d.z i.over;
    steep = less _ _ _ _ (scaled_slope k a d.x d.y) (wall d.z) i.steep;
  }
    where
      wall : (z : ℤ) → square b *ℤ square (k *ℤ z) ≡ (k *ℤ k) *ℤ (square b *ℤ square z)
      wall z = scaled_radius k b z

-- a cutter that touches a point's triangle holds the point
pub touched_point : (cutter : Cutter) (p q : Pt3) → Touches cutter (pos 1) p (point_tri q) → Holds cutter (pos 1) p (pos 1) q
touched_point cutter p q touches =
    by touches.point.u touches.point.v touches.point.w touches.n touches.point.weights touches.point.some
    (subst (λ s. Holds cutter (pos 1) p touches.n s) touches.point.place touches.inside)
  where
    by : (u v w n : ℤ) → n ≡ (u +ℤ v) +ℤ w → (pos 0) <ℤ n → Holds cutter (pos 1) p n (plus (plus (times u q) (times v q)) (times w q)) → Holds cutter (pos 1) p (pos 1) q
    by u v w n e some held =
        let k = (u +ℤ v) +ℤ w in
        inside_unscaled k (subst (λ s. (pos 0) <ℤ s) e some) cutter (pos 1 *ℤ pos 1) (minus (times (pos 1) q) (times (pos 1) p))
        (rw (mean_offset u v w q.x p.x, mean_offset u v w q.y p.y, mean_offset u v w q.z p.z, one_scaled k) at rw e at held)
