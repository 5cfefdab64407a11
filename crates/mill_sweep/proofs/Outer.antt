-- What the cutter holds at a moment of a leaf, the leaf's outer cutter holds.
use Rattle.std.specs.Prelude.{ℕ, zero, suc, ◌+◌, ◌*◌, ◌^◌, ◌<◌, ◌≤◌, nat_abs, ℤ, pos, negsuc, ◌+ℤ◌, ◌-ℤ◌, ◌*ℤ◌, ◌<ℤ◌, ◌≤ℤ◌}
use Rattle.std.proofs.Common.{inl, inr, arith}
use Rattle.std.proofs.lemmas.Int.{ints}
use Rattle.std.proofs.lemmas.Nat.{pow_pos}
use Rattle.mill_base.proofs.Divisions.{ceil_div_high}
use Rattle.mill_base.proofs.Exit.{split_lt}
use Rattle.mill_base.proofs.Integers.{mul_nonneg-ℤ}
use Rattle.mill_base.specs.Numbers.{square, ceil_div}
use Rattle.mill_base.specs.Points.{minus, times}
use Rattle.mill_base.specs.Motion.{tip_at}
use Rattle.mill_base.specs.Contact.{Holds}
use Rattle.mill_base.specs.Cutters.{InFlat, InBall, InCone}
use Rattle.mill_base.specs.Sizes.{IsWideCutter, outer}
use Rattle.mill_base.specs.declared.points.Pt3.{Pt3}
use Rattle.mill_base.specs.declared.motion.Move.{Move}
use Rattle.mill_base.specs.declared.cutter.Cutter.{Cutter}
use Rattle.mill_base.specs.declared.cutter.Cutter.TheVariants.{Flat, Ball, Cone}
use Rattle.mill_sweep.specs.Lifted.{IsLiftedMove}
use Rattle.mill_sweep.specs.Leaves.{middle_of, farther_of, lower_of, depth_of, diagonal_of, reach_of, zlow_of, span_of, outer_tip, IsMomentOf}
use Rattle.mill_sweep.specs.Moments.{OuterHolds}
use Rattle.mill_sweep.proofs.Spans.{diagonal_root, ends_near, farther_within, lower_first, lower_last}
use Rattle.mill_sweep.proofs.LeafCerts.{leaf_high, leaf_low, leaf_over, scale_down, scale_down_le, box_sq, reach_sq, scaled_sq, product_3, product_pos}
use Rattle.mill_sweep.proofs.OuterCerts.{sum_lt, dot_le, near_form, near_unscale, flat_over, ball_top, ball_top_out, ball_deep, ball_sum, ball_unscale, cone_first, cone_reach, cone_over, cone_up, cone_unscale}
use Rattle.mill_sweep.specs.Widths.{longest}
use Rattle.mill_sweep.proofs.Lifting.{in_lift}

some : (n : ℕ) → 0 < n → (pos 0) <ℤ pos n
some n h = omega (arith, ints)

natural : (x : ℕ) → (pos 0) ≤ℤ pos x
natural x = omega (arith, ints)

not_under : (x : ℤ) → (pos 0) <ℤ x → (pos 0) ≤ℤ x
not_under x h = omega (arith, ints)

at_least : (x : ℤ) → (pos 1) ≤ℤ x → (pos 0) ≤ℤ x
at_least x h = omega (arith, ints)

over_0 : (x : ℤ) → (pos 1) ≤ℤ x → (pos 0) <ℤ x
over_0 x h = omega (arith, ints)

-- one coordinate of the tip at the moment k/m, over m
abbrev pub tip_of : ℤ → ℤ → ℤ → ℤ → ℤ
tip_of from to k m = (m -ℤ k) *ℤ from +ℤ k *ℤ to

-- at a moment of a leaf the tip is at most farther from the middle
off_square : (f t : ℤ) (d j : ℕ) (k m : ℤ) → IsMomentOf d j k m
    → square (tip_of f t k m -ℤ m *ℤ middle_of f t d j) ≤ℤ ((m *ℤ m) *ℤ (pos (farther_of f t d j) *ℤ pos (farther_of f t d j)))
off_square f t d j k m l =
    let near = ends_near f t d j in
    let parts : (pos 0) <ℤ pos (2 ^ d) = some (2 ^ d) (pow_pos d) in
    let off = tip_of f t k m -ℤ m *ℤ middle_of f t d j in
    box_sq off m (pos (farther_of f t d j))
    (scale_down_le (pos (2 ^ d)) off (m *ℤ pos (farther_of f t d j)) parts (leaf_high f t (pos (2 ^ d)) (pos j) m k (middle_of f t d j) (pos (farther_of f t d j)) l.after l.before near.first_above near.last_above))
    (scale_down_le (pos (2 ^ d)) (pos 0 -ℤ off) (m *ℤ pos (farther_of f t d j)) parts (leaf_low f t (pos (2 ^ d)) (pos j) m k (middle_of f t d j) (pos (farther_of f t d j)) l.after l.before near.first_below near.last_below))

-- the reach is at least the diagonal of the two distances
reach_covers : (ex ey : ℕ) → ex ≤ longest → ey ≤ longest → (pos ex *ℤ pos ex +ℤ pos ey *ℤ pos ey) ≤ℤ (pos (diagonal_of ex ey) *ℤ pos (diagonal_of ex ey))
reach_covers ex ey hx hy = by (ex * ex + ey * ey) (diagonal_of ex ey) (diagonal_root ex ey hx hy).reaches
  where
    by : (a r : ℕ) → a ≤ r * r → pos a ≤ℤ (pos r *ℤ pos r)
    by a r h = omega (arith, ints)

-- so at each moment the tip is at most reach from the middle, here in the denominator of a point
pub shift_square : (move : Move) (d j : ℕ) (k m n : ℤ) → IsLiftedMove move → j < 2 ^ d → IsMomentOf d j k m
    → (square (n *ℤ (tip_of move.from.x move.to.x k m -ℤ m *ℤ middle_of move.from.x move.to.x d j)) +ℤ square (n *ℤ (tip_of move.from.y move.to.y k m -ℤ m *ℤ middle_of move.from.y move.to.y d j)))
    ≤ℤ square (n *ℤ (m *ℤ pos (reach_of move d j)))
shift_square move d j k m n range less l =
    scaled_sq n _ _ (m *ℤ pos (reach_of move d j))
    (reach_sq _ _ m (pos (farther_of move.from.x move.to.x d j)) (pos (farther_of move.from.y move.to.y d j)) (pos (reach_of move d j))
    (off_square move.from.x move.to.x d j k m l)
    (off_square move.from.y move.to.y d j k m l)
    (reach_covers (farther_of move.from.x move.to.x d j) (farther_of move.from.y move.to.y d j)
    (farther_within move.from.x move.to.x d j range.from_ok.x_ok.within range.to_ok.x_ok.within less)
    (farther_within move.from.y move.to.y d j range.from_ok.y_ok.within range.to_ok.y_ok.within less)))

-- and never under zlow
pub low_over : (f t : ℤ) (d j : ℕ) (k m : ℤ) → IsMomentOf d j k m → (m *ℤ lower_of f t d j) ≤ℤ tip_of f t k m
low_over f t d j k m l =
    scale_down_le (pos (2 ^ d)) (m *ℤ lower_of f t d j) (tip_of f t k m) (some (2 ^ d) (pow_pos d))
    (leaf_over f t (pos (2 ^ d)) (pos j) m k (lower_of f t d j) l.after l.before (lower_first f t d j) (lower_last f t d j))

-- a point p over n, held with the tip t over m, which is shifted by at most q from c and at least at the height zl
module _ (m n q : ℤ) (p t : Pt3) (cx cy zl : ℤ) (hm : (pos 0) <ℤ m) (hn : (pos 0) <ℤ n) (hq : (pos 0) ≤ℤ q)
    (shifted : (square (n *ℤ (t.x -ℤ m *ℤ cx)) +ℤ square (n *ℤ (t.y -ℤ m *ℤ cy))) ≤ℤ square (n *ℤ (m *ℤ q)))
    (low : (m *ℤ zl) ≤ℤ t.z) where
  -- nearer to the axis than r, it is nearer to the middle than r + q
  module _ (r : ℤ) (hr : (pos 0) ≤ℤ r)
      (near : (square (m *ℤ p.x -ℤ n *ℤ t.x) +ℤ square (m *ℤ p.y -ℤ n *ℤ t.y)) <ℤ (square r *ℤ square (m *ℤ n))) where
    within : (square (m *ℤ p.x -ℤ n *ℤ t.x) +ℤ square (m *ℤ p.y -ℤ n *ℤ t.y)) <ℤ square (n *ℤ (m *ℤ r))
    within = near_form (square (m *ℤ p.x -ℤ n *ℤ t.x) +ℤ square (m *ℤ p.y -ℤ n *ℤ t.y)) r m n near

    dot : ((m *ℤ p.x -ℤ n *ℤ t.x) *ℤ (n *ℤ (t.x -ℤ m *ℤ cx)) +ℤ (m *ℤ p.y -ℤ n *ℤ t.y) *ℤ (n *ℤ (t.y -ℤ m *ℤ cy))) ≤ℤ ((n *ℤ (m *ℤ r)) *ℤ (n *ℤ (m *ℤ q)))
    dot = dot_le (m *ℤ p.x -ℤ n *ℤ t.x) (m *ℤ p.y -ℤ n *ℤ t.y) (n *ℤ (t.x -ℤ m *ℤ cx)) (n *ℤ (t.y -ℤ m *ℤ cy)) (n *ℤ (m *ℤ r)) (n *ℤ (m *ℤ q))
        within shifted (product_3 n m r hn hm hr) (product_3 n m q hn hm hq)

    outer_near : (square (pos 1 *ℤ p.x -ℤ n *ℤ cx) +ℤ square (pos 1 *ℤ p.y -ℤ n *ℤ cy)) <ℤ (square (r +ℤ q) *ℤ square (pos 1 *ℤ n))
    outer_near = near_unscale m n p.x p.y t.x t.y cx cy r q hm
        (sum_lt (m *ℤ p.x -ℤ n *ℤ t.x) (m *ℤ p.y -ℤ n *ℤ t.y) (n *ℤ (t.x -ℤ m *ℤ cx)) (n *ℤ (t.y -ℤ m *ℤ cy)) (n *ℤ (m *ℤ r)) (n *ℤ (m *ℤ q)) within shifted dot)

  pub outer_flat : (r : ℤ) → (pos 0) ≤ℤ r → InFlat r (m *ℤ n) (minus (times m p) (times n t))
      → InFlat (r +ℤ q) (pos 1 *ℤ n) (minus (times (pos 1) p) (times n (record { x = cx; y = cy; z = zl -ℤ pos 0 })))
  outer_flat r hr i = record {
    near = outer_near r hr i.near;
    over = scale_down m (pos 0) (pos 1 *ℤ p.z -ℤ n *ℤ (zl -ℤ pos 0)) hm (flat_over m n p.z t.z zl hm hn low i.over);
  }

  pub outer_ball : (r : ℤ) → (pos 0) ≤ℤ r → InBall r (m *ℤ n) (minus (times m p) (times n t))
      → InBall (r +ℤ q) (pos 1 *ℤ n) (minus (times (pos 1) p) (times n (record { x = cx; y = cy; z = zl -ℤ q })))
  outer_ball r hr i = record {
    near = outer_near r hr i.near;
    over = elim (split_lt (p.z -ℤ n *ℤ zl) (r *ℤ n)) [
      | inr high ↦ inl (ball_top_out n p.z zl r q high)
      | inl deep ↦ elim i.over [
        | inl high ↦ inl (ball_top_out n p.z zl r q (scale_down_le m (r *ℤ n) (p.z -ℤ n *ℤ zl) hm (ball_top m n p.z t.z zl r hm hn low high)))
        | inr round ↦ inr (ball_unscale m n p.x p.y t.x t.y cx cy r q p.z zl hm
            (ball_sum (m *ℤ p.x -ℤ n *ℤ t.x) (m *ℤ p.y -ℤ n *ℤ t.y) (n *ℤ (t.x -ℤ m *ℤ cx)) (n *ℤ (t.y -ℤ m *ℤ cy)) (m *ℤ ((p.z -ℤ n *ℤ zl) -ℤ r *ℤ n)) (n *ℤ (m *ℤ r)) (n *ℤ (m *ℤ q))
            (ball_deep m n p.z t.z zl r (square (m *ℤ p.x -ℤ n *ℤ t.x) +ℤ square (m *ℤ p.y -ℤ n *ℤ t.y)) hm hn low deep round)
            shifted
            (dot r hr i.near)))
      ]
    ];
  }

  pub outer_cone : (r a b s : ℤ) → (pos 0) ≤ℤ r → (pos 0) <ℤ a → (pos 0) <ℤ b → (pos 0) ≤ℤ s → (q *ℤ a) ≤ℤ (b *ℤ s) → InCone r a b (m *ℤ n) (minus (times m p) (times n t))
      → InCone (r +ℤ q) a b (pos 1 *ℤ n) (minus (times (pos 1) p) (times n (record { x = cx; y = cy; z = zl -ℤ s })))
  outer_cone r a b s hr ha hb hs rises i =
      let dx = m *ℤ p.x -ℤ n *ℤ t.x in
      let dy = m *ℤ p.y -ℤ n *ℤ t.y in
      let dz = m *ℤ p.z -ℤ n *ℤ t.z in
      let tx = n *ℤ (t.x -ℤ m *ℤ cx) in
      let ty = n *ℤ (t.y -ℤ m *ℤ cy) in
      let z = pos 1 *ℤ p.z -ℤ n *ℤ (zl -ℤ s) in
      let steep = cone_first a b dx dy dz i.steep in
      let wide = scaled_sq a tx ty (n *ℤ (m *ℤ q)) shifted in
      let up = product_pos b dz hb i.over in
      let out = mul_nonneg-ℤ a (n *ℤ (m *ℤ q)) (not_under a ha) (product_3 n m q hn hm hq) in
      let across = dot_le (a *ℤ dx) (a *ℤ dy) (a *ℤ tx) (a *ℤ ty) (b *ℤ dz) (a *ℤ (n *ℤ (m *ℤ q))) steep wide up out in
      let sum = sum_lt (a *ℤ dx) (a *ℤ dy) (a *ℤ tx) (a *ℤ ty) (b *ℤ dz) (a *ℤ (n *ℤ (m *ℤ q))) steep wide across in
      record {
        near = outer_near r hr i.near;
        over = scale_down m (pos 0) z hm (cone_over m n p.z t.z zl s hm hn low hs i.over);
        steep = cone_unscale m n p.x p.y t.x t.y cx cy a b z hm
            (cone_up (b *ℤ dz) (a *ℤ (n *ℤ (m *ℤ q))) (b *ℤ (m *ℤ z)) _ up out (cone_reach a b m n p.z t.z zl s q hb hm hn low rises) sum);
      }

-- a cone's shift: not negative, and enough for the slope
shift_least : (q a : ℤ) (b : ℕ) → (pos 0) ≤ℤ q → (pos 0) ≤ℤ a → (pos 0) ≤ℤ ceil_div (q *ℤ a) b
shift_least (pos q) (pos a) b h k = not_negative (q * a)
  where
    not_negative : (x : ℕ) → (pos 0) ≤ℤ ceil_div (pos x) b
    not_negative zero = omega (arith, ints)
    not_negative (suc x) = omega (arith, ints)
shift_least (pos q) (negsuc a) b h k = absurd (omega (arith, ints))
shift_least (negsuc q) a b h k = absurd (omega (arith, ints))

shift_enough : (q a b : ℤ) → (pos 1) ≤ℤ b → (q *ℤ a) ≤ℤ (b *ℤ ceil_div (q *ℤ a) (nat_abs b))
shift_enough q a (pos b) h = ceil_div_high (q *ℤ a) b (omega (arith, ints))
shift_enough q a (negsuc b) h = absurd (omega (arith, ints))

-- every point inside the cutter at a moment of a leaf is inside the leaf's outer cutter
pub lifted_outer_holds : (cutter : Cutter) (move : Move) (d j : ℕ) (k m n : ℤ) (p : Pt3) → IsWideCutter cutter → IsLiftedMove move → d ≤ depth_of move → j < 2 ^ d
    → IsMomentOf d j k m → (pos 0) <ℤ n → Holds cutter m (tip_at move k m) n p
    → Holds (outer cutter (pos (reach_of move d j))) (pos 1) (outer_tip cutter (span_of move d j)) n p
lifted_outer_holds (Flat r) move d j k m n p cutter_ok range deep less l hn h =
    outer_flat m n (pos (reach_of move d j)) p (tip_at move k m) (middle_of move.from.x move.to.x d j) (middle_of move.from.y move.to.y d j) (zlow_of move d j)
    l.some hn (natural (reach_of move d j)) (shift_square move d j k m n range less l) (low_over move.from.z move.to.z d j k m l) r (at_least r cutter_ok.least) h
lifted_outer_holds (Ball r) move d j k m n p cutter_ok range deep less l hn h =
    outer_ball m n (pos (reach_of move d j)) p (tip_at move k m) (middle_of move.from.x move.to.x d j) (middle_of move.from.y move.to.y d j) (zlow_of move d j)
    l.some hn (natural (reach_of move d j)) (shift_square move d j k m n range less l) (low_over move.from.z move.to.z d j k m l) r (at_least r cutter_ok.least) h
lifted_outer_holds (Cone r a b) move d j k m n p cutter_ok range deep less l hn h =
    outer_cone m n (pos (reach_of move d j)) p (tip_at move k m) (middle_of move.from.x move.to.x d j) (middle_of move.from.y move.to.y d j) (zlow_of move d j)
    l.some hn (natural (reach_of move d j)) (shift_square move d j k m n range less l) (low_over move.from.z move.to.z d j k m l)
    r a b (ceil_div (pos (reach_of move d j) *ℤ a) (nat_abs b))
    (at_least r cutter_ok.0.least) (over_0 a cutter_ok.1.rise) (over_0 b cutter_ok.1.run)
    (shift_least (pos (reach_of move d j)) a (nat_abs b) (natural (reach_of move d j)) (at_least a cutter_ok.1.rise))
    (shift_enough (pos (reach_of move d j)) a b cutter_ok.1.run)
    h

pub outer_holds : OuterHolds
outer_holds cutter move d j k m n p cutter_ok range = lifted_outer_holds cutter move d j k m n p cutter_ok (in_lift move range)
