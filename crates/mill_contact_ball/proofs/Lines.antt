-- The ball and a triangle whose corners lie on one line: what is in the ball shows on an edge.
use Rattle.std.proofs.Common.{◌≡◌, inl, inr, refl, sym, ap, ◌∙◌, arith}
use lib.IntN.{ℤ, pos, ◌+ℤ◌, ◌-ℤ◌, ◌*ℤ◌}
use lib.Signed.{◌<ℤ◌, ◌≤ℤ◌}
use Rattle.std.proofs.lemmas.Int.{ints}
use Rattle.mill_base.proofs.Exit.{NeverFalls}
use Rattle.mill_geom.proofs.Descend.{Weights}
use Rattle.mill_contact_ball.proofs.Slide.{mean, form, three, three_lines, Rim, slide}
use Rattle.mill_geom.specs.declared.offset.Offset.{Offset}
use Rattle.mill_contact_ball.proofs.Feet.{timed, both_ways}
use Rattle.mill_contact_ball.proofs.FootCerts.{same_radius}
use Rattle.mill_contact_ball.proofs.LineCerts.{deg_x_le, deg_x_ge, deg_y_le, deg_y_ge, deg_z_le, deg_z_ge, deg_sum, flat_mixed, minus_le, minus_ge, third_is, one_only, one_only2, zero_x_le, zero_x_ge, zero_y_le, zero_y_ge, zero_z_le, zero_z_ge}

-- a direction along which nothing changes
pub record Idle (a b c : Offset) (i j k : ℤ) : Type 0 where
  pub x : three a.x b.x c.x i j k ≡ pos 0
  pub y : three a.y b.y c.y i j k ≡ pos 0
  pub z : three a.z b.z c.z i j k ≡ pos 0
  pub sum : (i +ℤ j) +ℤ k ≡ pos 0

idle_back : (a b c : Offset) (i j k : ℤ) → Idle a b c i j k → Idle a b c (pos 0 -ℤ i) (pos 0 -ℤ j) (pos 0 -ℤ k)
idle_back a b c i j k d = record {
  x = both_ways _ _ (minus_le i j k a.x b.x c.x d.x) (minus_ge i j k a.x b.x c.x d.x);
  y = both_ways _ _ (minus_le i j k a.y b.y c.y d.y) (minus_ge i j k a.y b.y c.y d.y);
  z = both_ways _ _ (minus_le i j k a.z b.z c.z d.z) (minus_ge i j k a.z b.z c.z d.z);
  sum = neg_sum i j k d.sum;
}
  where
    neg_sum : (i j k : ℤ) → (i +ℤ j) +ℤ k ≡ pos 0 → ((pos 0 -ℤ i) +ℤ (pos 0 -ℤ j)) +ℤ (pos 0 -ℤ k) ≡ pos 0
    neg_sum i j k h = omega (arith, ints)

idle_rim : (r : ℤ) (a b c : Offset) (u v w i j k : ℤ) → Weights u v w → form (mean (timed r a) (timed r b) (timed r c) u v w) (mean (timed r a) (timed r b) (timed r c) u v w) <ℤ pos 0
    → Idle a b c i j k → (Rim (timed r a) (timed r b) (timed r c) → ⊥) → NeverFalls (three_lines u v w i j k)
idle_rim r a b c u v w i j k s h d free =
    let m = mean (timed r a) (timed r b) (timed r c) u v w in
    let g = mean (timed r a) (timed r b) (timed r c) i j k in
    let en = same_radius r i j k ∙ ap (λ t. r *ℤ t) d.sum ∙ times_zero r in
    elim (slide (timed r a) (timed r b) (timed r c) u v w i j k s h (record {
      mixed = flat_mixed m.x m.y m.z m.n g.x g.y g.z g.n d.x d.y d.z en;
      own = flat_mixed g.x g.y g.z g.n g.x g.y g.z g.n d.x d.y d.z en;
    })) [ inl n ↦ n | inr o ↦ absurd (free o) ]
  where
    times_zero : (r : ℤ) → r *ℤ pos 0 ≡ pos 0
    times_zero r = omega (arith, ints)

pub idle_none : (r : ℤ) (a b c : Offset) (u v w i j k : ℤ) → Weights u v w → form (mean (timed r a) (timed r b) (timed r c) u v w) (mean (timed r a) (timed r b) (timed r c) u v w) <ℤ pos 0
    → Idle a b c i j k → (Rim (timed r a) (timed r b) (timed r c) → ⊥) → (i ≡ pos 0) × ((j ≡ pos 0) × (k ≡ pos 0))
idle_none r a b c u v w i j k s h d free =
    let f = idle_rim r a b c u v w i j k s h d free in
    let g = idle_rim r a b c u v w (pos 0 -ℤ i) (pos 0 -ℤ j) (pos 0 -ℤ k) s h (idle_back a b c i j k d) free in
    (flat i f.0 g.0, (flat j f.1.0 g.1.0, flat k f.1.1.0 g.1.1.0))
  where
    flat : (x : ℤ) → (pos 0) ≤ℤ x → (pos 0) ≤ℤ (pos 0 -ℤ x) → x ≡ pos 0
    flat x h k = omega (arith, ints)

-- equal corners a and b: weights go from one to the other
equal_none : (r : ℤ) (a b c : Offset) (u v w : ℤ) → Weights u v w → form (mean (timed r a) (timed r b) (timed r c) u v w) (mean (timed r a) (timed r b) (timed r c) u v w) <ℤ pos 0
    → b.x ≡ a.x → b.y ≡ a.y → b.z ≡ a.z → (Rim (timed r a) (timed r b) (timed r c) → ⊥) → ⊥
equal_none r a b c u v w s h ex ey ez free =
    let n = idle_none r a b c u v w (pos 1) (pos 0 -ℤ pos 1) (pos 0) s h (record {
      x = both_ways _ _ (one_only a.x b.x c.x ex) (one_only2 a.x b.x c.x ex);
      y = both_ways _ _ (one_only a.y b.y c.y ey) (one_only2 a.y b.y c.y ey);
      z = both_ways _ _ (one_only a.z b.z c.z ez) (one_only2 a.z b.z c.z ez);
      sum = refl;
    }) free in
    clash n.0
  where
    clash : pos 1 ≡ pos 0 → ⊥
    clash e = omega (arith, ints)

-- the corners lie on one line: what is in the sphere shows on an edge
pub line_none : (r : ℤ) (a b c : Offset) (u v w : ℤ) → Weights u v w → form (mean (timed r a) (timed r b) (timed r c) u v w) (mean (timed r a) (timed r b) (timed r c) u v w) <ℤ pos 0
    → ((b.y *ℤ c.z -ℤ b.z *ℤ c.y) +ℤ (c.y *ℤ a.z -ℤ c.z *ℤ a.y)) +ℤ (a.y *ℤ b.z -ℤ a.z *ℤ b.y) ≡ pos 0
    → ((b.z *ℤ c.x -ℤ b.x *ℤ c.z) +ℤ (c.z *ℤ a.x -ℤ c.x *ℤ a.z)) +ℤ (a.z *ℤ b.x -ℤ a.x *ℤ b.z) ≡ pos 0
    → ((b.x *ℤ c.y -ℤ b.y *ℤ c.x) +ℤ (c.x *ℤ a.y -ℤ c.y *ℤ a.x)) +ℤ (a.x *ℤ b.y -ℤ a.y *ℤ b.x) ≡ pos 0
    → (Rim (timed r a) (timed r b) (timed r c) → ⊥) → ⊥
line_none r a b c u v w s h nx ny nz free =
    let n = idle_none r a b c u v w _ _ _ s h (record {
      x = both_ways _ _ (deg_x_le a.x a.y a.z b.x b.y b.z c.x c.y c.z ny nz) (deg_x_ge a.x a.y a.z b.x b.y b.z c.x c.y c.z ny nz);
      y = both_ways _ _ (deg_y_le a.x a.y a.z b.x b.y b.z c.x c.y c.z nz nx) (deg_y_ge a.x a.y a.z b.x b.y b.z c.x c.y c.z nz nx);
      z = both_ways _ _ (deg_z_le a.x a.y a.z b.x b.y b.z c.x c.y c.z nx ny) (deg_z_ge a.x a.y a.z b.x b.y b.z c.x c.y c.z nx ny);
      sum = deg_sum a.x a.y a.z b.x b.y b.z c.x c.y c.z;
    }) free in
    let none = flat _ (sym (third_is a.x a.y a.z b.x b.y b.z) ∙ n.1.1) in
    equal_none r a b c u v w s h
    (same b.x a.x (zero_x_le (b.x -ℤ a.x) (b.y -ℤ a.y) (b.z -ℤ a.z) none) (zero_x_ge (b.x -ℤ a.x) (b.y -ℤ a.y) (b.z -ℤ a.z) none))
    (same b.y a.y (zero_y_le (b.x -ℤ a.x) (b.y -ℤ a.y) (b.z -ℤ a.z) none) (zero_y_ge (b.x -ℤ a.x) (b.y -ℤ a.y) (b.z -ℤ a.z) none))
    (same b.z a.z (zero_z_le (b.x -ℤ a.x) (b.y -ℤ a.y) (b.z -ℤ a.z) none) (zero_z_ge (b.x -ℤ a.x) (b.y -ℤ a.y) (b.z -ℤ a.z) none)) free
  where
    flat : (x : ℤ) → pos 0 -ℤ x ≡ pos 0 → x ≤ℤ pos 0
    flat x e = omega (arith, ints)

    same : (x y : ℤ) → (x -ℤ y) ≤ℤ pos 0 → (pos 0) ≤ℤ (x -ℤ y) → x ≡ y
    same x y h k = omega (arith, ints)
