-- A triangle in which some point is nearer than its time: an edge, the cut, or the axis has one.
use Rattle.std.proofs.Common.{◌≡◌, ◌⊎◌, inl, inr, refl, ◌∙◌, arith}
use lib.IntN.{ℤ, pos, ◌+ℤ◌, ◌-ℤ◌, ◌*ℤ◌}
use lib.Signed.{◌<ℤ◌, ◌≤ℤ◌}
use Rattle.std.proofs.lemmas.Int.{ints}
use Rattle.mill_base.proofs.Exit.{NeverFalls, split_lt}
use Rattle.mill_geom.proofs.Descend.{V4, mix, Weights, Hit, Boundary, lines, descend}
use Rattle.mill_geom.proofs.TriangleCerts.{opp_zero, opp_zero2, opp_rises, cross_x, cross_y, axis_near, deg_x_le, deg_x_ge, deg_y_le, deg_y_ge, sq_zero, sq_zero2, one_x, turn_lt}

-- a direction along which the place stays
pub record Still (a b c : V4) (i j k : ℤ) : Type 0 where
  pub x : mix (λ p. p.x) a b c i j k ≡ pos 0
  pub y : mix (λ p. p.y) a b c i j k ≡ pos 0

-- the axis goes through the triangle there
pub record Axis (a b c : V4) (i j k : ℤ) : Type 0 where
  pub weights : Weights i j k
  pub time : (pos 0) <ℤ mix (λ p. p.n) a b c i j k
  pub side : (pos 0) ≤ℤ mix (λ p. p.l) a b c i j k

abbrev pub IsZero3 : ℤ → ℤ → ℤ → Type 0
IsZero3 i j k = (i ≡ pos 0) × ((j ≡ pos 0) × (k ≡ pos 0))

both_ways : (x : ℤ) → x ≤ℤ pos 0 → (pos 0) ≤ℤ x → x ≡ pos 0
both_ways x h k = omega (arith, ints)

pub opposite : (a b c : V4) (i j k : ℤ) → Still a b c i j k → Still a b c (pos 0 -ℤ i) (pos 0 -ℤ j) (pos 0 -ℤ k)
opposite a b c i j k s = record {
  x = both_ways _ (opp_zero i j k a.x b.x c.x s.x) (opp_zero2 i j k a.x b.x c.x s.x);
  y = both_ways _ (opp_zero i j k a.y b.y c.y s.y) (opp_zero2 i j k a.y b.y c.y s.y);
}

-- without a hit on the boundary, a hit means that the axis goes through, this way or the other
pub through_axis : (a b c : V4) (u v w i j k : ℤ) → (Boundary a b c → ⊥) → Weights u v w → Hit a b c u v w → Still a b c i j k → (IsZero3 i j k → ⊥)
    → Axis a b c i j k ⊎ Axis a b c (pos 0 -ℤ i) (pos 0 -ℤ j) (pos 0 -ℤ k)
through_axis a b c u v w i j k free s h d n = by (split_lt (mix (λ (p : V4). p.n) a b c i j k) (pos 0))
  where
    up : (i j k : ℤ) → Still a b c i j k → (pos 0) ≤ℤ mix (λ (p : V4). p.n) a b c i j k → NeverFalls (lines a b c u v w i j k)
    up i j k d r = elim (descend a b c u v w i j k s h (record { still_x = d.x; still_y = d.y; rises = r })) [ inl f ↦ f | inr o ↦ absurd (free o) ]

    flat : (x : ℤ) → (pos 0) ≤ℤ x → (pos 0) ≤ℤ (pos 0 -ℤ x) → x ≡ pos 0
    flat x h k = omega (arith, ints)

    weak : (x : ℤ) → x <ℤ pos 0 → x ≤ℤ pos 0
    weak x h = omega (arith, ints)

    by : (mix (λ (p : V4). p.n) a b c i j k <ℤ pos 0) ⊎ ((pos 0) ≤ℤ mix (λ (p : V4). p.n) a b c i j k) → Axis a b c i j k ⊎ Axis a b c (pos 0 -ℤ i) (pos 0 -ℤ j) (pos 0 -ℤ k)
    by (inl l) =
        let f = up (pos 0 -ℤ i) (pos 0 -ℤ j) (pos 0 -ℤ k) (opposite a b c i j k d) (opp_rises i j k a.n b.n c.n (weak _ l)) in
        inr (record { weights = record { u_ok = f.0; v_ok = f.1.0; w_ok = f.1.1.0 }; time = turn_lt i j k a.n b.n c.n l; side = f.1.1.1.0 })
    by (inr l) =
        let f = up i j k d l in
        elim (split_lt (pos 0) (mix (λ (p : V4). p.n) a b c i j k)) [
          | inl m ↦ inl (record { weights = record { u_ok = f.0; v_ok = f.1.0; w_ok = f.1.1.0 }; time = m; side = f.1.1.1.0 })
          | inr m ↦ (let g = up (pos 0 -ℤ i) (pos 0 -ℤ j) (pos 0 -ℤ k) (opposite a b c i j k d) (opp_rises i j k a.n b.n c.n m) in
              absurd (n (flat i f.0 g.0, (flat j f.1.0 g.1.0, flat k f.1.1.0 g.1.1.0))))
        ]

-- the axis's point is a hit
pub axis_hit : (a b c : V4) (i j k : ℤ) → Still a b c i j k → Axis a b c i j k → Hit a b c i j k
axis_hit a b c i j k d x = record { near = axis_near _ _ _ d.x d.y x.time; time = less_weak _ x.time; side = x.side }
  where
    less_weak : (x : ℤ) → (pos 0) <ℤ x → (pos 0) ≤ℤ x
    less_weak x h = omega (arith, ints)

abbrev pub cross : V4 → V4 → ℤ
cross p q = p.x *ℤ q.y -ℤ p.y *ℤ q.x

pub cross_still : (a b c : V4) → Still a b c (cross b c) (cross c a) (cross a b)
cross_still a b c = record { x = cross_x a.x a.y b.x b.y c.x c.y; y = cross_y a.x a.y b.x b.y c.x c.y }

zero_or_not : (x : ℤ) → (x ≡ pos 0) ⊎ (x ≡ pos 0 → ⊥)
zero_or_not x = by (split_lt x (pos 0)) (split_lt (pos 0) x)
  where
    by : (x <ℤ pos 0) ⊎ ((pos 0) ≤ℤ x) → ((pos 0) <ℤ x) ⊎ (x ≤ℤ pos 0) → (x ≡ pos 0) ⊎ (x ≡ pos 0 → ⊥)
    by (inl l) m = inr (λ e. omega (arith, ints))
    by (inr l) (inl m) = inr (λ e. omega (arith, ints))
    by (inr l) (inr m) = inl (omega (arith, ints))

-- where a and b lie on one line through the axis, the axis meets an edge or no point is a hit
degenerate : (a b c : V4) (u v w : ℤ) → cross a b ≡ pos 0 → (Boundary a b c → ⊥) → Weights u v w → Hit a b c u v w → ⊥
degenerate a b c u v w e free s h = by (split_lt (pos 0) (a.x *ℤ a.x +ℤ a.y *ℤ a.y))
  where
    not_zero : (q : ℤ) → (pos 0) <ℤ q → (pos 0 -ℤ q) ≡ pos 0 → ⊥
    not_zero q l e = omega (arith, ints)

    below_zero : (q : ℤ) → (pos 0) <ℤ q → (pos 0) ≤ℤ (pos 0 -ℤ q) → ⊥
    below_zero q l e = omega (arith, ints)

    one_not_zero : pos 1 ≡ pos 0 → ⊥
    one_not_zero e = omega (arith, ints)

    minus_one : (pos 0) ≤ℤ (pos 0 -ℤ pos 1) → ⊥
    minus_one e = omega (arith, ints)

    turned : (x y : ℤ) → (x *ℤ x +ℤ y *ℤ y) ≤ℤ pos 0 → (y *ℤ y +ℤ x *ℤ x) ≤ℤ pos 0
    turned x y h = omega (arith, ints)

    by : ((pos 0) <ℤ (a.x *ℤ a.x +ℤ a.y *ℤ a.y)) ⊎ ((a.x *ℤ a.x +ℤ a.y *ℤ a.y) ≤ℤ pos 0) → ⊥
    by (inl l) =
        let q = a.x *ℤ a.x +ℤ a.y *ℤ a.y in
        let dot = b.x *ℤ a.x +ℤ b.y *ℤ a.y in
        let still : Still a b c dot (pos 0 -ℤ q) (pos 0) = record {
          x = both_ways _ (deg_x_le a.x a.y b.x b.y c.x e) (deg_x_ge a.x a.y b.x b.y c.x e);
          y = both_ways _ (deg_y_le a.x a.y b.x b.y c.y e) (deg_y_ge a.x a.y b.x b.y c.y e);
        } in
        elim (through_axis a b c u v w dot (pos 0 -ℤ q) (pos 0) free s h still (λ z. not_zero q l z.1.0)) [
          | inl x ↦ below_zero q l x.weights.v_ok
          | inr x ↦ free (record { u = pos 0 -ℤ dot; v = pos 0 -ℤ (pos 0 -ℤ q); w = pos 0 -ℤ pos 0; weights = x.weights; hit = axis_hit a b c _ _ _ (opposite a b c dot (pos 0 -ℤ q) (pos 0) still) x; edge = inr (inr (inl refl)) })
        ]
    by (inr l) =
        let ex = both_ways a.x (sq_zero a.x a.y l) (sq_zero2 a.x a.y l) in
        let ey = both_ways a.y (sq_zero a.y a.x (turned a.x a.y l)) (sq_zero2 a.y a.x (turned a.x a.y l)) in
        let still : Still a b c (pos 1) (pos 0) (pos 0) = record { x = one_x a.x b.x c.x ∙ ex; y = one_x a.y b.y c.y ∙ ey } in
        elim (through_axis a b c u v w (pos 1) (pos 0) (pos 0) free s h still (λ z. one_not_zero z.0)) [
          | inl x ↦ free (record { u = pos 1; v = pos 0; w = pos 0; weights = x.weights; hit = axis_hit a b c _ _ _ still x; edge = inr (inl refl) })
          | inr x ↦ minus_one x.weights.u_ok
        ]

-- without a hit on the boundary, a hit means that the axis goes through the triangle, by the signs of the three cross products
pub interior : (a b c : V4) (u v w : ℤ) → (Boundary a b c → ⊥) → Weights u v w → Hit a b c u v w
    → Axis a b c (cross b c) (cross c a) (cross a b) ⊎ Axis a b c (pos 0 -ℤ cross b c) (pos 0 -ℤ cross c a) (pos 0 -ℤ cross a b)
interior a b c u v w free s h = by (zero_or_not (cross a b))
  where
    by : (cross a b ≡ pos 0) ⊎ (cross a b ≡ pos 0 → ⊥) → Axis a b c (cross b c) (cross c a) (cross a b) ⊎ Axis a b c (pos 0 -ℤ cross b c) (pos 0 -ℤ cross c a) (pos 0 -ℤ cross a b)
    by (inl e) = absurd (degenerate a b c u v w e free s h)
    by (inr n) = through_axis a b c u v w (cross b c) (cross c a) (cross a b) free s h (cross_still a b c) (λ z. n z.1.1)
