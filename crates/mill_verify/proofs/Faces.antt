-- A solid that holds a point of a fixture holds the point straight over it on the fixture's upper face, which lies in one of its two triangles.
use Rattle.std.specs.Prelude.{◌≡◌, ◌⊎◌, ℤ, pos, ◌+ℤ◌, ◌-ℤ◌, ◌*ℤ◌, ◌<ℤ◌, ◌≤ℤ◌}
use Rattle.std.proofs.Common.{sym, ◌∙◌, ap, subst, inl, inr, refl, arith}
use Rattle.std.proofs.lemmas.Int.{ints}
use Rattle.mill_base.proofs.Exit.{split_lt}
use lib.IntN.{*ℤ_comm}
use Rattle.mill_base.proofs.Integers.{mul_pos-ℤ}
use Rattle.mill_base.specs.Contact.{Holds, Touches}
use Rattle.mill_base.specs.Points.{IsPointOf, minus, point_at, times}
use Rattle.mill_base.specs.declared.cutter.Cutter.{Cutter}
use Rattle.mill_base.specs.declared.points.Pt3.{Pt3}
use Rattle.mill_job.specs.declared.fixtures.Fixture.{Fixture}
use Rattle.mill_shape.proofs.Over.{inside_raised}
use Rattle.mill_verify.specs.Claims.{IsPointOfFixture}
use Rattle.mill_obstacles.specs.Faces.{first_half, second_half}
use Rattle.mill_verify.proofs.FaceCerts.{back_x, back_y, denominator_scaled, left_weights, left_x, left_y, left_z, no_side, offset_scaled, own_weight, raised_over, rest_weight, right_weights, right_x, right_y, right_z, scaled_low, within_side}

-- over a denominator k times as great, a cutter holds each point straight over one that it holds
over_held : (cutter : Cutter) (m q k w : ℤ) (t p : Pt3) → (pos 0) <ℤ m → (pos 0) <ℤ k → (k *ℤ p.z) ≤ℤ w → Holds cutter m t q p → Holds cutter m t (k *ℤ q) (point_at (k *ℤ p.x) (k *ℤ p.y) w)
over_held cutter m q k w t p hm hk hw held =
    rw (offset_scaled m q k p.x t.x, offset_scaled m q k p.y t.y, denominator_scaled m q k)
    (inside_raised cutter (m *ℤ q) k (m *ℤ w -ℤ (k *ℤ q) *ℤ t.z) (minus (times m p) (times q t)) hk (raised_over m q k p.z t.z w hm hw) held)

-- how wide a stretch is, or 1 where it is of no width: so far a point of it comes, over the denominator q
record IsWidth (q lo hi p width : ℤ) : Type 0 where
  some : (pos 0) <ℤ width
  same : (p -ℤ q *ℤ lo) *ℤ (hi -ℤ lo) ≡ (p -ℤ q *ℤ lo) *ℤ width
  within : (p -ℤ q *ℤ lo) ≤ℤ (q *ℤ width)

none : (a : ℤ) → a ≤ℤ pos 0 → pos 0 ≤ℤ a → a ≡ pos 0
none a h g = omega (h, g, arith, ints)

over : (a b : ℤ) → a ≤ℤ b → pos 0 ≤ℤ (b -ℤ a)
over a b h = omega (h, arith, ints)

apart : (a b : ℤ) → a <ℤ b → pos 0 <ℤ (b -ℤ a)
apart a b h = omega (h, arith, ints)

less : (a b : ℤ) → a <ℤ b → pos 0 ≤ℤ (b -ℤ a)
less a b h = omega (h, arith, ints)

width_of : (q lo hi p : ℤ) → (pos 0) <ℤ q → (q *ℤ lo) ≤ℤ p → p ≤ℤ (q *ℤ hi) → (width : ℤ) × IsWidth q lo hi p width
width_of q lo hi p hq low high = elim (split_lt lo hi) [
  | inl wide ↦ (hi -ℤ lo, record { some = apart lo hi wide; same = refl; within = within_side q lo hi p low high })
  | inr flat ↦ (pos 1, at_one (p -ℤ q *ℤ lo) (none (p -ℤ q *ℤ lo) (no_side q lo hi p hq flat high) (over (q *ℤ lo) p low)) refl)
]
  where
    by_zero : (a b : ℤ) → a ≡ pos 0 → a *ℤ b ≡ pos 0
    by_zero a b e = rw e (omega (arith, ints))

    one_side : (a : ℤ) → a ≡ pos 0 → (pos 0) <ℤ q → a ≤ℤ (q *ℤ pos 1)
    one_side a e h = omega (e, h, arith, ints)

    at_one : (a : ℤ) → a ≡ pos 0 → (a ≡ p -ℤ q *ℤ lo) → IsWidth q lo hi p (pos 1)
    at_one a e is = record {
      some = omega (arith, ints);
      same = subst (λ (v : ℤ). v *ℤ (hi -ℤ lo) ≡ v *ℤ pos 1) is (by_zero a (hi -ℤ lo) e ∙ sym (by_zero a (pos 1) e));
      within = subst (λ (v : ℤ). v ≤ℤ (q *ℤ pos 1)) is (one_side a e hq);
    }

place_is : (x y z a b c : ℤ) → x ≡ a → y ≡ b → z ≡ c → point_at x y z ≡ point_at a b c
place_is x y z a b c e f g = rw (e, f, g) refl

module _ (fixture : Fixture) (q : ℤ) (p : Pt3) (point : IsPointOfFixture fixture q p) where
  abbrev x0 : ℤ
  x0 = fixture.area.x0

  abbrev x1 : ℤ
  x1 = fixture.area.x1

  abbrev y0 : ℤ
  y0 = fixture.area.y0

  abbrev y1 : ℤ
  y1 = fixture.area.y1

  abbrev a : ℤ
  a = p.x -ℤ q *ℤ x0

  abbrev c : ℤ
  c = p.y -ℤ q *ℤ y0

  module _ (w h : ℤ) (wide : IsWidth q x0 x1 p.x w) (deep : IsWidth q y0 y1 p.y h) where
    -- the place of the point over the denominator w*h*q, on the upper face
    abbrev face : Pt3
    face = point_at ((w *ℤ h) *ℤ p.x) ((w *ℤ h) *ℤ p.y) (((w *ℤ h) *ℤ q) *ℤ fixture.height)

    size : (pos 0) <ℤ (w *ℤ h)
    size = mul_pos-ℤ w h wide.some deep.some

    x_is : (w *ℤ h) *ℤ (q *ℤ x0) +ℤ h *ℤ (a *ℤ (x1 -ℤ x0)) ≡ (w *ℤ h) *ℤ p.x
    x_is = ap (λ (v : ℤ). (w *ℤ h) *ℤ (q *ℤ x0) +ℤ h *ℤ v) wide.same ∙ back_x w h q p.x x0

    y_is : (w *ℤ h) *ℤ (q *ℤ y0) +ℤ w *ℤ (c *ℤ (y1 -ℤ y0)) ≡ (w *ℤ h) *ℤ p.y
    y_is = ap (λ (v : ℤ). (w *ℤ h) *ℤ (q *ℤ y0) +ℤ w *ℤ v) deep.same ∙ back_y w h q p.y y0

    in_first : (w *ℤ c) <ℤ (h *ℤ a) → IsPointOf (first_half fixture) ((w *ℤ h) *ℤ q) face
    in_first order = record {
      u = (w *ℤ h) *ℤ q -ℤ h *ℤ a;
      v = h *ℤ a -ℤ w *ℤ c;
      w = w *ℤ c;
      u_ok = rest_weight w h q a deep.some wide.within;
      v_ok = less (w *ℤ c) (h *ℤ a) order;
      w_ok = own_weight w c wide.some (over (q *ℤ y0) p.y point.south);
      some = mul_pos-ℤ (w *ℤ h) q size point.some;
      weights = right_weights w h q a c;
      place = place_is _ _ _ _ _ _ (sym (right_x w h q p.x x0 x1 c ∙ x_is)) (sym (right_y w h q p.y y0 y1 a ∙ y_is)) (right_z w h q a c fixture.height);
    }

    in_second : (h *ℤ a) ≤ℤ (w *ℤ c) → IsPointOf (second_half fixture) ((w *ℤ h) *ℤ q) face
    in_second order = record {
      u = (w *ℤ h) *ℤ q -ℤ w *ℤ c;
      v = h *ℤ a;
      w = w *ℤ c -ℤ h *ℤ a;
      u_ok = swapped (rest_weight h w q c wide.some deep.within);
      v_ok = own_weight h a deep.some (over (q *ℤ x0) p.x point.west);
      w_ok = over (h *ℤ a) (w *ℤ c) order;
      some = mul_pos-ℤ (w *ℤ h) q size point.some;
      weights = left_weights w h q a c;
      place = place_is _ _ _ _ _ _ (sym (left_x w h q p.x x0 x1 c ∙ x_is)) (sym (left_y w h q p.y y0 y1 a ∙ y_is)) (left_z w h q a c fixture.height);
    }
      where
        swapped : pos 0 ≤ℤ ((h *ℤ w) *ℤ q -ℤ w *ℤ c) → pos 0 ≤ℤ ((w *ℤ h) *ℤ q -ℤ w *ℤ c)
        swapped = subst (λ (v : ℤ). pos 0 ≤ℤ (v *ℤ q -ℤ w *ℤ c)) (*ℤ_comm h w)

    held_on_face : (cutter : Cutter) (m : ℤ) (t : Pt3) → (pos 0) <ℤ m → Holds cutter m t q p → Holds cutter m t ((w *ℤ h) *ℤ q) face
    held_on_face cutter m t hm held = over_held cutter m q (w *ℤ h) (((w *ℤ h) *ℤ q) *ℤ fixture.height) t p hm size (scaled_low (w *ℤ h) q p.z fixture.height size point.under) held

    touched : (cutter : Cutter) (m : ℤ) (t : Pt3) → (pos 0) <ℤ m → Holds cutter m t q p → Touches cutter m t (first_half fixture) ⊎ Touches cutter m t (second_half fixture)
    touched cutter m t hm held = elim (split_lt (w *ℤ c) (h *ℤ a)) [
      | inl order ↦ inl (record { n = (w *ℤ h) *ℤ q; p = face; point = in_first order; inside = held_on_face cutter m t hm held })
      | inr order ↦ inr (record { n = (w *ℤ h) *ℤ q; p = face; point = in_second order; inside = held_on_face cutter m t hm held })
    ]

  -- the cutter touches one of the triangles
  pub touches_face : (cutter : Cutter) (m : ℤ) (t : Pt3) → (pos 0) <ℤ m → Holds cutter m t q p → Touches cutter m t (first_half fixture) ⊎ Touches cutter m t (second_half fixture)
  touches_face cutter m t hm held =
      let x = width_of q x0 x1 p.x point.some point.west point.east in
      let y = width_of q y0 y1 p.y point.some point.south point.north in
      touched x.0 y.0 x.1 y.1 cutter m t hm held
