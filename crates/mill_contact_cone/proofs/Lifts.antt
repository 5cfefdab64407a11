-- What comes into the cutter at some position along x shows on an edge: each such point can be lifted in the triangle until it is on one.
use Rattle.std.proofs.Common.{◌≡◌, ◌⊎◌, inl, inr, sym, subst, [], ◌∷◌, arith}
use lib.IntN.{ℤ, pos, ◌+ℤ◌, ◌-ℤ◌, ◌*ℤ◌}
use lib.Signed.{◌<ℤ◌, ◌≤ℤ◌}
use Rattle.std.proofs.lemmas.Int.{ints}
use Rattle.mill_base.specs.Cutters.{InCone}
use Rattle.mill_base.proofs.Exit.{NeverFalls, Exit, exit, split_lt}
use Rattle.mill_base.proofs.Integers.{mul_pos-ℤ}
use Rattle.mill_geom.specs.Offsets.{mean3}
use Rattle.mill_geom.proofs.Corners.{gone_first, gone_second, gone_third}
use Rattle.mill_geom.proofs.DescendCerts.{lin}
use Rattle.mill_geom.proofs.TriangleCerts.{opp_zero, opp_zero2, opp_rises}
use Rattle.mill_contact_cone.specs.declared.corner.Cone.{Cone}
use Rattle.mill_contact_cone.specs.declared.corner.Corner.{Corner}
use Rattle.mill_contact_cone.specs.Cones.{plain, TouchesCone, EdgesFree}
use Rattle.mill_contact_cone.specs.inner.Positions.{ConeAt, flattened}
use Rattle.mill_contact_cone.proofs.Zones.{same_inside}
use Rattle.mill_contact_cone.proofs.SideCerts.{no_width, still_lifted, still_lifted_back, time_lifted, time_lifted_back, lift_near, lift_over, lift_steep, rise_still, steep_flat, near_flat}

both : (x y : ℤ) → x ≤ℤ y → y ≤ℤ x → x ≡ y
both x y h k = omega (arith, ints)

zero_or_not : (x : ℤ) → (x ≡ pos 0) ⊎ (x ≡ pos 0 → ⊥)
zero_or_not x = by (split_lt x (pos 0)) (split_lt (pos 0) x)
  where
    by : (x <ℤ pos 0) ⊎ ((pos 0) ≤ℤ x) → ((pos 0) <ℤ x) ⊎ (x ≤ℤ pos 0) → (x ≡ pos 0) ⊎ (x ≡ pos 0 → ⊥)
    by (inl l) m = inr (λ e. omega (arith, ints))
    by (inr l) (inl m) = inr (λ e. omega (arith, ints))
    by (inr l) (inr m) = inl (omega (arith, ints))

-- a change of weights that keeps the sum and y, and doesn't lower z
record Rise (a b c : Corner) : Type 0 where
  i : ℤ
  j : ℤ
  l : ℤ
  sum : (i +ℤ j) +ℤ l ≡ pos 0
  still : (i *ℤ a.y +ℤ j *ℤ b.y) +ℤ l *ℤ c.y ≡ pos 0
  rises : (pos 0) ≤ℤ ((i *ℤ a.z +ℤ j *ℤ b.z) +ℤ l *ℤ c.z)
  falls : (pos 0) ≤ℤ i → (pos 0) ≤ℤ j → (pos 0) ≤ℤ l → ⊥

zero_both : (x : ℤ) → x ≤ℤ pos 0 → (pos 0) ≤ℤ x → x ≡ pos 0
zero_both x h k = omega (arith, ints)

-- of weights that sum to 0 and aren't all 0, or their opposites
rise_of : (a b c : Corner) (i j l : ℤ) → (i +ℤ j) +ℤ l ≡ pos 0 → (i *ℤ a.y +ℤ j *ℤ b.y) +ℤ l *ℤ c.y ≡ pos 0 → (i ≡ pos 0 → j ≡ pos 0 → ⊥) → Rise a b c
rise_of a b c i j l e s n = elim (split_lt ((i *ℤ a.z +ℤ j *ℤ b.z) +ℤ l *ℤ c.z) (pos 0)) [
  | inl h ↦ record {
    i = pos 0 -ℤ i;
    j = pos 0 -ℤ j;
    l = pos 0 -ℤ l;
    sum = opposite_sum i j l e;
    still = zero_both _ (opp_zero i j l a.y b.y c.y s) (opp_zero2 i j l a.y b.y c.y s);
    rises = opp_rises i j l a.z b.z c.z (weaken _ h);
    falls = λ x y z. n (first_back i j l e x y z) (second_back i j l e x y z);
  }
  | inr h ↦ record { i = i; j = j; l = l; sum = e; still = s; rises = h; falls = λ x y z. n (first i j l e x y z) (second i j l e x y z) }
]
  where
    weaken : (x : ℤ) → x <ℤ pos 0 → x ≤ℤ pos 0
    weaken x h = omega (arith, ints)

    opposite_sum : (i j l : ℤ) → (i +ℤ j) +ℤ l ≡ pos 0 → ((pos 0 -ℤ i) +ℤ (pos 0 -ℤ j)) +ℤ (pos 0 -ℤ l) ≡ pos 0
    opposite_sum i j l e = omega (arith, ints)

    first : (i j l : ℤ) → (i +ℤ j) +ℤ l ≡ pos 0 → (pos 0) ≤ℤ i → (pos 0) ≤ℤ j → (pos 0) ≤ℤ l → i ≡ pos 0
    first i j l e x y z = omega (arith, ints)

    second : (i j l : ℤ) → (i +ℤ j) +ℤ l ≡ pos 0 → (pos 0) ≤ℤ i → (pos 0) ≤ℤ j → (pos 0) ≤ℤ l → j ≡ pos 0
    second i j l e x y z = omega (arith, ints)

    first_back : (i j l : ℤ) → (i +ℤ j) +ℤ l ≡ pos 0 → (pos 0) ≤ℤ (pos 0 -ℤ i) → (pos 0) ≤ℤ (pos 0 -ℤ j) → (pos 0) ≤ℤ (pos 0 -ℤ l) → i ≡ pos 0
    first_back i j l e x y z = omega (arith, ints)

    second_back : (i j l : ℤ) → (i +ℤ j) +ℤ l ≡ pos 0 → (pos 0) ≤ℤ (pos 0 -ℤ i) → (pos 0) ≤ℤ (pos 0 -ℤ j) → (pos 0) ≤ℤ (pos 0 -ℤ l) → j ≡ pos 0
    second_back i j l e x y z = omega (arith, ints)

-- there is such a change in each triangle
rise : (a b c : Corner) → Rise a b c
rise a b c = by (zero_or_not (b.y -ℤ c.y)) (zero_or_not (c.y -ℤ a.y))
  where
    sum : (x y z : ℤ) → ((y -ℤ z) +ℤ (z -ℤ x)) +ℤ (x -ℤ y) ≡ pos 0
    sum x y z = omega (arith, ints)

    plain_sum : (pos 1 +ℤ (pos 0 -ℤ pos 1)) +ℤ pos 0 ≡ pos 0
    plain_sum = omega (arith, ints)

    equal : (x y z : ℤ) → y -ℤ z ≡ pos 0 → z -ℤ x ≡ pos 0 → (pos 1 *ℤ x +ℤ (pos 0 -ℤ pos 1) *ℤ y) +ℤ pos 0 *ℤ z ≡ pos 0
    equal x y z e d = omega (arith, ints)

    one_not_zero : pos 1 ≡ pos 0 → ⊥
    one_not_zero e = omega (arith, ints)

    by : (b.y -ℤ c.y ≡ pos 0) ⊎ (b.y -ℤ c.y ≡ pos 0 → ⊥) → (c.y -ℤ a.y ≡ pos 0) ⊎ (c.y -ℤ a.y ≡ pos 0 → ⊥) → Rise a b c
    by (inr n) m = rise_of a b c (b.y -ℤ c.y) (c.y -ℤ a.y) (a.y -ℤ b.y) (sum a.y b.y c.y) (rise_still a.y b.y c.y) (λ x y. n x)
    by (inl e) (inr n) = rise_of a b c (b.y -ℤ c.y) (c.y -ℤ a.y) (a.y -ℤ b.y) (sum a.y b.y c.y) (rise_still a.y b.y c.y) (λ x y. n y)
    by (inl e) (inl d) = rise_of a b c (pos 1) (pos 0 -ℤ pos 1) (pos 0) plain_sum (equal a.y b.y c.y e d) (λ x y. one_not_zero x)

-- a point of the triangle of which some weight is 0 is on an edge
on_edge : (k : Cone) (a b c : Corner) → (t : TouchesCone k a b c) → (t.u ≡ pos 0) ⊎ ((t.v ≡ pos 0) ⊎ (t.w ≡ pos 0)) → EdgesFree k a b c → ⊥
on_edge k a b c t (inl e) free = free.bc (record {
  u = t.v;
  v = t.w;
  u_ok = t.v_ok;
  v_ok = t.w_ok;
  some = subst (λ s. (pos 0) <ℤ s) (rest t.u t.v t.w e) t.some;
  inside = same_inside k.radius k.rise k.run ((t.u +ℤ t.v) +ℤ t.w) (t.v +ℤ t.w) _ _ _ _ _ _ (rest t.u t.v t.w e) (gone_first a.x (t.v *ℤ b.x) (t.w *ℤ c.x) t.u e) (gone_first a.y (t.v *ℤ b.y) (t.w *ℤ c.y) t.u e)
      (gone_first a.z (t.v *ℤ b.z) (t.w *ℤ c.z) t.u e) t.inside;
})
  where
    rest : (u v w : ℤ) → u ≡ pos 0 → (u +ℤ v) +ℤ w ≡ v +ℤ w
    rest u v w e = omega (arith, ints)
on_edge k a b c t (inr (inl e)) free = free.ca (record {
  u = t.w;
  v = t.u;
  u_ok = t.w_ok;
  v_ok = t.u_ok;
  some = subst (λ s. (pos 0) <ℤ s) (rest t.u t.v t.w e) t.some;
  inside = same_inside k.radius k.rise k.run ((t.u +ℤ t.v) +ℤ t.w) (t.w +ℤ t.u) _ _ _ _ _ _ (rest t.u t.v t.w e) (gone_second (t.u *ℤ a.x) b.x (t.w *ℤ c.x) t.v e) (gone_second (t.u *ℤ a.y) b.y (t.w *ℤ c.y) t.v e)
      (gone_second (t.u *ℤ a.z) b.z (t.w *ℤ c.z) t.v e) t.inside;
})
  where
    rest : (u v w : ℤ) → v ≡ pos 0 → (u +ℤ v) +ℤ w ≡ w +ℤ u
    rest u v w e = omega (arith, ints)
on_edge k a b c t (inr (inr e)) free = free.ab (record {
  u = t.u;
  v = t.v;
  u_ok = t.u_ok;
  v_ok = t.v_ok;
  some = subst (λ s. (pos 0) <ℤ s) (rest t.u t.v t.w e) t.some;
  inside = same_inside k.radius k.rise k.run ((t.u +ℤ t.v) +ℤ t.w) (t.u +ℤ t.v) _ _ _ _ _ _ (rest t.u t.v t.w e) (gone_third (t.u *ℤ a.x) (t.v *ℤ b.x) c.x t.w e) (gone_third (t.u *ℤ a.y) (t.v *ℤ b.y) c.y t.w e)
      (gone_third (t.u *ℤ a.z) (t.v *ℤ b.z) c.z t.w e) t.inside;
})
  where
    rest : (u v w : ℤ) → w ≡ pos 0 → (u +ℤ v) +ℤ w ≡ u +ℤ v
    rest u v w e = omega (arith, ints)

-- a point that comes into the cutter, lifted in the triangle
lifted_edge : (k : Cone) (a b c : Corner) → TouchesCone k (flattened a) (flattened b) (flattened c) → Rise a b c → EdgesFree k (flattened a) (flattened b) (flattened c) → ⊥
lifted_edge k a b c t r free = by (exit (record { now = t.u; rate = r.i } ∷ (record { now = t.v; rate = r.j } ∷ (record { now = t.w; rate = r.l } ∷ []))) (t.u_ok, (t.v_ok, (t.w_ok, tt))))
  where
    by : NeverFalls (record { now = t.u; rate = r.i } ∷ (record { now = t.v; rate = r.j } ∷ (record { now = t.w; rate = r.l } ∷ [])))
        ⊎ Exit (record { now = t.u; rate = r.i } ∷ (record { now = t.v; rate = r.j } ∷ (record { now = t.w; rate = r.l } ∷ []))) → ⊥
    by (inl n) = r.falls n.0 n.1.0 n.1.1.0
    by (inr e) =
        let u = e.q *ℤ t.u +ℤ e.p *ℤ r.i in
        let v = e.q *ℤ t.v +ℤ e.p *ℤ r.j in
        let w = e.q *ℤ t.w +ℤ e.p *ℤ r.l in
        let m = mean3 t.u t.v t.w (plain (flattened a)) (plain (flattened b)) (plain (flattened c)) in
        let n = (t.u +ℤ t.v) +ℤ t.w in
        let g = (r.i *ℤ a.z +ℤ r.j *ℤ b.z) +ℤ r.l *ℤ c.z in
        let x = (mean3 u v w (plain (flattened a)) (plain (flattened b)) (plain (flattened c))).x in
        let time = both _ _ (time_lifted_back e.q e.p t.u t.v t.w r.i r.j r.l r.sum) (time_lifted e.q e.p t.u t.v t.w r.i r.j r.l r.sum) in
        let here : InCone k.radius k.rise k.run (e.q *ℤ n) (record { x = x; y = e.q *ℤ m.y; z = e.q *ℤ m.z +ℤ e.p *ℤ g }) = record {
          near = lift_near m.x m.y e.q k.radius n x (no_width u v w) t.inside.near e.q_ok;
          over = lift_over e.q m.z e.p g e.q_ok t.inside.over e.p_ok r.rises;
          steep = lift_steep m.x m.y m.z e.q e.p g k.rise k.run x (no_width u v w) t.inside.steep e.q_ok t.inside.over e.p_ok r.rises;
        } in
        on_edge k (flattened a) (flattened b) (flattened c) (record {
          u = u;
          v = v;
          w = w;
          u_ok = e.fine.0;
          v_ok = e.fine.1.0;
          w_ok = e.fine.1.1.0;
          some = subst (λ s. (pos 0) <ℤ s) time (mul_pos-ℤ e.q n e.q_ok t.some);
          inside = same_inside k.radius k.rise k.run (e.q *ℤ n) ((u +ℤ v) +ℤ w) _ _ _ _ _ _ time (same x)
              (both _ _ (still_lifted_back e.q e.p t.u t.v t.w r.i r.j r.l a.y b.y c.y r.still) (still_lifted e.q e.p t.u t.v t.w r.i r.j r.l a.y b.y c.y r.still))
              (sym (lin e.q e.p t.u t.v t.w r.i r.j r.l a.z b.z c.z)) here;
        }) (gone e.gone) free
      where
        same : (x : ℤ) → x ≡ x
        same x = omega (arith, ints)

        gone : {x y z : Type 0} → x ⊎ (y ⊎ (z ⊎ ⊥)) → x ⊎ (y ⊎ z)
        gone (inl h) = inl h
        gone (inr (inl h)) = inr (inl h)
        gone (inr (inr (inl h))) = inr (inr h)
        gone (inr (inr (inr h))) = absurd h

-- a touch at any position comes into the cutter
pub flat_touch : (k : Cone) (a b c : Corner) (t : ℤ) → ConeAt k a b c t → TouchesCone k (flattened a) (flattened b) (flattened c)
flat_touch k a b c t v = record {
  u = v.u;
  v = v.v;
  w = v.w;
  u_ok = v.u_ok;
  v_ok = v.v_ok;
  w_ok = v.w_ok;
  some = v.some;
  inside = record {
    near = near_flat _ (mean3 v.u v.v v.w (plain (flattened a)) (plain (flattened b)) (plain (flattened c))).x _ _ (no_width v.u v.v v.w) v.inside.near;
    over = v.inside.over;
    steep = steep_flat _ (mean3 v.u v.v v.w (plain (flattened a)) (plain (flattened b)) (plain (flattened c))).x _ _ k.rise k.run (no_width v.u v.v v.w) v.inside.steep;
  };
}

-- where no edge comes into the cutter, no point of the triangle does, at any position
pub seen_never : (k : Cone) (a b c : Corner) → EdgesFree k (flattened a) (flattened b) (flattened c) → (t : ℤ) → ConeAt k a b c t → ⊥
seen_never k a b c free t v = lifted_edge k a b c (flat_touch k a b c t v) (rise a b c) free
