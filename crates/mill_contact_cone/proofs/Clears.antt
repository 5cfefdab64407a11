-- What the box of the corners and the corners alone show of a triangle and the cone cutter.
use Rattle.std.proofs.Common.{◌≡◌, true, false, refl, sym, subst, arith}
use lib.IntN.{ℤ, pos, ◌+ℤ◌, ◌*ℤ◌}
use lib.Signed.{◌<ℤ◌, ◌≤ℤ◌, lt_z, le_z}
use Rattle.std.proofs.lemmas.Int.{ints}
use Rattle.mill_geom.specs.declared.offset.Offset.{Offset}
use Rattle.mill_geom.specs.Offsets.{mean3}
use Rattle.mill_geom.specs.Gaps.{AllApart, AllUpTo}
use Rattle.mill_contact_cone.specs.declared.corner.Cone.{Cone}
use Rattle.mill_contact_cone.specs.declared.corner.Corner.{Corner}
use Rattle.mill_contact_cone.specs.Cones.{plain, TouchesEdge, TouchesCone}
use Rattle.mill_contact_cone.specs.inner.Clears.{apart_of, across_of, upward_of, HoldsCorner}
use Rattle.mill_contact_cone.proofs.Zones.{same_inside}
use Rattle.mill_contact_cone.proofs.Whole.{zero_ok}
use Rattle.mill_contact_cone.proofs.ClearCerts.{low_box, far_box, wall_box, corner_weights, corner_near, edge_weights}

-- no corner is over the tip
pub low_clear : (k : Cone) (a b c : Corner) (top : ℤ) → AllUpTo top (plain a) (plain b) (plain c) → top ≤ℤ pos 0 → TouchesCone k a b c → ⊥
low_clear k a b c top under h t = low_box _ top ((t.u +ℤ t.v) +ℤ t.w) t.some h t.inside.over (under t.u t.v t.w t.u_ok t.v_ok t.w_ok)

-- the box is at least the radius from the axis
pub far_clear : (k : Cone) (a b c : Corner) (gap : ℤ) → AllApart gap (plain a) (plain b) (plain c) → (k.radius *ℤ k.radius) ≤ℤ gap → TouchesCone k a b c → ⊥
far_clear k a b c gap apart h t =
    far_box (mean3 t.u t.v t.w (plain a) (plain b) (plain c)).x (mean3 t.u t.v t.w (plain a) (plain b) (plain c)).y gap k.radius ((t.u +ℤ t.v) +ℤ t.w) h
    (apart t.u t.v t.w t.u_ok t.v_ok t.w_ok) t.inside.near

-- a point as high as the highest corner and as near as the box isn't over the wall
pub wall_clear : (k : Cone) (a b c : Corner) (top gap : ℤ) → AllUpTo top (plain a) (plain b) (plain c) → AllApart gap (plain a) (plain b) (plain c)
    → upward_of k top ≤ℤ across_of k gap → TouchesCone k a b c → ⊥
wall_clear k a b c top gap under apart h t =
    wall_box (mean3 t.u t.v t.w (plain a) (plain b) (plain c)).x (mean3 t.u t.v t.w (plain a) (plain b) (plain c)).y (mean3 t.u t.v t.w (plain a) (plain b) (plain c)).z gap top
    ((t.u +ℤ t.v) +ℤ t.w) k.rise k.run t.inside.over (under t.u t.v t.w t.u_ok t.v_ok t.w_ok) (apart t.u t.v t.w t.u_ok t.v_ok t.w_ok) h t.inside.steep

one_some : (pos 0) <ℤ ((pos 1 +ℤ pos 0) +ℤ pos 0)
one_some = omega (arith, ints)

one_ok : (pos 0) ≤ℤ pos 1
one_ok = omega (arith, ints)

-- a corner inside
pub corner_touch : (k : Cone) (a b c : Corner) → HoldsCorner k a → TouchesCone k a b c
corner_touch k a b c h = record {
  u = pos 1;
  v = pos 0;
  w = pos 0;
  u_ok = one_ok;
  v_ok = zero_ok;
  w_ok = zero_ok;
  some = one_some;
  inside = same_inside k.radius k.rise k.run (pos 1) ((pos 1 +ℤ pos 0) +ℤ pos 0) _ _ _ _ _ _ refl (sym (corner_weights a.x b.x c.x)) (sym (corner_weights a.y b.y c.y))
      (sym (corner_weights a.z b.z c.z)) (record { near = corner_near _ k.radius h.near; over = h.over; steep = h.steep });
}

edge_some : (pos 0) <ℤ (pos 1 +ℤ pos 0)
edge_some = omega (arith, ints)

-- the first end inside
pub corner_edge : (k : Cone) (p q : Corner) → HoldsCorner k p → TouchesEdge k p q
corner_edge k p q h = record {
  u = pos 1;
  v = pos 0;
  u_ok = one_ok;
  v_ok = zero_ok;
  some = edge_some;
  inside = same_inside k.radius k.rise k.run (pos 1) (pos 1 +ℤ pos 0) _ _ _ _ _ _ refl (sym (edge_weights p.x q.x)) (sym (edge_weights p.y q.y)) (sym (edge_weights p.z q.z))
      (record { near = corner_near _ k.radius h.near; over = h.over; steep = h.steep });
}

-- ---- as the program compares them

at_most : (x y : ℤ) → le_z x y ≡ true → x ≤ℤ y
at_most x y e = omega (e, arith, ints)

less : (x y : ℤ) → lt_z x y ≡ true → x <ℤ y
less x y e = omega (e, arith, ints)

greater : (x y : ℤ) → le_z x y ≡ false → y <ℤ x
greater x y e = omega (e, arith, ints)

not_less : (x y : ℤ) → lt_z x y ≡ false → y ≤ℤ x
not_less x y e = omega (e, arith, ints)

clash : (x y : ℤ) → x ≤ℤ y → y <ℤ x → ⊥
clash x y h k = omega (arith, ints)

-- the offsets are those of the corners
pub record Offsets (p q s : Offset) (a b c : Corner) : Type 0 where
  pub a_is : p ≡ plain a
  pub b_is : q ≡ plain b
  pub c_is : s ≡ plain c

plain_under : (p q s : Offset) (a b c : Corner) (top : ℤ) → Offsets p q s a b c → AllUpTo top p q s → AllUpTo top (plain a) (plain b) (plain c)
plain_under p q s a b c top o under =
    subst (λ x. AllUpTo top (plain a) (plain b) x) o.c_is (subst (λ x. AllUpTo top (plain a) x s) o.b_is (subst (λ x. AllUpTo top x q s) o.a_is under))

plain_apart : (p q s : Offset) (a b c : Corner) (gap : ℤ) → Offsets p q s a b c → AllApart gap p q s → AllApart gap (plain a) (plain b) (plain c)
plain_apart p q s a b c gap o apart =
    subst (λ x. AllApart gap (plain a) (plain b) x) o.c_is (subst (λ x. AllApart gap (plain a) x s) o.b_is (subst (λ x. AllApart gap x q s) o.a_is apart))

pub low_shown : (k : Cone) (p q s : Offset) (a b c : Corner) (top : ℤ) → Offsets p q s a b c → AllUpTo top p q s → le_z top (pos 0) ≡ true → TouchesCone k a b c → ⊥
low_shown k p q s a b c top o under e = low_clear k a b c top (plain_under p q s a b c top o under) (at_most _ _ e)

pub far_shown : (k : Cone) (p q s : Offset) (a b c : Corner) (gap radius : ℤ) → Offsets p q s a b c → AllApart gap p q s → radius ≡ k.radius *ℤ k.radius → le_z radius gap ≡ true → TouchesCone k a b c → ⊥
far_shown k p q s a b c gap radius o apart er e = far_clear k a b c gap (plain_apart p q s a b c gap o apart) (subst (λ r. r ≤ℤ gap) er (at_most _ _ e))

pub wall_shown : (k : Cone) (p q s : Offset) (a b c : Corner) (top gap upward across : ℤ) → Offsets p q s a b c → AllUpTo top p q s → AllApart gap p q s
    → upward ≡ upward_of k top → across ≡ across_of k gap → le_z upward across ≡ true → TouchesCone k a b c → ⊥
wall_shown k p q s a b c top gap upward across o under apart eu ea e =
    wall_clear k a b c top gap (plain_under p q s a b c top o under) (plain_apart p q s a b c gap o apart) (subst (λ r. r ≤ℤ across_of k gap) eu (subst (λ r. upward ≤ℤ r) ea (at_most _ _ e)))

pub corner_shown : (k : Cone) (p : Corner) (apart radius across upward : ℤ) → apart ≡ apart_of p → radius ≡ k.radius *ℤ k.radius → across ≡ across_of k apart → upward ≡ upward_of k p.z
    → le_z p.z (pos 0) ≡ false → le_z radius apart ≡ false → lt_z across upward ≡ true → HoldsCorner k p
corner_shown k p apart radius across upward ep er ea eu over near steep = record {
  over = greater _ _ over;
  near = subst (λ r. apart_of p <ℤ r) er (subst (λ r. r <ℤ radius) ep (greater _ _ near));
  steep = subst (λ r. across_of k r <ℤ upward_of k p.z) ep (subst (λ r. across_of k apart <ℤ r) eu (subst (λ r. r <ℤ upward) ea (less _ _ steep)));
}

-- a corner that isn't shown to be inside isn't
pub corner_low : (k : Cone) (p : Corner) → le_z p.z (pos 0) ≡ true → HoldsCorner k p → ⊥
corner_low k p e h = clash _ _ (at_most _ _ e) h.over

pub corner_far : (k : Cone) (p : Corner) (apart radius : ℤ) → apart ≡ apart_of p → radius ≡ k.radius *ℤ k.radius → le_z radius apart ≡ true → HoldsCorner k p → ⊥
corner_far k p apart radius ep er e h = clash _ _ (subst (λ r. r ≤ℤ apart_of p) er (subst (λ r. radius ≤ℤ r) ep (at_most _ _ e))) h.near

pub corner_flat : (k : Cone) (p : Corner) (apart across upward : ℤ) → apart ≡ apart_of p → across ≡ across_of k apart → upward ≡ upward_of k p.z → lt_z across upward ≡ false → HoldsCorner k p → ⊥
corner_flat k p apart across upward ep ea eu e h =
    clash _ _ (subst (λ r. upward_of k p.z ≤ℤ across_of k r) ep (subst (λ r. upward_of k p.z ≤ℤ r) ea (subst (λ r. r ≤ℤ across) eu (not_less _ _ e)))) h.steep
