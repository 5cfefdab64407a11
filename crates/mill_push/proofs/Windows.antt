-- The window of a triangle: what it has over the fiber's height is within the cutter's reach there alone.
use Rattle.std.proofs.Common.{◌≡◌, ◌<◌, ◌≤◌, w32, FitsSigned, refl, ap, sym, subst, arith}
use Rattle.std.specs.Prelude.{nat_abs}
use Rattle.std.specs.Int.{int_min, int_max}
use Rattle.std.proofs.lemmas.Int.{ints, by_lt_z, fits_signed_from_abs}
use lib.IntN.{ℤ, pos, ◌+ℤ◌, ◌-ℤ◌, ◌*ℤ◌}
use lib.Signed.{◌<ℤ◌, ◌≤ℤ◌}
use Rattle.mill_base.specs.Numbers.{Within, greater}
use Rattle.mill_base.specs.Sizes.{IsCutter, radius_of}
use Rattle.mill_base.specs.Contact.{Touches}
use Rattle.mill_base.specs.declared.limits.TheConstants.{MAX_COORDINATE}
use Rattle.mill_base.specs.declared.points.Pt3.{Pt3}
use Rattle.mill_base.specs.declared.points.Tri.{Tri}
use Rattle.mill_base.specs.declared.cutter.Cutter.{Cutter}
use Rattle.mill_base.proofs.Integers.{one-mul-ℤ}
use Rattle.mill_shape.proofs.Holding.{IsAround, holds_over_tip}
use Rattle.mill_geom.specs.Extents.{IsExtentOver, IsPlaceIn, place_along}
use Rattle.mill_geom.specs.declared.extent.Extent.{Extent}
use Rattle.mill_geom.specs.declared.touch.Axis.{Axis}
use Rattle.mill_geom.specs.declared.touch.Axis.TheVariants.{X, Y}
use Rattle.mill_push.specs.declared.fiber.Fiber.{Fiber}
use Rattle.mill_push.specs.Fibers.{IsTouched, place_on, tip_on}
use Rattle.mill_push.specs.inner.Known.{IsRunInRange, IsWindow}
use Rattle.mill_push.specs.inner.Reaches.{IsReach, IsReachForTri}
use Rattle.mill_push.specs.inner.Windows.{other_than}
use Rattle.mill_push.proofs.Meeting.{height_on, held_around, mean_under, side_down, side_up}
use Rattle.mill_push.proofs.NearCerts.{reaches_down, reaches_up}
use Rattle.mill_push.proofs.Pushing.{has_radius, most_radius}
use Rattle.mill_push.proofs.Stored.{through}

-- a reach for all up to the greatest of the corners' heights is one for what the triangle has
pub reach_by_top : (cutter : Cutter) (tri : Tri) (z top reach : ℤ) → top ≡ greater tri.a.z (greater tri.b.z tri.c.z) → IsReach cutter (top -ℤ z) reach → IsReachForTri cutter z reach tri
reach_by_top cutter tri z top reach e h = record {
  top = top;
  under = subst (λ (t : ℤ). (tri.a.z ≤ℤ t) × (tri.b.z ≤ℤ t) × (tri.c.z ≤ℤ t)) (sym e) (greatest tri.a.z tri.b.z tri.c.z);
  holds = h;
}
  where
    greatest : (a b c : ℤ) → (a ≤ℤ greater a (greater b c)) × (b ≤ℤ greater a (greater b c)) × (c ≤ℤ greater a (greater b c))
    greatest a b c = grind (arith, ints)

-- it is no more than the greatest radius
pub most_for_tri : (cutter : Cutter) (z reach : ℤ) (tri : Tri) → IsCutter cutter → IsReachForTri cutter z reach tri → reach ≤ℤ pos 10000
most_for_tri cutter z reach tri ok h = through reach (radius_of cutter) (pos 10000) h.holds.most (most_radius cutter ok)

-- a reach less and more than a coordinate fits
pub fits_about : (r x : ℤ) → (pos 1) ≤ℤ r → r ≤ℤ pos 10000 → Within MAX_COORDINATE x → FitsSigned w32 (x -ℤ r) × FitsSigned w32 (x +ℤ r)
fits_about r x some most h =
    (fits_signed_from_abs w32 (x -ℤ r) (less x r h.within some most), fits_signed_from_abs w32 (x +ℤ r) (small x r h.within some most))
  where
    less : (x r : ℤ) → nat_abs x ≤ 524287 → (pos 1) ≤ℤ r → r ≤ℤ pos 10000 → nat_abs (x -ℤ r) < 2147483648
    less x r h a b = omega (arith, ints)

    small : (x r : ℤ) → nat_abs x ≤ 524287 → (pos 1) ≤ℤ r → r ≤ℤ pos 10000 → nat_abs (x +ℤ r) < 2147483648
    small x r h a b = omega (arith, ints)

-- the window's ends are in range
pub window_ok : (r from to low high : ℤ) → (pos 1) ≤ℤ r → Within MAX_COORDINATE from → Within MAX_COORDINATE to → Within MAX_COORDINATE low → Within MAX_COORDINATE high
    → IsRunInRange (record { first = int_max from (low -ℤ r); last = int_min to (high +ℤ r) })
window_ok r from to low high some h k l m = record {
  first_ok = record { within = most from low r h.within l.within some };
  last_ok = record { within = least to high r k.within m.within some };
}
  where
    most : (from low r : ℤ) → nat_abs from ≤ 524287 → nat_abs low ≤ 524287 → (pos 1) ≤ℤ r → nat_abs (int_max from (low -ℤ r)) ≤ 524287
    most from low r h l a = grind (arith, ints)

    least : (to high r : ℤ) → nat_abs to ≤ 524287 → nat_abs high ≤ 524287 → (pos 1) ≤ℤ r → nat_abs (int_min to (high +ℤ r)) ≤ 524287
    least to high r h l a = grind (arith, ints)

-- a mean of places in an extent that is nearer to x than r: x is no farther from the extent
near_extent : (n x r p : ℤ) (extent : Extent) → (pos 0) <ℤ n → (p -ℤ n *ℤ x) <ℤ (r *ℤ n) → (n *ℤ x -ℤ p) <ℤ (r *ℤ n) → IsPlaceIn extent n p → ((extent.first -ℤ r) ≤ℤ x) × (x ≤ℤ (extent.last +ℤ r))
near_extent n x r p extent some up down place = (
  by_lt_z extent.first (x +ℤ r) (λ less. low extent.first x r less) (λ ge. absurd (reaches_up n x r p extent.first some up place.after ge)),
  by_lt_z (x -ℤ r) extent.last (λ less. high extent.last x r less) (λ ge. absurd (reaches_down n x r p extent.last some down place.before ge)),
)
  where
    low : (a x r : ℤ) → a <ℤ (x +ℤ r) → (a -ℤ r) ≤ℤ x
    low a x r h = omega (arith, ints)

    high : (a x r : ℤ) → (x -ℤ r) <ℤ a → x ≤ℤ (a +ℤ r)
    high a x r h = omega (arith, ints)

-- the tip of a cutter that touches a triangle is within the reach of what the triangle has over it
touching_near : (cutter : Cutter) (tri : Tri) (tip : Pt3) (r : ℤ) (axis : Axis) (extent : Extent) → IsCutter cutter → IsReachForTri cutter tip.z r tri → IsExtentOver axis tip.z tri extent
    → Touches cutter (pos 1) tip tri → ((extent.first -ℤ r) ≤ℤ place_along axis tip) × (place_along axis tip ≤ℤ (extent.last +ℤ r))
touching_near cutter tri tip r axis extent ok reach holds t =
    let k = t.point in
    let low = mean_under k.u k.v k.w t.n tri.a.z tri.b.z tri.c.z t.p.z reach.top k.u_ok k.v_ok k.w_ok k.weights (ap (λ (q : Pt3). q.z) k.place) reach.under in
    let around = held_around cutter tip t.n t.p reach.top r k.some reach.holds low t.inside in
    let over = subst (λ (z : ℤ). (t.n *ℤ tip.z) <ℤ z) (one-mul-ℤ t.p.z) (holds_over_tip cutter (pos 1) tip t.n t.p (has_radius cutter ok) (omega (arith, ints)) k.some t.inside) in
    by axis around (holds t.n t.p k over)
  where
    by : (axis : Axis) → IsAround (r *ℤ (pos 1 *ℤ t.n)) (pos 1 *ℤ t.p.x -ℤ t.n *ℤ tip.x) (pos 1 *ℤ t.p.y -ℤ t.n *ℤ tip.y) → IsPlaceIn extent t.n (place_along axis t.p)
        → ((extent.first -ℤ r) ≤ℤ place_along axis tip) × (place_along axis tip ≤ℤ (extent.last +ℤ r))
    by X around place =
        near_extent t.n tip.x r t.p.x extent t.point.some (side_up t.p.x (pos 1 *ℤ t.p.x) t.n tip.x (pos 1 *ℤ t.n) r (one-mul-ℤ t.p.x) (one-mul-ℤ t.n) around.east)
        (side_down t.p.x (pos 1 *ℤ t.p.x) t.n tip.x (pos 1 *ℤ t.n) r (one-mul-ℤ t.p.x) (one-mul-ℤ t.n) around.west) place
    by Y around place =
        near_extent t.n tip.y r t.p.y extent t.point.some (side_up t.p.y (pos 1 *ℤ t.p.y) t.n tip.y (pos 1 *ℤ t.n) r (one-mul-ℤ t.p.y) (one-mul-ℤ t.n) around.north)
        (side_down t.p.y (pos 1 *ℤ t.p.y) t.n tip.y (pos 1 *ℤ t.n) r (one-mul-ℤ t.p.y) (one-mul-ℤ t.n) around.south) place

-- where a tip of the fiber stands along it, and across it
place_along_it : (axis : Axis) (at z v : ℤ) → place_along axis (place_on axis at z v) ≡ v
place_along_it X at z v = refl
place_along_it Y at z v = refl

place_across_it : (axis : Axis) (at z v : ℤ) → place_along (other_than axis) (place_on axis at z v) ≡ at
place_across_it X at z v = refl
place_across_it Y at z v = refl

module _ (cutter : Cutter) (tri : Tri) (fiber : Fiber) (r : ℤ) (ok : IsCutter cutter) (reach : IsReachForTri cutter fiber.z r tri) where
  touched_near : (axis : Axis) (extent : Extent) (v : ℤ) → IsExtentOver axis fiber.z tri extent → IsTouched cutter tri fiber v
      → ((extent.first -ℤ r) ≤ℤ place_along axis (tip_on fiber v)) × (place_along axis (tip_on fiber v) ≤ℤ (extent.last +ℤ r))
  touched_near axis extent v holds t =
      let height = height_on fiber.axis fiber.at fiber.z v in
      touching_near cutter tri (tip_on fiber v) r axis extent ok (subst (λ (z : ℤ). IsReachForTri cutter z r tri) (sym height) reach)
      (subst (λ (z : ℤ). IsExtentOver axis z tri extent) (sym height) holds) t

  -- a triangle whose part over the height is farther beside the fiber is touched nowhere
  module _ (extent : Extent) (v : ℤ) (holds : IsExtentOver (other_than fiber.axis) fiber.z tri extent) where
    pub beside_before : fiber.at <ℤ (extent.first -ℤ r) → ¬ IsTouched cutter tri fiber v
    beside_before h t = against fiber.at (extent.first -ℤ r) (subst (λ (a : ℤ). (extent.first -ℤ r) ≤ℤ a) (place_across_it fiber.axis fiber.at fiber.z v) (touched_near (other_than fiber.axis) extent v holds t).0) h
      where
        against : (a b : ℤ) → b ≤ℤ a → a <ℤ b → ⊥
        against a b h k = omega (arith, ints)

    pub beside_after : (extent.last +ℤ r) <ℤ fiber.at → ¬ IsTouched cutter tri fiber v
    beside_after h t = against (extent.last +ℤ r) fiber.at (subst (λ (a : ℤ). a ≤ℤ (extent.last +ℤ r)) (place_across_it fiber.axis fiber.at fiber.z v) (touched_near (other_than fiber.axis) extent v holds t).1) h
      where
        against : (a b : ℤ) → b ≤ℤ a → a <ℤ b → ⊥
        against a b h k = omega (arith, ints)

  -- the triangle's window
  pub window_is : (from to : ℤ) (extent : Extent) → IsExtentOver fiber.axis fiber.z tri extent → IsWindow cutter tri fiber from to (record { first = int_max from (extent.first -ℤ r); last = int_min to (extent.last +ℤ r) })
  window_is from to extent holds = record {
    after = grind (arith, ints);
    within = grind (arith, ints);
    before = λ v a b t. under from (extent.first -ℤ r) v (subst (λ (x : ℤ). (extent.first -ℤ r) ≤ℤ x) (place_along_it fiber.axis fiber.at fiber.z v) (touched_near fiber.axis extent v holds t).0) a b;
    beyond = λ v a b t. over to (extent.last +ℤ r) v (subst (λ (x : ℤ). x ≤ℤ (extent.last +ℤ r)) (place_along_it fiber.axis fiber.at fiber.z v) (touched_near fiber.axis extent v holds t).1) a b;
  }
    where
      under : (from low v : ℤ) → low ≤ℤ v → from ≤ℤ v → v <ℤ int_max from low → ⊥
      under from low v a b c = grind (arith, ints)

      over : (to high v : ℤ) → v ≤ℤ high → int_min to high <ℤ v → v ≤ℤ to → ⊥
      over to high v a b c = grind (arith, ints)
