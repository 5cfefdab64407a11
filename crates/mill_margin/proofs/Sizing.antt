-- The sizes of cutters with another radius, and that sums of them fit the machine's numbers.
use Rattle.std.specs.Prelude.{◌≡◌, ℤ, pos, ◌+ℤ◌, ◌-ℤ◌, ◌*ℤ◌, ◌<ℤ◌, ◌≤ℤ◌}
use Rattle.std.proofs.Common.{[], ◌∷◌, refl, subst, arith, w32}
use Rattle.std.proofs.lemmas.Int.{ints}
use Rattle.mill_base.proofs.Range.{Bounded}
use Rattle.mill_base.proofs.Machine.{Read, Sum, Diff, exact, kept, stored}
use Rattle.mill_base.specs.Sizes.{HasRadius, IsCutter, IsSlope, radius_of, with_radius}
use Rattle.mill_base.specs.Solids.{IsLift}
use Rattle.mill_base.specs.declared.limits.TheConstants.{LOWEST_LIFT, MAX_COORDINATE, MAX_RADIUS}
use Rattle.mill_base.specs.declared.cutter.Cutter.{Cutter}
use Rattle.mill_base.specs.declared.cutter.Cutter.TheVariants.{Flat, Ball, Cone}
use Rattle.mill_margin.specs.Margins.{IsMargin, offset_of}

pub radius_ok : (cutter : Cutter) → IsCutter cutter → HasRadius (radius_of cutter) MAX_RADIUS
radius_ok (Flat r) ok = ok
radius_ok (Ball r) ok = ok
radius_ok (Cone r a b) ok = ok.0

pub resized_ok : (cutter : Cutter) (r : ℤ) → IsCutter cutter → HasRadius r MAX_RADIUS → IsCutter (with_radius cutter r)
resized_ok (Flat q) r ok size = size
resized_ok (Ball q) r ok size = size
resized_ok (Cone q a b) r ok size = (size, ok.1)

pub greater_radius : (r s : ℤ) → HasRadius r MAX_RADIUS → (pos 0) ≤ℤ s → (r +ℤ s) ≤ℤ MAX_RADIUS → HasRadius (r +ℤ s) MAX_RADIUS
greater_radius r s size hs most = let least = size.least in record { least = omega (arith, ints); within = most }

pub lesser_radius : (r s : ℤ) → HasRadius r MAX_RADIUS → (pos 0) ≤ℤ s → s <ℤ r → HasRadius (r -ℤ s) MAX_RADIUS
lesser_radius r s size hs less = let most = size.within in record { least = omega (arith, ints); within = omega (arith, ints) }

-- in 32 bits nothing of a slope's numbers or of an offset is lost
pub rise_kept : (a b : ℤ) → IsSlope a b → stored w32 a ≡ a
rise_kept a b slope = kept w32 a 100 (let least = slope.rise in let most = slope.rise_most in omega (arith, ints)) refl

pub run_kept : (a b : ℤ) → IsSlope a b → stored w32 b ≡ b
run_kept a b slope = kept w32 b 100 (let least = slope.run in let most = slope.run_most in omega (arith, ints)) refl

pub offset_kept : (o s : ℤ) → IsMargin s → s ≤ℤ o → o ≤ℤ (pos 17 *ℤ s) → stored w32 o ≡ o
offset_kept o s margin above under = kept w32 o 8500 (let least = margin.least in let most = margin.most in omega (arith, ints)) refl

-- nor of a radius with a margin
module _ (cutter : Cutter) (s : ℤ) {made : Cutter} {r : ℤ} (same : made ≡ cutter) (ok : IsCutter made) (margin : IsMargin s) (radius : r ≡ radius_of made) where
  size : HasRadius (radius_of cutter) MAX_RADIUS
  size = radius_ok cutter (subst IsCutter same ok)

  radius_bounds : Bounded (radius_of cutter ∷ s ∷ []) (10000 ∷ 500 ∷ [])
  radius_bounds =
      let least = size.least in
      let most = size.within in
      let least_s = margin.least in
      let most_s = margin.most in
      (omega (arith, ints), (omega (arith, ints), tt))

  pub wide_is : with_radius made (stored w32 (stored w32 r +ℤ stored w32 s)) ≡ with_radius cutter (radius_of cutter +ℤ s)
  wide_is = rw (radius, same, exact (radius_of cutter ∷ s ∷ []) (10000 ∷ 500 ∷ []) (Sum w32 (Read w32 0) (Read w32 1)) radius_bounds refl) refl

  pub wide_ok : (radius_of cutter +ℤ s) ≤ℤ MAX_RADIUS → IsCutter (with_radius made (stored w32 (stored w32 r +ℤ stored w32 s)))
  wide_ok most = rw wide_is (resized_ok cutter (radius_of cutter +ℤ s) (subst IsCutter same ok) (greater_radius (radius_of cutter) s size margin.least most))

  pub narrow_is : with_radius made (stored w32 (stored w32 r -ℤ stored w32 s)) ≡ with_radius cutter (radius_of cutter -ℤ s)
  narrow_is = rw (radius, same, exact (radius_of cutter ∷ s ∷ []) (10000 ∷ 500 ∷ []) (Diff w32 (Read w32 0) (Read w32 1)) radius_bounds refl) refl

  pub narrow_ok : s <ℤ radius_of cutter → IsCutter (with_radius made (stored w32 (stored w32 r -ℤ stored w32 s)))
  narrow_ok less = rw narrow_is (resized_ok cutter (radius_of cutter -ℤ s) (subst IsCutter same ok) (lesser_radius (radius_of cutter) s size margin.least less))

-- nor of a lift with an offset
module _ (cutter : Cutter) (l s : ℤ) {made : Cutter} {k o : ℤ} (same : made ≡ cutter) (still : k ≡ l) (lift : IsLift k) (margin : IsMargin s)
    (offset : o ≡ offset_of made (stored w32 s)) (above : stored w32 s ≤ℤ o) (under : o ≤ℤ (pos 17 *ℤ stored w32 s)) where
  -- the margin is stored as it is
  margin_kept : stored w32 s ≡ s
  margin_kept = kept w32 s 500 (let least = margin.least in let most = margin.most in omega (arith, ints)) refl

  offset_is : o ≡ offset_of cutter s
  offset_is = rw (same, margin_kept) at offset

  least : s ≤ℤ o
  least = rw margin_kept at above

  most : o ≤ℤ (pos 17 *ℤ s)
  most = rw margin_kept at under

  shift_bounds : Bounded (k ∷ o ∷ []) (524287 ∷ 8500 ∷ [])
  shift_bounds =
      let low = lift.least in
      let high = lift.within in
      let least_s = margin.least in
      let most_s = margin.most in
      let least_o = least in
      let most_o = most in
      (omega (arith, ints), (omega (arith, ints), tt))

  pub low_is : stored w32 (stored w32 k -ℤ stored w32 o) ≡ l -ℤ offset_of cutter s
  low_is = rw (← still, ← offset_is) (exact (k ∷ o ∷ []) (524287 ∷ 8500 ∷ []) (Diff w32 (Read w32 0) (Read w32 1)) shift_bounds refl)

  pub low_ok : LOWEST_LIFT ≤ℤ (l -ℤ offset_of cutter s) → IsLift (stored w32 (stored w32 k -ℤ stored w32 o))
  low_ok low =
      let top = lift.within in
      let least_s = margin.least in
      let least_o = least in
      let down : (k -ℤ o) ≤ℤ pos MAX_COORDINATE = omega (arith, ints) in
      rw low_is (record { least = low; within = rw (still, offset_is) at down })

  pub high_is : stored w32 (stored w32 k +ℤ stored w32 o) ≡ l +ℤ offset_of cutter s
  high_is = rw (← still, ← offset_is) (exact (k ∷ o ∷ []) (524287 ∷ 8500 ∷ []) (Sum w32 (Read w32 0) (Read w32 1)) shift_bounds refl)

  pub high_ok : (l +ℤ offset_of cutter s) ≤ℤ pos MAX_COORDINATE → IsLift (stored w32 (stored w32 k +ℤ stored w32 o))
  high_ok high =
      let bottom = lift.least in
      let least_s = margin.least in
      let least_o = least in
      let up : LOWEST_LIFT ≤ℤ (k +ℤ o) = omega (arith, ints) in
      rw high_is (record { least = rw (still, offset_is) at up; within = high })
