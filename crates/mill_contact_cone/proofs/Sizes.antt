-- The magnitudes of a cone's numbers.
use Rattle.std.proofs.Common.{◌≡◌, ◌≤◌, refl, ◌∙◌, arith, w32}
use lib.IntN.{ℤ, pos, nat_abs}
use lib.Signed.{◌<ℤ◌, ◌≤ℤ◌}
use Rattle.std.proofs.lemmas.Int.{ints}
use Rattle.mill_base.proofs.Machine.{stored, kept}
use Rattle.mill_base.specs.Sizes.{HasRadius, IsSlope}
use Rattle.mill_base.specs.declared.limits.TheConstants.{MAX_WIDE_RADIUS}
use Rattle.mill_base.specs.declared.cutter.Cutter.TheVariants.{Cone as ConeCutter}
use Rattle.mill_contact_cone.specs.declared.corner.Cone.{Cone}
use Rattle.mill_geom.specs.Widths.{widest}
use Rattle.mill_contact_cone.specs.inner.Widths.{steepest}
use Rattle.mill_contact_cone.specs.Cones.{IsCone}

within_widest : (x : ℤ) → (pos 1) ≤ℤ x → x ≤ℤ MAX_WIDE_RADIUS → nat_abs x ≤ widest
within_widest x h k = omega (arith, ints)

within_steepest : (x : ℤ) → (pos 1) ≤ℤ x → x ≤ℤ pos 100 → nat_abs x ≤ steepest
within_steepest x h k = omega (arith, ints)

positive : (x : ℤ) → (pos 1) ≤ℤ x → (pos 0) <ℤ x
positive x h = omega (arith, ints)

pub radius_within : (k : Cone) → IsCone k → nat_abs k.radius ≤ widest
radius_within k h = within_widest k.radius h.radius_ok.least h.radius_ok.within

pub rise_within : (k : Cone) → IsCone k → nat_abs k.rise ≤ steepest
rise_within k h = within_steepest k.rise h.slope_ok.rise h.slope_ok.rise_most

pub run_within : (k : Cone) → IsCone k → nat_abs k.run ≤ steepest
run_within k h = within_steepest k.run h.slope_ok.run h.slope_ok.run_most

pub radius_positive : (k : Cone) → IsCone k → (pos 0) <ℤ k.radius
radius_positive k h = positive k.radius h.radius_ok.least

pub rise_positive : (k : Cone) → IsCone k → (pos 0) <ℤ k.rise
rise_positive k h = positive k.rise h.slope_ok.rise

pub run_positive : (k : Cone) → IsCone k → (pos 0) <ℤ k.run
run_positive k h = positive k.run h.slope_ok.run

-- the cone's numbers are those of the cutter
pub same_cutter : (k : Cone) (r a b : ℤ) → HasRadius r MAX_WIDE_RADIUS → IsSlope a b → k.radius ≡ stored w32 r → k.rise ≡ stored w32 a → k.run ≡ stored w32 b
    → ConeCutter k.radius k.rise k.run ≡ ConeCutter r a b
same_cutter k r a b hr hs er ea eb =
    same _ _ _ _ _ _ (er ∙ kept w32 r widest (within_widest r hr.least hr.within) refl) (ea ∙ kept w32 a steepest (within_steepest a hs.rise hs.rise_most) refl)
    (eb ∙ kept w32 b steepest (within_steepest b hs.run hs.run_most) refl)
  where
    same : (r a b s x y : ℤ) → r ≡ s → a ≡ x → b ≡ y → ConeCutter r a b ≡ ConeCutter s x y
    same r a b s x y e f g = cc
