-- A number within its width is stored as it is.
use Rattle.std.proofs.Common.{◌≡◌, ℕ, ◌^◌, true, ltb, refl, arith, w32, w64}
use mir.Syntax.{Width, w128}
use mir.Val.{hbits}
use lib.IntN.{ℤ, pos}
use lib.Signed.{◌<ℤ◌}
use Rattle.std.proofs.lemmas.Int.{ints}
use Rattle.mill_base.specs.Numbers.{Within}
use Rattle.mill_base.specs.Sizes.{HasRadius}
use Rattle.mill_base.specs.declared.limits.TheConstants.{MAX_WIDE_RADIUS}
use Rattle.mill_base.proofs.Machine.{kept, stored}
use Rattle.mill_geom.specs.Widths.{farthest, widest, most_area, most_lift, most_volume, most_form}

pub kept_in : (w : Width) (m : ℕ) (z : ℤ) → Within m z → ltb m (2 ^ hbits w) ≡ true → stored w z ≡ z
kept_in w m z h fits = kept w z m h.within fits

pub place_kept : (x : ℤ) → Within farthest x → stored w64 x ≡ x
place_kept x h = kept w64 x farthest h.within refl

pub radius_kept : (r : ℤ) → Within widest r → stored w64 r ≡ r
radius_kept r h = kept w64 r widest h.within refl

pub lift_kept : (z : ℤ) → Within most_lift z → stored w64 z ≡ z
lift_kept z h = kept w64 z most_lift h.within refl

pub area_kept : (k : ℤ) → Within most_area k → stored w64 k ≡ k
area_kept k h = kept w64 k most_area h.within refl

pub volume_kept : (v : ℤ) → Within most_volume v → stored w64 v ≡ v
volume_kept v h = kept w64 v most_volume h.within refl

pub form_kept : (k : ℤ) → Within most_form k → stored w128 k ≡ k
form_kept k h = kept w128 k most_form h.within refl

-- ---- the radius of a cutter, from 32 bits to 64

pub radius_in : (r : ℤ) → HasRadius r MAX_WIDE_RADIUS → Within widest r
radius_in r h = record { within = let least = h.least in let most = h.within in omega (arith, ints) }

pub radius_some : (r : ℤ) → HasRadius r MAX_WIDE_RADIUS → (pos 0) <ℤ r
radius_some r h = let least = h.least in omega (arith, ints)

pub given_kept : (r : ℤ) → HasRadius r MAX_WIDE_RADIUS → stored w32 r ≡ r
given_kept r h = kept w32 r widest (radius_in r h).within refl

-- what is read of the widened number is the radius
pub radius_read : (wide r : ℤ) → wide ≡ stored w32 r → HasRadius r MAX_WIDE_RADIUS → stored w64 wide ≡ r
radius_read wide r same h = rw (same, given_kept r h) (radius_kept r (radius_in r h))
