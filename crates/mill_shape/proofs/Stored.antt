-- Numbers that fit the width in which the code stores them are stored as they are.
use Rattle.std.specs.Prelude.{◌≡◌, ℕ, ◌^◌, ◌≤◌, ltb, true, false, ◌+◌, ℤ, pos, ◌<ℤ◌, ◌≤ℤ◌, nat_abs, IsTrue}
use Rattle.std.proofs.Common.{◌∙◌, refl, subst, to_z, arith}
use Rattle.std.proofs.lemmas.Int.{ints, to_z_pos}
use lib.Signed.{lt_z, le_z}
use mir.Syntax.{w32, w64, w128}
use Rattle.mill_base.proofs.Machine.{stored, kept}
use Rattle.mill_base.specs.Numbers.{Within}
use Rattle.mill_base.specs.Sizes.{HasRadius, IsSlope}
use Rattle.mill_base.specs.declared.limits.TheConstants.{LOWEST_TIP, MAX_COORDINATE, MAX_WIDE_RADIUS}
use Rattle.mill_shape.specs.declared.height.TheConstants.{HIGHEST_TIP}
use Rattle.mill_shape.specs.Widths.{greatest_radius, length_width, tip_width, rise_width}

-- in 128 bits: a comparison of what is stored is one of the numbers
pub less_yes : (a b : ℤ) (m k : ℕ) → Within m a → Within k b → ltb m (2 ^ 127) ≡ true → ltb k (2 ^ 127) ≡ true → IsTrue (lt_z (stored w128 a) (stored w128 b)) → a <ℤ b
less_yes a b m k fits_a fits_b room_a room_b h = from (subst (λ t. IsTrue (lt_z t (stored w128 b))) (kept w128 a m fits_a.within room_a) h)
  where
    from : IsTrue (lt_z a (stored w128 b)) → a <ℤ b
    from t = let less = subst (λ t. IsTrue (lt_z a t)) (kept w128 b k fits_b.within room_b) t in omega (arith, ints)

pub less_no : (a b : ℤ) (m k : ℕ) → Within m a → Within k b → ltb m (2 ^ 127) ≡ true → ltb k (2 ^ 127) ≡ true → lt_z (stored w128 a) (stored w128 b) ≡ false → b ≤ℤ a
less_no a b m k fits_a fits_b room_a room_b h = from (subst (λ t. lt_z t (stored w128 b) ≡ false) (kept w128 a m fits_a.within room_a) h)
  where
    from : lt_z a (stored w128 b) ≡ false → b ≤ℤ a
    from t = let less = subst (λ t. lt_z a t ≡ false) (kept w128 b k fits_b.within room_b) t in omega (arith, ints)

-- in 64 bits: a test of the sign of what is stored is one of the number
pub not_negative : (a : ℤ) → Within length_width a → le_z (pos 0) (stored w64 a) ≡ true → (pos 0) ≤ℤ a
not_negative a fits h = let test : le_z (pos 0) a ≡ true = rw (kept w64 a length_width fits.within refl) at h in omega (arith, ints)

pub negative : (a : ℤ) → Within length_width a → le_z (pos 0) (stored w64 a) ≡ false → a <ℤ (pos 0)
negative a fits h = let test : le_z (pos 0) a ≡ false = rw (kept w64 a length_width fits.within refl) at h in omega (arith, ints)

-- a factor that was widened to 128 bits is the factor, and as small
pub widened : (x factor : ℤ) → x ≡ stored w32 factor → Within 100 factor → x ≡ factor
widened x factor e small = e ∙ kept w32 factor 100 small.within refl

pub widened_within : (x factor : ℤ) → x ≡ stored w32 factor → Within 100 factor → nat_abs x ≤ 100
widened_within x factor e small = rw (widened x factor e small) small.within

-- in 32 bits: the sizes of a cutter
pub radius_kept : (r : ℤ) → HasRadius r MAX_WIDE_RADIUS → stored w32 r ≡ r
radius_kept r h = kept w32 r greatest_radius (omega (arith, ints)) refl

pub rise_kept : (a b : ℤ) → IsSlope a b → stored w32 a ≡ a
rise_kept a b h = kept w32 a 100 (let least = h.rise in let most = h.rise_most in omega (arith, ints)) refl

pub run_kept : (a b : ℤ) → IsSlope a b → stored w32 b ≡ b
run_kept a b h = kept w32 b 100 (let least = h.run in let most = h.run_most in omega (arith, ints)) refl

-- in 32 bits: a rise of the surface, which is computed without a sign
pub natural_kept : (n : ℕ) → n ≤ rise_width → to_z w32 n ≡ pos n
natural_kept n h = to_z_pos w32 n (let most : n ≤ 2097152 = h in omega arith)

pub radius_bound : (r : ℤ) (n : ℕ) → HasRadius r MAX_WIDE_RADIUS → n ≤ nat_abs r → n ≤ rise_width
radius_bound r n size under = let least = size.least in let most = size.within in omega (arith, ints)

-- in 32 bits: a tip's height and a rise over it, whose sum is stored
pub tip_small : (z : ℤ) → LOWEST_TIP ≤ℤ z → z ≤ℤ HIGHEST_TIP → nat_abs z ≤ tip_width
tip_small z least most = omega (arith, ints)

pub rise_small : (z : ℤ) → pos 0 ≤ℤ z → z ≤ℤ pos rise_width → nat_abs z ≤ rise_width
rise_small z least most = omega (arith, ints)
