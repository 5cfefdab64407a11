-- Sums and differences of bounded numbers, as the program stores them in 64 bits.
use Rattle.std.proofs.Common.{◌≡◌, ℕ, ◌^◌, ◌≤◌, true, false, [], ◌∷◌, refl, sym, ap, ◌∙◌, arith, FitsSigned, to_z, of_z}
use Rattle.std.proofs.lemmas.Int.{ints, by_lt_z}
use mir.Syntax.{w32, w64}
use lib.IntN.{ℤ, pos, negsuc, nat_abs, ◌+ℤ◌, ◌-ℤ◌, ◌*ℤ◌}
use lib.Signed.{◌<ℤ◌, ◌≤ℤ◌, lt_z}
use Rattle.mill_base.specs.Numbers.{Within}
use Rattle.mill_base.specs.declared.limits.TheConstants.{MAX_COORDINATE}
use Rattle.mill_base.proofs.Ranges.{coordinate}
use Rattle.mill_base.proofs.Machine.{X, Read, Lit, Sum, Diff, stored, roomy, exact, stays, sum_fits, diff_fits, kept}
use Rattle.mill_part.specs.inner.Columns.{weigh}

-- the bounds of a coordinate
pub coordinate_bounds : (z : ℤ) → Within MAX_COORDINATE z → (negsuc 524286 ≤ℤ z) × (z ≤ℤ pos 524287)
coordinate_bounds z h = let k = h.within in (omega (arith, ints), omega (arith, ints))

-- the number before a coordinate is stored as it is
pub next_lower : (z : ℤ) → Within MAX_COORDINATE z → stored w32 (stored w32 z -ℤ pos 1) ≡ z -ℤ pos 1
next_lower z h = exact (z ∷ []) (524287 ∷ []) (Diff w32 (Read w32 0) (Lit (pos 1))) (h.within, tt) refl

-- so is a band, and so are the ends of the stretch that it reaches about a coordinate
band_within : (b : ℤ) → (pos 0) ≤ℤ b → b ≤ℤ pos 10000 → nat_abs b ≤ 10000
band_within b least most = omega (arith, ints)

pub band_kept : (b : ℤ) → (pos 0) ≤ℤ b → b ≤ℤ pos 10000 → stored w32 b ≡ b
band_kept b least most = kept w32 b 10000 (band_within b least most) refl

pub less_band : (z b : ℤ) → Within MAX_COORDINATE z → (pos 0) ≤ℤ b → b ≤ℤ pos 10000 → stored w32 (stored w32 z -ℤ stored w32 b) ≡ z -ℤ b
less_band z b h least most = exact (z ∷ b ∷ []) (524287 ∷ 10000 ∷ []) (Diff w32 (Read w32 0) (Read w32 1)) (h.within, (band_within b least most, tt)) refl

pub more_band : (z b : ℤ) → Within MAX_COORDINATE z → (pos 0) ≤ℤ b → b ≤ℤ pos 10000 → stored w32 (stored w32 z +ℤ stored w32 b) ≡ z +ℤ b
more_band z b h least most = exact (z ∷ b ∷ []) (524287 ∷ 10000 ∷ []) (Sum w32 (Read w32 0) (Read w32 1)) (h.within, (band_within b least most, tt)) refl

-- three numbers, and one of them less another
abbrev pub sum3 : X
sum3 = Sum w64 (Sum w64 (Read w64 0) (Read w64 1)) (Read w64 2)

pub sum3_is : (m : ℕ) (a b c : ℤ) → Within m a → Within m b → Within m c → roomy (m ∷ m ∷ m ∷ []) sum3 ≡ true
    → stored w64 (stored w64 (stored w64 a +ℤ stored w64 b) +ℤ stored w64 c) ≡ (a +ℤ b) +ℤ c
sum3_is m a b c ha hb hc room = exact (a ∷ b ∷ c ∷ []) (m ∷ m ∷ m ∷ []) sum3 (ha.within, (hb.within, (hc.within, tt))) room

pub sum3_fits : (m : ℕ) (a b c : ℤ) → Within m a → Within m b → Within m c → roomy (m ∷ m ∷ m ∷ []) sum3 ≡ true
    → FitsSigned w64 (stored w64 (stored w64 a +ℤ stored w64 b) +ℤ stored w64 c)
sum3_fits m a b c ha hb hc room =
    sum_fits w64 (a ∷ b ∷ c ∷ []) (m ∷ m ∷ m ∷ []) (Sum w64 (Read w64 0) (Read w64 1)) (Read w64 2) (ha.within, (hb.within, (hc.within, tt))) room

abbrev pub less2 : X
less2 = Diff w64 (Read w64 0) (Read w64 1)

pub less2_is : (m : ℕ) (a b : ℤ) → Within m a → Within m b → roomy (m ∷ m ∷ []) less2 ≡ true → stored w64 (stored w64 a -ℤ stored w64 b) ≡ a -ℤ b
less2_is m a b ha hb room = exact (a ∷ b ∷ []) (m ∷ m ∷ []) less2 (ha.within, (hb.within, tt)) room

pub less2_fits : (m : ℕ) (a b : ℤ) → Within m a → Within m b → roomy (m ∷ m ∷ []) less2 ≡ true → FitsSigned w64 (stored w64 a -ℤ stored w64 b)
less2_fits m a b ha hb room = diff_fits w64 (a ∷ b ∷ []) (m ∷ m ∷ []) (Read w64 0) (Read w64 1) (ha.within, (hb.within, tt)) room

-- a turn is stored as it is
pub turn_kept : (z : ℤ) → Within (2 ^ 41) z → stored w64 z ≡ z
turn_kept z h = kept w64 z (2 ^ 41) h.within refl

-- the opposite of a turn
pub minus_is : (a : ℤ) → Within (2 ^ 41) a → stored w64 (pos 0 -ℤ stored w64 a) ≡ pos 0 -ℤ a
minus_is a h = exact (a ∷ []) (2 ^ 41 ∷ []) (Diff w64 (Lit (pos 0)) (Read w64 0)) (h.within, tt) refl

pub minus_within : (a : ℤ) → Within (2 ^ 41) a → Within (2 ^ 41) (stored w64 (pos 0 -ℤ stored w64 a))
minus_within a h = record { within = stays (a ∷ []) (2 ^ 41 ∷ []) (Diff w64 (Lit (pos 0)) (Read w64 0)) (2 ^ 41) (h.within, tt) refl }

-- a weighted height, and the sum of three
pub weighted_is : (u z p : ℤ) → Within (2 ^ 41) u → Within MAX_COORDINATE z → p ≡ stored w64 u *ℤ stored w32 z → p ≡ u *ℤ z
weighted_is u z p hu hz e = rw (kept w64 u (2 ^ 41) hu.within refl, coordinate z hz) at e

pub heights_are : (u v w a b c p q r : ℤ) → Within (2 ^ 60) p → Within (2 ^ 60) q → Within (2 ^ 60) r → p ≡ u *ℤ a → q ≡ v *ℤ b → r ≡ w *ℤ c
    → stored w64 (stored w64 (stored w64 p +ℤ stored w64 q) +ℤ stored w64 r) ≡ weigh u v w a b c
heights_are u v w a b c p q r hp hq hr ep eq er = sum3_is (2 ^ 60) p q r hp hq hr refl ∙ rw (ep, eq, er) refl

-- the sign of a sum as it is tested
pub positive_total : (u v w : ℤ) → Within (2 ^ 41) u → Within (2 ^ 41) v → Within (2 ^ 41) w
    → lt_z (pos 0) (stored w64 (stored w64 (stored w64 u +ℤ stored w64 v) +ℤ stored w64 w)) ≡ true
    → (pos 0) <ℤ ((stored w64 u +ℤ stored w64 v) +ℤ stored w64 w)
positive_total u v w hu hv hw test =
    let total = rw (sum3_is (2 ^ 41) u v w hu hv hw refl) at test in
    rw (turn_kept u hu, turn_kept v hv, turn_kept w hw) (positive ((u +ℤ v) +ℤ w) total)
  where
    positive : (t : ℤ) → lt_z (pos 0) t ≡ true → (pos 0) <ℤ t
    positive t e = omega (arith, ints)

pub negative_total : (u v w : ℤ) → Within (2 ^ 41) u → Within (2 ^ 41) v → Within (2 ^ 41) w
    → lt_z (stored w64 (stored w64 (stored w64 u +ℤ stored w64 v) +ℤ stored w64 w)) (pos 0) ≡ true
    → (pos 0) <ℤ ((stored w64 (pos 0 -ℤ stored w64 u) +ℤ stored w64 (pos 0 -ℤ stored w64 v)) +ℤ stored w64 (pos 0 -ℤ stored w64 w))
negative_total u v w hu hv hw test =
    let total = rw (sum3_is (2 ^ 41) u v w hu hv hw refl) at test in
    rw (minus_is u hu, minus_is v hv, minus_is w hw) (negative u v w total)
  where
    negative : (u v w : ℤ) → lt_z ((u +ℤ v) +ℤ w) (pos 0) ≡ true → (pos 0) <ℤ (((pos 0 -ℤ u) +ℤ (pos 0 -ℤ v)) +ℤ (pos 0 -ℤ w))
    negative u v w e = omega (arith, ints)

pub zero_total : (u v w : ℤ) → Within (2 ^ 41) u → Within (2 ^ 41) v → Within (2 ^ 41) w
    → lt_z (pos 0) (stored w64 (stored w64 (stored w64 u +ℤ stored w64 v) +ℤ stored w64 w)) ≡ false
    → lt_z (stored w64 (stored w64 (stored w64 u +ℤ stored w64 v) +ℤ stored w64 w)) (pos 0) ≡ false
    → ((u +ℤ v) +ℤ w) ≡ pos 0
zero_total u v w hu hv hw over under =
    let total = sum3_is (2 ^ 41) u v w hu hv hw refl in
    zero ((u +ℤ v) +ℤ w) (rw total at over) (rw total at under)
  where
    zero : (t : ℤ) → lt_z (pos 0) t ≡ false → lt_z t (pos 0) ≡ false → t ≡ pos 0
    zero t e f = omega (arith, ints)

-- a turn whose bits are 0
pub zero_turn : (z : ℤ) → Within (2 ^ 41) z → of_z w64 z ≡ 0 → z ≡ pos 0
zero_turn z h e = sym (turn_kept z h) ∙ ap (to_z w64) e

-- where the sum and two of three turns are 0, so is the third
pub third_is_0 : (u v w : ℤ) → ((u +ℤ v) +ℤ w) ≡ pos 0 → u ≡ pos 0 → v ≡ pos 0 → w ≡ pos 0
third_is_0 u v w total eu ev = omega (arith, ints)

-- a place along a line is stored as it is, and its distance to another
pub place : (z : ℤ) → Within (2 ^ 20) z → stored w64 z ≡ z
place z h = kept w64 z (2 ^ 20) h.within refl

pub wider : (z : ℤ) → Within (2 ^ 20) z → Within (2 ^ 41) z
wider z h = let k = h.within in record { within = omega arith }

-- numbers with the same bits are the same
pub same_place : (a b : ℤ) → Within (2 ^ 20) a → Within (2 ^ 20) b → of_z w64 a ≡ of_z w64 b → a ≡ b
same_place a b ha hb e = sym (place a ha) ∙ ap (to_z w64) e ∙ place b hb

-- what a comparison of stored numbers says
pub over_0 : (a : ℤ) → Within (2 ^ 20) a → lt_z (pos 0) (stored w64 a) ≡ true → (pos 0) <ℤ a
over_0 a h test = let k = rw (place a h) at test in omega (arith, ints, k)

pub not_over_0 : (a : ℤ) → Within (2 ^ 20) a → lt_z (pos 0) (stored w64 a) ≡ false → a ≤ℤ pos 0
not_over_0 a h test = let k = rw (place a h) at test in omega (arith, ints, k)

pub under_0 : (a : ℤ) → Within (2 ^ 20) a → lt_z (stored w64 a) (pos 0) ≡ true → a <ℤ pos 0
under_0 a h test = let k = rw (place a h) at test in omega (arith, ints, k)

pub not_under_0 : (a : ℤ) → Within (2 ^ 20) a → lt_z (stored w64 a) (pos 0) ≡ false → (pos 0) ≤ℤ a
not_under_0 a h test = let k = rw (place a h) at test in omega (arith, ints, k)

-- the heights of two ends, each weighted by the other's place
pub between_are : (a b y z p q : ℤ) → Within (2 ^ 20) a → Within (2 ^ 20) b → Within MAX_COORDINATE y → Within MAX_COORDINATE z → Within (2 ^ 60) p → Within (2 ^ 60) q
    → p ≡ stored w64 b *ℤ stored w32 y → q ≡ stored w64 a *ℤ stored w32 z → stored w64 (stored w64 p -ℤ stored w64 q) ≡ b *ℤ y -ℤ a *ℤ z
between_are a b y z p q ha hb hy hz hp hq ep eq =
    less2_is (2 ^ 60) p q hp hq refl ∙ rw (weighted_is b y p (wider b hb) hy ep, weighted_is a z q (wider a ha) hz eq) refl

-- ends at one place, which isn't before or after the column, are on it; others lie apart
pub level_places : (a b : ℤ) → a ≡ b → a ≤ℤ pos 0 → (pos 0) ≤ℤ b → (a ≡ pos 0) × (b ≡ pos 0)
level_places a b same lo hi = (omega (arith, ints, same), omega (arith, ints, same))

pub apart_places : (a b : ℤ) → (of_z w64 a ≡ of_z w64 b → ⊥) → a ≤ℤ b → a <ℤ b
apart_places a b differ le = by_lt_z a b (λ less. less) (λ ge. absurd (differ (ap (of_z w64) (equal a b le ge))))
  where
    equal : (a b : ℤ) → a ≤ℤ b → b ≤ℤ a → a ≡ b
    equal a b le ge = omega (arith, ints)
