-- What the code computes of a leaf, stored in its widths, is what the definitions say.
use Rattle.std.specs.Prelude.{◌≡◌, ℕ, ◌+◌, ◌-◌, ◌*◌, ◌/◌, ◌^◌, ◌<◌, ◌≤◌, max, nat_abs, ℤ, pos, negsuc, ◌+ℤ◌, ◌-ℤ◌, ◌*ℤ◌}
use Rattle.std.specs.Int.{div_ceil, int_min}
use Rattle.std.proofs.Common.{[], ◌∷◌, refl, sym, ap, subst, ◌∙◌, arith, to_z, w64}
use Rattle.std.proofs.Math.Nat.{div-eq_of_lt-le}
use Rattle.std.proofs.lemmas.Grind.{div_ceil_times}
use Rattle.std.proofs.lemmas.Int.{to_z_pos}
use Rattle.std.proofs.lemmas.Nat.{pow_pos}
use lib.Signed.{shr_z}
use Rattle.mill_base.proofs.Divisions.{half_within}
use Rattle.mill_base.proofs.Machine.{Read, Lit, Sum, Prod, exact, kept, stored}
use Rattle.mill_base.specs.Numbers.{floor_div, round_half_up, lesser}
use Rattle.mill_base.specs.declared.limits.TheConstants.{MAX_COORDINATE, MAX_DEPTH}
use Rattle.mill_sweep.proofs.Spans.{parts_twice, parts_small, parts_most, end_small, tip_end_small, far_within, max_most, quotient_within, lesser_within}
use Rattle.mill_sweep.specs.Widths.{longest, end_depth, farthest_end, highest_end, highest_tip}

-- a shift to the right is a quotient rounded down
pub shift_is : (z : ℤ) (n : ℕ) → shr_z z n ≡ floor_div z n
shift_is (pos a) n = refl
shift_is (negsuc a) n = refl

-- the nearest whole number to an end
pub nearest_is : (end : ℤ) (d parts : ℕ) → nat_abs end ≤ 2 ^ d * MAX_COORDINATE → d ≤ end_depth → parts ≡ 2 ^ d
    → shr_z (stored w64 (stored w64 (pos 2 *ℤ stored w64 end) +ℤ to_z w64 parts)) (2 ^ (d + 1)) ≡ round_half_up end (2 ^ d)
nearest_is end d parts within less e =
    shift_is _ (2 ^ (d + 1))
    ∙ ap (λ t. floor_div t (2 ^ (d + 1))) doubled
    ∙ ap (λ (n : ℕ). floor_div (pos 2 *ℤ end +ℤ pos (2 ^ d)) n) (parts_twice d)
  where
    small : parts ≤ 2 ^ end_depth
    small = subst (λ n. n ≤ 2 ^ end_depth) (sym e) (parts_most d less)

    doubled : stored w64 (stored w64 (pos 2 *ℤ stored w64 end) +ℤ to_z w64 parts) ≡ pos 2 *ℤ end +ℤ pos (2 ^ d)
    doubled =
        ap (λ t. stored w64 (stored w64 (pos 2 *ℤ stored w64 end) +ℤ t)) (to_z_pos w64 parts (let most = small in omega arith) ∙ sym (kept w64 (pos parts) (2 ^ end_depth) small refl))
        ∙ exact (end ∷ pos parts ∷ []) (farthest_end ∷ 2 ^ end_depth ∷ []) (Sum w64 (Prod w64 (Lit (pos 2)) (Read w64 0)) (Read w64 1)) (end_small (nat_abs end) d less within, (small, tt)) refl
        ∙ ap (λ (n : ℕ). pos 2 *ℤ end +ℤ pos n) e

pub nearest_within : (end : ℤ) (d : ℕ) → nat_abs end ≤ 2 ^ d * MAX_COORDINATE → nat_abs (round_half_up end (2 ^ d)) ≤ MAX_COORDINATE
nearest_within end d within = half_within end (2 ^ d) MAX_COORDINATE (pow_pos d) within

-- the sum of two ends
pub sum_is : (first last : ℤ) (d : ℕ) → nat_abs first ≤ 2 ^ d * MAX_COORDINATE → nat_abs last ≤ 2 ^ d * MAX_COORDINATE → d ≤ MAX_DEPTH → stored w64 (stored w64 first +ℤ stored w64 last) ≡ first +ℤ last
sum_is first last d f l less = exact (first ∷ last ∷ []) (farthest_end ∷ farthest_end ∷ []) (Sum w64 (Read w64 0) (Read w64 1)) (end_small (nat_abs first) d (omega arith) f, (end_small (nat_abs last) d (omega arith) l, tt)) refl

-- a quotient rounded up
pub up_is : (a n : ℕ) → 0 < n → (a + (n - 1)) / n ≡ div_ceil a n
up_is a n h = by (div_ceil a n) (div_ceil_times a n h)
  where
    by : (q : ℕ) → (a ≤ q * n) × (q * n < a + n) → (a + (n - 1)) / n ≡ q
    by q p = div-eq_of_lt-le {k = q} n {m = a + (n - 1)} (let least = p.1 in omega arith) (let most = p.0 in omega arith)

-- how far the farther of two ends is from a whole place
pub farther_is : (first last middle place : ℤ) (d a b m : ℕ) → nat_abs first ≤ 2 ^ d * MAX_COORDINATE → nat_abs last ≤ 2 ^ d * MAX_COORDINATE → d ≤ MAX_DEPTH → nat_abs place ≤ highest_end
    → place ≡ pos (2 ^ d) *ℤ middle → a ≡ nat_abs (stored w64 first -ℤ stored w64 place) → b ≡ nat_abs (stored w64 last -ℤ stored w64 place) → m ≡ max a b
    → m ≡ max (nat_abs (first -ℤ pos (2 ^ d) *ℤ middle)) (nat_abs (last -ℤ pos (2 ^ d) *ℤ middle))
farther_is first last middle place d a b m f l less small ep ea eb em =
    em
    ∙ rw (ea, eb, kept w64 first farthest_end (end_small (nat_abs first) d (omega arith) f) refl, kept w64 last farthest_end (end_small (nat_abs last) d (omega arith) l) refl, kept w64 place highest_end small refl, ep) refl

-- it is bounded
pub farther_small : (first last middle : ℤ) (d : ℕ) → nat_abs first ≤ 2 ^ d * MAX_COORDINATE → nat_abs last ≤ 2 ^ d * MAX_COORDINATE → nat_abs middle ≤ MAX_COORDINATE → d ≤ MAX_DEPTH
    → max (nat_abs (first -ℤ pos (2 ^ d) *ℤ middle)) (nat_abs (last -ℤ pos (2 ^ d) *ℤ middle)) ≤ longest * 2 ^ MAX_DEPTH
farther_small first last middle d f l m less =
    let most = max_most _ _ (longest * 2 ^ d) (far_within first middle (2 ^ d) f m) (far_within last middle (2 ^ d) l m) in
    let parts = parts_small d less in
    by (2 ^ d) most parts
  where
    by : {x : ℕ} (n : ℕ) → x ≤ longest * n → n ≤ 2 ^ MAX_DEPTH → x ≤ longest * 2 ^ MAX_DEPTH
    by n h k = omega arith

-- the lower of two ends
pub lower_is : (first last z : ℤ) (d : ℕ) → nat_abs first ≤ 2 ^ d * highest_tip → nat_abs last ≤ 2 ^ d * highest_tip → d ≤ MAX_DEPTH → z ≡ int_min (stored w64 first) (stored w64 last)
    → (floor_div z (2 ^ d) ≡ floor_div (lesser first last) (2 ^ d)) × (nat_abs z ≤ highest_end) × (nat_abs (floor_div z (2 ^ d)) ≤ highest_tip)
lower_is first last z d f l less ez =
    let first_small = tip_end_small (nat_abs first) d (omega arith) f in
    let last_small = tip_end_small (nat_abs last) d (omega arith) l in
    let low : z ≡ int_min first last = ez ∙ rw (kept w64 first highest_end first_small refl, kept w64 last highest_end last_small refl) refl in
    (rw low refl, rw low (lesser_within first last highest_end first_small last_small), rw low (quotient_within (lesser first last) (2 ^ d) highest_tip (pow_pos d) (lesser_within first last (2 ^ d * highest_tip) f l)))
