-- How often a move is halved, and where its samples stand: what the code computes of them is what the definitions say.
use Rattle.std.specs.Prelude.{◌≡◌, ℕ, suc, ◌+◌, ◌-◌, ◌*◌, ◌^◌, ◌<◌, ◌≤◌, nat_eq, nat_le, bit_and, nat_abs, Bool, true, false, ℤ, pos, negsuc, neg_ℤ, ◌-ℤ◌, ◌≤ℤ◌}
use Rattle.std.proofs.Common.{[], ◌∷◌, refl, sym, ap, subst, ◌∙◌, arith, w64}
use Rattle.std.proofs.Math.Nat.{div-le_of_le-mul, div-lt_iff_lt-mul}
use Rattle.std.proofs.lemmas.Int.{ints}
use Rattle.std.proofs.lemmas.Nat.{pow_pos, and_mask}
use lib.Signed.{shr_z}
use Rattle.mill_base.proofs.Machine.{Read, Lit, Diff, exact, stored}
use Rattle.mill_base.specs.Numbers.{floor_div, divides, least_from, Within}
use Rattle.mill_base.specs.declared.limits.TheConstants.{MAX_COORDINATE}
use Rattle.mill_base.specs.declared.motion.Move.{Move}
use Rattle.mill_sweep.specs.Leaves.{length_x, length_y}
use Rattle.mill_sweep.specs.Widths.{longest, end_depth, farthest_end}
use Rattle.mill_dexel.specs.Samples.{is_split, straight_split_of}

-- the least number that passes a test: this one, or one from the next on
found : (test : ℕ → Bool) (more start : ℕ) → test start ≡ true → least_from test (suc more) start ≡ start
found test more start passes = by (test start) passes
  where
    by : (b : Bool) → b ≡ true → (elim b as (λ _. ℕ) [ true ↦ start | false ↦ least_from test more (start + 1) ]) ≡ start
    by true e = refl
    by false e = cc

passed : (test : ℕ → Bool) (more start : ℕ) → test start ≡ false → least_from test (suc more) start ≡ least_from test more (start + 1)
passed test more start fails = by (test start) fails
  where
    by : (b : Bool) → b ≡ false → (elim b as (λ _. ℕ) [ true ↦ start | false ↦ least_from test more (start + 1) ]) ≡ least_from test more (start + 1)
    by true e = cc
    by false e = refl

-- what the code tests is the test of the definition
tested : (sample : ℤ) (m : Move) (s length d : ℕ) (b : Bool) → s ≡ nat_abs sample → length ≡ length_x m + length_y m → b ≡ nat_le length (s * 2 ^ d) → b ≡ is_split sample m d
tested sample m s length d b es el eb = rw (eb, es, el) refl

pub split_found : (sample : ℤ) (m : Move) (s length d : ℕ) (b : Bool) → s ≡ nat_abs sample → length ≡ length_x m + length_y m → b ≡ nat_le length (s * 2 ^ d) → b ≡ true → d < end_depth
    → least_from (is_split sample m) (64 - d) d ≡ straight_split_of sample m → d ≡ straight_split_of sample m
split_found sample m s length d b es el eb passes less so_far =
    let left : 64 - d ≡ suc (63 - d) = omega arith in
    sym (found (is_split sample m) (63 - d) d (sym (tested sample m s length d b es el eb) ∙ passes))
    ∙ ap (λ (n : ℕ). least_from (is_split sample m) n d) (sym left)
    ∙ so_far

pub split_passed : (sample : ℤ) (m : Move) (s length d : ℕ) (b : Bool) → s ≡ nat_abs sample → length ≡ length_x m + length_y m → b ≡ nat_le length (s * 2 ^ d) → b ≡ false → d < end_depth
    → least_from (is_split sample m) (64 - d) d ≡ straight_split_of sample m → least_from (is_split sample m) (64 - (d + 1)) (d + 1) ≡ straight_split_of sample m
split_passed sample m s length d b es el eb fails less so_far =
    let left : 64 - d ≡ suc (63 - d) = omega arith in
    let rest : 64 - (d + 1) ≡ 63 - d = omega arith in
    ap (λ (n : ℕ). least_from (is_split sample m) n (d + 1)) rest
    ∙ sym (passed (is_split sample m) (63 - d) d (sym (tested sample m s length d b es el eb) ∙ fails))
    ∙ ap (λ (n : ℕ). least_from (is_split sample m) n d) (sym left)
    ∙ so_far

within_is : (a b : ℕ) → a ≤ b → nat_le a b ≡ true
within_is a b h = grind arith

-- after so many halvings a move in range is split for every sample
pub split_last : (sample : ℤ) (m : Move) (length d : ℕ) → (pos 1) ≤ℤ sample → length ≡ length_x m + length_y m → length ≤ 2 * longest → d ≡ end_depth
    → least_from (is_split sample m) (64 - d) d ≡ straight_split_of sample m → end_depth ≡ straight_split_of sample m
split_last sample m length d least el short e so_far =
    sym (found (is_split sample m) (63 - end_depth) end_depth (long (nat_abs sample) (omega (arith, ints)))) ∙ subst (λ (n : ℕ). least_from (is_split sample m) (64 - n) n ≡ straight_split_of sample m) e so_far
  where
    long : (s : ℕ) → 1 ≤ s → nat_le (length_x m + length_y m) (s * 2 ^ end_depth) ≡ true
    long s h = within_is (length_x m + length_y m) (s * 2 ^ end_depth) (omega arith)

-- a bounded number's quotient is within the bound
quotient_within : (z : ℤ) (n g : ℕ) → 0 < n → nat_abs z ≤ n * g → nat_abs (floor_div z n) ≤ g
quotient_within (pos a) n g h l = div-le_of_le-mul n l
quotient_within (negsuc a) n g h l = less ((div-lt_iff_lt-mul {k = n} {x = a} {y = g} h).1 (omega (arith, ints)))
  where
    less : {q : ℕ} → q < g → nat_abs (negsuc q) ≤ g
    less p = omega (arith, ints)

-- a shift to the right is a quotient rounded down
shift_is : (z : ℤ) (n : ℕ) → shr_z z n ≡ floor_div z n
shift_is (pos a) n = refl
shift_is (negsuc a) n = refl

-- the quotient that is rounded up, as the code computes it
pub up_is : (end : ℤ) (d : ℕ) → Within (farthest_end) end → shr_z (stored w64 (pos 0 -ℤ stored w64 end)) (2 ^ d) ≡ floor_div (neg_ℤ end) (2 ^ d)
up_is end d fits =
    shift_is _ (2 ^ d)
    ∙ ap (λ t. floor_div t (2 ^ d)) (exact (end ∷ []) (farthest_end ∷ []) (Diff w64 (Lit (pos 0)) (Read w64 0)) (fits.within, tt) refl ∙ opposite end)
  where
    opposite : (z : ℤ) → pos 0 -ℤ z ≡ neg_ℤ z
    opposite z = omega (arith, ints)

pub up_within : (end : ℤ) (d : ℕ) → nat_abs end ≤ 2 ^ d * MAX_COORDINATE → nat_abs (floor_div (neg_ℤ end) (2 ^ d)) ≤ MAX_COORDINATE
up_within end d within = quotient_within (neg_ℤ end) (2 ^ d) MAX_COORDINATE (pow_pos d) (turned end within)
  where
    turned : (z : ℤ) {b : ℕ} → nat_abs z ≤ b → nat_abs (neg_ℤ z) ≤ b
    turned z h = omega (arith, ints)

pub turned_is : (f : ℤ) → pos 0 -ℤ f ≡ neg_ℤ f
turned_is f = omega (arith, ints)

-- the lowest digits tell whether a number is a multiple
pub multiple_test : (z : ℤ) (a d parts : ℕ) → a ≡ nat_abs z → parts ≡ 2 ^ d → nat_eq (bit_and a (parts - 1)) 0 ≡ divides (2 ^ d) z
multiple_test z a d parts ea ep = rw (ea, ep, and_mask (nat_abs z) d) refl
