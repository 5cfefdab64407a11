-- Whether the tool goes straight from place to place, as the machine works it out.
use Rattle.std.proofs.Common.{◌≡◌, ℕ, zero, suc, ◌+◌, ◌-◌, ◌<◌, ◌≤◌, ◌^◌, ◌&&◌, Bool, true, false, List, length, refl, sym, ap, ◌∙◌, subst, arith, add-zero, FitsSigned, w32, w64, to_z, of_z}
use Rattle.std.specs.Prelude.{int_le, nat_abs}
use Rattle.std.specs.List.{list_all, range_with_len}
use Rattle.std.proofs.lemmas.Bool.{both_ways}
use Rattle.std.proofs.lemmas.List.Folds.{list_all_at}
use Rattle.std.proofs.lemmas.List.FromFn.{length-range_with_len, get_or-range_with_len}
use Rattle.std.proofs.lemmas.Int.{ints, to_z-of_z, fits_signed_from_abs}
use lib.IntN.{ℤ, pos, ◌+ℤ◌}
use lib.Signed.{le_z}
use Rattle.mill_drop.specs.Drops.{IsToolHeight}
use Rattle.mill_drop.specs.Paths.{height_at, scaled, line_at, is_kept_at, is_straight, IsTolerance}
use Rattle.mill_drop.specs.inner.Rows.{AreHeights}
use Rattle.mill_drop.proofs.Stored.{tool_small, tool_stored}

-- a height is stored as it is
pub height_in : (heights : List ℤ) (k : ℕ) → AreHeights heights → k < length heights → IsToolHeight (height_at heights k)
height_in heights k h inside = h.each k (pos 0) inside

pub height_stored : (heights : List ℤ) (k : ℕ) → AreHeights heights → k < length heights → to_z w32 (of_z w32 (height_at heights k)) ≡ height_at heights k
height_stored heights k h inside = tool_stored (height_at heights k) (h.each k (pos 0) inside)

pub tolerance_stored : (tol : ℤ) → IsTolerance tol → to_z w32 (of_z w32 tol) ≡ tol
tolerance_stored tol h = to_z-of_z w32 tol (fits_signed_from_abs w32 tol small)
  where
    small : nat_abs tol < 2147483648
    small = let a = h.some in let b = h.within in omega (arith, ints)

-- so is a height with the tolerance
pub raised_small : (z tol : ℤ) → IsToolHeight z → IsTolerance tol → nat_abs (z +ℤ tol) < 1048576
raised_small z tol h t = let w = tool_small z h in let a = t.some in let b = t.within in omega (arith, ints)

pub raised_fits : (z tol : ℤ) → IsToolHeight z → IsTolerance tol → FitsSigned w32 (z +ℤ tol)
raised_fits z tol h t = fits_signed_from_abs w32 (z +ℤ tol) (let w = raised_small z tol h t in omega arith)

-- a product is stored as it is, and so is a sum of two
pub product_fits : (z : ℤ) → nat_abs z < 2 ^ 41 → FitsSigned w64 z
product_fits z h = fits_signed_from_abs w64 z (omega arith)

pub sum_small : (a b : ℤ) → nat_abs a < 2 ^ 41 → nat_abs b < 2 ^ 41 → nat_abs (a +ℤ b) < 2 ^ 42
sum_small a b h k = omega (arith, ints)

pub line_fits : (z : ℤ) → nat_abs z < 2 ^ 42 → FitsSigned w64 z
line_fits z h = fits_signed_from_abs w64 z (omega arith)

-- where the first comparison holds, the second decides
pub second_decides : (low line high : ℤ) (heights : List ℤ) (tol : ℤ) (p q k : ℕ)
    → low ≡ scaled p q (height_at heights k) → line ≡ line_at heights p q k
    → high ≡ scaled p q (height_at heights k +ℤ tol) → le_z low line ≡ true
    → le_z line high ≡ is_kept_at heights tol p q k
second_decides low line high heights tol p q k l m h test =
    rw (m, h) (ap (λ b. b && int_le (line_at heights p q k) (scaled p q (height_at heights k +ℤ tol))) (sym (rw (l, m) at test)))

-- ---- place by place

both_true : (a b : Bool) → a ≡ true → b ≡ true → (a && b) ≡ true
both_true a b h k = rw (h, k) refl

pub first_true : (a b : Bool) → (a && b) ≡ true → a ≡ true
first_true true b h = refl
first_true false b h = h

pub second_true : (a b : Bool) → (a && b) ≡ true → b ≡ true
second_true true b h = h
second_true false b h = cc

-- one more number of a range that passes
passes_more : (f : ℕ → Bool) (a n : ℕ) → list_all f (range_with_len a n) ≡ true → f (a + n) ≡ true → list_all f (range_with_len a (suc n)) ≡ true
passes_more f a zero all here = both_true (f a) true (ap f (sym (add-zero a)) ∙ here) refl
passes_more f a (suc n) all here =
    both_true (f a) (list_all f (range_with_len (a + 1) (suc n))) (first_true (f a) _ all)
    (passes_more f (a + 1) n (second_true (f a) _ all) (ap f (moved a n) ∙ here))
  where
    moved : (a n : ℕ) → a + 1 + n ≡ a + suc n
    moved a n = omega arith

-- a number of a range, and what the whole range's test says of it
fails_at : (f : ℕ → Bool) (a n k : ℕ) → a ≤ k → k < a + n → f k ≡ false → list_all f (range_with_len a n) ≡ false
fails_at f a n k low high fails =
    list_all_at f (range_with_len a n) (k - a) 0 (subst (λ m. k - a < m) (sym (length-range_with_len a n)) inside) (ap f (get_or-range_with_len a n (k - a) 0 inside ∙ back) ∙ fails)
  where
    inside : k - a < n
    inside = omega arith

    back : a + (k - a) ≡ k
    back = omega arith

-- the line is kept to at each place up to k, and at k
pub keeps_on : (heights : List ℤ) (tol : ℤ) (p q k : ℕ) → p + 1 ≤ k → list_all (is_kept_at heights tol p q) (range_with_len (p + 1) (k - p - 1)) ≡ true
    → is_kept_at heights tol p q k ≡ true → list_all (is_kept_at heights tol p q) (range_with_len (p + 1) (k + 1 - p - 1)) ≡ true
keeps_on heights tol p q k after so_far here =
    ap (λ n. list_all (is_kept_at heights tol p q) (range_with_len (p + 1) n)) more
    ∙ passes_more (is_kept_at heights tol p q) (p + 1) (k - p - 1) so_far (ap (is_kept_at heights tol p q) at ∙ here)
  where
    more : k + 1 - p - 1 ≡ suc (k - p - 1)
    more = omega arith

    at : p + 1 + (k - p - 1) ≡ k
    at = omega arith

-- where it isn't kept to at a place between, the tool doesn't go straight
pub bends_at : (heights : List ℤ) (tol : ℤ) (p q k : ℕ) → p + 1 ≤ k → k < q → is_kept_at heights tol p q k ≡ false → is_straight heights tol p q ≡ false
bends_at heights tol p q k after before here = fails_at (is_kept_at heights tol p q) (p + 1) (q - p - 1) k after inside here
  where
    inside : k < p + 1 + (q - p - 1)
    inside = omega arith

-- where the tool goes straight, it is kept to at each place between
pub straight_at : (heights : List ℤ) (tol : ℤ) (p q k : ℕ) → p < k → k < q → is_straight heights tol p q ≡ true → is_kept_at heights tol p q k ≡ true
straight_at heights tol p q k after before straight = by (is_kept_at heights tol p q k) refl
  where
    next : p + 1 ≤ k
    next = omega arith

    by : (t : Bool) → is_kept_at heights tol p q k ≡ t → is_kept_at heights tol p q k ≡ true
    by true e = e
    by false e = absurd (both_ways (is_straight heights tol p q) (bends_at heights tol p q k next before e) straight)
