-- Numbers in parts, and the whole ones in units that stand in their places.
use Rattle.std.proofs.Common.{◌≡◌, ℕ, zero, suc, ◌+◌, ◌-◌, ◌*◌, ◌/◌, ◌^◌, ◌≤◌, ◌<◌, Bool, true, false, Option, Some, None, refl, sym, ap, subst, ◌∙◌, arith}
use Rattle.std.proofs.Math.Nat.{div-add-mod}
use Rattle.std.proofs.lemmas.Int.{ints}
use Rattle.std.proofs.lemmas.Nat.{pow-add}
use Rattle.std.specs.Prelude.{◌%◌, ◌==◌, IfSome, ℤ, pos, negsuc, neg_ℤ, nat_abs, ◌+ℤ◌, ◌-ℤ◌, ◌*ℤ◌, ◌≤ℤ◌, int_lt, cond}
use Rattle.mill_base.specs.Numbers.{greater, lesser}
use Rattle.mill_base.specs.Rounded.{IsRoundedTo, twice_off}
use Rattle.mill_base.proofs.Integers.{add-mul-ℤ, mul-add-ℤ}
use Rattle.mill_control.specs.Holes.{bite_of}
use Rattle.mill_control.specs.Lengths.{exact, is_whole, nearest, rounded, rounded_parts, signed}
use Rattle.mill_control.proofs.Nearest.{nearest-high, nearest-low, rounded-parts}
use Rattle.mill_words.specs.Words.{FitsNum}
use Rattle.mill_words.specs.declared.word.Num.{Num}
use Rattle.mill_block.specs.MachineLines.{is_taken}
use Rattle.mill_control.specs.Unrounded.{text_units}
use Rattle.mill_block.proofs.RiseLemmas.{signed-times, some_power}

-- ---- numbers

near-up : (a n : ℕ) → 0 < n → IsRoundedTo true n (pos a) (pos (nearest a n))
near-up a n some = by (nearest a n) (nearest-low a n) (nearest-high a n some)
  where
    by : (q : ℕ) → (2 * n) * q ≤ 2 * a + n → 2 * a + n < q * (2 * n) + 2 * n → IsRoundedTo true n (pos a) (pos q)
    by q low high = omega (arith, ints)

times-down : (n q : ℕ) → pos n *ℤ neg_ℤ (pos (suc q)) ≡ neg_ℤ (pos (n * suc q))
times-down n q = omega (arith, ints)

near-down : (a n : ℕ) → 0 < n → IsRoundedTo true n (neg_ℤ (pos a)) (neg_ℤ (pos (nearest a n)))
near-down a n some = by (nearest a n) (nearest-low a n) (nearest-high a n some)
  where
    by : (q : ℕ) → (2 * n) * q ≤ 2 * a + n → 2 * a + n < q * (2 * n) + 2 * n → IsRoundedTo true n (neg_ℤ (pos a)) (neg_ℤ (pos q))
    by zero low high = omega (arith, ints)
    by (suc q) low high = subst (λ (w : ℤ). 2 * nat_abs (neg_ℤ (pos a) -ℤ w) ≤ n) (sym (times-down n q)) (apart (n * suc q) (omega arith) (omega arith))
      where
        apart : (w : ℕ) → 2 * w ≤ 2 * a + n → 2 * a < 2 * w + n → 2 * nat_abs (neg_ℤ (pos a) -ℤ neg_ℤ (pos w)) ≤ n
        apart w low high = omega (arith, ints)

times-negative : (a per : ℕ) → negsuc a *ℤ pos per ≡ neg_ℤ (pos (suc a * per))
times-negative a per = omega (arith, ints)

-- a number of lengths in parts, and the same in whole units
parts-near : (per : ℕ) (p : ℤ) → IsRoundedTo true (10 ^ 18) (p *ℤ pos per) (rounded_parts per p)
unfolding rounded_parts
parts-near per (pos a) = near-up (a * per) (10 ^ 18) (some_power 18)
parts-near per (negsuc a) = subst (λ (q : ℤ). IsRoundedTo true (10 ^ 18) q (neg_ℤ (pos (nearest (suc a * per) (10 ^ 18))))) (sym (times-negative a per)) (near-down (suc a * per) (10 ^ 18) (some_power 18))

-- a whole number that is within half a unit of another is that one
near-same : (d : ℕ) (q z w : ℤ) → 0 < d → q ≡ pos d *ℤ w → IsRoundedTo true d q z → IsRoundedTo false d q z
near-same d q z w some is near = by (w -ℤ z) (is ∙ ap (λ t. pos d *ℤ t) (sum w z) ∙ mul-add-ℤ (pos d) z (w -ℤ z))
  where
    sum : (w z : ℤ) → w ≡ z +ℤ (w -ℤ z)
    sum w z = omega (arith, ints)

    by : (t : ℤ) → q ≡ pos d *ℤ z +ℤ pos d *ℤ t → IsRoundedTo false d q z
    by (pos zero) same = none (pos d *ℤ z) (d * zero) (omega arith) same
      where
        none : (a : ℤ) (t : ℕ) → t ≡ 0 → q ≡ a +ℤ pos t → 2 * nat_abs (q -ℤ a) ≤ 0
        none a t nil same = omega (arith, ints)
    by (pos (suc t)) same = absurd (far (pos d *ℤ z) (d * suc t) (omega arith) same near)
      where
        far : (a : ℤ) (t : ℕ) → d ≤ t → q ≡ a +ℤ pos t → 2 * nat_abs (q -ℤ a) ≤ d → ⊥
        far a t over same near = omega (arith, ints)
    by (negsuc t) same = absurd (far (pos d *ℤ z) (d * suc t) (omega arith) (same ∙ ap (λ t. pos d *ℤ z +ℤ t) (times-down d t)) near)
      where
        far : (a : ℤ) (t : ℕ) → d ≤ t → q ≡ a +ℤ neg_ℤ (pos t) → 2 * nat_abs (q -ℤ a) ≤ d → ⊥
        far a t over same near = omega (arith, ints)

-- parts that are rounded or are whole units
parts-taken : (rounds : Bool) (per : ℕ) (p w : ℤ) → (rounds ≡ false → p *ℤ pos per ≡ pos (10 ^ 18) *ℤ w) → IsRoundedTo rounds (10 ^ 18) (p *ℤ pos per) (rounded_parts per p)
parts-taken true per p w is = parts-near per p
parts-taken false per p w is = near-same (10 ^ 18) (p *ℤ pos per) (rounded_parts per p) w (some_power 18) (is refl) (parts-near per p)

-- ---- whole numbers of units

-- the units of a number, without its sign
units-in : ℕ → Num → ℕ
units-in per n = (n.mant * per) / 10 ^ n.scale

-- so many, and none over
whole-of : (a d : ℕ) → (a % d == 0) ≡ true → a ≡ d * (a / d)
whole-of a d whole = let none : a % d ≡ 0 = grind (arith) in omega (arith, div-add-mod a d, none)

wide : (s : ℕ) → s ≤ 18 → 10 ^ s * 10 ^ (18 - s) ≡ 10 ^ 18
wide s le =
    let sum : s + (18 - s) ≡ 18 = omega arith in
    sym (pow-add 10 s (18 - s)) ∙ ap (λ t. 10 ^ t) sum

whole-parts : (per : ℕ) (n : Num) → FitsNum 18 n → is_whole per n ≡ true → (n.mant * 10 ^ (18 - n.scale)) * per ≡ 10 ^ 18 * units-in per n
unfolding is_whole units-in
whole-parts per n fits whole =
    by n.mant (10 ^ (18 - n.scale)) (10 ^ n.scale) (units-in per n) (10 ^ 18) (whole-of (n.mant * per) (10 ^ n.scale) whole) (wide n.scale fits.scale)
  where
    by : (m a b k d : ℕ) → m * per ≡ b * k → b * a ≡ d → (m * a) * per ≡ d * k
    by m a b k d is over =
        let first : (m * a) * per ≡ (m * per) * a = omega arith in
        let next : (b * k) * a ≡ (b * a) * k = omega arith in
        first ∙ ap (λ t. t * a) is ∙ next ∙ ap (λ t. t * k) over

signed-whole : (neg : Bool) (m per d k : ℕ) → m * per ≡ d * k → signed neg m *ℤ pos per ≡ pos d *ℤ signed neg k
signed-whole neg m per d k is =
    let same : m * per ≡ k * d = omega (arith, is) in
    sym (signed-times neg m per) ∙ ap (signed neg) same ∙ signed-times neg k d ∙ turned (signed neg k) (pos d)
  where
    turned : (a b : ℤ) → a *ℤ b ≡ b *ℤ a
    turned a b = omega (arith, ints)

number-whole : (per : ℕ) (n : Num) → FitsNum 18 n → is_whole per n ≡ true → text_units per n ≡ pos (10 ^ 18) *ℤ signed n.neg (units-in per n)
number-whole per n fits whole = signed-whole n.neg (n.mant * 10 ^ (18 - n.scale)) per (10 ^ 18) (units-in per n) (whole-parts per n fits whole)

-- where nothing is rounded, what is taken is whole
whole-taken : (rounds : Bool) (per : ℕ) (n : Num) → is_taken rounds per n ≡ true → rounds ≡ false → is_whole per n ≡ true
whole-taken true per n taken none = absurd cc
whole-taken false per n taken none = taken

-- a number that is taken, in parts and in whole units
pub number_near : (rounds : Bool) (per : ℕ) (n : Num) → FitsNum 18 n → is_taken rounds per n ≡ true → IsRoundedTo rounds (10 ^ 18) (text_units per n) (rounded per n)
number_near rounds per n fits taken =
    subst (λ (z : ℤ). IsRoundedTo rounds (10 ^ 18) (text_units per n) z) (sym (rounded-parts per n fits))
    (parts-taken rounds per (exact n) (signed n.neg (units-in per n)) (λ none. number-whole per n fits (whole-taken rounds per n taken none)))

-- ---- pecks

-- the units of a peck
bite-in : ℕ → Option Num → ℕ
bite-in per None = 0
bite-in per (Some q) = units-in per q

bite-whole : (per : ℕ) (q : Option Num) → IfSome q (FitsNum 18) → IfSome q (λ n. is_whole per n ≡ true) → bite_of q * per ≡ 10 ^ 18 * bite-in per q
unfolding bite-in
bite-whole per None fits whole = omega arith
bite-whole per (Some q) fits whole = ap (λ t. t * per) (magnitude q.neg (q.mant * 10 ^ (18 - q.scale))) ∙ whole-parts per q fits whole
  where
    magnitude : (neg : Bool) (w : ℕ) → nat_abs (signed neg w) ≡ w
    magnitude false w = refl
    magnitude true w = omega (arith, ints)

whole-peck : (rounds : Bool) (per : ℕ) (q : Option Num) → IfSome q (λ n. is_taken rounds per n ≡ true) → rounds ≡ false → IfSome q (λ n. is_whole per n ≡ true)
whole-peck rounds per None taken none = tt
whole-peck rounds per (Some q) taken none = whole-taken rounds per q taken none

-- so many pecks under a number
under-whole : (e w : ℤ) (k bite per d b : ℕ) → e *ℤ pos per ≡ pos d *ℤ w → bite * per ≡ d * b → (e -ℤ pos (k * bite)) *ℤ pos per ≡ pos d *ℤ (w -ℤ pos (k * b))
under-whole e w k bite per d b is bites =
    let left : (e +ℤ neg_ℤ (pos (k * bite))) *ℤ pos per ≡ e *ℤ pos per +ℤ neg_ℤ (pos (k * bite)) *ℤ pos per = add-mul-ℤ e (neg_ℤ (pos (k * bite))) (pos per) in
    let right : pos d *ℤ (w +ℤ neg_ℤ (pos (k * b))) ≡ pos d *ℤ w +ℤ pos d *ℤ neg_ℤ (pos (k * b)) = mul-add-ℤ (pos d) w (neg_ℤ (pos (k * b))) in
    let first : (k * bite) * per ≡ k * (bite * per) = omega arith in
    let next : k * (d * b) ≡ d * (k * b) = omega arith in
    let taken : (k * bite) * per ≡ d * (k * b) = first ∙ ap (λ t. k * t) bites ∙ next in
    left ∙ ap (λ t. t +ℤ neg_ℤ (pos (k * bite)) *ℤ pos per) is ∙ ap (λ t. pos d *ℤ w +ℤ t) (signed-whole true (k * bite) per d (k * b) taken) ∙ sym right

pub depth_near : (rounds : Bool) (per : ℕ) (r : Num) (q : Option Num) (k : ℕ) → FitsNum 18 r → IfSome q (FitsNum 18) → is_taken rounds per r ≡ true → IfSome q (λ n. is_taken rounds per n ≡ true)
    → IsRoundedTo rounds (10 ^ 18) ((exact r -ℤ pos (k * bite_of q)) *ℤ pos per) (rounded_parts per (exact r -ℤ pos (k * bite_of q)))
depth_near rounds per r q k r_fits q_fits r_taken q_taken =
    parts-taken rounds per (exact r -ℤ pos (k * bite_of q)) (signed r.neg (units-in per r) -ℤ pos (k * bite-in per q))
    (λ none. under-whole (exact r) (signed r.neg (units-in per r)) k (bite_of q) per (10 ^ 18) (bite-in per q) (number-whole per r r_fits (whole-taken rounds per r r_taken none))
    (bite-whole per q q_fits (whole-peck rounds per q q_taken none)))

-- ---- the lesser and the greater of two

over-times : (d : ℕ) (a b : ℤ) → a ≤ℤ b → (pos d *ℤ a) ≤ℤ (pos d *ℤ b)
over-times d a b le = mul-le d a b le
  where
    mul-le : (d : ℕ) (a b : ℤ) → a ≤ℤ b → (pos d *ℤ a) ≤ℤ (pos d *ℤ b)
    mul-le zero a b le = omega (arith, ints)
    mul-le (suc d) a b le = let less = mul-le d a b le in omega (arith, ints)

pub near_lesser : (rounds : Bool) (d : ℕ) (p q a b : ℤ) → IsRoundedTo rounds d p a → IsRoundedTo rounds d q b → IsRoundedTo rounds d (lesser p q) (lesser a b)
near_lesser rounds d p q a b one two = by (int_lt q p) (int_lt b a) refl refl
  where
    by : (s t : Bool) → int_lt q p ≡ s → int_lt b a ≡ t → IsRoundedTo rounds d (cond s q p) (cond t b a)
    by true true e f = two
    by false false e f = one
    by true false e f = let over = over-times d a b (omega (f, arith, ints)) in omega (e, one, two, over, arith, ints)
    by false true e f = let over = over-times d b a (omega (f, arith, ints)) in omega (e, one, two, over, arith, ints)

pub near_greater : (rounds : Bool) (d : ℕ) (p q a b : ℤ) → IsRoundedTo rounds d p a → IsRoundedTo rounds d q b → IsRoundedTo rounds d (greater p q) (greater a b)
near_greater rounds d p q a b one two = by (int_lt p q) (int_lt a b) refl refl
  where
    by : (s t : Bool) → int_lt p q ≡ s → int_lt a b ≡ t → IsRoundedTo rounds d (cond s q p) (cond t b a)
    by true true e f = two
    by false false e f = one
    by true false e f = let over = over-times d b a (omega (f, arith, ints)) in omega (e, one, two, over, arith, ints)
    by false true e f = let over = over-times d a b (omega (f, arith, ints)) in omega (e, one, two, over, arith, ints)

-- a whole number is near itself, and a height stays near where both are raised alike
pub near_whole : (rounds : Bool) (d : ℕ) (z : ℤ) → IsRoundedTo rounds d (pos d *ℤ z) z
near_whole rounds d z = omega (arith, ints)

pub near_raised : (rounds : Bool) (d : ℕ) (q z c : ℤ) → IsRoundedTo rounds d q z → IsRoundedTo rounds d (q +ℤ pos d *ℤ c) (z +ℤ c)
near_raised rounds d q z c near = subst (λ (w : ℤ). 2 * nat_abs ((q +ℤ pos d *ℤ c) -ℤ w) ≤ twice_off rounds d) (sym (mul-add-ℤ (pos d) z c)) (omega (near, arith, ints))
