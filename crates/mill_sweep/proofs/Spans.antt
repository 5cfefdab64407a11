-- A leaf along one axis: its ends, its middle and how far they are apart.
use Rattle.std.specs.Prelude.{◌≡◌, ◌⊎◌, ℕ, ◌+◌, ◌-◌, ◌*◌, ◌^◌, ◌<◌, ◌≤◌, max, nat_abs, ℤ, pos, negsuc, ◌+ℤ◌, ◌-ℤ◌, ◌*ℤ◌, ◌≤ℤ◌, int_lt, Bool, true, false, cond}
use Rattle.std.specs.Int.{div_ceil}
use Rattle.std.proofs.Common.{inl, inr, refl, subst, sym, ap, ◌∙◌, arith, to_z, w32}
use Rattle.std.proofs.Math.Nat.{mul-le-mul, div-le_of_le-mul, div-lt_iff_lt-mul, pow-le-pow_right}
use Rattle.std.proofs.lemmas.Bool.{cases_lt}
use Rattle.std.proofs.lemmas.Grind.{div_ceil_times, pow_more}
use Rattle.std.proofs.lemmas.Int.{ints, to_z_pos}
use Rattle.std.proofs.lemmas.Nat.{pow_pos}
use Rattle.mill_base.proofs.Divisions.{floor_div_low, half_within}
use Rattle.mill_base.specs.Numbers.{floor_div, lesser}
use Rattle.mill_base.specs.declared.limits.TheConstants.{MAX_COORDINATE, MAX_DEPTH}
use Rattle.mill_shape.proofs.RootLemmas.{ceil_root_agrees, ceil_root_is}
use Rattle.mill_shape.specs.inner.Roots.{IsCeilRoot}
use Rattle.mill_sweep.specs.Leaves.{end_of, middle_of, farther_of, lower_of, diagonal_of}
use Rattle.mill_sweep.proofs.LeafCerts.{end_high, end_low}
use Rattle.mill_sweep.specs.Widths.{longest, end_depth, farthest_end, highest_end, highest_tip}

-- twice as many parts one halving further
pub parts_twice : (d : ℕ) → 2 ^ (d + 1) ≡ 2 * 2 ^ d
parts_twice d = let more = pow_more 2 d in omega arith

-- a move in range has no more parts than the deepest, nor do the ends of its leaves
pub parts_small : (d : ℕ) → d ≤ MAX_DEPTH → 2 ^ d ≤ 2 ^ MAX_DEPTH
parts_small d h = pow-le-pow_right {n = 2} (omega arith) {i = d} {j = MAX_DEPTH} h

pub parts_most : (d : ℕ) → d ≤ end_depth → 2 ^ d ≤ 2 ^ end_depth
parts_most d h = pow-le-pow_right {n = 2} (omega arith) {i = d} {j = end_depth} h

-- so what is within as many times the bound is small
end_small_by : (a d g : ℕ) → d ≤ end_depth → a ≤ 2 ^ d * g → a ≤ 2 ^ end_depth * g
end_small_by a d g h within = let most : 2 ^ d * g ≤ 2 ^ end_depth * g = mul-le-mul (parts_most d h) (same g) in up _ _ _ within most
  where
    same : (x : ℕ) → x ≤ x
    same x = omega arith

    up : (x y z : ℕ) → x ≤ y → y ≤ z → x ≤ z
    up x y z p q = omega arith

pub end_small : (a d : ℕ) → d ≤ end_depth → a ≤ 2 ^ d * MAX_COORDINATE → a ≤ farthest_end
end_small a d h within = end_small_by a d MAX_COORDINATE h within

pub tip_end_small : (a d : ℕ) → d ≤ end_depth → a ≤ 2 ^ d * highest_tip → a ≤ highest_end
tip_end_small a d h within = end_small_by a d highest_tip h within

-- an end is within as many times the bound as there are parts
end_within_by : (f t : ℤ) (d k g : ℕ) → nat_abs f ≤ g → nat_abs t ≤ g → k ≤ 2 ^ d → nat_abs (end_of f t d k) ≤ 2 ^ d * g
end_within_by f t d k g hf ht hk =
    by (end_of f t d k) (2 ^ d) g
    (end_high (pos (2 ^ d)) (pos k) f t (pos g) (omega (arith, ints)) (omega (arith, ints)) (omega (arith, ints)) (omega (arith, ints)))
    (end_low (pos (2 ^ d)) (pos k) f t (pos g) (omega (arith, ints)) (omega (arith, ints)) (omega (arith, ints)) (omega (arith, ints)))
  where
    by : (e : ℤ) (n g : ℕ) → e ≤ℤ (pos n *ℤ pos g) → (pos 0 -ℤ e) ≤ℤ (pos n *ℤ pos g) → nat_abs e ≤ n * g
    by e n g p q = omega (arith, ints)

pub end_within : (f t : ℤ) (d k : ℕ) → nat_abs f ≤ MAX_COORDINATE → nat_abs t ≤ MAX_COORDINATE → k ≤ 2 ^ d → nat_abs (end_of f t d k) ≤ 2 ^ d * MAX_COORDINATE
end_within f t d k hf ht hk = end_within_by f t d k MAX_COORDINATE hf ht hk

pub tip_end_within : (f t : ℤ) (d k : ℕ) → nat_abs f ≤ highest_tip → nat_abs t ≤ highest_tip → k ≤ 2 ^ d → nat_abs (end_of f t d k) ≤ 2 ^ d * highest_tip
tip_end_within f t d k hf ht hk = end_within_by f t d k highest_tip hf ht hk

-- and so is the sum of two, so the middle is within the bound
pub sum_within : (a b : ℤ) (d : ℕ) → nat_abs a ≤ 2 ^ d * MAX_COORDINATE → nat_abs b ≤ 2 ^ d * MAX_COORDINATE → nat_abs (a +ℤ b) ≤ 2 ^ (d + 1) * MAX_COORDINATE
sum_within a b d p q = subst (λ n. nat_abs (a +ℤ b) ≤ n * MAX_COORDINATE) (sym (parts_twice d)) (by (2 ^ d) p q)
  where
    by : (n : ℕ) → nat_abs a ≤ n * MAX_COORDINATE → nat_abs b ≤ n * MAX_COORDINATE → nat_abs (a +ℤ b) ≤ 2 * n * MAX_COORDINATE
    by n p q = omega (arith, ints)

pub middle_within : (f t : ℤ) (d k : ℕ) → nat_abs f ≤ MAX_COORDINATE → nat_abs t ≤ MAX_COORDINATE → k < 2 ^ d → nat_abs (middle_of f t d k) ≤ MAX_COORDINATE
middle_within f t d k hf ht hk =
    half_within (end_of f t d k +ℤ end_of f t d (k + 1)) (2 ^ (d + 1)) MAX_COORDINATE (pow_pos (d + 1))
    (sum_within (end_of f t d k) (end_of f t d (k + 1)) d (end_within f t d k hf ht (omega arith)) (end_within f t d (k + 1) hf ht (omega arith)))

-- a quotient rounded up of a number that is at most g times the divisor is at most g
pub div_ceil_most : (a n g : ℕ) → 0 < n → a ≤ g * n → div_ceil a n ≤ g
div_ceil_most a n g h l = by (div_ceil a n) (div_ceil_times a n h)
  where
    same : (x : ℕ) → x ≤ x
    same x = omega arith

    by : (q : ℕ) → (a ≤ q * n) × (q * n < a + n) → q ≤ g
    by q p = elim (cases_lt q (g + 1)) [
      | inl less ↦ omega arith
      | inr more ↦ absurd (let most = p.1 in let much : (g + 1) * n ≤ q * n = mul-le-mul more (same n) in omega arith)
    ]

-- how far a bounded end is from a bounded place
pub far_within : (e c : ℤ) (n : ℕ) → nat_abs e ≤ n * MAX_COORDINATE → nat_abs c ≤ MAX_COORDINATE → nat_abs (e -ℤ pos n *ℤ c) ≤ longest * n
far_within e c n p q = by (pos n *ℤ c) (times c q)
  where
    times : (c : ℤ) → nat_abs c ≤ MAX_COORDINATE → nat_abs (pos n *ℤ c) ≤ MAX_COORDINATE * n
    times (pos a) h = let m : n * a ≤ n * MAX_COORDINATE = mul-le-mul (omega arith) h in omega (arith, ints)
    times (negsuc a) h = let m : n * (a + 1) ≤ n * MAX_COORDINATE = mul-le-mul (omega arith) (omega arith) in omega (arith, ints)

    by : (x : ℤ) → nat_abs x ≤ MAX_COORDINATE * n → nat_abs (e -ℤ x) ≤ longest * n
    by x h = omega (arith, ints)

pub max_most : (a b m : ℕ) → a ≤ m → b ≤ m → max a b ≤ m
max_most a b m p q = omega arith

-- so the farther of two bounded ends is at most the longest from a bounded place
pub farther_most : (first last middle : ℤ) (d : ℕ) → nat_abs first ≤ 2 ^ d * MAX_COORDINATE → nat_abs last ≤ 2 ^ d * MAX_COORDINATE → nat_abs middle ≤ MAX_COORDINATE
    → div_ceil (max (nat_abs (first -ℤ pos (2 ^ d) *ℤ middle)) (nat_abs (last -ℤ pos (2 ^ d) *ℤ middle))) (2 ^ d) ≤ longest
farther_most first last middle d hf hl hm =
    div_ceil_most _ (2 ^ d) longest (pow_pos d) (max_most _ _ (longest * 2 ^ d) (far_within first middle (2 ^ d) hf hm) (far_within last middle (2 ^ d) hl hm))

pub farther_within : (f t : ℤ) (d k : ℕ) → nat_abs f ≤ MAX_COORDINATE → nat_abs t ≤ MAX_COORDINATE → k < 2 ^ d → farther_of f t d k ≤ longest
farther_within f t d k hf ht hk =
    farther_most (end_of f t d k) (end_of f t d (k + 1)) (middle_of f t d k) d
    (end_within f t d k hf ht (omega arith)) (end_within f t d (k + 1) hf ht (omega arith)) (middle_within f t d k hf ht hk)

-- a bounded number's quotient is within the bound
pub quotient_within : (z : ℤ) (n g : ℕ) → 0 < n → nat_abs z ≤ n * g → nat_abs (floor_div z n) ≤ g
quotient_within (pos a) n g h l = div-le_of_le-mul n l
quotient_within (negsuc a) n g h l = less ((div-lt_iff_lt-mul {k = n} {x = a} {y = g} h).1 (omega (arith, ints)))
  where
    less : {q : ℕ} → q < g → nat_abs (negsuc q) ≤ g
    less p = omega (arith, ints)

pub lesser_within : (a b : ℤ) (m : ℕ) → nat_abs a ≤ m → nat_abs b ≤ m → nat_abs (lesser a b) ≤ m
lesser_within a b m p q = by (int_lt b a)
  where
    by : (t : Bool) → nat_abs (cond t b a) ≤ m
    by true = q
    by false = p

pub lower_within : (f t : ℤ) (d k g : ℕ) → nat_abs f ≤ g → nat_abs t ≤ g → k < 2 ^ d → nat_abs (lower_of f t d k) ≤ g
lower_within f t d k g hf ht hk =
    quotient_within (lesser (end_of f t d k) (end_of f t d (k + 1))) (2 ^ d) g (pow_pos d)
    (lesser_within (end_of f t d k) (end_of f t d (k + 1)) (2 ^ d * g) (end_within_by f t d k g hf ht (omega arith)) (end_within_by f t d (k + 1) g hf ht (omega arith)))

-- both ends are at most farther from the middle, over the parts
pub record AreNear (n e a b : ℤ) : Type 0 where
  pub first_above : a ≤ℤ (n *ℤ e)
  pub first_below : ((pos 0) -ℤ a) ≤ℤ (n *ℤ e)
  pub last_above : b ≤ℤ (n *ℤ e)
  pub last_below : ((pos 0) -ℤ b) ≤ℤ (n *ℤ e)

near_by : (n e : ℕ) (a b : ℤ) → max (nat_abs a) (nat_abs b) ≤ e * n → AreNear (pos n) (pos e) a b
near_by n e a b h =
    let first : nat_abs a ≤ n * e = omega arith in
    let last : nat_abs b ≤ n * e = omega arith in
    record { first_above = omega (arith, ints); first_below = omega (arith, ints); last_above = omega (arith, ints); last_below = omega (arith, ints) }

pub ends_near : (f t : ℤ) (d k : ℕ)
    → AreNear (pos (2 ^ d)) (pos (farther_of f t d k)) (end_of f t d k -ℤ pos (2 ^ d) *ℤ middle_of f t d k) (end_of f t d (k + 1) -ℤ pos (2 ^ d) *ℤ middle_of f t d k)
ends_near f t d k = near_by (2 ^ d) (farther_of f t d k) _ _ (div_ceil_times (max (nat_abs (end_of f t d k -ℤ pos (2 ^ d) *ℤ middle_of f t d k)) (nat_abs (end_of f t d (k + 1) -ℤ pos (2 ^ d) *ℤ middle_of f t d k))) (2 ^ d) (pow_pos d)).0

-- the lower end is at most each end, over the parts
least_of : (a b : ℤ) → (lesser a b ≤ℤ a) × (lesser a b ≤ℤ b)
least_of a b = by (int_lt b a) refl
  where
    by : (t : Bool) → int_lt b a ≡ t → (cond t b a ≤ℤ a) × (cond t b a ≤ℤ b)
    by true e = (omega (arith, ints), omega (arith, ints))
    by false e = (omega (arith, ints), omega (arith, ints))

pub lower_first : (f t : ℤ) (d k : ℕ) → (pos (2 ^ d) *ℤ lower_of f t d k) ≤ℤ end_of f t d k
lower_first f t d k =
    by (pos (2 ^ d) *ℤ lower_of f t d k) (floor_div_low (lesser (end_of f t d k) (end_of f t d (k + 1))) (2 ^ d) (pow_pos d)) (least_of (end_of f t d k) (end_of f t d (k + 1))).0
  where
    by : (x : ℤ) {y z : ℤ} → x ≤ℤ y → y ≤ℤ z → x ≤ℤ z
    by x p q = omega (arith, ints)

pub lower_last : (f t : ℤ) (d k : ℕ) → (pos (2 ^ d) *ℤ lower_of f t d k) ≤ℤ end_of f t d (k + 1)
lower_last f t d k =
    by (pos (2 ^ d) *ℤ lower_of f t d k) (floor_div_low (lesser (end_of f t d k) (end_of f t d (k + 1))) (2 ^ d) (pow_pos d)) (least_of (end_of f t d k) (end_of f t d (k + 1))).1
  where
    by : (x : ℤ) {y z : ℤ} → x ≤ℤ y → y ≤ℤ z → x ≤ℤ z
    by x p q = omega (arith, ints)

-- the squares of two lengths in range have a small sum
pub squares_small : (ex ey : ℕ) → ex ≤ longest → ey ≤ longest → ex * ex + ey * ey ≤ 2 * (longest * longest)
squares_small ex ey hx hy =
    let x : ex * ex ≤ longest * longest = mul-le-mul hx hx in
    let y : ey * ey ≤ longest * longest = mul-le-mul hy hy in
    omega arith

pub diagonal_root : (ex ey : ℕ) → ex ≤ longest → ey ≤ longest → IsCeilRoot (ex * ex + ey * ey) (diagonal_of ex ey)
diagonal_root ex ey hx hy = ceil_root_is (ex * ex + ey * ey) (let sum = squares_small ex ey hx hy in omega arith)

-- so their diagonal is at most twice as long
pub diagonal_small : (ex ey : ℕ) → ex ≤ longest → ey ≤ longest → diagonal_of ex ey ≤ 2 * longest
diagonal_small ex ey hx hy = small (diagonal_of ex ey) (cases_lt (diagonal_of ex ey) (2 * longest + 1)) (diagonal_root ex ey hx hy).least (squares_small ex ey hx hy)
  where
    small : {s : ℕ} (r : ℕ) → (r < 2 * longest + 1) ⊎ (2 * longest + 1 ≤ r) → (0 < r → (r - 1) * (r - 1) < s) → s ≤ 2 * (longest * longest) → r ≤ 2 * longest
    small r (inl less) least most = omega arith
    small r (inr more) least most = absurd (let under = least (omega arith) in let root : 2 * longest ≤ r - 1 = omega arith in let much : 2 * longest * (2 * longest) ≤ (r - 1) * (r - 1) = mul-le-mul root root in omega arith)

-- it is stored as it is, where it is found as the least root
pub diagonal_is : (ex ey a b r : ℕ) → ex ≤ longest → ey ≤ longest → a ≡ ex * ex → b ≡ ey * ey → a + b ≤ r * r → (0 < r → (r - 1) * (r - 1) < a + b) → to_z w32 r ≡ pos (diagonal_of ex ey)
diagonal_is ex ey a b r hx hy ea eb reaches least =
    let sum : a + b ≡ ex * ex + ey * ey = omega arith in
    let agrees : r ≡ diagonal_of ex ey = ceil_root_agrees (ex * ex + ey * ey) r (let most = squares_small ex ey hx hy in omega arith)
    (record { reaches = subst (λ n. n ≤ r * r) sum reaches; least = λ some. subst (λ n. (r - 1) * (r - 1) < n) sum (least some) }) in
    to_z_pos w32 r (small (diagonal_of ex ey) agrees (diagonal_small ex ey hx hy)) ∙ ap pos agrees
  where
    small : (q : ℕ) → r ≡ q → q ≤ 2 * longest → r < 2 ^ 31
    small q e h = omega arith
