-- The depths of pecks: each that isn't the last one ends over the bottom and under R, and all are in range.
use Rattle.std.specs.Prelude.{◌≡◌, ℕ, zero, suc, ◌+◌, ◌-◌, ◌*◌, ◌/◌, ◌^◌, ◌<◌, ◌≤◌, ℤ, pos, negsuc, nat_abs, ◌+ℤ◌, ◌-ℤ◌, ◌≤ℤ◌, nat_lt, int_lt, Bool, true, false, not, ◌&&◌, if◌then◌else◌, cond, IfSome, Option, Some, None}
use Rattle.std.proofs.Common.{refl, sym, ap, ◌∙◌, subst, arith}
use Rattle.std.proofs.Math.Nat.{div-le_self, mul-div-le, mul-le-mul, mul-le-mul_right, one-le-pow}
use Rattle.std.proofs.lemmas.Int.{ints}
use Rattle.mill_base.specs.Numbers.{Within, lesser}
use Rattle.mill_base.specs.Units.{greatest_of}
use Rattle.mill_base.specs.declared.unit.Unit.{Unit}
use Rattle.mill_base.specs.declared.unit.Unit.TheVariants.{Hundredth, Thousandth}
use Rattle.mill_base.proofs.Ranges.{greatest_of-le}
use Rattle.mill_words.specs.Words.{FitsNum}
use Rattle.mill_words.specs.declared.word.Num.{Num}
use Rattle.mill_control.specs.declared.hole.Hole.{Hole}
use Rattle.mill_control.specs.declared.lengths.LengthUnit.{LengthUnit}
use Rattle.mill_control.specs.declared.lengths.LengthUnit.TheVariants.{Millimetres, Inches}
use Rattle.mill_control.specs.Drilled.{IsHole}
use Rattle.mill_control.specs.Holes.{bite_of, bites_over, bottom_of, count_bites, depth_at, is_positive, pecks, per_of, top_of}
use Rattle.mill_control.specs.Lengths.{exact, per, rounded, rounded_parts, signed}
use Rattle.mill_control.proofs.Products.{ten_most}
use Rattle.mill_control.proofs.Nearest.{parts-up, parts-within, rounded-parts}

-- ---- numbers in parts of 10^18

pub signed-abs : (neg : Bool) (k : ℕ) → nat_abs (signed neg k) ≡ k
signed-abs false k = refl
signed-abs true zero = refl
signed-abs true (suc k) = refl

-- a number of 18 digits has at most 10^36 of them
pub digits-most : (m s : ℕ) → m < 10 ^ 18 → m * 10 ^ (18 - s) ≤ 10 ^ 36
digits-most m s few = mul-le-mul {n₁ = m} {m₁ = 10 ^ (18 - s)} {n₂ = 10 ^ 18} {m₂ = 10 ^ 18} (omega arith) (ten_most (18 - s) (omega arith))

pub exact-within : (n : Num) → FitsNum 18 n → nat_abs (exact n) ≤ 10 ^ 36
exact-within n fits = subst (λ t. t ≤ 10 ^ 36) (sym (signed-abs n.neg (n.mant * 10 ^ (18 - n.scale)))) (digits-most n.mant n.scale fits.mant)

-- a peck over 0 has some
pub some_bite : (q : Option Num) → is_positive q ≡ true → 1 ≤ bite_of q
some_bite None e = absurd (cc)
some_bite (Some q) e = subst (λ t. 1 ≤ t) (sym (signed-abs q.neg (q.mant * 10 ^ (18 - q.scale)))) (by q.neg q.mant e)
  where
    by : (neg : Bool) (m : ℕ) → (not neg && nat_lt 0 m) ≡ true → 1 ≤ m * 10 ^ (18 - q.scale)
    by true m e = absurd (cc)
    by false zero e = absurd (cc)
    by false (suc m) e = mul-le-mul {n₁ = 1} {m₁ = 1} {n₂ = suc m} {m₂ = 10 ^ (18 - q.scale)} (omega arith) (one-le-pow (18 - q.scale) 10 (omega arith))

-- ---- how deep

fits-over : (k deep bite : ℕ) → 1 ≤ bite → 1 ≤ k → k ≤ bites_over deep bite → k * bite + 1 ≤ deep
fits-over k deep bite some more le = by ((deep - 1) / bite) le (mul-div-le (deep - 1) bite)
  where
    by : (q : ℕ) → k ≤ q → bite * q ≤ deep - 1 → k * bite + 1 ≤ deep
    by q most under =
        let much : k * bite ≤ q * bite = mul-le-mul_right {m = k} {n = q} bite most in
        let least : 1 * 1 ≤ k * bite = mul-le-mul {n₁ = 1} {m₁ = 1} {n₂ = k} {m₂ = bite} more some in
        omega arith

none : (k : ℕ) → 1 ≤ k → k ≤ 0 → ⊥
none k p q = omega arith

-- so many pecks are less than the whole depth
pub under-whole : (h : Hole) → IsHole h → (k : ℕ) → 1 ≤ k → k ≤ count_bites h → k * bite_of h.q + 1 ≤ nat_abs (exact h.r -ℤ exact h.z)
under-whole h ok k some le = by (pecks h.cycle) ok.bite le
  where
    by : (b : Bool) → (b ≡ true → is_positive h.q ≡ true) → k ≤ (if b then bites_over (nat_abs (exact h.r -ℤ exact h.z)) (bite_of h.q) else 0) → k * bite_of h.q + 1 ≤ nat_abs (exact h.r -ℤ exact h.z)
    by true bite le = fits-over k (nat_abs (exact h.r -ℤ exact h.z)) (bite_of h.q) (some_bite h.q (bite refl)) some le
    by false bite le = absurd (none k some le)

over_z : (r z : ℤ) (under : ℕ) → z ≤ℤ r → under + 1 ≤ nat_abs (r -ℤ z) → z ≤ℤ (r -ℤ pos under)
over_z r z under down less = omega (arith, ints)

under_r : (r : ℤ) (under : ℕ) → (r -ℤ pos under) ≤ℤ r
under_r r under = omega (arith, ints)

-- where the k-th peck ends, in parts
pub parts-over : (h : Hole) → IsHole h → (k : ℕ) → 1 ≤ k → k ≤ count_bites h → exact h.z ≤ℤ (exact h.r -ℤ pos (k * bite_of h.q))
parts-over h ok k some le = over_z (exact h.r) (exact h.z) (k * bite_of h.q) ok.down (under-whole h ok k some le)

pub depth-over : (h : Hole) → IsHole h → (k : ℕ) → 1 ≤ k → k ≤ count_bites h → bottom_of h ≤ℤ depth_at h k
depth-over h ok k some le =
    subst (λ t. t ≤ℤ depth_at h k) (sym (rounded-parts (per_of h) h.z ok.z_fits)) (parts-up (per_of h) (exact h.z) (exact h.r -ℤ pos (k * bite_of h.q)) (parts-over h ok k some le))

pub depth-under : (h : Hole) → IsHole h → (k : ℕ) → depth_at h k ≤ℤ top_of h
depth-under h ok k =
    subst (λ t. depth_at h k ≤ℤ t) (sym (rounded-parts (per_of h) h.r ok.r_fits)) (parts-up (per_of h) (exact h.r -ℤ pos (k * bite_of h.q)) (exact h.r) (under_r (exact h.r) (k * bite_of h.q)))

between : (g : ℕ) (a b x : ℤ) → nat_abs a ≤ g → nat_abs b ≤ g → a ≤ℤ x → x ≤ℤ b → nat_abs x ≤ g
between g a b x low high least most = omega (arith, ints)

pub within-between : (g : ℕ) (a b x : ℤ) → Within g a → Within g b → a ≤ℤ x → x ≤ℤ b → Within g x
within-between g a b x low high least most = record { within = between g a b x low.within high.within least most }

pub depth-within : (h : Hole) → IsHole h → (k : ℕ) → 1 ≤ k → k ≤ count_bites h → Within (greatest_of h.unit) (depth_at h k)
depth-within h ok k some le = within-between (greatest_of h.unit) (bottom_of h) (top_of h) (depth_at h k) ok.bottom ok.top (depth-over h ok k some le) (depth-under h ok k)

-- the height from which the next one begins lies between this one's end and R
lesser-least : (a b c : ℤ) → c ≤ℤ a → c ≤ℤ b → c ≤ℤ lesser a b
lesser-least a b c p q = by (int_lt b a)
  where
    by : (t : Bool) → c ≤ℤ cond t b a
    by true = q
    by false = p

lesser-most : (a b : ℤ) → lesser a b ≤ℤ a
lesser-most a b = by (int_lt b a) refl
  where
    under : (a b : ℤ) → int_lt b a ≡ true → b ≤ℤ a
    under a b e = omega (e, arith, ints)

    same : (a : ℤ) → a ≤ℤ a
    same a = omega (arith, ints)

    by : (t : Bool) → int_lt b a ≡ t → cond t b a ≤ℤ a
    by true e = under a b e
    by false e = same a

pub back-within : (g : ℕ) (top clearance depth : ℤ) → Within g top → Within g depth → pos 0 ≤ℤ clearance → depth ≤ℤ top → Within g (lesser top (depth +ℤ clearance))
back-within g top clearance depth high low least under =
    within-between g depth top (lesser top (depth +ℤ clearance)) low high (lesser-least top (depth +ℤ clearance) depth under (by depth clearance least)) (lesser-most top (depth +ℤ clearance))
  where
    by : (d c : ℤ) → pos 0 ≤ℤ c → d ≤ℤ (d +ℤ c)
    by d c h = omega (arith, ints)

-- ---- few parts

some-per : (lengths : LengthUnit) (unit : Unit) → 1 ≤ per lengths unit
some-per Millimetres Hundredth = omega arith
some-per Millimetres Thousandth = omega arith
some-per Inches Hundredth = omega arith
some-per Inches Thousandth = omega arith

few : (unit : Unit) → (greatest_of unit + 1) * 10 ^ 18 ≤ 10 ^ 26
few unit = mul-le-mul_right {m = greatest_of unit + 1} {n = 10 ^ 8} (10 ^ 18) (omega (arith, greatest_of-le unit))

-- a number that is rounded to one in range has few parts
at-most : (a b c : ℕ) → a ≤ b → b ≤ c → a ≤ c
at-most a b c p q = omega arith

pub exact-few : (h : Hole) (n : Num) → FitsNum 18 n → Within (greatest_of h.unit) (rounded (per_of h) n) → Within (10 ^ 26) (exact n)
exact-few h n fits within =
    let few-parts = subst (λ (t : ℤ). nat_abs t ≤ greatest_of h.unit) (rounded-parts (per_of h) n fits) within.within in
    record {
      within = at-most (nat_abs (exact n)) ((greatest_of h.unit + 1) * 10 ^ 18) (10 ^ 26)
          (parts-within (per_of h) (exact n) (greatest_of h.unit) (some-per h.lengths h.unit) few-parts) (few h.unit);
    }

pub parts-few : (h : Hole) → IsHole h → (k : ℕ) → 1 ≤ k → k ≤ count_bites h → Within (10 ^ 26) (exact h.r -ℤ pos (k * bite_of h.q))
parts-few h ok k some le =
    within-between (10 ^ 26) (exact h.z) (exact h.r) (exact h.r -ℤ pos (k * bite_of h.q)) (exact-few h h.z ok.z_fits ok.bottom) (exact-few h h.r ok.r_fits ok.top)
    (parts-over h ok k some le) (under_r (exact h.r) (k * bite_of h.q))

-- ---- bounds for the machine's numbers

whole-most : (h : Hole) → IsHole h → nat_abs (exact h.r -ℤ exact h.z) ≤ 2 * 10 ^ 36
whole-most h ok = by (exact h.r) (exact h.z) (exact-within h.r ok.r_fits) (exact-within h.z ok.z_fits)
  where
    by : (r z : ℤ) → nat_abs r ≤ 10 ^ 36 → nat_abs z ≤ 10 ^ 36 → nat_abs (r -ℤ z) ≤ 2 * 10 ^ 36
    by r z p q = omega (arith, ints)

pub away-most : (h : Hole) → IsHole h → (k : ℕ) → 1 ≤ k → k ≤ count_bites h → k * bite_of h.q ≤ 2 * 10 ^ 36
away-most h ok k some le = by (k * bite_of h.q) (nat_abs (exact h.r -ℤ exact h.z)) (under-whole h ok k some le) (whole-most h ok)
  where
    by : (t d : ℕ) → t + 1 ≤ d → d ≤ 2 * 10 ^ 36 → t ≤ 2 * 10 ^ 36
    by t d p q = omega arith

quotient-most : (d b : ℕ) → d ≤ 2 * 10 ^ 36 → bites_over d b ≤ 2 * 10 ^ 36
quotient-most d b le = omega (arith, div-le_self (d - 1) b)

pub count_most : (h : Hole) → IsHole h → count_bites h ≤ 2 * 10 ^ 36
count_most h ok = by (pecks h.cycle)
  where
    by : (b : Bool) → (if b then bites_over (nat_abs (exact h.r -ℤ exact h.z)) (bite_of h.q) else 0) ≤ 2 * 10 ^ 36
    by true = quotient-most (nat_abs (exact h.r -ℤ exact h.z)) (bite_of h.q) (whole-most h ok)
    by false = omega arith

-- how many pecks there are, by the cycle
pub count-some : (h : Hole) → pecks h.cycle ≡ true → count_bites h ≡ bites_over (nat_abs (exact h.r -ℤ exact h.z)) (bite_of h.q)
count-some h e = ap (λ (b : Bool). if b then bites_over (nat_abs (exact h.r -ℤ exact h.z)) (bite_of h.q) else 0) e

pub count-none : (h : Hole) → pecks h.cycle ≡ false → count_bites h ≡ 0
count-none h e = ap (λ (b : Bool). if b then bites_over (nat_abs (exact h.r -ℤ exact h.z)) (bite_of h.q) else 0) e
