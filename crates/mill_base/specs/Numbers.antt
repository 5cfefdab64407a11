-- Whole-number division, rounding and roots.
use Rattle.std.specs.Prelude.{ℕ, zero, suc, ◌+◌, ◌*◌, ◌/◌, ◌%◌, ◌^◌, ◌==◌, ◌≤◌, leb, Bool, true, false, cond, ℤ, pos, negsuc, ◌+ℤ◌, ◌*ℤ◌, neg_ℤ, nat_abs, int_lt}

-- the greatest whole number that is at most z/n; n is at least 1
abbrev pub floor_div : ℤ → ℕ → ℤ
floor_div (pos a) n = pos (a / n)
floor_div (negsuc a) n = negsuc (a / n)

-- the least whole number that is at least z/n
abbrev pub ceil_div : ℤ → ℕ → ℤ
ceil_div z n = neg_ℤ (floor_div (neg_ℤ z) n)

-- z/n rounded to the nearest whole number, halves up
abbrev pub round_half_up : ℤ → ℕ → ℤ
round_half_up z n = floor_div (pos 2 *ℤ z +ℤ pos n) (2 * n)

-- z is a multiple of n
abbrev pub divides : ℕ → ℤ → Bool
divides n z = nat_abs z % n == 0

-- the least number from start on, and under start + more, that passes the test; else start + more
abbrev pub least_from : (ℕ → Bool) → ℕ → ℕ → ℕ
least_from test zero start = start
least_from test (suc more) start = elim (test start) [ true ↦ start | false ↦ least_from test more (start + 1) ]

-- the greatest r with r*r at most n, for n under 4 ^ bits: from its highest bit to its lowest
abbrev pub root_from : ℕ → ℕ → ℕ → ℕ
root_from zero r n = r
root_from (suc bits) r n = root_from bits (cond (leb ((r + 2 ^ bits) * (r + 2 ^ bits)) n) (r + 2 ^ bits) r) n

-- the greatest r with r*r at most n; n is under 2 ^ 64
abbrev pub floor_root_of : ℕ → ℕ
floor_root_of n = root_from 32 0 n

-- the least r with r*r at least n; n is under 2 ^ 64
abbrev pub ceil_root_of : ℕ → ℕ
ceil_root_of n = cond (floor_root_of n * floor_root_of n == n) (floor_root_of n) (floor_root_of n + 1)

-- a number times itself
abbrev pub square : ℤ → ℤ
square a = a *ℤ a

-- the lesser and the greater of two numbers
abbrev pub lesser : ℤ → ℤ → ℤ
lesser a b = cond (int_lt b a) b a

abbrev pub greater : ℤ → ℤ → ℤ
greater a b = cond (int_lt a b) b a

-- the magnitude is at most m
pub record Within (m : ℕ) (a : ℤ) : Type 0 where
  pub within : nat_abs a ≤ m
