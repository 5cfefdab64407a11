-- Which numbers are plain, and where they end.
use Rattle.std.specs.Prelude.{ℕ, ◌+◌, ◌<◌, ◌≤◌, nat_lt, nat_le, ◌==◌, Bool, ◌&&◌, if◌then◌else◌, List, [], ◌∷◌, length, drop, slice_index}
use Rattle.std.specs.Char.{is_ascii_digit}
use Rattle.mill_words.specs.Marks.{is_blank}

-- how many digits stand first
unfoldable pub digit_count : List ℕ → ℕ
digit_count [] = 0
digit_count (b ∷ bytes) = if is_ascii_digit b then digit_count bytes + 1 else 0

-- the digits from the place p on end there
abbrev pub digits_end : List ℕ → ℕ → ℕ
digits_end bytes p = p + digit_count (drop p bytes)

-- the byte b stands at the place p
abbrev pub has_at : ℕ → List ℕ → ℕ → Bool
has_at b bytes p = nat_lt p (length bytes) && (slice_index bytes p == b)

-- a digit stands at the place p
abbrev pub is_digit_at : List ℕ → ℕ → Bool
is_digit_at bytes p = nat_lt p (length bytes) && is_ascii_digit (slice_index bytes p)

-- behind the minus sign (45) at the place p, if one stands there
abbrev pub sign_end : List ℕ → ℕ → ℕ
sign_end bytes p = if has_at 45 bytes p then p + 1 else p

-- behind the blank at the place p, if one stands there
abbrev pub blank_end : List ℕ → ℕ → ℕ
blank_end bytes p = if nat_lt p (length bytes) && is_blank (slice_index bytes p) then p + 1 else p

-- behind the space (32) at the place p, if one stands there
abbrev pub space_end : List ℕ → ℕ → ℕ
space_end bytes p = if has_at 32 bytes p then p + 1 else p

-- behind the sign and the first digits of a number that begins at the place p
abbrev pub whole_end : List ℕ → ℕ → ℕ
whole_end bytes p = digits_end bytes (sign_end bytes p)

-- a point (46) stands there
abbrev pub is_pointed : List ℕ → ℕ → Bool
is_pointed bytes p = has_at 46 bytes (whole_end bytes p)

-- behind the number
unfoldable pub number_end : List ℕ → ℕ → ℕ
number_end bytes p = if is_pointed bytes p then digits_end bytes (whole_end bytes p + 1) else whole_end bytes p

-- how many digits it has behind its point
abbrev pub part_digits : List ℕ → ℕ → ℕ
part_digits bytes p = if is_pointed bytes p then digit_count (drop (whole_end bytes p + 1) bytes) else 0

-- how many it has in all
unfoldable pub number_digits : List ℕ → ℕ → ℕ
number_digits bytes p = digit_count (drop (sign_end bytes p) bytes) + part_digits bytes p

-- at the place p begins a minus sign or none, and 1 to 18 digits with a point before, among or behind them or none
abbrev pub IsPlainNumber : List ℕ → ℕ → Type 0
IsPlainNumber bytes p = (0 < number_digits bytes p) × (number_digits bytes p ≤ 18)

-- at the place p begins a minus sign or none, at most 15 digits, a point, and at least so many digits behind it
unfoldable pub is_decimal : ℕ → List ℕ → ℕ → Bool
is_decimal places bytes p = (nat_le (digit_count (drop (sign_end bytes p) bytes)) 15 && is_pointed bytes p) && nat_le places (digit_count (drop (whole_end bytes p + 1) bytes))
