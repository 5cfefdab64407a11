-- Where digits end.
use Rattle.std.proofs.Common.{◌≡◌, ℕ, ◌+◌, ◌<◌, ◌≤◌, List, [], ◌∷◌, length, get_or, drop, arith, true, false, refl, ap, ◌∙◌, add-one, drop-cons, length-drop, Bool}
use Rattle.std.proofs.Math.ListN.{drop_of_length-le}
use Rattle.std.specs.Char.{is_ascii_digit}
use Rattle.mill_words.specs.Plain.{digit_count, digits_end}

count-digit : (b : ℕ) (bytes : List ℕ) → is_ascii_digit b ≡ true → digit_count (b ∷ bytes) ≡ digit_count bytes + 1
unfolding digit_count
count-digit b bytes digit = rw digit refl

count-other : (b : ℕ) (bytes : List ℕ) → is_ascii_digit b ≡ false → digit_count (b ∷ bytes) ≡ 0
unfolding digit_count
count-other b bytes other = rw other refl

count-none : digit_count [] ≡ 0
unfolding digit_count
count-none = refl

-- the bytes at a place
at : (bytes : List ℕ) (p : ℕ) → p < length bytes → drop p bytes ≡ get_or bytes p 0 ∷ drop (p + 1) bytes
at bytes p lt = rw (add-one p) (drop-cons bytes p 0 lt)

-- a digit before others is one more
pub count-next : (bytes : List ℕ) (p : ℕ) → p < length bytes → is_ascii_digit (get_or bytes p 0) ≡ true
    → digit_count (drop p bytes) ≡ digit_count (drop (p + 1) bytes) + 1
count-next bytes p lt digit = ap digit_count (at bytes p lt) ∙ count-digit (get_or bytes p 0) (drop (p + 1) bytes) digit

-- none stands first where another byte does
pub count-stop : (bytes : List ℕ) (p : ℕ) → p < length bytes → is_ascii_digit (get_or bytes p 0) ≡ false → digit_count (drop p bytes) ≡ 0
count-stop bytes p lt other = ap digit_count (at bytes p lt) ∙ count-other (get_or bytes p 0) (drop (p + 1) bytes) other

count-cons : (t : Bool) (b : ℕ) (bytes : List ℕ) → is_ascii_digit b ≡ t → digit_count (b ∷ bytes) ≤ digit_count bytes + 1
count-cons true b bytes digit = omega (arith, count-digit b bytes digit)
count-cons false b bytes other = omega (arith, count-other b bytes other)

count-length : (bytes : List ℕ) → digit_count bytes ≤ length bytes
count-length [] = omega (arith, count-none)
count-length (b ∷ bytes) = omega (arith, count-cons (is_ascii_digit b) b bytes refl, count-length bytes)

-- fewer than so many bytes are fewer than so many digits
pub count-below : (bytes : List ℕ) (p n : ℕ) → p ≤ length bytes → length bytes < p + n → digit_count (drop p bytes) < n
count-below bytes p n within end = omega (arith, count-length (drop p bytes), length-drop p bytes)

-- one digit further on they end at the same place
pub digits_end-next : (bytes : List ℕ) (p : ℕ) → p < length bytes → is_ascii_digit (get_or bytes p 0) ≡ true
    → digits_end bytes (p + 1) ≡ digits_end bytes p
digits_end-next bytes p lt digit =
    let count : digit_count (drop p bytes) ≡ digit_count (drop (p + 1) bytes) + 1
    = ap digit_count (at bytes p lt) ∙ count-digit (get_or bytes p 0) (drop (p + 1) bytes) digit in
    omega (arith, count)

-- and they end before another byte
pub digits_end-other : (bytes : List ℕ) (p : ℕ) → p < length bytes → is_ascii_digit (get_or bytes p 0) ≡ false → digits_end bytes p ≡ p
digits_end-other bytes p lt other =
    let count : digit_count (drop p bytes) ≡ 0
    = ap digit_count (at bytes p lt) ∙ count-other (get_or bytes p 0) (drop (p + 1) bytes) other in
    omega (arith, count)

-- or where the line ends
pub digits_end-last : (bytes : List ℕ) (p : ℕ) → length bytes ≤ p → digits_end bytes p ≡ p
digits_end-last bytes p end =
    let count : digit_count (drop p bytes) ≡ 0 = ap digit_count (drop_of_length-le bytes {i = p} end) ∙ count-none in
    omega (arith, count)
