-- Runs of decimal digits: where they end, and the number that they stand for.
use Rattle.std.proofs.Common.{◌≡◌, ℕ, zero, suc, ◌+◌, ◌*◌, ◌≤◌, ◌<◌, List, [], ◌∷◌, ◌++◌, length, take, drop, get_or, arith, true, false, Bool, cond, refl, sym, ◌∙◌, one-add, add-one, drop-cons}
use Rattle.std.specs.Prelude.{decimal, ◌/◌, ◌%◌, ◌^◌}
use Rattle.std.specs.List.{prefix_len}
use Rattle.std.specs.Char.{is_ascii_digit, digit_value}
use Rattle.std.specs.Str.Parse.{AllDigits, digits_value, digits_value_after}
use Rattle.std.proofs.Math.ListN.{drop_of_length-le}
use Rattle.std.proofs.Math.Seq.{take-append_seam, take-suc}
use Rattle.std.proofs.lemmas.Bool.Decides.{nat_tests}
use Rattle.std.proofs.lemmas.List.{take_all}
use Rattle.std.proofs.lemmas.Fmt.{length-decimal-le}
use Rattle.mill_base.specs.Units.{places_of}
use Rattle.mill_base.specs.declared.unit.Unit.{Unit}
use Rattle.mill_base.specs.declared.unit.Unit.TheVariants.{Hundredth, Thousandth}
use Rattle.mill_decimal.specs.Spelling.{digits_of, after_digits}
use Rattle.mill_decimal.specs.Decimals.{last_digits}

-- the whole millimetres of so many units and their places take at most ten digits
pub short_decimal : (unit : Unit) (n : ℕ) → n < 4294967296 → length (decimal (n / 10 ^ places_of unit)) + places_of unit ≤ 10
short_decimal Hundredth n small = omega (arith, length-decimal-le 8 (n / 100) (omega arith) (omega arith) (omega arith))
short_decimal Thousandth n small = omega (arith, length-decimal-le 7 (n / 1000) (omega arith) (omega arith) (omega arith))

-- ---- where they end

is_digit : (b : ℕ) → is_ascii_digit b ≡ true → digit_value b < 10
is_digit b h = grind (arith, nat_tests)

pub digit_range : (b : ℕ) → is_ascii_digit b ≡ true → (48 ≤ b) × (b ≤ 57)
digit_range b h = grind (arith, nat_tests)

front_of : (b : ℕ) (text : List ℕ) (d : Bool) → AllDigits 10 (take (prefix_len is_ascii_digit text) text) → is_ascii_digit b ≡ d
    → AllDigits 10 (take (cond d (1 + prefix_len is_ascii_digit text) 0) (b ∷ text))
front_of b text true rest h = rw one-add (is_digit b h, rest)
front_of b text false rest h = tt

-- what a text begins with up to the first byte that is no digit is digits
pub digits_front : (text : List ℕ) → AllDigits 10 (take (prefix_len is_ascii_digit text) text)
digits_front [] = tt
digits_front (b ∷ text) = front_of b text (is_ascii_digit b) (digits_front text) refl

is_ascii : (d : ℕ) → digit_value d < 10 → is_ascii_digit d ≡ true
is_ascii d h = grind (arith, nat_tests)

-- digits before a byte that is none are all the digits in front
pub prefix_len-digits : (ds : List ℕ) (b : ℕ) (rest : List ℕ) → AllDigits 10 ds → is_ascii_digit b ≡ false → prefix_len is_ascii_digit (ds ++ b ∷ rest) ≡ length ds
prefix_len-digits [] b rest all none = rw none refl
prefix_len-digits (d ∷ ds) b rest all none = rw (is_ascii d all.0, prefix_len-digits ds b rest all.1 none, one-add) refl

drop_seam : (xs ys : List ℕ) → drop (length xs) (xs ++ ys) ≡ ys
drop_seam [] ys = refl
drop_seam (x ∷ xs) ys = drop_seam xs ys

pub digits_of-append : (ds : List ℕ) (b : ℕ) (rest : List ℕ) → AllDigits 10 ds → is_ascii_digit b ≡ false → digits_of (ds ++ b ∷ rest) ≡ ds
unfolding digits_of
digits_of-append ds b rest all none = rw (prefix_len-digits ds b rest all none) (take-append_seam ds (b ∷ rest))

pub after_digits-append : (ds : List ℕ) (b : ℕ) (rest : List ℕ) → AllDigits 10 ds → is_ascii_digit b ≡ false → after_digits (ds ++ b ∷ rest) ≡ b ∷ rest
unfolding after_digits
after_digits-append ds b rest all none = rw (prefix_len-digits ds b rest all none) (drop_seam ds (b ∷ rest))

-- nothing but digits are all the digits in front
prefix_len-all : (ds : List ℕ) → AllDigits 10 ds → prefix_len is_ascii_digit ds ≡ length ds
prefix_len-all [] all = refl
prefix_len-all (d ∷ ds) all = rw (is_ascii d all.0, prefix_len-all ds all.1, one-add) refl

pub digits_of-all : (ds : List ℕ) → AllDigits 10 ds → digits_of ds ≡ ds
unfolding digits_of
digits_of-all ds all = rw (prefix_len-all ds all) (take_all (length ds) ds (omega arith))

pub after_digits-all : (ds : List ℕ) → AllDigits 10 ds → after_digits ds ≡ []
unfolding after_digits
after_digits-all ds all = rw (prefix_len-all ds all) (drop_of_length-le ds (omega arith))

-- ---- what they stand for

-- the step of a loop that reads digits: the value of what is left, behind the value so far, stays the same
pub goes_on : (digits : List ℕ) (i v w total : ℕ) → i < length digits → w ≡ v * 10 + digit_value (get_or digits i 0)
    → digits_value_after 10 v (drop i digits) ≡ total → digits_value_after 10 w (drop (i + 1) digits) ≡ total
goes_on digits i v w total lt e so_far =
    let one : digits_value_after 10 v (drop i digits) ≡ digits_value_after 10 w (drop (i + 1) digits) = rw (add-one i, drop-cons digits i 0 lt, e) refl in
    sym one ∙ so_far

after-append : (n : ℕ) (xs ys : List ℕ) → digits_value_after 10 n (xs ++ ys) ≡ digits_value_after 10 (digits_value_after 10 n xs) ys
after-append n [] ys = refl
after-append n (x ∷ xs) ys = after-append (n * 10 + digit_value x) xs ys

-- digits behind digits go on from their value
pub digits_value-append : (xs ys : List ℕ) → digits_value 10 (xs ++ ys) ≡ digits_value_after 10 (digits_value 10 xs) ys
digits_value-append xs ys = after-append 0 xs ys

-- the number of one digit more
pub digits_value_after-take : (front : ℕ) (text : List ℕ) (i : ℕ) → i < length text
    → digits_value_after 10 front (take (i + 1) text) ≡ digits_value_after 10 front (take i text) * 10 + digit_value (get_or text i 0)
digits_value_after-take front text i lt =
    rw (add-one i, take-suc text i 0 lt, after-append front (take i text) (get_or text i 0 ∷ [])) refl

-- ---- the last digits of a number

-- a digit's byte is a digit of that value
value_of : (a : ℕ) → a < 10 → digit_value (48 + a) ≡ a
value_of a small = grind (arith, nat_tests)

pub length-last_digits : (k n : ℕ) → length (last_digits k n) ≡ k
length-last_digits zero n = refl
length-last_digits (suc k) n = rw (length-last_digits k n) refl

pub last_digits-all : (k n : ℕ) → AllDigits 10 (last_digits k n)
last_digits-all zero n = tt
last_digits-all (suc k) n = (rw (value_of (n / 10 ^ k % 10) (omega arith)) (omega arith), last_digits-all k n)

-- as many as a unit has places, behind the number before them, are the number again
pub value-places : (unit : Unit) (n : ℕ) → digits_value_after 10 (n / 10 ^ places_of unit) (last_digits (places_of unit) n) ≡ n
value-places Hundredth n = rw (value_of (n / 10 % 10) (omega arith), value_of (n / 1 % 10) (omega arith)) (omega arith)
value-places Thousandth n =
    rw (value_of (n / 100 % 10) (omega arith), value_of (n / 10 % 10) (omega arith), value_of (n / 1 % 10) (omega arith)) (omega arith)
