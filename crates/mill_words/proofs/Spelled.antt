-- A line of words, each parted from the next by a space, says these words.
use Rattle.std.proofs.Common.{◌≡◌, ℕ, ◌+◌, ◌*◌, ◌≤◌, ◌<◌, List, [], ◌∷◌, ◌++◌, length, map, arith, Bool, true, false, cond, Option, Some, None, Result, Ok, refl, ap, ◌∙◌, append_assoc, append-nil, add-zero, length-append}
use Rattle.std.specs.Prelude.{◌==◌}
use Rattle.std.specs.Char.{is_ascii_digit, is_ascii_alphabetic, to_ascii_uppercase, digit_value}
use Rattle.std.specs.Str.Parse.{AllDigits, digits_value, digits_value_after}
use Rattle.std.proofs.lemmas.Bool.Decides.{nat_tests}
use Rattle.mill_words.specs.Words.{Line, empty_line}
use Rattle.mill_words.specs.Marks.{is_blank, marks_from}
use Rattle.mill_words.specs.Lines.{grown_word, finished, started, read_marks, line_of, opened_at, with_digit, is_sign}
use Rattle.mill_words.specs.declared.word.Num.{Num}
use Rattle.mill_words.specs.declared.word.Word.{Word}
use Rattle.mill_words.specs.declared.word.WordFault.{WordFault}
use Rattle.mill_words.specs.declared.marks.Region.TheVariants.{Outside}
use Rattle.mill_words.specs.declared.open_word.OpenWord.{OpenWord}
use Rattle.mill_words.specs.declared.stage.Stage.{Stage}
use Rattle.mill_words.specs.declared.stage.Stage.TheVariants.{Start, InWord}

-- ---- spellings

-- a word as it is spelled: its letter, a minus sign or none, digits, and a point with digits behind it or none
pub record Spelled : Type 0 where
  pub letter : ℕ
  pub neg : Bool
  pub whole : List ℕ
  pub part : Option (List ℕ)

abbrev pub sign_text : Bool → List ℕ
sign_text neg = cond neg (45 ∷ []) []

abbrev pub part_text : Option (List ℕ) → List ℕ
part_text None = []
part_text (Some ds) = 46 ∷ ds

abbrev pub part_digits : Option (List ℕ) → List ℕ
part_digits None = []
part_digits (Some ds) = ds

abbrev number_text : Spelled → List ℕ
number_text s = sign_text s.neg ++ (s.whole ++ part_text s.part)

-- the word's bytes
abbrev pub spelling : Spelled → List ℕ
spelling s = s.letter ∷ number_text s

abbrev pub num_of : Spelled → Num
num_of s = record { neg = s.neg; mant = digits_value 10 (s.whole ++ part_digits s.part); scale = length (part_digits s.part) }

abbrev pub word_of : Spelled → Word
word_of s = record { letter = s.letter; num = num_of s }

-- a capital letter other than N, and one to 18 digits
pub record IsSpelled (s : Spelled) : Type 0 where
  pub least : 65 ≤ s.letter
  pub most : s.letter ≤ 90
  pub no_line_number : (s.letter == 78) ≡ false
  pub whole : AllDigits 10 s.whole
  pub part : AllDigits 10 (part_digits s.part)
  pub some : 0 < length s.whole + length (part_digits s.part)
  pub few : length s.whole + length (part_digits s.part) ≤ 18

abbrev pub AreSpelled : List Spelled → Type 0
AreSpelled [] = Unit {0}
AreSpelled (s ∷ ss) = IsSpelled s × AreSpelled ss

-- words behind the first, each with a space before it
abbrev pub more_text : List Spelled → List ℕ
more_text [] = []
more_text (s ∷ ss) = 32 ∷ (spelling s ++ more_text ss)

-- ---- digits

-- what a line says from the byte at the place p on, outside comments, where this has begun and that stands before it
abbrev pub reading : Stage → Line → ℕ → List ℕ → Result Line WordFault
reading stage line p bytes = read_marks stage line (marks_from Outside p bytes)

is_digit : (d : ℕ) → digit_value d < 10 → is_ascii_digit d ≡ true
is_digit d h = grind (arith, nat_tests)

not_blank : (d : ℕ) → digit_value d < 10 → is_blank d ≡ false
not_blank d h = grind (arith, nat_tests)

not_open : (d : ℕ) → digit_value d < 10 → (d == 40) ≡ false
not_open d h = grind (arith, nat_tests)

not_semicolon : (d : ℕ) → digit_value d < 10 → (d == 59) ≡ false
not_semicolon d h = grind (arith, nat_tests)

has_room : (n : ℕ) → n < 18 → (n == 18) ≡ false
has_room n h = grind (arith, nat_tests)

-- a digit is added to the number
pub digit-read : (w : OpenWord) (line : Line) (p d : ℕ) (bytes : List ℕ) → digit_value d < 10 → w.digits < 18
    → reading (InWord w) line p (d ∷ bytes) ≡ reading (InWord (with_digit w d)) line (p + 1) bytes
unfolding read_marks marks_from grown_word
digit-read w line p d bytes digit few =
    rw (not_blank d digit, not_open d digit, not_semicolon d digit, is_digit d digit, has_room w.digits few) refl

-- a word with n digits, none of them behind a point
abbrev whole_word : ℕ → ℕ → Bool → Bool → ℕ → ℕ → OpenWord
whole_word letter place neg signed mant n =
    record { letter = letter; place = place; num = record { neg = neg; mant = mant; scale = 0 }; digits = n; signed = signed; pointed = false }

-- a word with n digits, `scale` of them behind its point
abbrev part_word : ℕ → ℕ → Bool → Bool → ℕ → ℕ → ℕ → OpenWord
part_word letter place neg signed mant scale n =
    record { letter = letter; place = place; num = record { neg = neg; mant = mant; scale = scale }; digits = n; signed = signed; pointed = true }

whole-read : (letter place : ℕ) (neg signed : Bool) (line : Line) (rest : List ℕ) (total : Result Line WordFault) (ds : List ℕ) (mant n p : ℕ)
    → AllDigits 10 ds → n + length ds ≤ 18
    → ((q : ℕ) → reading (InWord (whole_word letter place neg signed (digits_value_after 10 mant ds) (n + length ds))) line q rest ≡ total)
    → reading (InWord (whole_word letter place neg signed mant n)) line p (ds ++ rest) ≡ total
whole-read letter place neg signed line rest total [] mant n p all few goes = rw add-zero at (goes p)
whole-read letter place neg signed line rest total (d ∷ ds) mant n p all few goes =
    let value : 10 * mant + digit_value d ≡ mant * 10 + digit_value d = omega arith in
    let count : n + 1 + length ds ≡ n + length (d ∷ ds) = omega arith in
    digit-read (whole_word letter place neg signed mant n) line p d (ds ++ rest) all.0 (omega arith)
    ∙ whole-read letter place neg signed line rest total ds (10 * mant + digit_value d) (n + 1) (p + 1) all.1 (omega arith) (λ q. rw (value, count) (goes q))

part-read : (letter place : ℕ) (neg signed : Bool) (line : Line) (rest : List ℕ) (total : Result Line WordFault) (ds : List ℕ) (mant scale n p : ℕ)
    → AllDigits 10 ds → n + length ds ≤ 18
    → ((q : ℕ) → reading (InWord (part_word letter place neg signed (digits_value_after 10 mant ds) (scale + length ds) (n + length ds))) line q rest ≡ total)
    → reading (InWord (part_word letter place neg signed mant scale n)) line p (ds ++ rest) ≡ total
part-read letter place neg signed line rest total [] mant scale n p all few goes = rw (add-zero scale, add-zero n) at (goes p)
part-read letter place neg signed line rest total (d ∷ ds) mant scale n p all few goes =
    let value : 10 * mant + digit_value d ≡ mant * 10 + digit_value d = omega arith in
    let places : scale + 1 + length ds ≡ scale + length (d ∷ ds) = omega arith in
    let count : n + 1 + length ds ≡ n + length (d ∷ ds) = omega arith in
    digit-read (part_word letter place neg signed mant scale n) line p d (ds ++ rest) all.0 (omega arith)
    ∙ part-read letter place neg signed line rest total ds (10 * mant + digit_value d) (scale + 1) (n + 1) (p + 1) all.1 (omega arith) (λ q. rw (value, places, count) (goes q))

-- ---- a number

-- a word of this letter and this number has begun, and has digits
record IsOpen (letter : ℕ) (num : Num) (w : OpenWord) : Type 0 where
  letter_is : w.letter ≡ letter
  num_is : w.num ≡ num
  some : (w.digits == 0) ≡ false

-- the rest of the line comes to this, whatever the place and the rest of the word are
abbrev GoesOn : ℕ → Num → Line → List ℕ → Result Line WordFault → Type 0
GoesOn letter num line rest total = (w : OpenWord) (q : ℕ) → IsOpen letter num w → reading (InWord w) line q rest ≡ total

after-append : (n : ℕ) (xs ys : List ℕ) → digits_value_after 10 n (xs ++ ys) ≡ digits_value_after 10 (digits_value_after 10 n xs) ys
after-append n [] ys = refl
after-append n (x ∷ xs) ys = after-append (n * 10 + digit_value x) xs ys

not_zero : (n : ℕ) → 0 < n → (n == 0) ≡ false
not_zero n h = grind (arith, nat_tests)

pub point-read : (letter place : ℕ) (neg signed : Bool) (line : Line) (rest : List ℕ) (mant n p : ℕ)
    → reading (InWord (whole_word letter place neg signed mant n)) line p (46 ∷ rest) ≡ reading (InWord (part_word letter place neg signed mant 0 n)) line (p + 1) rest
unfolding read_marks marks_from grown_word
point-read letter place neg signed line rest mant n p = refl

pub sign-read : (letter place : ℕ) (line : Line) (rest : List ℕ) (p : ℕ)
    → reading (InWord (opened_at letter place)) line p (45 ∷ rest) ≡ reading (InWord (whole_word letter place true true 0 0)) line (p + 1) rest
unfolding read_marks marks_from grown_word
sign-read letter place line rest p = refl

-- behind its sign
unsigned-read : (letter place : ℕ) (neg signed : Bool) (whole : List ℕ) (part : Option (List ℕ)) (line : Line) (rest : List ℕ) (total : Result Line WordFault) (p : ℕ)
    → AllDigits 10 whole → AllDigits 10 (part_digits part) → 0 < length whole + length (part_digits part) → length whole + length (part_digits part) ≤ 18
    → GoesOn letter (record { neg = neg; mant = digits_value 10 (whole ++ part_digits part); scale = length (part_digits part) }) line rest total
    → reading (InWord (whole_word letter place neg signed 0 0)) line p (whole ++ (part_text part ++ rest)) ≡ total
unsigned-read letter place neg signed whole None line rest total p whole_ok part_ok some few goes =
    whole-read letter place neg signed line rest total whole 0 0 p whole_ok (omega arith) (λ q. goes _ q (record {
      letter_is = refl;
      num_is = rw (append-nil whole) refl;
      some = not_zero (0 + length whole) (omega arith);
    }))
unsigned-read letter place neg signed whole (Some ds) line rest total p whole_ok part_ok some few goes =
    whole-read letter place neg signed line (46 ∷ (ds ++ rest)) total whole 0 0 p whole_ok (omega arith) (λ q.
    point-read letter place neg signed line (ds ++ rest) (digits_value_after 10 0 whole) (0 + length whole) q
    ∙ part-read letter place neg signed line rest total ds (digits_value_after 10 0 whole) 0 (0 + length whole) (q + 1) part_ok (omega arith) (λ r. goes _ r (record {
      letter_is = refl;
      num_is = rw (after-append 0 whole ds, zero_add (length ds)) refl;
      some = not_zero (0 + length whole + length ds) (omega arith);
    })))
  where
    zero_add : (n : ℕ) → 0 + n ≡ n
    zero_add n = omega arith

signed-read : (letter place : ℕ) (neg : Bool) (whole : List ℕ) (part : Option (List ℕ)) (line : Line) (rest : List ℕ) (total : Result Line WordFault) (p : ℕ)
    → AllDigits 10 whole → AllDigits 10 (part_digits part) → 0 < length whole + length (part_digits part) → length whole + length (part_digits part) ≤ 18
    → GoesOn letter (record { neg = neg; mant = digits_value 10 (whole ++ part_digits part); scale = length (part_digits part) }) line rest total
    → reading (InWord (opened_at letter place)) line p ((sign_text neg ++ (whole ++ part_text part)) ++ rest) ≡ total
signed-read letter place true whole part line rest total p whole_ok part_ok some few goes =
    sign-read letter place line ((whole ++ part_text part) ++ rest) p
    ∙ rw (append_assoc whole (part_text part) rest) (unsigned-read letter place true true whole part line rest total (p + 1) whole_ok part_ok some few goes)
signed-read letter place false whole part line rest total p whole_ok part_ok some few goes =
    rw (append_assoc whole (part_text part) rest) (unsigned-read letter place false false whole part line rest total p whole_ok part_ok some few goes)

number-read : (s : Spelled) (place : ℕ) (line : Line) (rest : List ℕ) (total : Result Line WordFault) (p : ℕ)
    → IsSpelled s → GoesOn s.letter (num_of s) line rest total
    → reading (InWord (opened_at s.letter place)) line p (number_text s ++ rest) ≡ total
number-read s place line rest total p ok goes = signed-read s.letter place s.neg s.whole s.part line rest total p ok.whole ok.part ok.some ok.few goes

-- ---- letters

-- what a capital letter other than N is not, and is
record IsLetter (c : ℕ) : Type 0 where
  blank : is_blank c ≡ false
  parenthesis : (c == 40) ≡ false
  semicolon : (c == 59) ≡ false
  digit : is_ascii_digit c ≡ false
  point : (c == 46) ≡ false
  sign : is_sign c ≡ false
  slash : (c == 47) ≡ false
  alphabetic : is_ascii_alphabetic c ≡ true
  upper : to_ascii_uppercase c ≡ c

letter_of : (c : ℕ) → 65 ≤ c → c ≤ 90 → IsLetter c
letter_of c least most = record {
  blank = grind (arith, nat_tests);
  parenthesis = grind (arith, nat_tests);
  semicolon = grind (arith, nat_tests);
  digit = grind (arith, nat_tests);
  point = grind (arith, nat_tests);
  sign = grind (arith, nat_tests);
  slash = grind (arith, nat_tests);
  alphabetic = grind (arith, nat_tests);
  upper = grind (arith, nat_tests);
}

-- a line of these words
abbrev words_line : List Word → Line
words_line words = record { slash = false; numbered = false; words = words }

-- the first word's letter
first-read : (c : ℕ) (rest : List ℕ) → IsLetter c → (c == 78) ≡ false → reading Start empty_line 0 (c ∷ rest) ≡ reading (InWord (opened_at c 0)) empty_line 1 rest
unfolding read_marks marks_from finished started
first-read c rest letter other =
    rw (letter.blank, letter.parenthesis, letter.semicolon, letter.slash, letter.upper, other, letter.alphabetic) refl

has_place : (n : ℕ) → n < 32 → (n == 32) ≡ false
has_place n h = grind (arith, nat_tests)

-- the next word's letter ends the word before it
next-read : (w : OpenWord) (letter : ℕ) (num : Num) (before : List Word) (c q : ℕ) (rest : List ℕ) → IsOpen letter num w → IsLetter c → (c == 78) ≡ false
    → length (before ++ record { letter = letter; num = num } ∷ []) < 32
    → reading (InWord w) (words_line before) q (32 ∷ c ∷ rest)
    ≡ reading (InWord (opened_at c (q + 1))) (words_line (before ++ record { letter = letter; num = num } ∷ [])) (q + 1 + 1) rest
unfolding read_marks marks_from grown_word finished started
next-read w letter num before c q rest open_word capital other room =
    rw (
      capital.blank,
      capital.parenthesis,
      capital.semicolon,
      capital.digit,
      capital.point,
      capital.sign,
      open_word.some,
      open_word.letter_is,
      open_word.num_is,
      capital.upper,
      other,
      capital.alphabetic,
      has_place (length (before ++ record { letter = letter; num = num } ∷ [])) room,
    ) refl

-- the line's end ends the last word
end-read : (w : OpenWord) (letter : ℕ) (num : Num) (before : List Word) (q : ℕ) → IsOpen letter num w
    → reading (InWord w) (words_line before) q [] ≡ Ok (words_line (before ++ record { letter = letter; num = num } ∷ []))
unfolding read_marks marks_from finished
end-read w letter num before q open_word = rw (open_word.some, open_word.letter_is, open_word.num_is) refl

-- ---- the line

more-read : (ss : List Spelled) (w : OpenWord) (letter : ℕ) (num : Num) (before : List Word) (q : ℕ)
    → AreSpelled ss → IsOpen letter num w → length before + 1 + length ss ≤ 32
    → reading (InWord w) (words_line before) q (more_text ss) ≡ Ok (words_line ((before ++ record { letter = letter; num = num } ∷ []) ++ map word_of ss))
more-read [] w letter num before q all open_word few = rw append-nil (end-read w letter num before q open_word)
more-read (s ∷ ss) w letter num before q all open_word few =
    let this : Word = record { letter = letter; num = num } in
    let longer : length (before ++ this ∷ []) ≡ length before + 1 = omega (arith, length-append before (this ∷ [])) in
    let regroup : ((before ++ this ∷ []) ++ word_of s ∷ []) ++ map word_of ss ≡ (before ++ this ∷ []) ++ map word_of (s ∷ ss) = simp append_assoc in
    next-read w letter num before s.letter q (number_text s ++ more_text ss) open_word (letter_of s.letter all.0.least all.0.most) all.0.no_line_number (omega arith)
    ∙ number-read s (q + 1) (words_line (before ++ this ∷ [])) (more_text ss) (Ok (words_line ((before ++ this ∷ []) ++ map word_of (s ∷ ss)))) (q + 1 + 1) all.0
    (λ v r open_next. more-read ss v s.letter (num_of s) (before ++ this ∷ []) r all.1 open_next (omega arith) ∙ ap (λ (words : List Word). Ok (words_line words)) regroup)

-- a line of words says these words
pub line_of-spelled : (s : Spelled) (ss : List Spelled) → IsSpelled s → AreSpelled ss → length ss < 32
    → line_of (spelling s ++ more_text ss) ≡ Ok (words_line (word_of s ∷ map word_of ss))
unfolding line_of
line_of-spelled s ss ok all few =
    first-read s.letter (number_text s ++ more_text ss) (letter_of s.letter ok.least ok.most) ok.no_line_number
    ∙ number-read s 0 empty_line (more_text ss) (Ok (words_line (word_of s ∷ map word_of ss))) 1 ok
    (λ w q open_word. more-read ss w s.letter (num_of s) [] q all open_word (omega arith))
