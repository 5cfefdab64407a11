-- What a line says from one of its places on, where a plain word stands there.
use Rattle.std.proofs.Common.{◌≡◌, ℕ, ◌+◌, ◌<◌, ◌≤◌, List, ◌∷◌, length, get_or, drop, arith, Bool, true, false, not, ◌&&◌, cond, Result, Ok, Err, refl, sym, ap, ◌∙◌, add-one, drop-cons}
use Rattle.std.proofs.Math.ListN.{drop_of_length-le}
use Rattle.std.specs.Prelude.{◌==◌}
use Rattle.std.specs.Char.{is_ascii_digit, is_ascii_alphabetic, to_ascii_uppercase}
use Rattle.std.proofs.lemmas.Bool.{false≢true}
use Rattle.std.proofs.lemmas.Bool.Decides.{nat_tests}
use Rattle.mill_words.specs.Words.{Line}
use Rattle.mill_words.specs.Marks.{is_blank, marks_from}
use Rattle.mill_words.specs.Lines.{◌>>=◌, grown_word, grown_number, finished, started, begun, read_marks, opened_at, is_sign}
use Rattle.mill_words.specs.declared.word.WordFault.{WordFault}
use Rattle.mill_words.specs.declared.marks.Region.{Region}
use Rattle.mill_words.specs.declared.marks.Region.TheVariants.{Outside, Comment, Ignored}
use Rattle.mill_words.specs.declared.open_word.OpenWord.{OpenWord}
use Rattle.mill_words.specs.declared.stage.Stage.{Stage}
use Rattle.mill_words.specs.declared.stage.Stage.TheVariants.{Start, Slashed, InLineNumber, Between, InWord}
use Rattle.mill_words.specs.inner.Places.{rest_of, begins_word_in, IsApart, plain_word, with_word}
use Rattle.mill_words.proofs.Spelled.{reading, point-read, sign-read}

-- the byte at a place before those behind it
pub at-place : (s : Stage) (l : Line) (bytes : List ℕ) (p : ℕ) → p < length bytes
    → rest_of Outside s l bytes p ≡ reading s l p (get_or bytes p 0 ∷ drop (p + 1) bytes)
at-place s l bytes p lt = rw (add-one p, drop-cons bytes p 0 lt) refl

-- ---- signs and points

-- a minus sign behind the letter, or none
pub sign-at : (neg : Bool) (bytes : List ℕ) (from : ℕ) (letter place : ℕ) (l : Line)
    → (neg ≡ true → from < length bytes) → (neg ≡ true → get_or bytes from 0 ≡ 45)
    → rest_of Outside (InWord (opened_at letter place)) l bytes from
    ≡ rest_of Outside (InWord (plain_word letter place neg 0 0 0 false)) l bytes (from + cond neg 1 0)
sign-at false bytes from letter place l within byte =
    let here : from + 0 ≡ from = omega arith in
    rw here refl
sign-at true bytes from letter place l within byte =
    at-place (InWord (opened_at letter place)) l bytes from (within refl)
    ∙ rw (byte refl) (sign-read letter place l (drop (from + 1) bytes) from)

-- a point behind digits
pub point-at : (bytes : List ℕ) (p : ℕ) (letter place : ℕ) (neg : Bool) (mant digits : ℕ) (l : Line)
    → p < length bytes → get_or bytes p 0 ≡ 46
    → rest_of Outside (InWord (plain_word letter place neg mant 0 digits false)) l bytes p
    ≡ rest_of Outside (InWord (plain_word letter place neg mant 0 digits true)) l bytes (p + 1)
point-at bytes p letter place neg mant digits l lt byte =
    at-place (InWord (plain_word letter place neg mant 0 digits false)) l bytes p lt
    ∙ rw byte (point-read letter place neg neg l (drop (p + 1) bytes) mant digits p)

-- ---- blanks and letters

blank-read : (s : Stage) (l : Line) (p b : ℕ) (bytes : List ℕ) → is_blank b ≡ true → reading s l p (b ∷ bytes) ≡ reading s l (p + 1) bytes
unfolding marks_from
blank-read s l p b bytes blank = rw blank refl

-- a blank has no meaning
pub blank-at : (s : Stage) (l : Line) (bytes : List ℕ) (p : ℕ) → p < length bytes → is_blank (get_or bytes p 0) ≡ true
    → rest_of Outside s l bytes p ≡ rest_of Outside s l bytes (p + 1)
blank-at s l bytes p lt blank = at-place s l bytes p lt ∙ blank-read s l p (get_or bytes p 0) (drop (p + 1) bytes) blank

-- the letter of a word: where it stands, and what it is and isn't
pub record BeginsWord (r : Region) (b : ℕ) : Type 0 where
  pub outside : r ≡ Outside
  pub alphabetic : is_ascii_alphabetic b ≡ true
  pub other : (to_ascii_uppercase b == 78) ≡ false

both : (x y : Bool) → (x && not y) ≡ true → (x ≡ true) × (y ≡ false)
both true true h = absurd (false≢true h)
both true false h = (refl, refl)
both false y h = absurd (false≢true h)

pub begins-word : (r : Region) (b : ℕ) → begins_word_in r b ≡ true → BeginsWord r b
begins-word Outside b h =
    let parts = both (is_ascii_alphabetic b) (to_ascii_uppercase b == 78) h in
    record { outside = refl; alphabetic = parts.0; other = parts.1 }
begins-word (Comment from) b h = absurd (false≢true h)
begins-word Ignored b h = absurd (false≢true h)

-- what a letter is not
record IsLetter (c : ℕ) : Type 0 where
  blank : is_blank c ≡ false
  parenthesis : (c == 40) ≡ false
  semicolon : (c == 59) ≡ false
  digit : is_ascii_digit c ≡ false
  point : (c == 46) ≡ false
  sign : is_sign c ≡ false
  slash : (c == 47) ≡ false

letter_of : (c : ℕ) → is_ascii_alphabetic c ≡ true → IsLetter c
letter_of c h = record {
  blank = grind (arith, nat_tests);
  parenthesis = grind (arith, nat_tests);
  semicolon = grind (arith, nat_tests);
  digit = grind (arith, nat_tests);
  point = grind (arith, nat_tests);
  sign = grind (arith, nat_tests);
  slash = grind (arith, nat_tests);
}

-- a letter ends what has begun
letter-read : (s : Stage) (l : Line) (p c : ℕ) (bytes : List ℕ) → IsLetter c
    → reading s l p (c ∷ bytes) ≡ (finished s l >>= begun p c) >>= λ v. reading v.0 v.1 (p + 1) bytes
unfolding read_marks marks_from grown_word grown_number
letter-read Start l p c bytes letter = rw (letter.blank, letter.parenthesis, letter.semicolon) refl
letter-read Slashed l p c bytes letter = rw (letter.blank, letter.parenthesis, letter.semicolon) refl
letter-read Between l p c bytes letter = rw (letter.blank, letter.parenthesis, letter.semicolon) refl
letter-read (InLineNumber place digits) l p c bytes letter =
    rw (letter.blank, letter.parenthesis, letter.semicolon, letter.digit, letter.point, letter.sign) refl
letter-read (InWord w) l p c bytes letter =
    rw (letter.blank, letter.parenthesis, letter.semicolon, letter.digit, letter.point, letter.sign) refl

apart-finished : (s : Stage) (l : Line) → IsApart s → finished s l ≡ Ok (s, l)
unfolding finished
apart-finished Start l apart = refl
apart-finished Slashed l apart = refl
apart-finished Between l apart = refl
apart-finished (InLineNumber place digits) l apart = absurd apart
apart-finished (InWord w) l apart = absurd apart

-- so what the line says from a letter on is what it says where that has ended
pub letter-ends : (s t : Stage) (l m : Line) (bytes : List ℕ) (p : ℕ) → p < length bytes → is_ascii_alphabetic (get_or bytes p 0) ≡ true
    → finished s l ≡ Ok (t, m) → IsApart t → rest_of Outside s l bytes p ≡ rest_of Outside t m bytes p
letter-ends s t l m bytes p lt alphabetic ends apart =
    let c = get_or bytes p 0 in
    let letter = letter_of (get_or bytes p 0) alphabetic in
    let rest : Result (Stage × Line) WordFault → Result Line WordFault = λ (r : Result (Stage × Line) WordFault). (r >>= begun p (get_or bytes p 0)) >>= λ v. reading v.0 v.1 (p + 1) (drop (p + 1) bytes) in
    at-place s l bytes p lt
    ∙ letter-read s l p (get_or bytes p 0) (drop (p + 1) bytes) letter
    ∙ ap rest (ends ∙ sym (apart-finished t m apart))
    ∙ sym (letter-read t m p (get_or bytes p 0) (drop (p + 1) bytes) letter)
    ∙ sym (at-place t m bytes p lt)

between-read : (t : Stage) (m : Line) (p c : ℕ) (bytes : List ℕ) → IsApart t → IsLetter c → (to_ascii_uppercase c == 78) ≡ false
    → reading t m p (c ∷ bytes) ≡ reading Between m p (c ∷ bytes)
unfolding read_marks marks_from finished started
between-read Start m p c bytes apart letter other = rw (letter.blank, letter.parenthesis, letter.semicolon, letter.slash, other) refl
between-read Slashed m p c bytes apart letter other = rw (letter.blank, letter.parenthesis, letter.semicolon, other) refl
between-read Between m p c bytes apart letter other = refl
between-read (InLineNumber place digits) m p c bytes apart letter other = absurd apart
between-read (InWord w) m p c bytes apart letter other = absurd apart

-- and the letter of a word means the same as behind a word
pub word-starts : (s t : Stage) (l m : Line) (bytes : List ℕ) (p : ℕ) (r : Region) → p < length bytes → BeginsWord r (get_or bytes p 0)
    → finished s l ≡ Ok (t, m) → IsApart t → rest_of Outside s l bytes p ≡ rest_of Outside Between m bytes p
word-starts s t l m bytes p r lt begins ends apart =
    letter-ends s t l m bytes p lt begins.alphabetic ends apart
    ∙ at-place t m bytes p lt
    ∙ between-read t m p (get_or bytes p 0) (drop (p + 1) bytes) apart (letter_of (get_or bytes p 0) begins.alphabetic) begins.other
    ∙ sym (at-place Between m bytes p lt)

-- or the fault that ends it
pub letter-faults : (s : Stage) (l : Line) (f : WordFault) (bytes : List ℕ) (p : ℕ) → p < length bytes → is_ascii_alphabetic (get_or bytes p 0) ≡ true
    → finished s l ≡ Err f → rest_of Outside s l bytes p ≡ Err f
letter-faults s l f bytes p lt alphabetic ends =
    let rest : Result (Stage × Line) WordFault → Result Line WordFault = λ (r : Result (Stage × Line) WordFault). (r >>= begun p (get_or bytes p 0)) >>= λ v. reading v.0 v.1 (p + 1) (drop (p + 1) bytes) in
    at-place s l bytes p lt
    ∙ letter-read s l p (get_or bytes p 0) (drop (p + 1) bytes) (letter_of (get_or bytes p 0) alphabetic)
    ∙ ap rest ends

-- a letter other than N begins a word where there is room
letter-begins : (l : Line) (p c : ℕ) (bytes : List ℕ) → IsLetter c → is_ascii_alphabetic c ≡ true
    → (to_ascii_uppercase c == 78) ≡ false → (length l.words == 32) ≡ false
    → reading Between l p (c ∷ bytes) ≡ reading (InWord (opened_at (to_ascii_uppercase c) p)) l (p + 1) bytes
unfolding read_marks marks_from finished started
letter-begins l p c bytes letter alphabetic other room =
    rw (letter.blank, letter.parenthesis, letter.semicolon, other, alphabetic, room) refl

pub word-begins : (l : Line) (bytes : List ℕ) (p : ℕ) → p < length bytes → is_ascii_alphabetic (get_or bytes p 0) ≡ true
    → (to_ascii_uppercase (get_or bytes p 0) == 78) ≡ false → (length l.words == 32) ≡ false
    → rest_of Outside Between l bytes p ≡ rest_of Outside (InWord (opened_at (to_ascii_uppercase (get_or bytes p 0)) p)) l bytes (p + 1)
word-begins l bytes p lt alphabetic other room =
    at-place Between l bytes p lt
    ∙ letter-begins l p (get_or bytes p 0) (drop (p + 1) bytes) (letter_of (get_or bytes p 0) alphabetic) alphabetic other room

-- ---- the end of a word

not_zero : (n : ℕ) → 0 < n → (n == 0) ≡ false
not_zero n h = grind (arith, nat_tests)

word-finished : (w : OpenWord) (l : Line) → 0 < w.digits → finished (InWord w) l ≡ Ok (Between, with_word w l)
unfolding finished
word-finished w l some = rw (not_zero w.digits some) refl

-- a letter ends a word
pub word-before : (w : OpenWord) (l : Line) (bytes : List ℕ) (p : ℕ) → 0 < w.digits → p < length bytes → is_ascii_alphabetic (get_or bytes p 0) ≡ true
    → rest_of Outside (InWord w) l bytes p ≡ rest_of Outside Between (with_word w l) bytes p
word-before w l bytes p some lt alphabetic =
    letter-ends (InWord w) Between l (with_word w l) bytes p lt alphabetic (word-finished w l some) tt

-- and so does the line's end
pub word-last : (w : OpenWord) (l : Line) (bytes : List ℕ) (p : ℕ) → 0 < w.digits → length bytes ≤ p
    → rest_of Outside (InWord w) l bytes p ≡ rest_of Outside Between (with_word w l) bytes p
unfolding read_marks marks_from finished
word-last w l bytes p some end = rw (drop_of_length-le bytes {i = p} end, not_zero w.digits some) refl

-- ---- a whole line

-- a line that begins with a word means the same where a word stands before it
pub starts-plain : (l : Line) (bytes : List ℕ) → 0 < length bytes → begins_word_in Outside (get_or bytes 0 0) ≡ true
    → rest_of Outside Start l bytes 0 ≡ rest_of Outside Between l bytes 0
starts-plain l bytes some begins =
    word-starts Start Start l l bytes 0 Outside some (begins-word Outside (get_or bytes 0 0) begins) (apart-finished Start l tt) tt

-- at its end nothing more is said
pub between-end : (l : Line) (bytes : List ℕ) (p : ℕ) → length bytes ≤ p → rest_of Outside Between l bytes p ≡ Ok l
unfolding read_marks marks_from finished
between-end l bytes p end = rw (drop_of_length-le bytes {i = p} end) refl
