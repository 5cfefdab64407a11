-- What a line says from a place on where a word may begin.
use Rattle.std.proofs.Common.{◌≡◌, ℕ, zero, suc, ◌+◌, ◌<◌, ◌≤◌, List, length, get_or, arith, true, false, Ok, refl, sym, ◌∙◌, inl, inr, ◌⊎◌}
use Rattle.std.proofs.Math.ListN.{drop_of_length-le}
use Rattle.std.specs.Prelude.{◌==◌}
use Rattle.std.specs.Char.{to_ascii_uppercase}
use Rattle.std.proofs.lemmas.Bool.{cases_lt}
use Rattle.std.proofs.lemmas.Bool.Decides.{nat_tests}
use Rattle.mill_words.specs.Words.{Line, empty_line}
use Rattle.mill_words.specs.Marks.{marks_from}
use Rattle.mill_words.specs.Lines.{finished, read_marks, opened_at, line_of, line_from, is_word_letter, EndsWord}
use Rattle.mill_words.specs.declared.marks.Region.TheVariants.{Outside}
use Rattle.mill_words.specs.declared.open_word.OpenWord.{OpenWord}
use Rattle.mill_words.specs.declared.stage.Stage.TheVariants.{Between, InWord}
use Rattle.mill_words.specs.inner.Places.{rest_of, with_word}
use Rattle.mill_words.proofs.Places.{begins-word, starts-plain, word-begins, word-before, word-last}

-- a line says what it says from its first place on
pub line_from-start : (bytes : List ℕ) → line_of bytes ≡ line_from empty_line bytes 0
unfolding line_of line_from
line_from-start bytes = refl

other : (p : ℕ) → (suc p == 0) ≡ false
other p = grind (arith, nat_tests)

-- at its end nothing more is said
pub line_from-end : (l : Line) (bytes : List ℕ) (p : ℕ) → length bytes ≤ p → line_from l bytes p ≡ Ok l
unfolding line_from read_marks marks_from finished
line_from-end l bytes zero end = rw (drop_of_length-le bytes {i = 0} end) refl
line_from-end l bytes (suc p) end = rw (drop_of_length-le bytes {i = suc p} end, other p) refl

-- behind the first place a word has ended
from-behind : (l : Line) (bytes : List ℕ) (p : ℕ) → 0 < p → line_from l bytes p ≡ rest_of Outside Between l bytes p
unfolding line_from
from-behind l bytes zero some = absurd (omega (arith, some))
from-behind l bytes (suc p) some = rw (other p) refl

-- and so it is where the letter of a word stands
from-letter : (l : Line) (bytes : List ℕ) (p : ℕ) → p < length bytes → is_word_letter (get_or bytes p 0) ≡ true
    → line_from l bytes p ≡ rest_of Outside Between l bytes p
unfolding line_from
from-letter l bytes zero lt letter = starts-plain l bytes lt letter
from-letter l bytes (suc p) lt letter = rw (other p) refl

-- a word whose letter stands at a place, where it has room
pub word-from : (l : Line) (bytes : List ℕ) (p : ℕ) → p < length bytes → is_word_letter (get_or bytes p 0) ≡ true → length l.words < 32
    → line_from l bytes p ≡ rest_of Outside (InWord (opened_at (to_ascii_uppercase (get_or bytes p 0)) p)) l bytes (p + 1)
word-from l bytes p lt letter few =
    let begins = begins-word Outside (get_or bytes p 0) letter in
    let room : (length l.words == 32) ≡ false = grind (arith, nat_tests) in
    from-letter l bytes p lt letter ∙ word-begins l bytes p lt begins.alphabetic begins.other room

-- and that ends where a letter stands, or the line ends
word-ends : (w : OpenWord) (l : Line) (bytes : List ℕ) (p : ℕ) → 0 < w.digits → EndsWord bytes p → (p < length bytes) ⊎ (length bytes ≤ p)
    → rest_of Outside (InWord w) l bytes p ≡ rest_of Outside Between (with_word w l) bytes p
word-ends w l bytes p some ends (inl lt) = word-before w l bytes p some lt (ends lt)
word-ends w l bytes p some ends (inr le) = word-last w l bytes p some le

pub word-until : (w : OpenWord) (l : Line) (bytes : List ℕ) (p : ℕ) → 0 < w.digits → 0 < p → EndsWord bytes p
    → rest_of Outside (InWord w) l bytes p ≡ line_from (with_word w l) bytes p
word-until w l bytes p some behind ends =
    word-ends w l bytes p some ends (cases_lt p (length bytes)) ∙ sym (from-behind (with_word w l) bytes p behind)
