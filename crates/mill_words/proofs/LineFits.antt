-- The numbers of a line that is read have at most 18 digits.
use Rattle.std.proofs.Common.{◌≡◌, ℕ, zero, suc, ◌+◌, ◌*◌, ◌^◌, ◌≤◌, ◌<◌, Bool, true, false, Option, Some, None, Result, Ok, Err, List, [], ◌∷◌, ◌++◌, length, refl, sym, subst, arith}
use Rattle.std.proofs.lemmas.Bool.Decides.{nat_tests}
use Rattle.std.proofs.lemmas.List.Elements.{All-append, All-cons, All-nil}
use Rattle.std.specs.Char.{is_ascii_alphabetic, is_ascii_digit, to_ascii_uppercase, digit_value}
use Rattle.std.specs.Prelude.{⊤, All, ◌==◌, not, ◌&&◌, ◌||◌, if◌then◌else◌}
use Rattle.mill_words.specs.Lines.{begun, finished, grown, grown_by, grown_number, grown_word, is_fresh, is_sign, joined, line_of, noted, opened_at, read_marks, started, started_front, started_word, taken_mark, with_digit, with_sign, ◌>>=◌}
use Rattle.mill_words.specs.Marks.{marks_of}
use Rattle.mill_words.specs.declared.marks.Mark.{Mark}
use Rattle.mill_words.specs.declared.marks.Mark.TheVariants.{Byte, Gap, Broken}
use Rattle.mill_words.specs.Words.{FitsNum, FitsWord, Line, empty_line}
use Rattle.mill_words.specs.declared.word.WordFault.{WordFault}
use Rattle.mill_words.specs.declared.word.WordFault.TheVariants as fault
use Rattle.mill_words.specs.declared.open_word.OpenWord.{OpenWord}
use Rattle.mill_words.specs.declared.stage.Stage.{Stage}
use Rattle.mill_words.specs.declared.stage.Stage.TheVariants.{Start, Slashed, InLineNumber, InWord, Between}
use Rattle.mill_words.specs.declared.word.Word.{Word}
use Rattle.mill_words.specs.inner.Bounds.{FitsOpenWord}
use Rattle.mill_words.proofs.Numbers.{digit_of, one_more, wider}

-- ---- a word that has begun

Grown : Result (Option OpenWord) WordFault → Type 0
Grown (Ok (Some w)) = FitsOpenWord w
Grown (Ok None) = ⊤
Grown (Err f) = ⊤

more-scale : (pointed : Bool) (scale digits : ℕ) → scale ≤ digits → (if pointed then scale + 1 else scale) ≤ digits + 1
more-scale true scale digits le = omega arith
more-scale false scale digits le = omega arith

not-all : (n : ℕ) → n ≤ 18 → (n == 18) ≡ false → n + 1 ≤ 18
not-all n le other = grind (arith, nat_tests)

digit-fits : (w : OpenWord) (b : ℕ) → FitsOpenWord w → is_ascii_digit b ≡ true → (w.digits == 18) ≡ false → FitsOpenWord (with_digit w b)
digit-fits w b fits digit few = record {
  few = not-all w.digits fits.few few;
  num = record { mant = one_more w.digits w.num.mant (digit_value b) fits.num.mant (digit_of b digit).0; scale = more-scale w.pointed w.num.scale w.digits fits.num.scale };
}

grown-fits : (w : OpenWord) (b : ℕ) → FitsOpenWord w → Grown (grown_word w b)
unfolding grown_word Grown
grown-fits w b fits = by (is_ascii_digit b) (w.digits == 18) ((b == 46) && not w.pointed) (is_sign b && is_fresh w) refl refl
  where
    by : (a c d e : Bool) → is_ascii_digit b ≡ a → (w.digits == 18) ≡ c
        → Grown (if a then (if c then Err (fault.LongNumber w.place) else Ok (Some (with_digit w b))) else (if d then Ok (Some (record w { pointed = true })) else (if e then Ok (Some (with_sign w b)) else Ok None)))
    by true true d e digit few = tt
    by true false d e digit few = digit-fits w b fits digit few
    by false c true e digit few = record { few = fits.few; num = fits.num }
    by false c false true digit few = record { few = fits.few; num = record { mant = fits.num.mant; scale = fits.num.scale } }
    by false c false false digit few = tt

-- ---- what has begun, and the words so far

FitsBegun : Stage → Type 0
FitsBegun (InWord w) = FitsOpenWord w
FitsBegun stage = ⊤

GrownStage : Result (Option Stage) WordFault → Type 0
GrownStage (Ok (Some stage)) = FitsBegun stage
GrownStage (Ok None) = ⊤
GrownStage (Err f) = ⊤

word-grown : (r : Result (Option OpenWord) WordFault) → Grown r → GrownStage (grown_by InWord r)
unfolding Grown GrownStage FitsBegun
word-grown (Ok (Some w)) fits = fits
word-grown (Ok None) fits = tt
word-grown (Err f) fits = tt

number-grown : (p : ℕ) (r : Result (Option ℕ) WordFault) → GrownStage (grown_by (InLineNumber p) r)
unfolding GrownStage FitsBegun
number-grown p (Ok (Some n)) = tt
number-grown p (Ok None) = tt
number-grown p (Err f) = tt

stage-grown : (stage : Stage) (b : ℕ) → FitsBegun stage → GrownStage (grown stage b)
unfolding GrownStage FitsBegun
stage-grown (InWord w) b fits = word-grown (grown_word w b) (grown-fits w b fits)
stage-grown (InLineNumber p digits) b fits = number-grown p (grown_number p digits b)
stage-grown Start b fits = tt
stage-grown Slashed b fits = tt
stage-grown Between b fits = tt

-- what is read so far
FitsSo : Result (Stage × Line) WordFault → Type 0
FitsSo (Ok s) = FitsBegun s.0 × All FitsWord s.1.words
FitsSo (Err f) = ⊤

so-if : (b : Bool) (x y : Result (Stage × Line) WordFault) → FitsSo x → FitsSo y → FitsSo (if b then x else y)
so-if true x y h g = h
so-if false x y h g = g

finished-fits : (stage : Stage) (line : Line) → FitsBegun stage → All FitsWord line.words → FitsSo (finished stage line)
unfolding finished FitsSo FitsBegun
finished-fits (InLineNumber p digits) line fits words = so-if (digits == 0) (Err (fault.LineNumber p)) (Ok (Between, line)) tt (tt, words)
finished-fits (InWord w) line fits words =
    so-if (w.digits == 0) (Err (fault.NoNumber w.place)) (Ok (Between, record line { words = line.words ++ record { letter = w.letter; num = w.num } ∷ [] })) tt
    (tt, All-append FitsWord line.words (record { letter = w.letter; num = w.num } ∷ []) words (All-cons FitsWord (record { letter = w.letter; num = w.num }) [] (wider w.digits w.num fits.few fits.num) (All-nil FitsWord)))
finished-fits Start line fits words = (tt, words)
finished-fits Slashed line fits words = (tt, words)
finished-fits Between line fits words = (tt, words)

StartedFits : Result Stage WordFault → Type 0
StartedFits (Ok stage) = FitsBegun stage
StartedFits (Err f) = ⊤

started-if : (b : Bool) (x y : Result Stage WordFault) → StartedFits x → StartedFits y → StartedFits (if b then x else y)
started-if true x y h g = h
started-if false x y h g = g

word-started : (n p b : ℕ) → StartedFits (started_word n p b)
unfolding StartedFits FitsBegun
word-started n p b =
    let word : Stage = InWord (opened_at (to_ascii_uppercase b) p) in
    let last : Result Stage WordFault = if n == 32 then Err fault.TooManyWords else Ok word in
    started-if (not (is_ascii_alphabetic b)) (Err (fault.BadByte p)) (if to_ascii_uppercase b == 78 then Err (fault.LineNumber p) else last) tt
    (started-if (to_ascii_uppercase b == 78) (Err (fault.LineNumber p)) last tt
    (started-if (n == 32) (Err fault.TooManyWords) (Ok word) tt (record { few = omega arith; num = record { mant = omega arith; scale = omega arith } })))

front-started : (n p b : ℕ) → StartedFits (started_front n p b)
unfolding StartedFits FitsBegun
front-started n p b = started-if (to_ascii_uppercase b == 78) (Ok (InLineNumber p 0)) (started_word n p b) tt (word-started n p b)

any-started : (stage : Stage) (n p b : ℕ) → StartedFits (started stage n p b)
unfolding started StartedFits FitsBegun
any-started Start n p b = started-if (b == 47) (Ok Slashed) (started_front n p b) tt (front-started n p b)
any-started Slashed n p b = front-started n p b
any-started (InLineNumber q digits) n p b = word-started n p b
any-started (InWord w) n p b = word-started n p b
any-started Between n p b = word-started n p b

noted-same : (stage : Stage) (line : Line) → (noted stage line).words ≡ line.words
noted-same Slashed line = refl
noted-same (InLineNumber p digits) line = refl
noted-same Start line = refl
noted-same (InWord w) line = refl
noted-same Between line = refl

begun-fits : (r : Result Stage WordFault) (line : Line) → StartedFits r → All FitsWord line.words → FitsSo (r >>= λ next. Ok (next, noted next line))
unfolding FitsSo StartedFits
begun-fits (Ok stage) line fits words = (fits, subst (λ (ws : List Word). All FitsWord ws) (sym (noted-same stage line)) words)
begun-fits (Err f) line fits words = tt

next-fits : (r : Result (Stage × Line) WordFault) (p b : ℕ) → FitsSo r → FitsSo (r >>= begun p b)
unfolding FitsSo
next-fits (Ok s) p b fits = begun-fits (started s.0 (length s.1.words) p b) s.1 (any-started s.0 (length s.1.words) p b) fits.1
next-fits (Err f) p b fits = tt

joined-fits : (r : Result (Option Stage) WordFault) (p b : ℕ) (stage : Stage) (line : Line) → GrownStage r → FitsBegun stage → All FitsWord line.words → FitsSo (joined r p b stage line)
unfolding FitsSo GrownStage
joined-fits (Ok (Some next)) p b stage line grown fits words = (grown, words)
joined-fits (Ok None) p b stage line grown fits words = next-fits (finished stage line) p b (finished-fits stage line fits words)
joined-fits (Err f) p b stage line grown fits words = tt

mark-fits : (m : Mark) (stage : Stage) (line : Line) → FitsBegun stage → All FitsWord line.words → FitsSo (taken_mark m stage line)
unfolding FitsSo
mark-fits Gap stage line fits words = finished-fits stage line fits words
mark-fits (Broken from) stage line fits words = tt
mark-fits (Byte p b) stage line fits words = joined-fits (grown stage b) p b stage line (stage-grown stage b fits) fits words

-- ---- the line

LineFits : Result Line WordFault → Type 0
LineFits (Ok line) = All FitsWord line.words
LineFits (Err f) = ⊤

last-fits : (r : Result (Stage × Line) WordFault) → FitsSo r → LineFits (r >>= λ s. Ok s.1)
unfolding FitsSo LineFits
last-fits (Ok s) fits = fits.1
last-fits (Err f) fits = tt

rest-fits : (r : Result (Stage × Line) WordFault) (marks : List Mark) → FitsSo r → ((stage : Stage) (line : Line) → FitsBegun stage → All FitsWord line.words → LineFits (read_marks stage line marks))
    → LineFits (r >>= λ s. read_marks s.0 s.1 marks)
unfolding FitsSo LineFits
rest-fits (Ok s) marks so rest = rest s.0 s.1 so.0 so.1
rest-fits (Err f) marks so rest = tt

marks-fit : (stage : Stage) (line : Line) (marks : List Mark) → FitsBegun stage → All FitsWord line.words → LineFits (read_marks stage line marks)
unfolding read_marks
marks-fit stage line [] fits words = last-fits (finished stage line) (finished-fits stage line fits words)
marks-fit stage line (m ∷ marks) fits words = rest-fits (taken_mark m stage line) marks (mark-fits m stage line fits words) (λ next more begun so. marks-fit next more marks begun so)

pub line_fits : (bytes : List ℕ) (line : Line) → line_of bytes ≡ Ok line → All FitsWord line.words
unfolding line_of LineFits FitsBegun
line_fits bytes line is = subst LineFits is (marks-fit Start empty_line (marks_of bytes) tt (All-nil FitsWord))
