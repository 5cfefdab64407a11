-- What the marks of a line say, one after another: a slash, a line number, words, or the first fault.
use Rattle.std.specs.Prelude.{◌≡◌, ℕ, ◌+◌, ◌*◌, ◌<◌, List, [], ◌∷◌, ◌++◌, length, drop, slice_index, Option, Some, None, Result, Ok, Err, Bool, true, false, not, ◌&&◌, ◌||◌, ◌==◌, if◌then◌else◌}
use Rattle.std.specs.Char.{is_ascii_digit, is_ascii_alphabetic, to_ascii_uppercase, digit_value}
use Rattle.mill_words.specs.declared.word.WordFault.{WordFault}
use Rattle.mill_words.specs.declared.word.WordFault.TheVariants as fault
use Rattle.mill_words.specs.declared.marks.Mark.{Mark}
use Rattle.mill_words.specs.declared.marks.Mark.TheVariants.{Byte, Gap, Broken}
use Rattle.mill_words.specs.declared.marks.Region.TheVariants.{Outside}
use Rattle.mill_words.specs.declared.open_word.OpenWord.{OpenWord}
use Rattle.mill_words.specs.declared.stage.Stage.{Stage}
use Rattle.mill_words.specs.declared.stage.Stage.TheVariants.{Start, Slashed, InLineNumber, Between, InWord}
use Rattle.mill_words.specs.declared.word.Num.{Num}
use Rattle.mill_words.specs.Marks.{marks_from, marks_of}
use Rattle.mill_words.specs.Words.{Line, empty_line}

-- a fault ends the reading
infixl 10 ◌>>=◌
abbrev pub ◌>>=◌ : {A B : Type 0} → Result A WordFault → (A → Result B WordFault) → Result B WordFault
(Ok x) >>= f = f x
(Err e) >>= f = Err e

-- ---- a word that has begun

-- the letter alone, at the place p
abbrev pub opened_at : ℕ → ℕ → OpenWord
opened_at letter p = record { letter = letter; place = p; num = record { neg = false; mant = 0; scale = 0 }; digits = 0; signed = false; pointed = false }

-- nothing stands behind the letter yet
abbrev pub is_fresh : OpenWord → Bool
is_fresh w = (not w.signed && not w.pointed) && (w.digits == 0)

-- one digit more, behind the point or before it
abbrev pub with_digit : OpenWord → ℕ → OpenWord
with_digit w b = record w { num = record { neg = w.num.neg; mant = 10 * w.num.mant + digit_value b; scale = if w.pointed then w.num.scale + 1 else w.num.scale }; digits = w.digits + 1 }

-- `+` is 43, `-` 45
abbrev pub is_sign : ℕ → Bool
is_sign b = (b == 43) || (b == 45)

abbrev pub with_sign : OpenWord → ℕ → OpenWord
with_sign w b = record w { num = record { neg = b == 45; mant = w.num.mant; scale = w.num.scale }; signed = true }

-- what the byte makes of the word: a digit, a first point (46) and a sign right behind the letter go on with it; None where the word ends before the byte
unfoldable pub grown_word : OpenWord → ℕ → Result (Option OpenWord) WordFault
grown_word w b =
    if is_ascii_digit b then (if w.digits == 18 then Err (fault.LongNumber w.place) else Ok (Some (with_digit w b))) else
    (if (b == 46) && not w.pointed then Ok (Some (record w { pointed = true })) else
    (if is_sign b && is_fresh w then Ok (Some (with_sign w b)) else Ok None))

-- whether what has begun goes on, and what it is then
abbrev pub grows : {A : Type 0} → Result Bool WordFault → A → Result (Option A) WordFault
grows (Ok true) x = Ok (Some x)
grows (Ok false) x = Ok None
grows (Err f) x = Err f

-- ---- what has begun

-- what the byte makes of the digits of a line number, whose N stands at the place p
unfoldable pub grown_number : ℕ → ℕ → ℕ → Result (Option ℕ) WordFault
grown_number p digits b =
    if is_ascii_digit b then (if digits == 9 then Err (fault.LineNumber p) else Ok (Some (digits + 1))) else
    (if (b == 46) || is_sign b then Err (fault.LineNumber p) else Ok None)

abbrev pub grown_by : {A : Type 0} → (A → Stage) → Result (Option A) WordFault → Result (Option Stage) WordFault
grown_by f (Ok (Some x)) = Ok (Some (f x))
grown_by f (Ok None) = Ok None
grown_by f (Err e) = Err e

-- what the byte makes of what has begun, None where that ends before the byte
abbrev pub grown : Stage → ℕ → Result (Option Stage) WordFault
grown (InLineNumber p digits) b = grown_by (InLineNumber p) (grown_number p digits b)
grown (InWord w) b = grown_by InWord (grown_word w b)
grown stage b = Ok None

-- what has begun ends here: a line number and a word must have digits, and a word is added to the line
unfoldable pub finished : Stage → Line → Result (Stage × Line) WordFault
finished (InLineNumber p digits) line = if digits == 0 then Err (fault.LineNumber p) else Ok (Between, line)
finished (InWord w) line =
    if w.digits == 0 then Err (fault.NoNumber w.place) else
    Ok (Between, record line { words = line.words ++ record { letter = w.letter; num = w.num } ∷ [] })
finished stage line = Ok (stage, line)

-- ---- what a byte begins

-- a word, behind n words; N is 78
abbrev pub started_word : ℕ → ℕ → ℕ → Result Stage WordFault
started_word n p b =
    if not (is_ascii_alphabetic b) then Err (fault.BadByte p) else
    (if to_ascii_uppercase b == 78 then Err (fault.LineNumber p) else
    (if n == 32 then Err fault.TooManyWords else Ok (InWord (opened_at (to_ascii_uppercase b) p))))

-- a line number or a word
abbrev pub started_front : ℕ → ℕ → ℕ → Result Stage WordFault
started_front n p b = if to_ascii_uppercase b == 78 then Ok (InLineNumber p 0) else started_word n p b

-- what the byte b at the place p begins, behind n words; `/` is 47
unfoldable pub started : Stage → ℕ → ℕ → ℕ → Result Stage WordFault
started Start n p b = if b == 47 then Ok Slashed else started_front n p b
started Slashed n p b = started_front n p b
started stage n p b = started_word n p b

-- the line has a slash or a line number from now on
abbrev pub noted : Stage → Line → Line
noted Slashed line = record line { slash = true }
noted (InLineNumber p digits) line = record line { numbered = true }
noted stage line = line

abbrev pub begun : ℕ → ℕ → Stage × Line → Result (Stage × Line) WordFault
begun p b s = started s.0 (length s.1.words) p b >>= λ next. Ok (next, noted next s.1)

-- ---- the line

-- the byte goes on with what has begun, or ends it and begins the next
abbrev pub joined : Result (Option Stage) WordFault → ℕ → ℕ → Stage → Line → Result (Stage × Line) WordFault
joined (Ok (Some next)) p b stage line = Ok (next, line)
joined (Ok None) p b stage line = finished stage line >>= begun p b
joined (Err f) p b stage line = Err f

-- what a mark makes of a line that is read so far; a comment ends what has begun
abbrev pub taken_mark : Mark → Stage → Line → Result (Stage × Line) WordFault
taken_mark Gap stage line = finished stage line
taken_mark (Broken from) stage line = Err (fault.Comment from)
taken_mark (Byte p b) stage line = joined (grown stage b) p b stage line

-- the same where there may be no mark
unfoldable pub taken : Option Mark → Stage → Line → Result (Stage × Line) WordFault
taken None stage line = Ok (stage, line)
taken (Some m) stage line = taken_mark m stage line

-- what the marks make of a line that is read so far
unfoldable pub read_marks : Stage → Line → List Mark → Result Line WordFault
read_marks stage line [] = finished stage line >>= λ s. Ok s.1
read_marks stage line (m ∷ ms) = taken_mark m stage line >>= λ s. read_marks s.0 s.1 ms

-- what a line says, or its first fault; as the marks are read from the left, it is that of the least place
unfoldable pub line_of : List ℕ → Result Line WordFault
line_of line = read_marks Start empty_line (marks_of line)

-- ---- the line from a place on

-- nothing stands before the first place, and before others a word that has ended
abbrev pub stage_at : ℕ → Stage
stage_at p = if p == 0 then Start else Between

-- what a line says from the place p on, outside comments, where what stands before it says l
unfoldable pub line_from : Line → List ℕ → ℕ → Result Line WordFault
line_from l bytes p = read_marks (stage_at p) l (marks_from Outside p (drop p bytes))

-- the letter of a word, which N (78) isn't
abbrev pub is_word_letter : ℕ → Bool
is_word_letter b = is_ascii_alphabetic b && not (to_ascii_uppercase b == 78)

-- a word that stands before the place p ends there: a letter stands at it, or the line ends
abbrev pub EndsWord : List ℕ → ℕ → Type 0
EndsWord bytes p = p < length bytes → is_ascii_alphabetic (slice_index bytes p) ≡ true

-- the line with one word more
abbrev pub and_word : Line → ℕ → Num → Line
and_word l letter n = record l { words = l.words ++ record { letter = letter; num = n } ∷ [] }
