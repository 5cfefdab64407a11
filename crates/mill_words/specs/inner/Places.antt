-- What a line says from one of its places on.
use Rattle.std.specs.Prelude.{◌≡◌, ℕ, ◌+◌, ◌<◌, ◌≤◌, ◌^◌, Bool, true, false, not, ◌&&◌, ◌==◌, List, [], ◌∷◌, ◌++◌, drop, slice_index, Result}
use Rattle.std.specs.Char.{is_ascii_alphabetic, to_ascii_uppercase}
use Rattle.mill_words.specs.declared.word.WordFault.{WordFault}
use Rattle.mill_words.specs.declared.marks.Region.{Region}
use Rattle.mill_words.specs.declared.marks.Region.TheVariants.{Outside}
use Rattle.mill_words.specs.declared.open_word.OpenWord.{OpenWord}
use Rattle.mill_words.specs.declared.plain.PlainNumber.{PlainNumber}
use Rattle.mill_words.specs.declared.stage.Stage.{Stage}
use Rattle.mill_words.specs.declared.stage.Stage.TheVariants.{InLineNumber, InWord}
use Rattle.mill_words.specs.Words.{Line}
use Rattle.mill_words.specs.Marks.{marks_from}
use Rattle.mill_words.specs.Lines.{read_marks, is_word_letter, EndsWord}
use Rattle.mill_words.specs.Plain.{IsPlainNumber, blank_end, number_end}

-- from the place p on, which stands in this region, where this has begun and that stands before it
abbrev pub rest_of : Region → Stage → Line → List ℕ → ℕ → Result Line WordFault
rest_of region stage line bytes p = read_marks stage line (marks_from region p (drop p bytes))

-- the byte is the letter of a word, which isn't N (78), outside comments
abbrev pub begins_word_in : Region → ℕ → Bool
begins_word_in Outside b = is_ascii_alphabetic b && not (to_ascii_uppercase b == 78)
begins_word_in region b = false

-- nothing has begun that a byte could go on with
abbrev pub IsApart : Stage → Type 0
IsApart (InWord w) = ⊥
IsApart (InLineNumber p digits) = ⊥
IsApart stage = Unit {0}

-- a word of this letter with a minus sign or none, and behind it so many digits with this value, `scale` of them behind its point if it has one
abbrev pub plain_word : ℕ → ℕ → Bool → ℕ → ℕ → ℕ → Bool → OpenWord
plain_word letter place neg mant scale digits pointed =
    record { letter = letter; place = place; num = record { neg = neg; mant = mant; scale = scale }; digits = digits; signed = neg; pointed = pointed }

-- a word of this letter with this number
abbrev pub numbered_word : ℕ → ℕ → PlainNumber → OpenWord
numbered_word letter place n = plain_word letter place n.num.neg n.num.mant n.num.scale n.digits n.pointed

-- the line with one word more
abbrev pub with_word : OpenWord → Line → Line
with_word w line = record line { words = line.words ++ record { letter = w.letter; num = w.num } ∷ [] }

-- a plain word that ends stands at the place p, and has room behind n others
pub record IsPlainWord (n : ℕ) (bytes : List ℕ) (p : ℕ) : Type 0 where
  pub letter : is_word_letter (slice_index bytes p) ≡ true
  pub room : n < 32
  pub number : IsPlainNumber bytes (p + 1)
  pub ends : EndsWord bytes (blank_end bytes (number_end bytes (p + 1)))

-- the bytes from a place up to another are digits: behind `before` digits of the number `front` they make this value, where all of them are at most 18
pub record DigitsTo (bytes : List ℕ) (from end front value : ℕ) : Type 0 where
  pub bound : (n before : ℕ) → end ≡ from + n → front < 10 ^ before → before + n ≤ 18 → value < 10 ^ (before + n)
  pub whole : (n before letter place : ℕ) (neg : Bool) (l : Line) → end ≡ from + n → front < 10 ^ before → before + n ≤ 18
      → rest_of Outside (InWord (plain_word letter place neg front 0 before false)) l bytes from
      ≡ rest_of Outside (InWord (plain_word letter place neg value 0 (before + n) false)) l bytes end
  pub part : (n before letter place : ℕ) (neg : Bool) (l : Line) → end ≡ from + n → front < 10 ^ before → before + n ≤ 18
      → rest_of Outside (InWord (plain_word letter place neg front 0 before true)) l bytes from
      ≡ rest_of Outside (InWord (plain_word letter place neg value n (before + n) true)) l bytes end
