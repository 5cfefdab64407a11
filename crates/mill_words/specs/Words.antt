-- What a line says, and what its numbers keep within.
use Rattle.std.specs.Prelude.{ℕ, ◌^◌, ◌<◌, ◌≤◌, List, [], ◌∷◌, Bool, true, false, not, ◌&&◌}
use Rattle.mill_words.specs.declared.word.Num.{Num}
use Rattle.mill_words.specs.declared.word.Word.{Word}

-- a line's slash, its line number, and its words from left to right
pub record Line : Type 0 where
  pub slash : Bool
  pub numbered : Bool
  pub words : List Word

-- a line that says nothing
abbrev pub empty_line : Line
empty_line = record { slash = false; numbered = false; words = [] }

abbrev pub is_none : List Word → Bool
is_none [] = true
is_none (w ∷ ws) = false

-- nothing but blanks and comments stands on the line
abbrev pub is_blank : Line → Bool
is_blank line = (not line.slash && not line.numbered) && is_none line.words

-- the number has at most so many digits
pub record FitsNum (digits : ℕ) (n : Num) : Type 0 where
  pub mant : n.mant < 10 ^ digits
  pub scale : n.scale ≤ digits

-- the word's number has at most 18 digits
abbrev pub FitsWord : Word → Type 0
FitsWord w = FitsNum 18 w.num
