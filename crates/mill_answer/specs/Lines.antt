-- How a line is made of its words.
use Rattle.std.specs.Prelude.{ℕ, decimal, List, [], ◌∷◌, ◌++◌}
use Rattle.mill_decimal.specs.Decimals.{canonical}
use Rattle.mill_answer.specs.declared.word.Word.{Word}
use Rattle.mill_answer.specs.declared.word.Word.TheVariants.{Text, Number, Length}

-- words parted by a space, and LF at the end
abbrev pub line : List (List ℕ) → List ℕ
line [] = 10 ∷ []
line (w ∷ []) = w ++ 10 ∷ []
line (w ∷ v ∷ ws) = w ++ 32 ∷ line (v ∷ ws)

-- a word of the code: bytes as they are, a number in decimal, a length in millimetres
abbrev pub word_text : Word → List ℕ
word_text (Text bytes) = bytes.now
word_text (Number n) = decimal n
word_text (Length units unit) = canonical unit units

-- a word, and a space behind it
abbrev pub spaced : Word → List ℕ
spaced word = word_text word ++ 32 ∷ []
