-- Where a line ends: words with a space behind each of them, and LF in the place of the last space.
use Rattle.std.proofs.Common.{◌≡◌, ℕ, ◌+◌, ◌-◌, ◌<◌, ◌≤◌, List, [], ◌∷◌, ◌++◌, length, map, take, ap, arith, append_assoc, append-nil, length-append}
use Rattle.std.specs.List.{flat_map}
use Rattle.std.proofs.Math.Seq.{take-append-add}
use Rattle.std.proofs.lemmas.Grind.{flat_map-append}
use Rattle.mill_answer.specs.declared.word.Word.{Word}
use Rattle.mill_answer.specs.Lines.{line, spaced, word_text}

-- a text, less its last byte, and LF
abbrev ended : List ℕ → List ℕ
ended text = take (length text - 1) text ++ 10 ∷ []

-- a text that isn't empty ends behind another as it does alone
ended-append : (xs ys : List ℕ) → 0 < length ys → ended (xs ++ ys) ≡ xs ++ ended ys
ended-append xs ys some =
    let before : length (xs ++ ys) - 1 ≡ length xs + (length ys - 1) = omega (arith, length-append xs ys) in
    rw (before, take-append-add xs ys (length ys - 1), append_assoc xs (take (length ys - 1) ys) (10 ∷ []))

-- a word has a space behind it
some_spaced : (word : Word) (words : List Word) → 0 < length (flat_map spaced (word ∷ words))
some_spaced word words = omega (arith, length-append (spaced word) (flat_map spaced words), length-append (word_text word) (32 ∷ []))

ended_words : (word : Word) (words : List Word) → ended (flat_map spaced (word ∷ words)) ≡ line (map word_text (word ∷ words))
ended_words w [] = rw (append-nil (spaced w)) (ended-append (word_text w) (32 ∷ []) (omega arith))
ended_words w (v ∷ ws) =
    rw (ended-append (spaced w) (flat_map spaced (v ∷ ws)) (some_spaced v ws), ended_words v ws) (append_assoc (word_text w) (32 ∷ []) (line (map word_text (v ∷ ws))))

-- the texts of the words `start` and then `more`, one after the other, are that of all words
pub all_spaced : (old : List ℕ) (start more : List Word) → old ++ flat_map spaced start ++ flat_map spaced more ≡ old ++ flat_map spaced (start ++ more)
all_spaced old start more = rw (append_assoc, ← flat_map-append spaced start more)

-- a text to which words were added, where it has grown, ends in their line
pub line_added : (old : List ℕ) (words : List Word) (new : List ℕ) (size : ℕ) → new ≡ old ++ flat_map spaced words → size ≡ length new → length old < size
    → take (size - 1) new ++ 10 ∷ [] ≡ old ++ line (map word_text words)
line_added old [] new size is all more = absurd (omega (arith, ap length is, length-append old []))
line_added old (w ∷ ws) new size is all more = rw (all, is) (rw (ended-append old (flat_map spaced (w ∷ ws)) (some_spaced w ws), ended_words w ws))

-- where it hasn't, there are no words
pub empty_added : (old : List ℕ) (words : List Word) (new : List ℕ) → new ≡ old ++ flat_map spaced words → length new ≤ length old
    → new ++ 10 ∷ [] ≡ old ++ line (map word_text words)
empty_added old [] new is none = rw (is, append-nil old)
empty_added old (w ∷ ws) new is none = absurd (omega (arith, ap length is, length-append old (flat_map spaced (w ∷ ws)), some_spaced w ws))
