-- The words of a line from left to right, as the reader's loop takes them.
use Rattle.std.proofs.Common.{◌≡◌, ℕ, ◌+◌, ◌<◌, ◌≤◌, List, [], ◌∷◌, length, drop, get_or, Some, Result, Ok, Err, Bool, refl, sym, ap, ◌∙◌, add-one, drop-cons}
use Rattle.std.proofs.Math.ListN.{drop_of_length-le}
use Rattle.mill_words.specs.declared.word.Word.{Word}
use Rattle.mill_said.specs.declared.fault.NgcFault.{NgcFault}
use Rattle.mill_said.specs.declared.said.Said.{Said}
use Rattle.mill_said.specs.declared.profile.Effect.TheVariants.{X, Y, Z}
use Rattle.mill_said.specs.Profile.{entry_of, row}
use Rattle.mill_said.specs.Said.{after_word, said_from, ◌>>=◌}

-- the words behind one, after what that one says
abbrev behind : ℕ → Bool → List Word → Result Said NgcFault → Result Said NgcFault
behind line positioned ws so_far = so_far >>= λ t. said_from line positioned t ws

-- the meaning of the rest, from one word on
said_from-word : (line : ℕ) (positioned : Bool) (words : List Word) (i : ℕ) (d : Word) (s : Said) → i < length words
    → said_from line positioned s (drop i words) ≡ behind line positioned (drop (i + 1) words) (after_word line positioned s (get_or words i d))
unfolding said_from
said_from-word line positioned words i d s lt = rw (add-one i, drop-cons words i d lt) refl

-- it is that from the next word on
pub said_from-next : (line : ℕ) (positioned : Bool) (words : List Word) (i : ℕ) (d : Word) (s t : Said) (total : Result Said NgcFault)
    → i < length words → after_word line positioned s (get_or words i d) ≡ Ok t
    → said_from line positioned s (drop i words) ≡ total → said_from line positioned t (drop (i + 1) words) ≡ total
said_from-next line positioned words i d s t total lt h so_far =
    sym (said_from-word line positioned words i d s lt ∙ ap (behind line positioned (drop (i + 1) words)) h) ∙ so_far

-- or the word's fault
pub said_from-fault : (line : ℕ) (positioned : Bool) (words : List Word) (i : ℕ) (d : Word) (s : Said) (f : NgcFault) (total : Result Said NgcFault)
    → i < length words → after_word line positioned s (get_or words i d) ≡ Err f
    → said_from line positioned s (drop i words) ≡ total → total ≡ Err f
said_from-fault line positioned words i d s f total lt h so_far =
    sym so_far ∙ said_from-word line positioned words i d s lt ∙ ap (behind line positioned (drop (i + 1) words)) h

-- behind the last word all is said
pub said_from-end : (line : ℕ) (positioned : Bool) (words : List Word) (i : ℕ) (s : Said) (total : Result Said NgcFault)
    → length words ≤ i → said_from line positioned s (drop i words) ≡ total → total ≡ Ok s
unfolding said_from
said_from-end line positioned words i s total le so_far =
    let one : said_from line positioned s (drop i words) ≡ Ok s = rw (drop_of_length-le words le) refl in
    sym so_far ∙ one

-- the first word before those behind it
pub said_from-first : (line : ℕ) (positioned : Bool) (w : Word) (ws : List Word) (s t : Said) → after_word line positioned s w ≡ Ok t
    → said_from line positioned s (w ∷ ws) ≡ said_from line positioned t ws
unfolding said_from
said_from-first line positioned w ws s t h = ap (behind line positioned ws) h

pub said_from-none : (line : ℕ) (positioned : Bool) (s : Said) → said_from line positioned s [] ≡ Ok s
unfolding said_from
said_from-none line positioned s = refl

-- the rows of the axis words, whose letters are 88, 89 and 90
pub row-x : (w : Word) → w.letter ≡ 88 → entry_of w ≡ Some (row 0 X)
unfolding entry_of
row-x w e = rw e refl

pub row-y : (w : Word) → w.letter ≡ 89 → entry_of w ≡ Some (row 0 Y)
unfolding entry_of
row-y w e = rw e refl

pub row-z : (w : Word) → w.letter ≡ 90 → entry_of w ≡ Some (row 0 Z)
unfolding entry_of
row-z w e = rw e refl
