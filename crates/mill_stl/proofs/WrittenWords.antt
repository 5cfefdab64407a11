-- A word of a text with the white space behind it, read from its start on.
use Rattle.std.proofs.Common.{◌≡◌, ℕ, ◌<◌, List, [], ◌∷◌, ◌++◌, length, Ok, true, false, refl, subst, ◌∙◌, append_assoc, append-nil}
use Rattle.std.specs.Prelude.{◌==◌, None}
use Rattle.mill_base.specs.declared.points.Tri.{Tri}
use Rattle.mill_base.specs.declared.unit.Unit.{Unit}
use Rattle.mill_decimal.specs.declared.snap.Snap.{Snap}
use Rattle.mill_stl.specs.declared.state.Progress.{Progress}
use Rattle.mill_stl.specs.Facets.{Step, at_stage, after_word}
use Rattle.mill_stl.specs.Parts.{Reached, is_space, next_line, reached_at, after_step, after_byte, read_from}
use Rattle.mill_stl.specs.inner.Bounds.{scan_at}
use Rattle.mill_stl.proofs.Numerals.{NoSpace}
use Rattle.mill_stl.proofs.Steps.{with_word_some}

-- the bytes of a word lengthen it
in_word : (snap : Snap) (unit : Unit) (r : Reached) (line : ℕ) (before word rest : List ℕ) → NoSpace word
    → read_from snap unit (scan_at r line before) (word ++ rest) ≡ read_from snap unit (scan_at r line (before ++ word)) rest
unfolding read_from after_byte
in_word snap unit r line before [] rest none = rw (append-nil before) refl
in_word snap unit r line before (b ∷ word) rest none =
    rw none.0
    (subst (λ (longer : List ℕ). read_from snap unit (scan_at r line (before ++ b ∷ [])) (word ++ rest) ≡ read_from snap unit (scan_at r line longer) rest)
    (append_assoc before (b ∷ []) word) (in_word snap unit r line (before ++ b ∷ []) word rest none.1))

-- white space behind a word ends it
ends_word : (snap : Snap) (unit : Unit) (p : Progress) (tris : List Tri) (line : ℕ) (word : List ℕ) (b : ℕ) (rest : List ℕ) (s : Step) → 0 < length word → is_space b ≡ true
    → after_word snap unit p line word ≡ Ok s
    → read_from snap unit (scan_at (reached_at p tris) line word) (b ∷ rest) ≡ read_from snap unit (scan_at (after_step tris s) (next_line line b) []) rest
unfolding read_from after_byte
ends_word snap unit p tris line word b rest s some space does = rw (space, with_word_some snap unit (reached_at p tris) line word some, does) refl

-- a word and the white space behind it do what the word does
pub word_read : (snap : Snap) (unit : Unit) (p : Progress) (tris : List Tri) (line : ℕ) (word : List ℕ) (b : ℕ) (rest : List ℕ) (s : Step)
    → NoSpace word → 0 < length word → is_space b ≡ true → after_word snap unit p line word ≡ Ok s
    → read_from snap unit (scan_at (reached_at p tris) line []) (word ++ b ∷ rest) ≡ read_from snap unit (scan_at (after_step tris s) (next_line line b) []) rest
word_read snap unit p tris line word b rest s none some space does =
    in_word snap unit (reached_at p tris) line [] word (b ∷ rest) none ∙ ends_word snap unit p tris line word b rest s some space does

-- a word that isn't a name's does what its stage says
pub off_name : (snap : Snap) (unit : Unit) (p : Progress) (line : ℕ) (word : List ℕ) (s : Step) → (line == p.name_line) ≡ false
    → at_stage snap unit p.stage p line word ≡ Ok s → after_word snap unit p line word ≡ Ok s
unfolding after_word
off_name snap unit p line word s other does = rw other does

-- a word of a name does nothing
pub on_name : (snap : Snap) (unit : Unit) (p : Progress) (line : ℕ) (word : List ℕ) → (line == p.name_line) ≡ true
    → after_word snap unit p line word ≡ Ok (record { progress = p; tri = None })
unfolding after_word
on_name snap unit p line word named = rw named refl
