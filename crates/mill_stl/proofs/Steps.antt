-- A text word by word, as a loop takes it.
use Rattle.std.proofs.Common.{◌≡◌, ℕ, zero, suc, ◌+◌, ◌-◌, ◌<◌, ◌≤◌, List, [], ◌∷◌, length, take, drop, get_or, Result, Ok, Err, true, false, refl, ap, subst, ◌∙◌, add-one, arith, drop-cons, length-drop}
use Rattle.std.proofs.Math.ListN.{drop_of_length-le}
use Rattle.std.proofs.Math.Seq.{take-suc}
use Rattle.std.proofs.lemmas.List.{get_or-drop}
use Rattle.mill_base.specs.declared.points.Tri.{Tri}
use Rattle.mill_base.specs.declared.unit.Unit.{Unit}
use Rattle.mill_decimal.specs.declared.snap.Snap.{Snap}
use Rattle.mill_stl.specs.declared.fault.StlFault.{StlFault}
use Rattle.mill_stl.specs.declared.fault.StlFault.TheVariants.{Expected, Coord, TooManyTriangles, CutShort, WantOfMemory}
use Rattle.mill_stl.specs.declared.state.Cursor.{Cursor}
use Rattle.mill_stl.specs.declared.state.Progress.{Progress}
use Rattle.mill_stl.specs.Facets.{after_word}
use Rattle.mill_stl.specs.Parts.{Reached, Part, is_space, next_line, and_then, after_step, reached_at, with_word, after_byte, after_text, read_from, whole_part, Fails}
use Rattle.mill_stl.specs.inner.Bounds.{scan_at, meaning_from}

-- the same first bytes, and one more
pub take-next : (xs ys : List ℕ) (i : ℕ) → i < length xs → i < length ys → get_or xs i 0 ≡ get_or ys i 0
    → take i xs ≡ take i ys → take (i + 1) xs ≡ take (i + 1) ys
take-next xs ys i ltx lty here so_far = rw (add-one i, take-suc xs i 0 ltx, take-suc ys i 0 lty, so_far, here) refl

-- no word does nothing
with_word-none : (snap : Snap) (unit : Unit) (r : Reached) (line : ℕ) → with_word snap unit r line [] ≡ Ok r
unfolding with_word
with_word-none snap unit r line = refl

-- a word does what it does
pub with_word_some : (snap : Snap) (unit : Unit) (r : Reached) (line : ℕ) (word : List ℕ) → 0 < length word
    → with_word snap unit r line word ≡ and_then (after_word snap unit r.progress line word) (λ s. Ok (after_step r.tris s))
unfolding with_word
with_word_some snap unit r line [] some = absurd (omega arith)
with_word_some snap unit r line (b ∷ word) some = refl

-- white space where no word goes on changes no more than the line
pub meaning-space : (snap : Snap) (unit : Unit) (text : List ℕ) (line place : ℕ) (p : Progress) (tris : List Tri) → place < length text
    → is_space (get_or text place 0) ≡ true
    → meaning_from snap unit text (record { line = next_line line (get_or text place 0); from = place + 1 }) p tris
    ≡ meaning_from snap unit text (record { line = line; from = place }) p tris
unfolding read_from after_byte
meaning-space snap unit text line place p tris lt space = rw (add-one place, drop-cons text place 0 lt, space, with_word-none snap unit (reached_at p tris) line) refl

-- and a blank there changes nothing
pub meaning-blank : (snap : Snap) (unit : Unit) (text : List ℕ) (line place : ℕ) (p : Progress) (tris : List Tri) → place < length text
    → get_or text place 0 ≡ 32
    → meaning_from snap unit text (record { line = line; from = place + 1 }) p tris ≡ meaning_from snap unit text (record { line = line; from = place }) p tris
meaning-blank snap unit text line place p tris lt blank =
    rw blank at (meaning-space snap unit text line place p tris lt (rw blank refl))

-- nor do blanks up to a further place
blanks_step : (snap : Snap) (unit : Unit) (text : List ℕ) (line place n : ℕ) (p : Progress) (tris : List Tri) → place + n ≤ length text
    → ((k : ℕ) → place ≤ k → k < place + n → get_or text k 0 ≡ 32)
    → meaning_from snap unit text (record { line = line; from = place + n }) p tris ≡ meaning_from snap unit text (record { line = line; from = place }) p tris
blanks_step snap unit text line place zero p tris le blanks =
    let here : place + 0 ≡ place = omega arith in
    rw here refl
blanks_step snap unit text line place (suc n) p tris le blanks =
    let next : place + suc n ≡ place + n + 1 = omega arith in
    rw next
    (meaning-blank snap unit text line (place + n) p tris (omega arith) (blanks (place + n) (omega arith) (omega arith))
    ∙ blanks_step snap unit text line place n p tris (omega arith) (λ k ge lt. blanks k ge (omega arith)))

pub meaning-blanks : (snap : Snap) (unit : Unit) (text : List ℕ) (line place end : ℕ) (p : Progress) (tris : List Tri) → place ≤ end → end ≤ length text
    → ((k : ℕ) → place ≤ k → k < end → get_or text k 0 ≡ 32)
    → meaning_from snap unit text (record { line = line; from = end }) p tris ≡ meaning_from snap unit text (record { line = line; from = place }) p tris
meaning-blanks snap unit text line place end p tris forward within blanks =
    let n = end - place in
    let whole : place + n ≡ end = omega arith in
    subst (λ (e : ℕ). meaning_from snap unit text (record { line = line; from = e }) p tris ≡ meaning_from snap unit text (record { line = line; from = place }) p tris) whole
    (blanks_step snap unit text line place n p tris (omega arith) (λ k ge lt. blanks k ge (omega arith)))

-- ---- the bytes of a word only lengthen it

read_from-in_word : (snap : Snap) (unit : Unit) (text : List ℕ) (r : Reached) (line from n : ℕ) → from + n < length text
    → is_space (get_or text (from + n) 0) ≡ false
    → read_from snap unit (scan_at r line (take (suc n) (drop from text))) (drop (suc (from + n)) text)
    ≡ read_from snap unit (scan_at r line (take n (drop from text))) (drop (from + n) text)
unfolding read_from after_byte
read_from-in_word snap unit text r line from n lt space =
    rw (take-suc (drop from text) n 0 (omega (arith, length-drop from text)), get_or-drop from text n 0, drop-cons text (from + n) 0 lt, space) refl

read_from-word : (snap : Snap) (unit : Unit) (text : List ℕ) (r : Reached) (line from n : ℕ) → from + n ≤ length text
    → ((k : ℕ) → from ≤ k → k < from + n → is_space (get_or text k 0) ≡ false)
    → read_from snap unit (scan_at r line (take n (drop from text))) (drop (from + n) text) ≡ read_from snap unit (scan_at r line []) (drop from text)
read_from-word snap unit text r line from zero le word =
    let here : from + 0 ≡ from = omega arith in
    rw here refl
read_from-word snap unit text r line from (suc n) le word =
    let next : from + suc n ≡ suc (from + n) = omega arith in
    rw next
    (read_from-in_word snap unit text r line from n (omega arith) (word (from + n) (omega arith) (omega arith))
    ∙ read_from-word snap unit text r line from n (omega arith) (λ k ge lt. word k ge (omega arith)))

-- ---- a word ends before white space and at the text's end

read_from-ended : (snap : Snap) (unit : Unit) (r s : Reached) (line : ℕ) (word rest : List ℕ) → (0 < length rest → is_space (get_or rest 0 0) ≡ true)
    → with_word snap unit r line word ≡ Ok s → read_from snap unit (scan_at s line []) rest ≡ read_from snap unit (scan_at r line word) rest
unfolding read_from after_text after_byte
read_from-ended snap unit r s line word [] space h = rw (h, with_word-none snap unit s line) refl
read_from-ended snap unit r s line word (b ∷ rest) space h = rw (space (omega arith), h, with_word-none snap unit s line) refl

read_from-err : (snap : Snap) (unit : Unit) (r : Reached) (line : ℕ) (word rest : List ℕ) (fault : StlFault) → (0 < length rest → is_space (get_or rest 0 0) ≡ true)
    → with_word snap unit r line word ≡ Err fault → read_from snap unit (scan_at r line word) rest ≡ Err fault
unfolding read_from after_text after_byte
read_from-err snap unit r line word [] fault space h = rw h refl
read_from-err snap unit r line word (b ∷ rest) fault space h = rw (space (omega arith), h) refl

-- the same of a fault that may be want of memory
read_from-fails : (fault : StlFault) (snap : Snap) (unit : Unit) (r : Reached) (line : ℕ) (word rest : List ℕ) → (0 < length rest → is_space (get_or rest 0 0) ≡ true)
    → Fails fault (with_word snap unit r line word) → Fails fault (read_from snap unit (scan_at r line word) rest)
read_from-fails WantOfMemory snap unit r line word rest space h = tt
read_from-fails (Expected l what) snap unit r line word rest space h = read_from-err snap unit r line word rest (Expected l what) space h
read_from-fails (Coord l fault) snap unit r line word rest space h = read_from-err snap unit r line word rest (Coord l fault) space h
read_from-fails (TooManyTriangles l) snap unit r line word rest space h = read_from-err snap unit r line word rest (TooManyTriangles l) space h
read_from-fails (CutShort l) snap unit r line word rest space h = read_from-err snap unit r line word rest (CutShort l) space h

-- ---- a whole word

-- the bytes from one place to another are a word
pub record IsWord (text : List ℕ) (from end : ℕ) : Type 0 where
  pub forward : from ≤ end
  pub within : end ≤ length text
  pub word : (k : ℕ) → from ≤ k → k < end → is_space (get_or text k 0) ≡ false
  pub space : end < length text → is_space (get_or text end 0) ≡ true

-- what follows a word begins with white space, if with anything
space_behind : (text : List ℕ) (from end : ℕ) → IsWord text from end → 0 < length (drop end text) → is_space (get_or (drop end text) 0 0) ≡ true
space_behind text from end w some =
    let none : end + 0 ≡ end = omega arith in
    let here : get_or (drop end text) 0 0 ≡ get_or text end 0 = get_or-drop end text 0 0 ∙ ap (λ (i : ℕ). get_or text i 0) none in
    rw here (w.space (omega (arith, length-drop end text)))

read_from-whole : (snap : Snap) (unit : Unit) (text : List ℕ) (r : Reached) (line from end : ℕ) → IsWord text from end
    → read_from snap unit (scan_at r line (take (end - from) (drop from text))) (drop end text) ≡ read_from snap unit (scan_at r line []) (drop from text)
read_from-whole snap unit text r line from end w =
    let n = end - from in
    let whole : from + n ≡ end = omega (arith, w.forward) in
    subst (λ (e : ℕ). read_from snap unit (scan_at r line (take n (drop from text))) (drop e text) ≡ read_from snap unit (scan_at r line []) (drop from text)) whole
    (read_from-word snap unit text r line from n (omega (arith, w.forward, w.within)) (λ k ge lt. w.word k ge (omega (arith, w.forward))))

-- the meaning behind a word that is taken
pub meaning-word : (snap : Snap) (unit : Unit) (text : List ℕ) (c : Cursor) (end : ℕ) (p q : Progress) (tris more : List Tri) → IsWord text c.from end
    → with_word snap unit (reached_at p tris) c.line (take (end - c.from) (drop c.from text)) ≡ Ok (reached_at q more)
    → meaning_from snap unit text (record { line = c.line; from = end }) q more ≡ meaning_from snap unit text c p tris
meaning-word snap unit text c end p q tris more w h =
    read_from-ended snap unit (reached_at p tris) (reached_at q more) c.line (take (end - c.from) (drop c.from text)) (drop end text) (space_behind text c.from end w) h
    ∙ read_from-whole snap unit text (reached_at p tris) c.line c.from end w

-- a word's fault is that of the text from the word on
pub fails-word : (fault : StlFault) (snap : Snap) (unit : Unit) (text : List ℕ) (c : Cursor) (end : ℕ) (p : Progress) (tris : List Tri) → IsWord text c.from end
    → Fails fault (with_word snap unit (reached_at p tris) c.line (take (end - c.from) (drop c.from text)))
    → Fails fault (meaning_from snap unit text c p tris)
fails-word fault snap unit text c end p tris w h =
    subst (λ (meaning : Result Part StlFault). Fails fault meaning) (read_from-whole snap unit text (reached_at p tris) c.line c.from end w)
    (read_from-fails fault snap unit (reached_at p tris) c.line (take (end - c.from) (drop c.from text)) (drop end text) (space_behind text c.from end w) h)

-- at the end nothing is left
pub meaning-end : (snap : Snap) (unit : Unit) (text : List ℕ) (c : Cursor) (p : Progress) (tris : List Tri) → length text ≤ c.from
    → meaning_from snap unit text c p tris ≡ whole_part c.line (reached_at p tris)
unfolding read_from after_text
meaning-end snap unit text c p tris past = rw (drop_of_length-le text past, with_word-none snap unit (reached_at p tris) c.line) refl
