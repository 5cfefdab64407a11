-- The first line of a text, by the place of its first line feed.
use Rattle.std.proofs.Common.{◌≡◌, ℕ, zero, suc, ◌+◌, ◌-◌, ◌<◌, Bool, true, false, eqb, List, [], ◌∷◌, length, get_or, take, drop, refl, ap, sym, ◌∙◌, arith}
use Rattle.std.proofs.lemmas.List.{drop-drop, take_rest}
use Rattle.std.specs.Prelude.{slice_range}
use Rattle.mill_ngc.specs.Programs.{put_first, lines_of}

-- it ends at the first line feed
pub lines_of-first : (text : List ℕ) (n : ℕ) → n < length text → ((k : ℕ) → k < n → eqb (get_or text k 0) 10 ≡ false) → eqb (get_or text n 0) 10 ≡ true
    → lines_of text ≡ take n text ∷ lines_of (drop (suc n) text)
lines_of-first [] n some none here = absurd (omega arith)
lines_of-first (b ∷ text) zero some none here = rw here refl
lines_of-first (b ∷ text) (suc n) some none here =
    rw (none 0 (omega arith)) (ap (put_first b) (lines_of-first text n (omega arith) (λ k lt. none (suc k) (omega arith)) here))

-- without one it is the whole text
pub lines_of-whole : (text : List ℕ) → ((k : ℕ) → k < length text → eqb (get_or text k 0) 10 ≡ false) → lines_of text ≡ text ∷ []
lines_of-whole [] none = refl
lines_of-whole (b ∷ text) none =
    rw (none 0 (omega arith)) (ap (put_first b) (lines_of-whole text (λ k lt. none (suc k) (omega arith))))

not_true : (b : Bool) → (b ≡ true → ⊥) → b ≡ false
not_true true fails = absurd (fails refl)
not_true false fails = refl

-- the line that begins at a place, where its line feed comes after so many bytes
pub line_to_feed : (text : List ℕ) (from count : ℕ) (behind : List ℕ) → behind ≡ drop from text → count < length behind
    → ((k : ℕ) → k < count → eqb (get_or behind k 0) 10 ≡ true → ⊥) → eqb (get_or behind count 0) 10 ≡ true
    → lines_of (drop from text) ≡ slice_range text from (from + count) ∷ lines_of (drop (from + count + 1) text)
line_to_feed text from count behind is some none here =
    let size : from + count - from ≡ count = omega arith in
    let next : from + suc count ≡ from + count + 1 = omega arith in
    ap lines_of (sym is)
    ∙ lines_of-first behind count some (λ k lt. not_true (eqb (get_or behind k 0) 10) (none k lt)) here
    ∙ ap (λ (bytes : List ℕ). take count bytes ∷ lines_of (drop (suc count) bytes)) is
    ∙ ap (λ (n : ℕ). take n (drop from text) ∷ lines_of (drop (suc count) (drop from text))) (sym size)
    ∙ ap (λ (bytes : List ℕ). slice_range text from (from + count) ∷ lines_of bytes) (drop-drop (suc count) from text ∙ ap (λ n. drop n text) next)

-- and where none comes
pub line_to_end : (text : List ℕ) (from : ℕ) (behind : List ℕ) → behind ≡ drop from text → ((k : ℕ) → k < length behind → eqb (get_or behind k 0) 10 ≡ true → ⊥)
    → lines_of (drop from text) ≡ slice_range text from (length text) ∷ []
line_to_end text from behind is none =
    ap lines_of (sym is) ∙ lines_of-whole behind (λ k lt. not_true (eqb (get_or behind k 0) 10) (none k lt))
    ∙ ap (λ (bytes : List ℕ). bytes ∷ []) (is ∙ sym (take_rest text from))
