-- A line that may hold only a percent sign, byte by byte.
use Rattle.std.proofs.Common.{◌≡◌, ℕ, ◌+◌, ◌<◌, ◌≤◌, List, [], ◌∷◌, ◌++◌, length, drop, get_or, Option, Some, None, Bool, true, false, cond, not, ◌&&◌, eqb, refl, sym, ◌∙◌, add-one, drop-cons}
use Rattle.std.proofs.Math.ListN.{drop_of_length-le}
use Rattle.std.specs.Prelude.{filter}
use Rattle.std.specs.Str.{bytes_eq}
use Rattle.mill_words.specs.Marks.{is_blank}
use Rattle.mill_block.specs.Lines.{percent_step}

-- what has come of the line, but for blanks
abbrev seen_bytes : Bool → List ℕ
seen_bytes seen = cond seen (37 ∷ []) []

-- the line holds only a percent sign, where `seen` tells whether it has come
abbrev pub is_percent_from : Bool → List ℕ → Bool
is_percent_from seen bytes = bytes_eq (seen_bytes seen ++ filter (λ b. not (is_blank b)) bytes) (37 ∷ [])

-- percent_step where it is known of the byte whether it is blank and whether it is a percent sign
abbrev step_of : Bool → Bool → Bool → Option Bool
step_of blank percent seen = cond blank (Some seen) (cond (percent && not seen) (Some true) None)

step_on : (blank percent seen next : Bool) (b : ℕ) (rest : List ℕ) → percent ≡ eqb b 37 → Some next ≡ step_of blank percent seen
    → bytes_eq (seen_bytes seen ++ cond (not blank) (b ∷ rest) rest) (37 ∷ []) ≡ bytes_eq (seen_bytes next ++ rest) (37 ∷ [])
step_on true percent seen next b rest e h =
    let same : next ≡ seen = cc in
    rw same refl
step_on false true true next b rest e h = absurd cc
step_on false true false next b rest e h =
    let came : next ≡ true = cc in
    rw (came, ← e) refl
step_on false false seen next b rest e h = absurd cc

step_stops : (blank percent seen : Bool) (b : ℕ) (rest : List ℕ) → percent ≡ eqb b 37 → None ≡ step_of blank percent seen
    → bytes_eq (seen_bytes seen ++ cond (not blank) (b ∷ rest) rest) (37 ∷ []) ≡ false
step_stops true percent seen b rest e h = absurd cc
step_stops false true true b rest e h = refl
step_stops false true false b rest e h = absurd cc
step_stops false false true b rest e h = refl
step_stops false false false b rest e h = rw (← e) refl

-- a byte that the line may have
pub percent-next : (line : List ℕ) (i : ℕ) (seen next total : Bool) → i < length line → Some next ≡ percent_step seen (get_or line i 0)
    → is_percent_from seen (drop i line) ≡ total → is_percent_from next (drop (i + 1) line) ≡ total
percent-next line i seen next total lt h so_far =
    let b = get_or line i 0 in
    let here : is_percent_from seen (drop i line) ≡ is_percent_from seen (b ∷ drop (i + 1) line) = rw (add-one i, drop-cons line i 0 lt) refl in
    sym (here ∙ step_on (is_blank b) (eqb b 37) seen next b (filter (λ b. not (is_blank b)) (drop (i + 1) line)) refl h) ∙ so_far

-- a byte that it may not have
pub percent-stops : (line : List ℕ) (i : ℕ) (seen total : Bool) → i < length line → None ≡ percent_step seen (get_or line i 0)
    → is_percent_from seen (drop i line) ≡ total → false ≡ total
percent-stops line i seen total lt h so_far =
    let b = get_or line i 0 in
    let here : is_percent_from seen (drop i line) ≡ is_percent_from seen (b ∷ drop (i + 1) line) = rw (add-one i, drop-cons line i 0 lt) refl in
    sym (here ∙ step_stops (is_blank b) (eqb b 37) seen b (filter (λ b. not (is_blank b)) (drop (i + 1) line)) refl h) ∙ so_far

seen_all : (seen : Bool) → bytes_eq (seen_bytes seen ++ []) (37 ∷ []) ≡ seen
seen_all true = refl
seen_all false = refl

-- the line's end
pub percent-end : (line : List ℕ) (i : ℕ) (seen total : Bool) → length line ≤ i → is_percent_from seen (drop i line) ≡ total → seen ≡ total
percent-end line i seen total le so_far =
    let here : is_percent_from seen (drop i line) ≡ is_percent_from seen [] = rw (drop_of_length-le line le) refl in
    sym (here ∙ seen_all seen) ∙ so_far
