-- A part text, byte by byte: its words with their lines, its triangles, and its first fault.
use Rattle.std.specs.Prelude.{◌≡◌, ⊤, ℕ, ◌+◌, pos, List, [], ◌∷◌, ◌++◌, replicate, Option, Some, None, Result, Ok, Err, Bool, true, false, ◌&&◌, ◌||◌, ◌==◌, nat_le, if◌then◌else◌}
use Rattle.mill_base.specs.declared.points.Tri.{Tri}
use Rattle.mill_base.specs.declared.unit.Unit.{Unit}
use Rattle.mill_decimal.specs.declared.snap.Snap.{Snap}
use Rattle.mill_stl.specs.declared.fault.StlFault.{StlFault}
use Rattle.mill_stl.specs.declared.fault.StlFault.TheVariants.{CutShort, WantOfMemory}
use Rattle.mill_stl.specs.declared.state.StlRead.{StlRead}
use Rattle.mill_stl.specs.declared.state.Stage.{Stage}
use Rattle.mill_stl.specs.declared.state.Stage.TheVariants as stage
use Rattle.mill_stl.specs.declared.state.Progress.{Progress}
use Rattle.mill_stl.specs.Facets.{Step, after_word}

-- the byte parts words: space, tab, LF, vertical tab, form feed, CR
abbrev pub is_space : ℕ → Bool
is_space b = (b == 32) || (nat_le 9 b && nat_le b 13)

-- the line of what follows the byte
abbrev pub next_line : ℕ → ℕ → ℕ
next_line line b = if b == 10 then line + 1 else line

-- what the words so far have done
pub record Reached : Type 0 where
  pub progress : Progress
  pub tris : List Tri

-- this progress with these triangles
abbrev pub reached_at : Progress → List Tri → Reached
reached_at p tris = record { progress = p; tris = tris }

-- what the bytes so far have done: the words that have ended, the present line, and the bytes of a word that goes on
pub record Scan : Type 0 where
  pub reached : Reached
  pub line : ℕ
  pub word : List ℕ

-- goes on with the value, if there is one
abbrev pub and_then : {A B : Type 0} → Result A StlFault → (A → Result B StlFault) → Result B StlFault
and_then (Ok x) f = f x
and_then (Err e) f = Err e

-- the triangles and one more, if there is one
abbrev pub with_tri : List Tri → Option Tri → List Tri
with_tri tris None = tris
with_tri tris (Some tri) = tris ++ tri ∷ []

-- a word's step is done
abbrev pub after_step : List Tri → Step → Reached
after_step tris s = reached_at s.progress (with_tri tris s.tri)

-- a word ends here, if there is one
unfoldable pub with_word : Snap → Unit → Reached → ℕ → List ℕ → Result Reached StlFault
with_word snap unit r line [] = Ok r
with_word snap unit r line (c ∷ word) = and_then (after_word snap unit r.progress line (c ∷ word)) (λ s. Ok (after_step r.tris s))

-- one byte more
unfoldable pub after_byte : Snap → Unit → Scan → ℕ → Result Scan StlFault
after_byte snap unit s b =
    if is_space b
    then and_then (with_word snap unit s.reached s.line s.word) (λ r. Ok (record { reached = r; line = next_line s.line b; word = [] }))
    else Ok (record s { word = s.word ++ b ∷ [] })

-- the last solid has ended
abbrev pub is_end : Stage → Bool
is_end stage.SolidOrEnd = true
is_end _ = false

-- what a part text means: its triangles in order, and how many coordinates were rounded
pub record Part : Type 0 where
  pub tris : List Tri
  pub rounded : ℕ

-- what was reached is a whole part
abbrev pub whole_part : ℕ → Reached → Result Part StlFault
whole_part line r =
    if is_end r.progress.stage then Ok (record { tris = r.tris; rounded = r.progress.rounded }) else Err (CutShort line)

-- the text ends here
unfoldable pub after_text : Snap → Unit → Scan → Result Part StlFault
after_text snap unit s = and_then (with_word snap unit s.reached s.line s.word) (whole_part s.line)

-- the rest of the text
unfoldable pub read_from : Snap → Unit → Scan → List ℕ → Result Part StlFault
read_from snap unit s [] = after_text snap unit s
read_from snap unit s (b ∷ bytes) = and_then (after_byte snap unit s b) (λ t. read_from snap unit t bytes)

-- before the first word; no line has the number 0
abbrev pub start : Progress
start = record { stage = stage.Solid; name_line = 0; coords = replicate 9 (pos 0); facets = 0; rounded = 0 }

-- what a part text means, or its first fault
unfoldable pub part_of : Snap → Unit → List ℕ → Result Part StlFault
part_of snap unit text = read_from snap unit (record { reached = reached_at start []; line = 1; word = [] }) text

-- the fault is the text's first, or memory ran out
abbrev pub Fails : {Y : Type 0} → StlFault → Result Y StlFault → Type 0
Fails WantOfMemory meaning = ⊤
Fails fault meaning = meaning ≡ Err fault

-- the answer is what the text means, or memory ran out
abbrev pub GivesPart : Result StlRead StlFault → Result Part StlFault → Type 0
GivesPart (Ok read) meaning = meaning ≡ Ok (record { tris = read.tris.items; rounded = read.rounded })
GivesPart (Err fault) meaning = Fails fault meaning
