-- On which line of a program's text a move stands.
use Rattle.std.specs.Prelude.{◌≡◌, ℕ, ◌-◌, ◌<◌, ◌≤◌, List, [], ◌∷◌, ◌++◌, length, slice_index_or, slice_range, take}
use Rattle.mill_base.specs.declared.motion.Move.{Move}
use Rattle.mill_base.specs.declared.points.Pt3.{Pt3}
use Rattle.mill_base.specs.declared.unit.Unit.{Unit}
use Rattle.mill_ngc.specs.Pieces.{fed, reading_at}
use Rattle.mill_ngc.specs.Programs.{lines_of}
use Rattle.mill_ngc.specs.declared.place.LineSpan.{LineSpan}
use Rattle.mill_said.specs.declared.rules.Rules.{Rules}

-- these lines as one text, each with a line feed behind it, which is 10
abbrev pub with_ends : List (List ℕ) → List ℕ
with_ends [] = []
with_ends (line ∷ lines) = line ++ 10 ∷ with_ends lines

-- the first n lines of a text, each with a line feed behind it
abbrev pub first_lines : ℕ → List ℕ → List ℕ
first_lines n text = with_ends (take n (lines_of text))

-- the moves that these read as, of a program that begins at this point, in this unit, where this is asked of it beside; behind a fault there are none
abbrev pub moves_to : Pt3 → Unit → Rules → List ℕ → ℕ → List Move
moves_to start unit rules text n = (fed (reading_at start unit rules, []) (first_lines n text)).1

-- line n of a text, from 1 on, without its line feed
abbrev pub line_at : List ℕ → ℕ → List ℕ
line_at text n = slice_index_or (lines_of text) (n - 1) []

-- move k stands on this line: the lines before it read as at most k moves, and with it as more; the place begins behind the lines before it, and the line's bytes stand there
pub record IsPlace (start : Pt3) (unit : Unit) (rules : Rules) (text : List ℕ) (k : ℕ) (place : LineSpan) : Type 0 where
  pub some : 1 ≤ place.line
  pub before : length (moves_to start unit rules text (place.line - 1)) ≤ k
  pub within : k < length (moves_to start unit rules text place.line)
  pub begins : place.start ≡ length (first_lines (place.line - 1) text)
  pub order : place.start ≤ place.end
  pub inside : place.end ≤ length text
  pub bytes : slice_range text place.start place.end ≡ line_at text place.line

-- these are the places of all moves that the text reads as, one by one
pub record ArePlaces (start : Pt3) (unit : Unit) (rules : Rules) (text : List ℕ) (places : List LineSpan) : Type 0 where
  pub count : length places ≡ length (moves_to start unit rules text (length (lines_of text)))
  pub each : (k : ℕ) (other : LineSpan) → k < length places → IsPlace start unit rules text k (slice_index_or places k other)
