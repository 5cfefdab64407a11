-- What a reader has read that is given a program in pieces: the lines that are whole so far, and the bytes behind them.
use Rattle.std.specs.Prelude.{◌≡◌, ⊤, ℕ, ◌+◌, ◌≤◌, ◌≤ℤ◌, ◌⊎◌, false, nat_lt, if◌then◌else◌, List, [], ◌∷◌, ◌++◌, length, Result, Ok, Err}
use Rattle.mill_base.specs.declared.limits.TheConstants.{MAX_MOVES}
use Rattle.mill_base.specs.declared.points.Pt3.{Pt3}
use Rattle.mill_base.specs.declared.motion.Move.{Move}
use Rattle.mill_base.specs.declared.unit.Unit.{Unit}
use Rattle.mill_base.specs.Motion.{Follow}
use Rattle.mill_base.specs.Ranges.{IsInUnitRange, MovesInUnitRange}
use Rattle.mill_control.specs.Drilled.{ends_at}
use Rattle.mill_said.specs.declared.fault.NgcFault.{NgcFault}
use Rattle.mill_said.specs.declared.fault.NgcFault.TheVariants as fault
use Rattle.mill_block.specs.declared.progress.Progress.{Progress}
use Rattle.mill_block.specs.Lines.{after_line, start_at}
use Rattle.mill_block.specs.Motion.{known_of}
use Rattle.mill_block.specs.declared.progress.Known.TheVariants.{All}
use Rattle.mill_ngc.specs.Programs.{lines_of, program_of}
use Rattle.mill_said.specs.declared.rules.Rules.{Rules}

-- ---- the state of a reader

-- the program goes on, or has ended, with what its whole lines have settled and the bytes behind the last line end; or it has a fault
pub data Reading : Type 0 where
  Going : Progress → List ℕ → Reading
  Failed : NgcFault → Reading

-- before the first byte, with the tool at this point, or anywhere, and coordinates in this unit
abbrev pub reading_at : Pt3 → Unit → Rules → Reading
reading_at start unit rules = Going (start_at start unit rules) []

-- the bytes behind the last line end
abbrev pub line_so_far : Reading → List ℕ
line_so_far (Going p line) = line
line_so_far (Failed f) = []

-- how many whole lines have been read
abbrev pub lines_read : Reading → ℕ
lines_read (Going p line) = p.line
lines_read (Failed f) = 0

-- ---- lines

-- a line that was begun goes on with the first of these
abbrev pub put_before : List ℕ → List (List ℕ) → List (List ℕ)
put_before first [] = first ∷ []
put_before first (line ∷ lines) = (first ++ line) ∷ lines

-- a whole line makes its moves, or is the program's fault
abbrev pub after_result : List Move → Result (Progress × List Move) NgcFault → Reading × List Move
after_result moves (Ok s) = (Going s.0 [], moves ++ s.1)
after_result moves (Err f) = (Failed f, moves)

-- the state and the moves behind a whole line; behind the program's end, and behind a fault, nothing counts
abbrev pub after_whole : Reading → List Move → List ℕ → Reading × List Move
after_whole (Failed f) moves line = (Failed f, moves)
after_whole (Going p so_far) moves line = if p.ended then (Going p so_far, moves) else after_result moves (after_line p line)

-- a line that isn't whole yet is kept, unless it is too long already
abbrev pub after_begun : Reading → List ℕ → Reading
after_begun (Failed f) line = Failed f
after_begun (Going p so_far) line =
    if p.ended then Going p so_far else
    (if nat_lt 256 (length line) then Failed (fault.LongLine (p.line + 1)) else Going p line)

-- the state and the moves behind these lines, of which the last isn't whole yet
unfoldable pub after_lines : Reading × List Move → List (List ℕ) → Reading × List Move
after_lines s [] = s
after_lines s (line ∷ []) = (after_begun s.0 line, s.1)
after_lines s (line ∷ next ∷ lines) = after_lines (after_whole s.0 s.1 line) (next ∷ lines)

-- ---- a text

-- the state and the moves behind the next piece of the text, whose first line goes on the line so far
unfoldable pub fed : Reading × List Move → List ℕ → Reading × List Move
fed s piece = after_lines s (put_before (line_so_far s.0) (lines_of piece))

-- the text ends: the line so far is its last
abbrev pub at_end : Reading × List Move → Reading × List Move
at_end s = after_whole s.0 s.1 (line_so_far s.0)

-- the answer to a piece
abbrev pub answer : Reading → Result ⊤ NgcFault
answer (Going p line) = Ok tt
answer (Failed f) = Err f

-- the answer behind the last line
abbrev pub last_answer : Reading → Result ⊤ NgcFault
last_answer (Going p line) = if p.ended then Ok tt else Err (fault.NoEnd p.line)
last_answer (Failed f) = Err f

-- ---- the moves

-- the first list is the front of the second
pub record IsFront (moves all : List Move) : Type 0 where
  pub rest : List Move
  pub is : all ≡ moves ++ rest

-- the moves follow on each other from a place: from the start, or where the tool may be anywhere before the program, from any that is no lower
pub record FollowOn (start : Pt3) (rules : Rules) (moves : List Move) : Type 0 where
  pub from : Pt3
  pub over : start.z ≤ℤ from.z
  pub at_start : rules.from_anywhere ≡ false → from ≡ start
  pub follow : Follow from moves

-- so they do, in the unit's range and not too many
pub record AreSound (start : Pt3) (unit : Unit) (rules : Rules) (moves : List Move) : Type 0 where
  pub in_range : MovesInUnitRange unit moves
  pub follow : FollowOn start rules moves
  pub few : length moves ≤ MAX_MOVES

-- they lead to where the whole lines have left the tool, and are as many as these have made; there are none before its place is known, and the height that is known till then is no lower than the start's
pub record SoFar (start : Pt3) (unit : Unit) (rules : Rules) (p : Progress) (moves : List Move) : Type 0 where
  pub rules_are : p.rules ≡ rules
  pub unit_is : p.unit ≡ unit
  pub clear_is : start.z ≡ p.clear
  pub here : IsInUnitRange unit p.here
  pub in_range : MovesInUnitRange unit moves
  pub follow : FollowOn start rules moves
  pub end : known_of p ≡ All → ends_at follow.from moves ≡ p.here
  pub none : (known_of p ≡ All) ⊎ (moves ≡ [])
  pub high : (known_of p ≡ All) ⊎ (start.z ≤ℤ p.here.z)
  pub count : length moves ≡ p.moves
  pub few : p.moves ≤ MAX_MOVES

-- the moves that a reader has made so far
abbrev pub MovesSoFar : Pt3 → Unit → Rules → Reading → List Move → Type 0
MovesSoFar start unit rules (Going p line) moves = SoFar start unit rules p moves
MovesSoFar start unit rules (Failed f) moves = AreSound start unit rules moves

-- ---- laws

-- what is read doesn't depend on where the text is cut
abbrev pub PiecesJoin : Type 0
PiecesJoin = (s : Reading × List Move) (text more : List ℕ) → fed (fed s text) more ≡ fed s (text ++ more)

-- the moves and the answer behind the last line
abbrev pub told : List Move → Result ⊤ NgcFault → Result (List Move) NgcFault
told moves (Ok u) = Ok moves
told moves (Err f) = Err f

-- what is read of a whole text is what it means
abbrev pub ReadsProgram : Type 0
ReadsProgram = (start : Pt3) (unit : Unit) (rules : Rules) (text : List ℕ) →
    told (at_end (fed (reading_at start unit rules, []) text)).1 (last_answer (at_end (fed (reading_at start unit rules, []) text)).0) ≡ program_of start unit rules text
