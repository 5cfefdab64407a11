-- What a program's text means: its moves, or its first fault.
use Rattle.std.specs.Prelude.{ℕ, ◌==◌, if◌then◌else◌, List, [], ◌∷◌, ◌++◌, Option, Some, None, Result, Ok, Err}
use Rattle.mill_base.specs.declared.points.Pt3.{Pt3}
use Rattle.mill_base.specs.declared.motion.Move.{Move}
use Rattle.mill_base.specs.declared.unit.Unit.{Unit}
use Rattle.mill_said.specs.declared.fault.NgcFault.{NgcFault}
use Rattle.mill_said.specs.declared.fault.NgcFault.TheVariants as fault
use Rattle.mill_block.specs.declared.progress.Progress.{Progress}
use Rattle.mill_said.specs.Said.{◌>>=◌}
use Rattle.mill_block.specs.Lines.{after_line, start_at}
use Rattle.mill_said.specs.declared.rules.Rules.{Rules}

-- ---- lines

-- a byte in front of the first line
abbrev pub put_first : ℕ → List (List ℕ) → List (List ℕ)
put_first b [] = (b ∷ []) ∷ []
put_first b (line ∷ lines) = (b ∷ line) ∷ lines

-- a text cut at its line feeds, which are 10; what stands behind the last one is a line too
abbrev pub lines_of : List ℕ → List (List ℕ)
lines_of [] = [] ∷ []
lines_of (b ∷ text) = if b == 10 then [] ∷ lines_of text else put_first b (lines_of text)

-- the lines of what stands behind a line end, if there is one
abbrev pub lines_behind : Option (List ℕ) → List (List ℕ)
lines_behind None = []
lines_behind (Some text) = lines_of text

-- ---- a text

-- the moves so far, and those of the lines that follow up to the program's end
unfoldable pub moves_from : Progress → List Move → List (List ℕ) → Result (List Move) NgcFault
moves_from p moves [] = if p.ended then Ok moves else Err (fault.NoEnd p.line)
moves_from p moves (line ∷ lines) =
    if p.ended then Ok moves else
    (after_line p line >>= λ s. moves_from s.0 (moves ++ s.1) lines)

-- what a program's text means from a start, in a unit, where this is asked of it beside
unfoldable pub program_of : Pt3 → Unit → Rules → List ℕ → Result (List Move) NgcFault
program_of start unit rules text = moves_from (start_at start unit rules) [] (lines_of text)
