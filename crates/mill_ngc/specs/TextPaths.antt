-- The path that a program's own numbers give, before they are rounded to units. Its points are in parts of 10^18 of a unit.
use Rattle.std.specs.Prelude.{◌≡◌, ℕ, ◌^◌, ◌*ℤ◌, if◌then◌else◌, List, [], ◌∷◌, ◌++◌, Result, Ok, Err}
use Rattle.mill_base.specs.Ranges.{IsInUnitRange}
use Rattle.mill_base.specs.Rounded.{AreRounded}
use Rattle.mill_base.specs.declared.motion.Move.{Move}
use Rattle.mill_base.specs.declared.points.Pt3.{Pt3}
use Rattle.mill_base.specs.declared.unit.Unit.{Unit}
use Rattle.mill_block.specs.Lines.{after_line, start_at}
use Rattle.mill_block.specs.TextPaths.{text_line}
use Rattle.mill_control.specs.Unrounded.{parts}
use Rattle.mill_said.specs.declared.fault.NgcFault.{NgcFault}
use Rattle.mill_block.specs.declared.progress.Progress.{Progress}
use Rattle.mill_said.specs.declared.rules.Control.{Control}
use Rattle.mill_said.specs.declared.rules.Rules.{Rules}
use Rattle.mill_said.specs.declared.rules.Words.TheVariants.{Machine}
use Rattle.mill_ngc.specs.Programs.{lines_of, program_of}

-- a point in these parts
abbrev pub in_parts : Pt3 → Pt3
in_parts p = record { x = parts *ℤ p.x; y = parts *ℤ p.y; z = parts *ℤ p.z }

-- what comes behind a line, or this where it has a fault
abbrev pub behind_line : {A B : Type 0} → Result A NgcFault → (A → B) → B → B
behind_line (Ok x) next stays = next x
behind_line (Err f) next stays = stays

-- the ways so far, and those of the lines that follow up to the program's end
unfoldable pub ways_from : Control → Progress → Pt3 → List Move → List (List ℕ) → List Move
ways_from c p at ways [] = ways
ways_from c p at ways (line ∷ lines) =
    if p.ended then ways else
    behind_line (after_line p line) (λ s. ways_from c s.0 (text_line c p at line).0 (ways ++ (text_line c p at line).1) lines) ways

-- the ways of a program for a machine, by its own numbers: one for each of its moves
unfoldable pub ways_of : Control → Pt3 → Unit → Rules → List ℕ → List Move
ways_of c start unit rules text = ways_from c (start_at start unit rules) (in_parts start) [] (lines_of text)

-- the moves that a program means are the ways of its own numbers, with each coordinate rounded to the nearest unit; under a control that rounds nothing they are exactly these ways
abbrev pub ProgramIsRounded : Type 0
ProgramIsRounded = (c : Control) (start : Pt3) (unit : Unit) (rules : Rules) (text : List ℕ) (moves : List Move) → rules.words ≡ Machine c → IsInUnitRange unit start
    → program_of start unit rules text ≡ Ok moves → AreRounded c.rounds (10 ^ 18) (ways_of c start unit rules text) moves
