-- A written program read back.
use Rattle.std.specs.Prelude.{◌≡◌, ◌≤◌, ℕ, ⊤, Bool, true, false, is_some, List, ◌++◌, length, map, Option, Ok}
use Rattle.mill_base.specs.declared.limits.TheConstants.{MAX_MOVES}
use Rattle.mill_base.specs.declared.points.Pt3.{Pt3}
use Rattle.mill_base.specs.declared.motion.Move.{Move}
use Rattle.mill_base.specs.declared.unit.Unit.{Unit}
use Rattle.mill_base.specs.Motion.{Follow}
use Rattle.mill_base.specs.Ranges.{MovesInUnitRange}
use Rattle.mill_said.specs.declared.rules.Rules.{Rules}
use Rattle.mill_said.specs.declared.rules.Words.{Words}
use Rattle.mill_said.specs.declared.rules.Words.TheVariants.{Strict, Machine}
use Rattle.mill_ngc.specs.Programs.{program_of}
use Rattle.mill_ngc.specs.Writing.{as_written, head_moves}

-- what is asked of such a program, by the words that it may have: with a way to its first place the tool may be anywhere before
abbrev pub rules_with : Option Pt3 → Words → Rules
rules_with begin words = record { from_anywhere = is_some begin; needs_spindle = false; words = words }

-- a program for a machine begins with such a way
abbrev pub MayHave : Bool → Words → Type 0
MayHave begins Strict = ⊤
MayHave true (Machine c) = ⊤
MayHave false (Machine c) = ⊥

-- from a start from which all of these follow on each other, the text means exactly these moves, a dogleg as a straight rapid, whichever words it may have; with a way to a first place the start is this place, else it is the first move's start, or any where there is no move
abbrev pub ReadsAs : Unit → Option Pt3 → List Move → List ℕ → Type 0
ReadsAs unit begin all text =
    (words : Words) → MayHave (is_some begin) words → (start : Pt3) → Follow start all → MovesInUnitRange unit all → length all ≤ MAX_MOVES → program_of start unit (rules_with begin words) text ≡ Ok (map as_written all)

-- so it reads back as its moves, with those of the way to the first place before them
abbrev pub ReadsBack : Unit → Option Pt3 → List Move → List ℕ → Type 0
ReadsBack unit begin moves text = ReadsAs unit begin (head_moves begin ++ moves) text
