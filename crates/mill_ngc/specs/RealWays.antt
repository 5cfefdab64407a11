-- Where a machine goes on a program, wherever its tip is before it. Places are in parts of 10^18 of a unit.
use Rattle.std.specs.Prelude.{◌≡◌, ℕ, Bool, true, false, List, [], ◌∷◌, ◌++◌, All, Result, Ok, Err}
use Rattle.mill_base.specs.Ranges.{IsInUnitRange}
use Rattle.mill_base.specs.declared.motion.Move.{Move}
use Rattle.mill_base.specs.declared.points.Pt3.{Pt3}
use Rattle.mill_base.specs.declared.unit.Unit.{Unit}
use Rattle.mill_block.specs.Lines.{after_line, start_at}
use Rattle.mill_block.specs.RealWays.{IsForeseen, MayGo}
use Rattle.mill_block.specs.TextPaths.{Way, text_line}
use Rattle.mill_said.specs.declared.fault.NgcFault.{NgcFault}
use Rattle.mill_block.specs.declared.progress.Progress.{Progress}
use Rattle.mill_said.specs.declared.rules.Control.{Control}
use Rattle.mill_said.specs.declared.rules.Rules.{Rules}
use Rattle.mill_said.specs.declared.rules.Words.TheVariants.{Machine}
use Rattle.mill_ngc.specs.Programs.{lines_of}
use Rattle.mill_ngc.specs.TextPaths.{in_parts, ways_of}

abbrev pub UnlessEnded : Bool → Type 0 → Type 0 → Type 0
UnlessEnded true stays goes = stays
UnlessEnded false stays goes = goes

-- behind a line without a fault
abbrev pub BehindLine : Result (Progress × List Move) NgcFault → Type 0 → (Progress → Type 0) → Type 0
BehindLine (Ok s) stays goes = goes s.0
BehindLine (Err f) stays goes = stays

-- from r on, where the list has the tip at the place `at`, the machine may make these moves on these lines, up to the program's end
unfoldable pub MayRun : Control → Progress → Pt3 → Pt3 → List (List ℕ) → List Move → Type 0
MayRun c p at r [] made = made ≡ []
MayRun c p at r (line ∷ lines) made = UnlessEnded p.ended (made ≡ []) (BehindLine (after_line p line) (made ≡ [])
    (λ s. (first : Way) × (rest : List Move) × MayGo c p r line first × (made ≡ first.1 ++ rest) × MayRun c s (text_line c p at line).0 first.0 lines rest))

-- on a program for a machine it may make these moves, wherever its tip is before
abbrev pub MayMake : Control → Pt3 → Unit → Rules → List ℕ → List Move → Type 0
MayMake c start unit rules text made = (r : Pt3) × MayRun c (start_at start unit rules) (in_parts start) r (lines_of text) made

-- of these each is one of the ways of the program's own numbers, or it lies at or over the height of the start, or straight over an end of such a way, or goes straight up or down to that height from wherever the tip is
abbrev pub ProgramIsForeseen : Type 0
ProgramIsForeseen = (c : Control) (start : Pt3) (unit : Unit) (rules : Rules) (text : List ℕ) (made : List Move) → rules.words ≡ Machine c → IsInUnitRange unit start → MayMake c start unit rules text made → All (IsForeseen c.rounds start.z (ways_of c start unit rules text)) made
