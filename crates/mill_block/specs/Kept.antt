-- What a line keeps of the progress before it, and adds to the moves before it.
use Rattle.std.specs.Prelude.{◌≡◌, ℕ, ◌+◌, ◌*◌, ◌^◌, ◌≤◌, ◌≤ℤ◌, ◌⊎◌, List, [], ◌∷◌, ◌++◌, length, IfSome, Result, Ok}
use Rattle.mill_base.specs.declared.limits.TheConstants.{MAX_MOVES}
use Rattle.mill_base.specs.Motion.{Follow}
use Rattle.mill_base.specs.Numbers.{Within}
use Rattle.mill_base.specs.Ranges.{IsInUnitRange, MovesInUnitRange}
use Rattle.mill_base.specs.Units.{greatest_of}
use Rattle.mill_base.specs.declared.motion.Move.{Move}
use Rattle.mill_base.specs.declared.points.Pt3.{Pt3}
use Rattle.mill_control.specs.Drilled.{FitsSeries, ends_at}
use Rattle.mill_said.specs.declared.fault.NgcFault.{NgcFault}
use Rattle.mill_block.specs.declared.machine.Finer.{Finer}
use Rattle.mill_block.specs.declared.progress.Progress.{Progress}
use Rattle.mill_block.specs.declared.progress.Known.{Known}
use Rattle.mill_block.specs.declared.progress.Known.TheVariants.{All}
use Rattle.mill_block.specs.Lines.{after_line, line_begun}
use Rattle.mill_block.specs.Motion.{known_of}

-- where a line's moves begin: at the point before the line, or where its place wasn't known, at the point behind it
abbrev pub begins : Known → Pt3 → Pt3 → Pt3
begins All before behind = before
begins known before behind = behind

abbrev pub begin_of : Progress → Progress → Pt3
begin_of old new = begins (known_of old) old.here new.here

-- so much, in parts of 10^18 of a unit, a place may have beside its units
abbrev pub HALF : ℕ
HALF = 5 * 10 ^ 17

pub record FitsFiner (f : Finer) : Type 0 where
  pub x_fits : Within HALF f.x
  pub y_fits : Within HALF f.y
  pub z_fits : Within HALF f.z

-- the safe height is in range, the numbers that stay from line to line have at most 18 digits, and the text's own place is at most half a unit from the list's
pub record FitsProgress (p : Progress) : Type 0 where
  pub clear_fits : Within (greatest_of p.unit) p.clear
  pub series_fits : IfSome p.machine.series FitsSeries
  pub finer_fits : FitsFiner p.machine.finer

-- a line's moves follow on from there to the point behind it, and are so many more of at most 1,000,000; they come only where the tool's place is known behind them, and it stays known; before it was, the tool gets no lower, or no lower than the safe height, which stays; the unit, what is asked beside and the count of lines stay as they are
pub record Keeps (old : Progress) (made : List Move) (new : Progress) : Type 0 where
  pub follow : Follow (begin_of old new) made
  pub end : ends_at (begin_of old new) made ≡ new.here
  pub known : known_of old ≡ All → known_of new ≡ All
  pub none : (known_of new ≡ All) ⊎ (made ≡ [])
  pub rises : (known_of old ≡ All) ⊎ ((old.here.z ≤ℤ new.here.z) ⊎ (old.clear ≤ℤ new.here.z))
  pub same_clear : new.clear ≡ old.clear
  pub same_rules : new.rules ≡ old.rules
  pub in_range : MovesInUnitRange old.unit made
  pub here : IsInUnitRange old.unit new.here
  pub count : new.moves ≡ old.moves + length made
  pub few : old.moves ≤ MAX_MOVES → new.moves ≤ MAX_MOVES
  pub same_unit : new.unit ≡ old.unit
  pub same_line : new.line ≡ old.line

-- what is told of a line comes to be: its moves are added to these
pub record Adds (told_as : Result (Progress × List Move) NgcFault) (old : Progress) (moves : List Move) (new : Progress) (more : List Move) : Type 0 where
  pub made : List Move
  pub told : told_as ≡ Ok (new, made)
  pub added : more ≡ moves ++ made
  pub keeps : Keeps old made new

-- the next line is read, and the moves that it makes are added to these moves
abbrev pub AddsLine : Progress → List ℕ → List Move → Progress → List Move → Type 0
AddsLine old line moves new more = Adds (after_line old line) (line_begun old) moves new more
