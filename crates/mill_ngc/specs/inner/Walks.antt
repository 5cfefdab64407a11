-- A program's text that is read line by line, up to some line.
use Rattle.std.specs.Prelude.{◌≡◌, ℕ, ◌+◌, ◌<◌, ◌≤◌, List, [], ◌++◌, drop, length, slice_index_or}
use Rattle.mill_base.specs.declared.points.Pt3.{Pt3}
use Rattle.mill_base.specs.declared.unit.Unit.{Unit}
use Rattle.mill_ngc.specs.Pieces.{fed, lines_read, reading_at}
use Rattle.mill_ngc.specs.Programs.{lines_of}
use Rattle.mill_ngc.specs.Lines.{IsPlace, with_ends}
use Rattle.mill_ngc.specs.declared.place.LineSpan.{LineSpan}
use Rattle.mill_ngc.specs.declared.walk.Walk.{Walk}
use Rattle.mill_said.specs.declared.rules.Rules.{Rules}

-- these lines have been read: the next has this number, and begins at `from`
pub record HasWalked (start : Pt3) (unit : Unit) (rules : Rules) (text : List ℕ) (from line : ℕ) (walk : Walk) : Type 0 where
  pub done : List (List ℕ)
  pub lines : lines_of text ≡ done ++ lines_of (drop from text)
  pub count : line ≡ length done + 1
  pub begins : from ≡ length (with_ends done)
  pub few : length done ≤ from
  pub inside : from ≤ length text
  pub read : (walk.reader, walk.moves.items) ≡ fed (reading_at start unit rules, []) (with_ends done)
  pub room : lines_read walk.reader ≤ from
  pub even : length walk.places.items ≡ length walk.moves.items
  pub each : (k : ℕ) (other : LineSpan) → k < length walk.places.items → IsPlace start unit rules text k (slice_index_or walk.places.items k other)
