use Rattle.std.proofs.Common.{◌≡◌, ◌≤◌, ◌+◌, length}
use Rattle.mill_base.specs.Ranges.{IsInUnitRange}
use Rattle.mill_base.specs.declared.points.Pt3.{Pt3}
use Rattle.mill_base.specs.declared.unit.Unit.{Unit}
use Rattle.mill_ngc.specs.Pieces.{fed, IsFront, SoFar}
use Rattle.mill_ngc.specs.Texts.{reading_of}
use Rattle.mill_ngc.proofs.text_reader.TextReader.read_piece.Given as goal
use Rattle.mill_said.specs.declared.rules.Rules.{Rules}

abbrev pub invariant-loop-rest : goal.invariant-loop-rest
invariant-loop-rest l = record {
  so_far : fed (reading_of l.self, l.out.items) l.rest ≡ fed (reading_of l.fn.self, l.fn.out.items) l.fn.piece;
  lines : l.self.lines.line + length l.rest ≤ l.fn.self.lines.line + length l.fn.piece;
  here : IsInUnitRange l.self.lines.unit l.self.lines.here;
  grows : IsFront l.fn.out.items l.out.items;
  moves : (start : Pt3) (unit : Unit) (rules : Rules) → SoFar start unit rules l.fn.self.lines l.fn.out.items → SoFar start unit rules l.self.lines l.out.items;
}

abbrev pub decreases-loop-rest : goal.decreases-loop-rest
decreases-loop-rest l = length l.rest
