-- A reader that has no fault.
use Rattle.std.proofs.Common.{◌≡◌, List, Option, None, sym, ap, ◌∙◌}
use Rattle.mill_base.specs.declared.points.Pt3.{Pt3}
use Rattle.mill_base.specs.declared.motion.Move.{Move}
use Rattle.mill_base.specs.declared.unit.Unit.{Unit}
use Rattle.mill_said.specs.declared.fault.NgcFault.{NgcFault}
use Rattle.mill_ngc.specs.declared.text_reader.TextReader.{TextReader}
use Rattle.mill_ngc.specs.Pieces.{Reading, SoFar, MovesSoFar}
use Rattle.mill_ngc.specs.Texts.{reading_of, shown}
use Rattle.mill_said.specs.declared.rules.Rules.{Rules}

-- its moves so far are those of its text
pub shown_so_far : (kept : Option NgcFault) (t : TextReader) (r : Reading) (start : Pt3) (unit : Unit) (rules : Rules) (moves : List Move) → kept ≡ None → shown kept t ≡ r
    → MovesSoFar start unit rules r moves → SoFar start unit rules t.lines moves
shown_so_far kept t r start unit rules moves none view so_far =
    let going : r ≡ reading_of t = sym view ∙ ap (λ (k : Option NgcFault). shown k t) none in
    rw going at so_far
