-- A text that is read to its end.
use Rattle.std.proofs.Common.{◌≡◌, ℕ, List, [], Ok, Err, sym, ap, ◌∙◌}
use Rattle.std.specs.Prelude.{⊤}
use Rattle.mill_base.specs.declared.points.Pt3.{Pt3}
use Rattle.mill_base.specs.declared.motion.Move.{Move}
use Rattle.mill_base.specs.declared.unit.Unit.{Unit}
use Rattle.mill_said.specs.declared.fault.NgcFault.{NgcFault}
use Rattle.mill_ngc.specs.Programs.{program_of}
use Rattle.mill_ngc.specs.Pieces.{Reading, reading_at, fed, at_end, last_answer, told}
use Rattle.mill_ngc.proofs.JoinLemmas.{ending, pieces_read_program}
use Rattle.mill_said.specs.declared.rules.Rules.{Rules}

means : (start : Pt3) (unit : Unit) (rules : Rules) (text : List ℕ) (now : Reading × List Move) → now ≡ fed (reading_at start unit rules, []) text → ending now ≡ program_of start unit rules text
means start unit rules text now all = ap ending all ∙ pieces_read_program start unit rules text

-- the moves at its end are what it means
pub last_moves : (start : Pt3) (unit : Unit) (rules : Rules) (text : List ℕ) (now : Reading × List Move) (u : ⊤) (moves : List Move) → now ≡ fed (reading_at start unit rules, []) text
    → Ok u ≡ last_answer (at_end now).0 → moves ≡ (at_end now).1 → program_of start unit rules text ≡ Ok moves
last_moves start unit rules text now u moves all e is =
    sym (means start unit rules text now all) ∙ ap (told (at_end now).1) (sym e) ∙ ap (λ (ms : List Move). Ok ms) (sym is)

-- the fault at its end is its first
pub last_fault : (start : Pt3) (unit : Unit) (rules : Rules) (text : List ℕ) (now : Reading × List Move) (f : NgcFault) → now ≡ fed (reading_at start unit rules, []) text
    → Err f ≡ last_answer (at_end now).0 → program_of start unit rules text ≡ Err f
last_fault start unit rules text now f all e = sym (means start unit rules text now all) ∙ ap (told (at_end now).1) (sym e)
