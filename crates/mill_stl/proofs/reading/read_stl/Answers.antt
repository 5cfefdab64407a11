use Rattle.std.proofs.Common.{subst, sym, ◌∙◌, arith}
use Rattle.mill_stl.specs.Parts.{Part, GivesPart}
use Rattle.mill_stl.specs.declared.fault.StlFault.{StlFault}
use Rattle.std.specs.Prelude.{Result}
use Rattle.mill_stl.proofs.Steps.{meaning-end}
use Rattle.mill_stl.proofs.reading.read_stl.Goals as goal

pub returns-clause-gives : goal.returns-clause-gives
returns-clause-gives c =
    subst (λ (meaning : Result Part StlFault). GivesPart c.end_text.result meaning)
    (sym (meaning-end c.args.snap c.args.unit c.args.text.now c.loop-cursor.cursor c.loop-cursor.progress c.loop-cursor.tris.items (omega arith)) ∙ c.loop-cursor.invariant.meaning)
    c.end_text.ensures.gives
