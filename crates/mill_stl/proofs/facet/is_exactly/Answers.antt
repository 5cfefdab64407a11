use Rattle.std.proofs.Common.{arith, sym, ◌∙◌}
use Rattle.std.proofs.lemmas.List.{take_all}
use Rattle.mill_stl.proofs.Steps.{take-next}
use Rattle.mill_stl.proofs.facet.is_exactly.Goals as goal

pub loop-place-preserved : goal.loop-place-preserved
loop-place-preserved c =
    take-next c.args.word.now c.args.keyword.now c.loop-place.place (omega arith) (omega arith) (omega arith) c.loop-place.invariant

pub returns : goal.returns
returns c holds =
    sym (take_all c.loop-place.place c.args.word.now (omega arith))
    ∙ (c.loop-place.invariant ∙ take_all c.loop-place.place c.args.keyword.now (omega arith))
