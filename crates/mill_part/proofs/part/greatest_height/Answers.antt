use Rattle.std.proofs.Common.{FitsSigned, rules, ◌∙◌}
use mir.Syntax.{w32}
use Rattle.std.proofs.lemmas.Int.{to_z-of_z}
use Rattle.mill_part.proofs.TopLemmas.{top_more, top_of_is}
use Rattle.mill_part.proofs.part.greatest_height.Goals as goal

pub loop-tri-preserved : goal.loop-tri-preserved
loop-tri-preserved c =
    let fits : FitsSigned w32 c.highest.result = search rules in
    let stored = to_z-of_z w32 c.highest.result fits in
    rw c.max-top.ensures (top_more _ _ _ _ _ c.loop-tri-test.true (stored ∙ c.highest.ensures) c.loop-tri.invariant)

pub returns : goal.returns
returns c = top_of_is _ _ _ c.loop-tri-test.false c.loop-tri.auto.tri-index-end c.loop-tri.invariant
