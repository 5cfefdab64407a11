use Rattle.std.proofs.Common.{◌∙◌, sym}
use Rattle.mill_drop.proofs.Straightness.{tolerance_stored, keeps_on, bends_at}
use Rattle.mill_drop.proofs.places.goes_straight.Goals as goal

pub returns-then-not-is_over : goal.returns-then-not-is_over
returns-then-not-is_over c =
    let bent = sym (rw (tolerance_stored c.args.tol c.requires.tol_ok) at c.is_over.ensures) ∙ c.if-not-is_over.true in
    sym (bends_at c.args.heights.now c.args.tol c.args.p c.args.q c.loop-k.k c.loop-k.auto.k c.loop-k-test.true bent)

pub loop-k-preserved : goal.loop-k-preserved
loop-k-preserved c = keeps_on c.args.heights.now _ c.args.p c.args.q c.loop-k.k c.loop-k.auto.k c.loop-k.invariant (sym c.is_over.ensures ∙ c.if-not-is_over.false)
