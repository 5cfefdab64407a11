use Rattle.std.proofs.Common.{pos, refl, arith}
use Rattle.std.proofs.lemmas.Int.{ints}
use Rattle.mill_dexel.proofs.Splits.{split_found, split_passed, split_last}
use Rattle.mill_dexel.proofs.sample.straight_halvings.Goals as goal

pub returns-then-is_reached-clause-value : goal.returns-then-is_reached-clause-value
returns-then-is_reached-clause-value c =
    split_found (pos c.args.sample) c.args.step.now c.args.sample c.length-length.result c.loop-d.d c.is_reached.result refl c.length-length.ensures.value c.is_reached.ensures c.if-is_reached.true
    (omega arith) c.loop-d.invariant

pub loop-d-preserved : goal.loop-d-preserved
loop-d-preserved c =
    split_passed (pos c.args.sample) c.args.step.now c.args.sample c.length-length.result c.loop-d.d c.is_reached.result refl c.length-length.ensures.value c.is_reached.ensures c.if-is_reached.false
    (omega arith) c.loop-d.invariant

pub returns-clause-value : goal.returns-clause-value
returns-clause-value c =
    split_last (pos c.args.sample) c.args.step.now c.length-length.result c.loop-d.d (omega (arith, ints)) c.length-length.ensures.value c.length-length.ensures.bound (omega arith) c.loop-d.invariant
