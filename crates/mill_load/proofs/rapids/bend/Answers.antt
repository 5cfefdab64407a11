use Rattle.std.proofs.Common.{arith, ◌∙◌}
use Rattle.mill_load.proofs.Bending.{bent_all, bent_more}
use Rattle.mill_load.proofs.rapids.bend.Goals as goal

pub loop-step-preserved : goal.loop-step-preserved
loop-step-preserved c = bent_more c.args.moves.now c.loop-step.moves c.loop-step.step-index _ _ c.loop-step.invariant c.loop-step-test.true c.bent.ensures

pub returns : goal.returns
returns c = c.loop-step.invariant ∙ bent_all c.loop-step.step-index c.args.moves.now (omega arith)
