use Rattle.mill_gouge.proofs.Bisecting.{enough_passes}
use Rattle.mill_gouge.proofs.Leasts.{none_is_least}
use Rattle.mill_gouge.proofs.bisect.least_lift.Goals as goal

pub returns-then-tool_clears : goal.returns-then-tool_clears
returns-then-tool_clears c = none_is_least c.args.tool.now c.args.part.now c.args.step.now (c.tool_clears.ensures.0 c.if-tool_clears.true)

pub least_up_to-requires-clause-passes : goal.least_up_to-requires-clause-passes
least_up_to-requires-clause-passes c = enough_passes c.args.tool.now c.args.part.now c.args.step.now c.enough.result (rw c.part.ensures at c.enough.ensures.over)
