use Rattle.std.proofs.Common.{arith}
use Rattle.mill_gouge.proofs.Bisecting.{ends}
use Rattle.mill_gouge.proofs.bisect.least_up_to.Goals as goal

pub returns : goal.returns
returns c = ends c.args.tool.now c.args.part.now c.args.step.now c.args.enough c.loop-short.short c.loop-short.least c.loop-short.invariant (omega arith)
