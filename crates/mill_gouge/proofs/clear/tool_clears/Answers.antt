use Rattle.mill_gouge.proofs.BothSolids.{bare_passes, cutter_stops, held_passes}
use Rattle.mill_gouge.proofs.clear.tool_clears.Goals as goal

pub returns-then-not-clears : goal.returns-then-not-clears
returns-then-not-clears c = cutter_stops c.args.tool.now c.args.step.now c.args.part.now c.clears.result c.if-not-clears.true c.clears.ensures

pub returns-in-Some : goal.returns-in-Some
returns-in-Some c =
    held_passes c.args.tool.now c.args.step.now c.args.part.now c.in-Some.holder c.clears-in-Some.result c.in-Some.is (c.clears.ensures.0 c.if-not-clears.false) c.clears-in-Some.ensures

pub returns-in-None : goal.returns-in-None
returns-in-None c = bare_passes c.args.tool.now c.args.step.now c.args.part.now c.in-None.is (c.clears.ensures.0 c.if-not-clears.false)
