use Rattle.mill_drop.proofs.Solids.{bare_from, bare_stored, held_from, held_stored}
use Rattle.mill_drop.proofs.drop.drop_at.Goals as goal

pub returns-in-Some-clause-drop : goal.returns-in-Some-clause-drop
returns-in-Some-clause-drop c =
    held_stored c.args.tool.now c.args.part.now c.args.x c.args.y c.args.floor c.ranges.x c.ranges.y c.ranges.floor c.solid_drop-height.result (record { drop = c.solid_drop-height.ensures.drop; bound = c.solid_drop-height.ensures.bound; reached = c.solid_drop-height.ensures.reached })
    c.in-Some.holder c.solid_drop.result c.in-Some.is (record { drop = c.solid_drop.ensures.drop; bound = c.solid_drop.ensures.bound; reached = c.solid_drop.ensures.reached })

pub returns-in-None-clause-drop : goal.returns-in-None-clause-drop
returns-in-None-clause-drop c = bare_stored c.args.tool.now c.args.part.now c.args.x c.args.y c.args.floor c.ranges.x c.ranges.y c.ranges.floor c.solid_drop-height.result (record { drop = c.solid_drop-height.ensures.drop; bound = c.solid_drop-height.ensures.bound; reached = c.solid_drop-height.ensures.reached }) c.in-None.is

pub returns-in-Some-clause-bound : goal.returns-in-Some-clause-bound
returns-in-Some-clause-bound c =
    held_from c.args.tool.now c.args.part.now c.args.x c.args.y c.args.floor c.ranges.x c.ranges.y c.ranges.floor c.solid_drop-height.result (record { drop = c.solid_drop-height.ensures.drop; bound = c.solid_drop-height.ensures.bound; reached = c.solid_drop-height.ensures.reached })
    c.in-Some.holder c.solid_drop.result c.in-Some.is (record { drop = c.solid_drop.ensures.drop; bound = c.solid_drop.ensures.bound; reached = c.solid_drop.ensures.reached })

pub returns-in-None-clause-bound : goal.returns-in-None-clause-bound
returns-in-None-clause-bound c = bare_from c.args.tool.now c.args.part.now c.args.x c.args.y c.args.floor c.ranges.x c.ranges.y c.ranges.floor c.solid_drop-height.result (record { drop = c.solid_drop-height.ensures.drop; bound = c.solid_drop-height.ensures.bound; reached = c.solid_drop-height.ensures.reached })
