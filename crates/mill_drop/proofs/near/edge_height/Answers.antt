use Rattle.std.proofs.Common.{FitsSigned, rules}
use mir.Syntax.{w32}
use Rattle.std.proofs.lemmas.Int.{to_z-of_z}
use Rattle.mill_drop.proofs.Dropping.{raised_twice}
use Rattle.mill_drop.proofs.near.edge_height.Goals as goal

pub returns-clause-raised : goal.returns-clause-raised
returns-clause-raised c =
    let height : FitsSigned w32 c.raised_near-height.result = search rules in
    let last : FitsSigned w32 c.raised_near.result = search rules in
    let first = rw (to_z-of_z w32 c.args.from c.ranges.from) at c.raised_near-height.ensures.raised in
    let second = rw (to_z-of_z w32 c.raised_near-height.result height) at c.raised_near.ensures.raised in
    rw (to_z-of_z w32 c.raised_near.result last) (raised_twice c.args.spindle.cutter c.args.part.now c.args.spindle.x c.args.spindle.y c.args.from _ _ first second)
