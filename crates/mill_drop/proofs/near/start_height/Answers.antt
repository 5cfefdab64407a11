use Rattle.std.proofs.Common.{FitsSigned, rules}
use mir.Syntax.{w32}
use Rattle.std.proofs.lemmas.Int.{to_z-of_z}
use Rattle.mill_drop.proofs.Dropping.{raised_twice}
use Rattle.mill_drop.proofs.near.start_height.Goals as goal

pub returns-in-Flat-clause-raised : goal.returns-in-Flat-clause-raised
returns-in-Flat-clause-raised c =
    let height : FitsSigned w32 c.raised_near-height.result = search rules in
    let last : FitsSigned w32 c.edge_height.result = search rules in
    let first = rw (to_z-of_z w32 c.args.from c.ranges.from) at c.raised_near-height.ensures.raised in
    let second = rw (to_z-of_z w32 c.raised_near-height.result height) at c.edge_height.ensures.raised in
    rw (to_z-of_z w32 c.edge_height.result last) (raised_twice c.args.spindle.cutter c.args.part.now c.args.spindle.x c.args.spindle.y c.args.from _ _ first second)

pub returns-in-Cone-clause-raised : goal.returns-in-Cone-clause-raised
returns-in-Cone-clause-raised c =
    let height : FitsSigned w32 c.raised_near-height.result = search rules in
    rw (to_z-of_z w32 c.raised_near-height.result height) (rw (to_z-of_z w32 c.args.from c.ranges.from) at c.raised_near-height.ensures.raised)
