use mir.Syntax.{w32}
use Rattle.std.proofs.Common.{to_z, of_z}
use Rattle.std.proofs.lemmas.Int.{to_z-of_z}
use Rattle.mill_part.proofs.CoverLemmas.{none_more, none_after}
use Rattle.mill_part.proofs.part.has_point_over.Goals as goal

pub loop-tri-preserved : goal.loop-tri-preserved
loop-tri-preserved c =
    none_more c.args.tris.now c.args.column.band c.args.column.x c.args.column.y (to_z w32 (of_z w32 c.args.height)) c.loop-tri.tri-index _
    c.loop-tri-test.true c.loop-tri.invariant (c.is_covered.ensures.no c.if-is_covered.false)

pub returns-clause-no : goal.returns-clause-no
returns-clause-no c = λ f. rw (to_z-of_z w32 c.args.height c.ranges.height) at
    (none_after c.args.tris.now c.args.column.band c.args.column.x c.args.column.y (to_z w32 (of_z w32 c.args.height)) c.loop-tri.tri-index c.loop-tri-test.false c.loop-tri.invariant)
