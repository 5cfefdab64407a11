use Rattle.std.proofs.Common.{pos, slice_index_or}
use Rattle.mill_push.specs.declared.fiber.Run.{Run}
use Rattle.mill_push.proofs.Stored.{at_most_from, stored}
use Rattle.mill_level.proofs.Ascending.{stops_before}
use Rattle.mill_level.proofs.fiber.spot_at.Goals as goal

pub returns-else-runs-before-clause-spot : goal.returns-else-runs-before-clause-spot
returns-else-runs-before-clause-spot c =
    let origin : Run = record { first = pos 0; last = pos 0 } in
    let before = c.loop-before.before in
    let last = stored (slice_index_or c.args.runs.now before origin).last (c.requires.ascending.last_ok before origin c.loop-before-test.true) in
    stops_before c.args.runs.now _ before origin c.requires.ascending (at_most_from _ _ (rw last at c.if-runs-before.false)) c.loop-before.invariant
