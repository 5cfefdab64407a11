use Rattle.std.proofs.Common.{pos, rules, slice_index_or, w32, SFits}
use Rattle.std.proofs.lemmas.Int.{to_z-of_z}
use Rattle.mill_push.specs.declared.fiber.Run.{Run}
use Rattle.mill_push.proofs.Stored.{stored}
use Rattle.mill_level.proofs.Ascending.{told_from}
use Rattle.mill_level.proofs.fiber.is_held.Goals as goal

pub returns-then-before-runs : goal.returns-then-before-runs
returns-then-before-runs c =
    let origin : Run = record { first = pos 0; last = pos 0 } in
    let before = c.args.spot.before in
    let first = stored (slice_index_or c.args.runs.now before origin).first (c.requires.ascending.first_ok before origin c.if-before-runs.true) in
    let fits : SFits w32 c.args.spot.position = search rules in
    rw (first, to_z-of_z w32 c.args.spot.position fits)
    (told_from c.args.runs.now c.requires.ascending c.args.spot.position before c.requires.spot origin c.if-before-runs.true)
