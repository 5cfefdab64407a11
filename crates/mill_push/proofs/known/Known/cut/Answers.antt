use Rattle.std.proofs.Common.{rules, w32}
use Rattle.std.proofs.lemmas.Int.{to_z-of_z}
use Rattle.mill_push.proofs.known.Known.cut.Goals as goal

pub returns : goal.returns
returns c =
    let after = rw (to_z-of_z w32 c.args.window.first (search rules)) at c.first_after.ensures in
    let before = rw (to_z-of_z w32 c.args.window.last (search rules)) at c.last_before.ensures in
    rw (to_z-of_z w32 c.first_after.result (search rules), to_z-of_z w32 c.last_before.result (search rules)) (record { after = after.after; within = before.before; before = after.cut; beyond = before.cut })
