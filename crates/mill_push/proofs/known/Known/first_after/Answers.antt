use Rattle.std.proofs.Common.{rules}
use Rattle.mill_push.proofs.Cutting.{more_before}
use Rattle.mill_push.proofs.Stored.{and_one, stored}
use Rattle.mill_push.proofs.known.Known.first_after.Goals as goal

pub overflow_add-after : goal.overflow_add-after
overflow_add-after c =
    let last = (c.requires c.in-Some.run' c.in-Some.ensures.known).last_ok in
    let within = last.within in
    rw (stored c.in-Some.run'.last last) (search rules)

pub loop-preserved : goal.loop-preserved
loop-preserved c =
    let member = c.in-Some.ensures.known in
    let last = (c.requires c.in-Some.run' member).last_ok in
    rw (stored c.in-Some.run'.last last, and_one c.in-Some.run'.last last) (more_before c.args.self.now.runs.items _ _ c.in-Some.run' member c.in-Some.ensures.at c.loop.invariant)
