use Rattle.std.proofs.Common.{rules}
use Rattle.mill_push.proofs.Cutting.{more_beyond}
use Rattle.mill_push.proofs.Stored.{less_one, stored}
use Rattle.mill_push.proofs.known.Known.last_before.Goals as goal

pub overflow_sub-before : goal.overflow_sub-before
overflow_sub-before c =
    let first = (c.requires c.in-Some.run' c.in-Some.ensures.known).first_ok in
    let within = first.within in
    rw (stored c.in-Some.run'.first first) (search rules)

pub loop-preserved : goal.loop-preserved
loop-preserved c =
    let member = c.in-Some.ensures.known in
    let first = (c.requires c.in-Some.run' member).first_ok in
    rw (stored c.in-Some.run'.first first, less_one c.in-Some.run'.first first) (more_beyond c.args.self.now.runs.items _ _ c.in-Some.run' member c.in-Some.ensures.at c.loop.invariant)
