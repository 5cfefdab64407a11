use Rattle.std.proofs.Common.{◌∙◌, ap, subst, sym}
use Rattle.mill_sched.specs.States.{State, work_given, work_of}
use Rattle.mill_sched.specs.Kept.{Kept}
use Rattle.mill_sched.proofs.Starts.{pieces_count, start_is, start_kept, start_work}
use Rattle.mill_sched.proofs.state.Core.new.Goals as goal

pub invariant_of-result : goal.invariant_of-result
invariant_of-result c =
    let work = work_given c.args.turns c.args.spans.now c.args.fails.now in
    let free = c.in_ok-workers.ensures.items_if_clones_equal (λ k e. e) in
    subst (λ (s : State). Kept s) (sym (start_is work c.args.workers _ _ c.in_ok-pieces.ensures free)) (start_kept work c.args.workers)

pub returns-clause-work : goal.returns-clause-work
returns-clause-work c =
    let work = work_given c.args.turns c.args.spans.now c.args.fails.now in
    let free = c.in_ok-workers.ensures.items_if_clones_equal (λ k e. e) in
    ap work_of (start_is work c.args.workers _ _ c.in_ok-pieces.ensures free) ∙ start_work work c.args.workers

pub returns-clause-pieces : goal.returns-clause-pieces
returns-clause-pieces c = pieces_count c.args.spans.now c.args.fails.now _ c.requires c.in_ok-pieces.ensures
