use Rattle.mill_command.specs.Requests.{Request, plan}
use Rattle.mill_answer.specs.Calls.{Call, call_of}
use Rattle.std.proofs.Common.{refl}
use Rattle.mill_run.specs.Outcomes.{file_name}
use Rattle.mill_run.proofs.Serving.{fails_named, fault_serves}
use Rattle.mill_run.proofs.Planning.{plan_serves, plan_load_fault}
use Rattle.mill_run.proofs.plan.plan_program.Goals as goal

pub returns-in-Ok : goal.returns-in-Ok
returns-in-Ok g c =
    let call : Call = call_of c.tell_plan.result (g.S.Shelf.shows c.args.shelf.now) (g.S.Shelf.shows c.tell_plan.new.shelf) (g.O.Sink.shows c.args.out.now) (g.O.Sink.shows c.tell_plan.new.out) in
    plan_serves c.args.job.now c.args.part.now c.args.name.now c.args.workers call (g.S.Shelf.shows c.load_plan.new.shelf) c.in-Ok.setup c.in-Ok.ensures.told c.in-Ok.ensures.ready
    c.in-Ok.ensures.store c.tell_plan.ensures.unread c.tell_plan.ensures.shown

pub returns-in-Err : goal.returns-in-Err
returns-in-Err g c =
    let asked : Request = plan c.args.job.now c.args.part.now c.args.name.now c.args.workers in
    let call : Call = call_of c.tell_fault.result (g.S.Shelf.shows c.args.shelf.now) (g.S.Shelf.shows c.load_plan.new.shelf) (g.O.Sink.shows c.args.out.now) (g.O.Sink.shows c.tell_fault.new.out) in
    fault_serves asked call c.in-Err.fault
    (λ contents held. plan_load_fault contents c.args.job.now c.args.part.now c.args.name.now c.args.workers c.in-Err.fault (c.in-Err.ensures.told contents held))
    (λ contents held. fails_named contents asked call.store_after.log c.in-Err.fault (λ file failed. failed) (c.in-Err.ensures.failed (file_name asked) refl refl))
    c.requires.counts c.in-Err.ensures.store c.tell_fault.ensures
