use Rattle.mill_command.specs.Requests.{rest}
use Rattle.mill_answer.specs.Calls.{Call, call_of}
use Rattle.mill_run.proofs.Rests.{rest_failed, rest_load_fault, rest_serves}
use Rattle.mill_run.proofs.Serving.{fault_serves}
use Rattle.mill_run.proofs.rest.verify_files.Goals as goal

pub returns-in-Ok : goal.returns-in-Ok
returns-in-Ok g c =
    let call : Call = call_of c.tell_list_verdict.result (g.S.Shelf.shows c.args.shelf.now) (g.S.Shelf.shows c.load_files.new.shelf) (g.O.Sink.shows c.args.out.now) (g.O.Sink.shows c.tell_list_verdict.new.out) in
    rest_serves c.args.job.now c.args.part.now c.args.list.now c.args.workers call c.in-Ok.listed c.in-Ok.ensures.told c.in-Ok.ensures.ready c.in-Ok.ensures.store c.tell_list_verdict.ensures

pub returns-in-Err : goal.returns-in-Err
returns-in-Err g c =
    let call : Call = call_of c.tell_fault.result (g.S.Shelf.shows c.args.shelf.now) (g.S.Shelf.shows c.load_files.new.shelf) (g.O.Sink.shows c.args.out.now) (g.O.Sink.shows c.tell_fault.new.out) in
    fault_serves (rest c.args.job.now c.args.part.now c.args.list.now c.args.workers) call c.in-Err.fault
    (λ contents held. rest_load_fault contents c.args.job.now c.args.part.now c.args.list.now c.args.workers c.in-Err.fault (c.in-Err.ensures.told contents held))
    (λ contents held. rest_failed contents c.args.job.now c.args.part.now c.args.list.now c.args.workers call.store_after.log c.in-Err.fault (c.in-Err.ensures.failed contents held))
    c.requires.counts c.in-Err.ensures.store c.tell_fault.ensures
