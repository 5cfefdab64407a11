use Rattle.mill_command.specs.Requests.{Request, verify}
use Rattle.mill_answer.specs.Calls.{Call, call_of}
use Rattle.std.proofs.Common.{refl}
use Rattle.mill_run.specs.Outcomes.{file_name}
use Rattle.mill_run.proofs.Serving.{fails_named, verdict_serves, fault_serves, verify_load_fault}
use Rattle.mill_run.proofs.verify.verify_program.Goals as goal

pub returns-in-Ok : goal.returns-in-Ok
returns-in-Ok g c =
    let call : Call = call_of c.tell_verdict.result (g.S.Shelf.shows c.args.shelf.now) (g.S.Shelf.shows c.load.new.shelf) (g.O.Sink.shows c.args.out.now) (g.O.Sink.shows c.tell_verdict.new.out) in
    verdict_serves c.args.job.now c.args.part.now c.args.program.now c.args.workers call c.in-Ok.loaded c.in-Ok.ensures.told c.in-Ok.ensures.ready c.in-Ok.ensures.store c.tell_verdict.ensures

pub returns-in-Err : goal.returns-in-Err
returns-in-Err g c =
    let asked : Request = verify c.args.job.now c.args.part.now c.args.program.now c.args.workers in
    let call : Call = call_of c.tell_fault.result (g.S.Shelf.shows c.args.shelf.now) (g.S.Shelf.shows c.load.new.shelf) (g.O.Sink.shows c.args.out.now) (g.O.Sink.shows c.tell_fault.new.out) in
    fault_serves asked call c.in-Err.fault
    (λ contents held. verify_load_fault contents c.args.job.now c.args.part.now c.args.program.now c.args.workers c.in-Err.fault (c.in-Err.ensures.told contents held))
    (λ contents held. fails_named contents asked call.store_after.log c.in-Err.fault (λ file failed. failed) (c.in-Err.ensures.failed (file_name asked) refl refl refl))
    c.requires.counts c.in-Err.ensures.store c.tell_fault.ensures
