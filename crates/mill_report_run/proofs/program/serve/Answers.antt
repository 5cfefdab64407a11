use Rattle.std.proofs.Common.{refl}
use Rattle.mill_report_run.specs.Outcomes.{name_in}
use Rattle.mill_report_run.specs.Words.{request_of}
use Rattle.mill_report_run.proofs.Telling.{fault_serves, report_serves}
use Rattle.mill_report_run.proofs.program.serve.Goals as goal
use Rattle.mill_answer.specs.Calls.{Call, call_of}

pub returns-in-Ok : goal.returns-in-Ok
returns-in-Ok g c =
    let call : Call = call_of c.tell_report.result (g.S.Shelf.shows c.args.shelf.now) (g.S.Shelf.shows c.load.new.shelf) (g.O.Sink.shows c.args.out.now) (g.O.Sink.shows c.tell_report.new.out) in
    report_serves (request_of c.args.asked).files call c.in-Ok.loaded c.in-Ok.ensures.told c.in-Ok.ensures.ready c.in-Ok.ensures.store c.tell_report.ensures

pub returns-in-Err : goal.returns-in-Err
returns-in-Err g c =
    let call : Call = call_of c.tell_fault.result (g.S.Shelf.shows c.args.shelf.now) (g.S.Shelf.shows c.load.new.shelf) (g.O.Sink.shows c.args.out.now) (g.O.Sink.shows c.tell_fault.new.out) in
    fault_serves (request_of c.args.asked).files call c.in-Err.fault c.in-Err.ensures.told (c.in-Err.ensures.failed (name_in (request_of c.args.asked).files) refl refl refl) c.requires.counts c.in-Err.ensures.store c.tell_fault.ensures
