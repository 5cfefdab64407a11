use Rattle.mill_command.specs.Requests.{Request, stock}
use Rattle.mill_answer.specs.Calls.{Call, call_of}
use Rattle.std.proofs.Common.{refl}
use Rattle.mill_run.specs.Outcomes.{file_name}
use Rattle.mill_run.proofs.Serving.{fails_named, fault_serves}
use Rattle.mill_run.proofs.Stocks.{stock_serves, stock_load_fault}
use Rattle.mill_run.proofs.stock.stock_program.Goals as goal

pub returns-in-Ok : goal.returns-in-Ok
returns-in-Ok g c =
    let call : Call = call_of c.tell_stock.result (g.S.Shelf.shows c.args.shelf.now) (g.S.Shelf.shows c.tell_stock.new.shelf) (g.O.Sink.shows c.args.out.now) (g.O.Sink.shows c.tell_stock.new.out) in
    stock_serves c.args.job.now c.args.program.now c.args.name.now call (g.S.Shelf.shows c.load_cutting.new.shelf) c.in-Ok.cutting c.in-Ok.ensures.told c.in-Ok.ensures.ready c.in-Ok.ensures.store
    c.tell_stock.ensures.unread c.tell_stock.ensures.shown

pub returns-in-Err : goal.returns-in-Err
returns-in-Err g c =
    let asked : Request = stock c.args.job.now c.args.program.now c.args.name.now in
    let call : Call = call_of c.tell_fault.result (g.S.Shelf.shows c.args.shelf.now) (g.S.Shelf.shows c.load_cutting.new.shelf) (g.O.Sink.shows c.args.out.now) (g.O.Sink.shows c.tell_fault.new.out) in
    fault_serves asked call c.in-Err.fault
    (λ contents held. stock_load_fault contents c.args.job.now c.args.program.now c.args.name.now c.in-Err.fault (c.in-Err.ensures.told contents held))
    (λ contents held. fails_named contents asked call.store_after.log c.in-Err.fault (λ file failed. failed) (c.in-Err.ensures.failed (file_name asked) refl refl))
    c.requires c.in-Err.ensures.store c.tell_fault.ensures
