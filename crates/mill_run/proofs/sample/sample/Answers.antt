use Rattle.std.proofs.Common.{refl, inr}
use Rattle.mill_answer.specs.Calls.{Call, call_of}
use Rattle.mill_run.proofs.Samples.{sample_serves}
use Rattle.mill_run.proofs.sample.sample.Goals as goal

pub returns-in-Ok : goal.returns-in-Ok
returns-in-Ok g c = λ store.
    let call : Call = call_of c.tell_sample.result store store (g.O.Sink.shows c.args.out.now) (g.O.Sink.shows c.tell_sample.new.out) in
    sample_serves c.args.size c.args.workers call refl c.tell_sample.ensures

pub returns-in-Err : goal.returns-in-Err
returns-in-Err g c = λ store.
    let call : Call = call_of c.tell_memory.result store store (g.O.Sink.shows c.args.out.now) (g.O.Sink.shows c.tell_memory.new.out) in
    sample_serves c.args.size c.args.workers call refl (inr c.tell_memory.ensures)
