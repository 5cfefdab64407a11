use Rattle.std.proofs.Common.{Result, Ok, Err}
use Rattle.std.specs.Global.{Vec}
use Rattle.mill_base.specs.declared.motion.Move.{Move}
use Rattle.mill_io.proofs.Held.{in_parts}
use Rattle.mill_load.proofs.Reading.{loads_on}
use Rattle.mill_load.specs.declared.load.LoadFault.{LoadFault}
use Rattle.mill_run.proofs.Stocks.{no_job, no_program}
use Rattle.mill_run.specs.Stock.{stock_texts}
use Rattle.mill_run.proofs.stock.load_cutting.Goals as goal

pub returns-in-Err-clause-told : goal.returns-in-Err-clause-told
returns-in-Err-clause-told g c = λ contents held. no_job (stock_texts contents c.args.job.now c.args.program.now) c.in-Err.fault (c.in-Err.ensures.told contents held)

pub returns-in-Err-clause-failed : goal.returns-in-Err-clause-failed
returns-in-Err-clause-failed g c = λ names job program. c.in-Err.ensures.failed names job

pub returns-in-Err-load_program-clause-told : goal.returns-in-Err-load_program-clause-told
returns-in-Err-load_program-clause-told g c = λ contents held.
    let start = g.S.Shelf.shows c.args.shelf.now in
    let between = g.S.Shelf.shows c.load_job.new.shelf in
    let parts = in_parts contents start.contents between.contents _ _ _ c.in-Ok.ensures.store.held c.in-Err-load_program.ensures.store.held held in
    no_program (stock_texts contents c.args.job.now c.args.program.now) c.in-Ok.job.fields c.in-Err-load_program.fault
    (c.in-Ok.ensures.told contents parts.first) (c.in-Err-load_program.ensures.told contents parts.next)

pub returns-in-Err-load_program-clause-failed : goal.returns-in-Err-load_program-clause-failed
returns-in-Err-load_program-clause-failed g c = λ names job program. c.in-Err-load_program.ensures.failed names program

pub returns-in-Err-load_program-clause-store : goal.returns-in-Err-load_program-clause-store
returns-in-Err-load_program-clause-store g c =
    let r : Result (Vec Move) LoadFault = Err c.in-Err-load_program.fault in
    let all = loads_on _ _ _ c.in-Ok.job r c.in-Ok.ensures.store c.in-Err-load_program.ensures.store in
    record { only = all.only; reads = all.reads; held = all.held }

pub returns-clause-told : goal.returns-clause-told
returns-clause-told g c = λ contents held.
    let start = g.S.Shelf.shows c.args.shelf.now in
    let between = g.S.Shelf.shows c.load_job.new.shelf in
    let parts = in_parts contents start.contents between.contents _ _ _ c.in-Ok.ensures.store.held c.in-Ok-load_program.ensures.store.held held in
    record { job_is = c.in-Ok.ensures.told contents parts.first; moves_are = c.in-Ok-load_program.ensures.told contents parts.next }

pub returns-clause-store : goal.returns-clause-store
returns-clause-store g c =
    let r : Result (Vec Move) LoadFault = Ok c.in-Ok-load_program.moves in
    let all = loads_on _ _ _ c.in-Ok.job r c.in-Ok.ensures.store c.in-Ok-load_program.ensures.store in
    record { only = all.only; reads = all.reads; held = all.held }
