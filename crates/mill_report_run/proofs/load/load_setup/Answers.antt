use Rattle.mill_io.proofs.Held.{in_parts}
use Rattle.mill_load.proofs.Reading.{job_fault, loads_on}
use Rattle.mill_load.specs.Setup.{setup_texts}
use Rattle.mill_report_run.proofs.Loading.{setup_read}
use Rattle.mill_report_run.proofs.load.load_setup.Goals as goal

pub returns-in-Ok-clause-told : goal.returns-in-Ok-clause-told
returns-in-Ok-clause-told g c = λ contents held.
    let start = g.S.Shelf.shows c.args.shelf.now in
    let between = g.S.Shelf.shows c.load_job.new.shelf in
    let parts = in_parts contents start.contents between.contents _ _ _ c.in-Ok.ensures.store.held c.load_part.ensures.store.held held in
    setup_read (setup_texts contents c.args.job.now c.args.part.now) c.in-Ok.read c.load_part.result (c.in-Ok.ensures.told contents parts.first) c.in-Ok.ensures.ready (c.load_part.ensures.told contents parts.next)

pub returns-in-Ok-clause-store : goal.returns-in-Ok-clause-store
returns-in-Ok-clause-store g c = loads_on _ _ _ _ c.load_part.result c.in-Ok.ensures.store c.load_part.ensures.store

pub returns-in-Err-clause-told : goal.returns-in-Err-clause-told
returns-in-Err-clause-told g c = λ contents held. job_fault (setup_texts contents c.args.job.now c.args.part.now) c.in-Err.fault (c.in-Err.ensures.told contents held)

pub returns-in-Ok-clause-failed : goal.returns-in-Ok-clause-failed
returns-in-Ok-clause-failed g c = λ names job part. c.load_part.ensures.failed names part

pub returns-in-Err-clause-failed : goal.returns-in-Err-clause-failed
returns-in-Err-clause-failed g c = λ names job part. c.in-Err.ensures.failed names job
