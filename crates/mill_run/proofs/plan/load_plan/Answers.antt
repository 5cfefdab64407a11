use Rattle.mill_io.proofs.Held.{in_parts}
use Rattle.mill_load.specs.Setup.{SetupTexts, setup_texts}
use Rattle.mill_load.proofs.Reading.{job_fault_with, loads_on}
use Rattle.mill_run.specs.Plan.{NeedsNoFeed}
use Rattle.mill_run.proofs.Planning.{fault_of_plan, fed_loads}
use Rattle.mill_run.proofs.plan.load_plan.Goals as goal

pub returns-in-Ok-clause-told : goal.returns-in-Ok-clause-told
returns-in-Ok-clause-told g c = λ contents held.
    let start = g.S.Shelf.shows c.args.shelf.now in
    let between = g.S.Shelf.shows c.load_job.new.shelf in
    let parts = in_parts contents start.contents between.contents _ _ _ c.in-Ok.ensures.store.held c.load_fed.ensures.store.held held in
    fed_loads (setup_texts contents c.args.job.now c.args.part.now) c.in-Ok.job.fields c.load_fed.result (c.in-Ok.ensures.told contents parts.first) (c.load_fed.ensures.told contents parts.next)

pub returns-in-Ok-clause-failed : goal.returns-in-Ok-clause-failed
returns-in-Ok-clause-failed g c = λ names job part. c.load_fed.ensures.failed names part

pub returns-in-Ok-clause-store : goal.returns-in-Ok-clause-store
returns-in-Ok-clause-store g c = loads_on _ _ _ c.in-Ok.job c.load_fed.result c.in-Ok.ensures.store c.load_fed.ensures.store

pub returns-in-Err-clause-told : goal.returns-in-Err-clause-told
returns-in-Err-clause-told g c = λ contents held.
    let texts : SetupTexts = setup_texts contents c.args.job.now c.args.part.now in
    fault_of_plan texts c.in-Err.fault (job_fault_with (NeedsNoFeed texts) texts c.in-Err.fault (c.in-Err.ensures.told contents held))

pub returns-in-Err-clause-failed : goal.returns-in-Err-clause-failed
returns-in-Err-clause-failed g c = λ names job part. c.in-Err.ensures.failed names job
