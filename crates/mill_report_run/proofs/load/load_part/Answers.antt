use Rattle.mill_load.proofs.Reading.{no_part_text, none_failed, part_under}
use Rattle.mill_report_run.proofs.Loading.{loads_with}
use Rattle.mill_report_run.proofs.load.load_part.Goals as goal

pub returns-in-Ok-clause-told : goal.returns-in-Ok-clause-told
returns-in-Ok-clause-told g c = λ contents held. c.part_with.ensures.told (contents c.args.name.now) (c.in-Ok.ensures.told contents held)

pub returns-in-Ok-clause-store : goal.returns-in-Ok-clause-store
returns-in-Ok-clause-store g c = loads_with _ _ _ c.part_with.result c.in-Ok.ensures.store c.part_with.ensures.cause

pub returns-in-Err-clause-told : goal.returns-in-Err-clause-told
returns-in-Err-clause-told g c = λ contents held.
    part_under c.args.before.job.fields (contents c.args.name.now) c.in-Err.fault (no_part_text c.args.before.job.fields (contents c.args.name.now) c.in-Err.fault (c.in-Err.ensures.told contents held))

pub returns-in-Ok-clause-failed : goal.returns-in-Ok-clause-failed
returns-in-Ok-clause-failed g c = λ names same. none_failed names _ c.part_with.result c.part_with.ensures.cause

pub returns-in-Err-clause-failed : goal.returns-in-Err-clause-failed
returns-in-Err-clause-failed g c = λ names same. c.in-Err.ensures.failed names same
