use Rattle.mill_load.proofs.Reading.{joined_under, none_failed, part_under}
use Rattle.mill_load.proofs.load.load_under.Goals as goal

pub returns-in-Ok-clause-told : goal.returns-in-Ok-clause-told
returns-in-Ok-clause-told g c = λ contents held.
    joined_under c.args.job.fields (contents c.args.name.now) c.in-Ok.part c.setup_from.result (c.in-Ok.ensures.told contents held) c.setup_from.ensures.told

pub returns-in-Ok-clause-failed : goal.returns-in-Ok-clause-failed
returns-in-Ok-clause-failed g c = λ names same. none_failed names _ c.setup_from.result c.setup_from.ensures.cause

pub returns-in-Err-clause-told : goal.returns-in-Err-clause-told
returns-in-Err-clause-told g c = λ contents held. part_under c.args.job.fields (contents c.args.name.now) c.in-Err.fault (c.in-Err.ensures.told contents held)

pub returns-in-Err-clause-failed : goal.returns-in-Err-clause-failed
returns-in-Err-clause-failed g c = λ names same. c.in-Err.ensures.failed names same
