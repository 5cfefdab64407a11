use Rattle.mill_load.proofs.Reading.{no_part_text, none_failed, part_told}
use Rattle.mill_load.proofs.load.load_part.Goals as goal

pub returns-in-Ok-clause-told : goal.returns-in-Ok-clause-told
returns-in-Ok-clause-told g c = λ contents held.
    part_told c.args.job.now.fields (contents c.args.name.now) c.in-Ok.text.items _ (c.in-Ok.ensures.told contents held) (rw c.deref.ensures.value at c.part_from.ensures.told)

pub returns-in-Ok-clause-failed : goal.returns-in-Ok-clause-failed
returns-in-Ok-clause-failed g c = λ names same. none_failed names _ c.part_from.result c.part_from.ensures.cause

pub returns-in-Err-clause-told : goal.returns-in-Err-clause-told
returns-in-Err-clause-told g c = λ contents held. no_part_text c.args.job.now.fields (contents c.args.name.now) c.in-Err.fault (c.in-Err.ensures.told contents held)

pub returns-in-Err-clause-failed : goal.returns-in-Err-clause-failed
returns-in-Err-clause-failed g c = λ names same. c.in-Err.ensures.failed names same
