use Rattle.std.proofs.Common.{rules}
use Rattle.mill_job.specs.Answered.{fields_of}
use Rattle.mill_load.proofs.load.job_from.Goals as goal

pub returns-in-Ok-clause-told : goal.returns-in-Ok-clause-told
unfolding fields_of
returns-in-Ok-clause-told c = record { fits = c.requires; reads = c.in-Ok.ensures }

pub returns-in-Err : goal.returns-in-Err
unfolding fields_of
returns-in-Err c = search rules
