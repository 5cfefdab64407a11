use Rattle.std.proofs.Common.{rules}
use Rattle.mill_job.specs.Answered.{fields_of}
use Rattle.mill_ffi.proofs.setup.job_from.Goals as goal

pub returns-in-Ok-clause-reads : goal.returns-in-Ok-clause-reads
unfolding fields_of
returns-in-Ok-clause-reads c = c.in-Ok.ensures

pub returns-in-Err-clause-cause : goal.returns-in-Err-clause-cause
unfolding fields_of
returns-in-Err-clause-cause c = search rules
