-- The answer of a reading, by the numbers of the job that it gives.
use Rattle.std.specs.Prelude.{Result, Ok, Err}
use Rattle.mill_job.specs.declared.fault.JobFault.{JobFault}
use Rattle.mill_job.specs.declared.fields.JobFields.{JobFields}
use Rattle.mill_job.specs.declared.job.Job.{Job}

-- the numbers of the job that was read, or the fault
unfoldable pub fields_of : Result Job JobFault → Result JobFields JobFault
fields_of (Ok job) = Ok job.fields
fields_of (Err fault) = Err fault
