use Rattle.std.proofs.Common.{codes, refl}
use Rattle.mill_report_run.proofs.FaultTexts.{job_written, part_written, program_written}
use Rattle.mill_report_run.proofs.fault.read_fault_report.Goals as goal

pub returns-in-Job-clause-told : goal.returns-in-Job-clause-told
returns-in-Job-clause-told c = rw c.in-Job.is (record { line = codes "read fault job"; line_is = refl; text_is = job_written })

pub returns-in-Part-clause-told : goal.returns-in-Part-clause-told
returns-in-Part-clause-told c = rw c.in-Part.is (record { line = codes "read fault part"; line_is = refl; text_is = part_written })

pub returns-in-Program-clause-told : goal.returns-in-Program-clause-told
returns-in-Program-clause-told c = rw c.in-Program.is (record { line = codes "read fault program"; line_is = refl; text_is = program_written })
