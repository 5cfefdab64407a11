use Rattle.std.proofs.Common.{ℕ, List, Some, Err, subst}
use Rattle.mill_load.proofs.Reading.{job_told}
use Rattle.mill_load.specs.Loads.{LoadsJob}
use Rattle.mill_report_run.proofs.load.job_with.Goals as goal

pub returns-in-Ok-clause-told : goal.returns-in-Ok-clause-told
returns-in-Ok-clause-told c = λ told same. same

pub returns-in-Ok-clause-ready : goal.returns-in-Ok-clause-ready
returns-in-Ok-clause-ready c = rw c.text.ensures at c.in-Ok.ensures.told

pub returns-in-Err-clause-told : goal.returns-in-Err-clause-told
returns-in-Err-clause-told c = λ told same.
    job_told told c.args.source (Err c.in-Err.fault) same
    (subst (λ (text : List ℕ). LoadsJob (Some text) (Err c.in-Err.fault)) c.text.ensures c.in-Err.ensures.told)
