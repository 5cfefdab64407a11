use Rattle.std.proofs.Common.{ℕ, List, Some, Err, subst}
use Rattle.mill_load.proofs.Reading.{part_told, part_under}
use Rattle.mill_load.specs.Loads.{LoadsPart}
use Rattle.mill_report_run.proofs.load.part_with.Goals as goal

pub joined-requires-clause-part_is : goal.joined-requires-clause-part_is
joined-requires-clause-part_is c = rw c.text.ensures at c.in-Ok.ensures.told

pub returns-in-Err-clause-told : goal.returns-in-Err-clause-told
returns-in-Err-clause-told c = λ told same.
    part_under c.args.before.job.fields told c.in-Err.fault
    (part_told c.args.before.job.fields told c.args.source (Err c.in-Err.fault) same
    (subst (λ (text : List ℕ). LoadsPart c.args.before.job.fields (Some text) (Err c.in-Err.fault)) c.text.ensures c.in-Err.ensures.told))
