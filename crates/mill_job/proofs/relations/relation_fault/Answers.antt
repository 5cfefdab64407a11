use Rattle.std.proofs.Common.{◌∙◌, ◌++◌, sym}
use Rattle.mill_job.specs.inner.Relations.{cut_faults, room_faults, stock_faults}
use Rattle.mill_job.proofs.Faults.{first-append, first-found}
use Rattle.mill_job.proofs.relations.relation_fault.Goals as goal

-- A relation that fails is the first, where none of those before it does.
pub returns-in-Some-clause-value : goal.returns-in-Some-clause-value
returns-in-Some-clause-value c =
    let job = c.args.job.now in
    sym (first-found (stock_faults job) (cut_faults job ++ room_faults job) c.in-Some.fault (sym c.in-Some.ensures.value))

pub returns-in-Some-cut_fault-clause-value : goal.returns-in-Some-cut_fault-clause-value
returns-in-Some-cut_fault-clause-value c =
    let job = c.args.job.now in
    let found = first-found (cut_faults job) (room_faults job) c.in-Some-cut_fault.fault (sym c.in-Some-cut_fault.ensures.value) in
    sym (first-append (stock_faults job) (cut_faults job ++ room_faults job) (sym c.in_default.ensures.value) ∙ found)

pub returns-clause-value : goal.returns-clause-value
returns-clause-value c =
    let job = c.args.job.now in
    let behind = first-append (cut_faults job) (room_faults job) (sym c.in_default-cut_fault.ensures.value) in
    c.room_fault.ensures.value ∙ sym (first-append (stock_faults job) (cut_faults job ++ room_faults job) (sym c.in_default.ensures.value) ∙ behind)
