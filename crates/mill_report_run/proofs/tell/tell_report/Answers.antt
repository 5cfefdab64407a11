use Rattle.std.proofs.Common.{inl}
use Rattle.mill_answer.specs.Statuses.{status_code}
use Rattle.mill_report_run.proofs.tell.tell_report.Goals as goal

pub report-requires-clause-read : goal.report-requires-clause-read
report-requires-clause-read g c κs within = rw c.deref.ensures.value c.requires.ready.read

pub returns-in-Ok : goal.returns-in-Ok
returns-in-Ok g c = inl (record {
  report = c.in-Ok.made.text.items;
  code = status_code c.in-Ok.made.status;
  is = rw c.deref.ensures.value at c.in-Ok.ensures;
  printed = rw c.deref-in-Ok.ensures.value at c.tell.ensures;
})
