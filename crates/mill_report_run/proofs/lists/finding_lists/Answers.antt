use Rattle.mill_report_run.proofs.Reporting.{all_listed, columns_told}
use Rattle.mill_report_run.specs.inner.Sources.{texts_of_sources}
use Rattle.mill_report_run.proofs.lists.finding_lists.Goals as goal

pub left_values-requires : goal.left_values-requires
left_values-requires c =
    columns_told c.args.job.now.fields c.args.part.now c.args.moves.now c.in_ok-found.found.left.shown.items c.deref-2.result.now c.in_ok-found.found.left.total c.deref-2.ensures.value c.in_ok-found.ensures.left

pub returns : goal.returns
returns c = λ reason v.
    all_listed (texts_of_sources c.args.sources.now) c.args.job.now.fields c.args.part.now c.args.moves.now c.one_verdict.ensures c.first_is_verdict.ensures c.verdict_is_first.ensures c.first_left_is_verdict.ensures reason
    c.in_ok-found.found.failing.items c.deref.result.now c.in_ok-found.found.left.shown.items c.deref-2.result.now _ c.deref.ensures.value c.deref-2.ensures.value c.in_ok-found.ensures.failing c.in_ok-found.ensures.blocked
    c.in_ok-found.ensures.left c.in_ok-failing.ensures.are c.in_ok-left.ensures.«data» (record { failing = c.in_ok-failing.ensures.plain; left = c.in_ok-left.ensures.plain }) v
