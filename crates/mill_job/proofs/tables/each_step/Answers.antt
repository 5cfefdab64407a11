use Rattle.std.proofs.Common.{◌+◌, drop, Some}
use Rattle.std.proofs.lemmas.List.Elements.{All-push}
use Rattle.std.proofs.lemmas.Result.{err_from_is_err_and}
use Rattle.toml.specs.View.{items_view, table_view}
use Rattle.mill_job.specs.Jobs.{FitsJob}
use Rattle.mill_job.specs.Lists.{tables}
use Rattle.mill_job.specs.declared.step.Step.{Step}
use Rattle.mill_job.proofs.InTurn.{at_next, one_read, one_told}
use Rattle.mill_job.proofs.tables.each_step.Goals as goal

-- What is wrong with the next table is the first fault of all.
pub returns-in_err-step-clause-err : goal.returns-in_err-step-clause-err
returns-in_err-step-clause-err c =
    let job = c.args.job.now.fields in
    let values = c.args.values.now in
    let ms = table_view c.in-Some.table.now in
    let all = tables (items_view values) in
    let rest = tables (items_view (drop (c.loop-value.value-index + 1) values)) in
    let read = at_next job all values c.loop-value.value-index c.value-item.result (Some ms) c.loop-value.steps.items c.loop-value-test.true c.value-item.is c.in-Some.ensures c.loop-value.invariant.0 in
    let told = one_told job all rest c.loop-value.steps.items ms c.in_err-step.field-0.0 read c.in_err-step.ensures.err in
    let answer = err_from_is_err_and c.from_residual.result c.from_residual.ensures.1 in
    rw (answer.1, answer.2) told

-- One with which nothing is wrong is read, and its cutter fits.
pub loop-value-preserved : goal.loop-value-preserved
loop-value-preserved c =
    let job = c.args.job.now.fields in
    let values = c.args.values.now in
    let ms = table_view c.in-Some.table.now in
    let all = tables (items_view values) in
    let rest = tables (items_view (drop (c.loop-value.value-index + 1) values)) in
    let steps = c.loop-value.steps.items in
    let step = c.in_ok-step.step in
    let read = at_next job all values c.loop-value.value-index c.value-item.result (Some ms) steps c.loop-value-test.true c.value-item.is c.in-Some.ensures c.loop-value.invariant.0 in
    let next = one_read job all rest steps ms step read c.in_ok-step.ensures.ok.0 c.in_ok-step.ensures.ok.1 in
    let fit = All-push (λ (s : Step). FitsJob job s.cutter) steps step c.loop-value.invariant.1 c.in_ok-step.ensures.fits in
    rw c.in-Ok.ensures.items (next, fit)
