use Rattle.std.proofs.Common.{◌≡◌, ℕ, [], subst, arith, rules}
use Rattle.mill_job.specs.Columns.{row_count}
use Rattle.mill_report.specs.inner.Stops.{AreToldBy}
use Rattle.mill_report.proofs.Passing.{passed_all, passed_more, passed_none}
use Rattle.mill_report.proofs.pass.rows_through.Goals as goal

pub loop-number-init : goal.loop-number-init
loop-number-init c =
    let none : c.new-rows.result.items ≡ [] = search rules in
    passed_none c.args.job.now.fields c.args.bands.now.moves c.new-rows.result.items c.args.stops.now none c.requires.none

pub loop-number-preserved : goal.loop-number-preserved
loop-number-preserved c =
    let r = c.in_ok-row_through.ensures in
    rw c.in_ok-push.ensures.items
    (passed_more c.args.job.now.fields c.args.bands.now.moves c.loop-number.number c.loop-number.rows.items c.loop-number.stops c.row_through.new.stops c.in_ok-row_through.field-0 c.loop-number.invariant r.row_ok r.is r.told)

pub returns-clause-stock : goal.returns-clause-stock
returns-clause-stock c =
    passed_all c.args.job.now.fields c.args.bands.now.moves c.loop-number.number c.loop-number.rows.items c.loop-number.stops
    (omega (arith, c.loop-number-test.false, c.loop-number.auto.number-end, c.rows-number-end.ensures.value)) c.loop-number.invariant

pub returns-clause-told : goal.returns-clause-told
returns-clause-told c =
    let all : c.loop-number.number ≡ row_count c.args.job.now.fields = omega (arith, c.loop-number-test.false, c.loop-number.auto.number-end, c.rows-number-end.ensures.value) in
    subst (λ (n : ℕ). AreToldBy c.args.job.now.fields c.args.bands.now.moves n c.loop-number.stops) all c.loop-number.invariant.told
