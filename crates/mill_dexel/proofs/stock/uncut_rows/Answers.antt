use Rattle.std.proofs.Common.{ap, ◌∙◌, arith}
use Rattle.mill_dexel.specs.Rows.{uncut_row}
use Rattle.mill_dexel.proofs.StockLaws.{uncut_more, stock_uncut}
use Rattle.mill_dexel.proofs.stock.uncut_rows.Goals as goal

pub loop-number-preserved : goal.loop-number-preserved
loop-number-preserved c =
    rw c.in_ok-push.ensures.items
    (uncut_more c.args.job.now.fields c.loop-number.number c.loop-number.rows.items c.in_ok-new.field-0 c.loop-number.invariant c.in_ok-new.ensures.row
    (c.in_ok-new.ensures.uncut ∙ ap (uncut_row c.args.job.now.fields) c.from.ensures))

pub returns-clause-stock : goal.returns-clause-stock
returns-clause-stock c =
    stock_uncut c.args.job.now.fields c.loop-number.number c.loop-number.rows.items
    (omega (arith, c.loop-number-test.false, c.loop-number.auto.number-end, c.rows-number-end.ensures.value)) c.loop-number.invariant
