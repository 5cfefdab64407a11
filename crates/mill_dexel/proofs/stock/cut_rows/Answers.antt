use Rattle.std.proofs.Common.{length}
use Rattle.mill_dexel.proofs.StockLaws.{passed_over, cut_are_rows, stock_cut}
use Rattle.mill_dexel.proofs.stock.cut_rows.Goals as goal

pub returns-clause-stock : goal.returns-clause-stock
returns-clause-stock c = λ done stock.
    stock_cut c.args.job.now.fields c.args.step.now c.row_reach-reach.result.first c.row_reach-reach.result.«end» c.loop-number.number c.args.rows.now c.loop-number.rows
    (passed_over (length c.args.rows.now) c.row_reach-reach.result.«end» c.min-number-end.result c.loop-number.number c.min-number-end.ensures c.loop-number-test.false)
    c.loop-number.invariant c.args.job.now.is_job c.row_reach-reach.ensures done stock

pub returns-clause-rows_ok : goal.returns-clause-rows_ok
returns-clause-rows_ok c =
    cut_are_rows c.args.job.now.fields c.args.step.now c.row_reach-reach.result.first c.loop-number.number c.args.rows.now c.loop-number.rows c.loop-number.invariant c.requires.rows_ok
