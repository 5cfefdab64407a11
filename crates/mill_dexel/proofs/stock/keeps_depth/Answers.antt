use Rattle.std.proofs.Common.{◌∙◌, ◌<◌, sym, length, arith}
use Rattle.mill_dexel.proofs.StockLaws.{stock_passed, stock_stops, passed_more, passed_over, none_found, too_deep}
use Rattle.mill_dexel.proofs.stock.keeps_depth.Goals as goal

pub returns-then-is_some-clause-no : goal.returns-then-is_some-clause-no
returns-then-is_some-clause-no c = λ no feed done stock.
    let there : c.loop-number.number < length c.args.rows.now = omega (arith, c.loop-number-test.true, c.min-number-end.ensures) in
    stock_stops c.args.job.now.fields c.args.step.now done c.args.rows.now c.loop-number.number c.index-rows-number.result stock there c.index-rows-number.is
    (too_deep c.args.job.now.fields c.args.step.now c.index-rows-number.result c.cut_test.result (sym c.is_some.ensures ∙ c.if-is_some.true) c.cut_test.ensures.tested c.cut_test.ensures.first) feed

pub loop-number-preserved : goal.loop-number-preserved
loop-number-preserved c =
    let there : c.loop-number.number < length c.args.rows.now = omega (arith, c.loop-number-test.true, c.min-number-end.ensures) in
    passed_more c.args.job.now.fields c.args.step.now c.args.rows.now c.row_reach-reach.result.first c.loop-number.number c.index-rows-number.result there c.index-rows-number.is
    (c.cut_test.ensures.none (none_found c.cut_test.result (sym c.is_some.ensures ∙ c.if-is_some.false))) c.loop-number.invariant

pub returns-clause-yes : goal.returns-clause-yes
returns-clause-yes c = λ yes feed done stock.
    stock_passed c.args.job.now.fields c.args.step.now done c.args.rows.now c.row_reach-reach.result.first c.row_reach-reach.result.«end» c.loop-number.number c.args.job.now.is_job c.requires.step c.row_reach-reach.ensures stock
    (passed_over (length c.args.rows.now) c.row_reach-reach.result.«end» c.min-number-end.result c.loop-number.number c.min-number-end.ensures c.loop-number-test.false) c.loop-number.invariant feed
