use Rattle.std.proofs.Common.{◌∙◌, ap, rules, arith}
use Rattle.mill_dexel.specs.Rows.{RowState}
use Rattle.mill_stock_tests.proofs.row.turned.Goals as goal

pub loop-t-preserved : goal.loop-t-preserved
loop-t-preserved c =
    let cut = c.turn.ensures.cut (search rules) in (
      c.turn.ensures.row,
      ap (λ (r : RowState). r.failed) cut ∙ c.loop-t.invariant.1,
      omega (ap (λ (r : RowState). r.done) cut, c.loop-t.invariant.2, arith),
    )
