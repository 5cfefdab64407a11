use Rattle.std.proofs.Common.{arith}
use Rattle.mill_report.proofs.Lefts.{left_all}
use Rattle.mill_report.proofs.left.columns_left.Goals as goal

pub loop-number-preserved : goal.loop-number-preserved
loop-number-preserved c = record {
  few = c.in_ok-add_row.ensures.few;
  more = λ stock shows. c.in_ok-add_row.ensures.more stock shows (c.loop-number.invariant.more stock shows);
}

pub returns : goal.returns
returns c = λ stock shows.
    left_all c.args.job.now.fields c.args.part.now stock c.loop-number.number c.loop-number.left
    (omega (arith, c.loop-number-test.false, c.loop-number.auto.number-end, c.rows-number-end.ensures.value)) (c.loop-number.invariant.more stock shows)
