use Rattle.std.specs.Prelude.{◌≤◌}
use Rattle.mill_dexel.specs.Stocks.{ShowsStock}
use Rattle.mill_dexel.specs.Tops.{Stock}
use Rattle.mill_report.specs.Columns.{column_number}
use Rattle.mill_report.specs.inner.Lefts.{IsLeftTo}
use Rattle.mill_report.proofs.left.columns_left.Given as goal

abbrev pub invariant-loop-number : goal.invariant-loop-number
invariant-loop-number l = record {
  few : l.left.total ≤ column_number l.job.fields l.number 0;
  more : (stock : Stock) → ShowsStock l.job.fields stock l.rows → IsLeftTo l.job.fields l.part stock (column_number l.job.fields l.number 0) l.left;
}
