use Rattle.mill_dexel.specs.Rows.{IsRowOf}
use Rattle.mill_stock_tests.proofs.row.told_acts.Given as goal

abbrev pub invariant-loop-text : goal.invariant-loop-text
invariant-loop-text l = IsRowOf l.job.fields l.row
