use Rattle.std.specs.Prelude.{All}
use Rattle.mill_dexel.specs.Rows.{IsRowOf}
use Rattle.mill_stock_tests.proofs.stock.told_acts.Given as goal

abbrev pub invariant-loop-text : goal.invariant-loop-text
invariant-loop-text l = All (IsRowOf l.job.fields) l.rows
