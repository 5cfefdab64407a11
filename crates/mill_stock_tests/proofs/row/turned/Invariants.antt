use Rattle.std.proofs.Common.{◌≡◌, None}
use Rattle.mill_dexel.specs.Rows.{IsRowOf}
use Rattle.mill_stock_tests.proofs.row.turned.Given as goal

abbrev pub invariant-loop-t : goal.invariant-loop-t
invariant-loop-t l = IsRowOf l.job.fields l.row × (l.row.failed ≡ None) × (l.row.done ≡ l.t)
