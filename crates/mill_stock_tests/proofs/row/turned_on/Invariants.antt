use Rattle.std.proofs.Common.{◌≡◌, None}
use Rattle.mill_dexel.specs.Rows.{IsRowOf}
use Rattle.mill_dexel.specs.Turns.{IsLeftBy}
use Rattle.mill_stock_tests.proofs.row.turned_on.Given as goal

abbrev pub invariant-loop-t : goal.invariant-loop-t
invariant-loop-t l = IsRowOf l.job.fields l.row × (l.row.failed ≡ None) × IsLeftBy l.job.fields l.moves l.t l.row
