use Rattle.mill_dexel.proofs.StockLaws.{AreUncutTo}
use Rattle.mill_dexel.proofs.stock.uncut_rows.Given as goal

abbrev pub invariant-loop-number : goal.invariant-loop-number
invariant-loop-number l = AreUncutTo l.job.fields l.number l.rows.items
