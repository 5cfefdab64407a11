use Rattle.mill_dexel.proofs.StockLaws.{AreCutTo}
use Rattle.mill_dexel.proofs.stock.cut_rows.Given as goal

abbrev pub invariant-loop-number : goal.invariant-loop-number
invariant-loop-number l = AreCutTo l.job.fields l.step l.initial.number l.number l.fn.rows l.rows
