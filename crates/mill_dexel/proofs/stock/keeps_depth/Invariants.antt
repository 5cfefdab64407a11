use Rattle.mill_dexel.proofs.StockLaws.{ArePassed}
use Rattle.mill_dexel.proofs.stock.keeps_depth.Given as goal

abbrev pub invariant-loop-number : goal.invariant-loop-number
invariant-loop-number l = ArePassed l.job.fields l.step l.rows l.initial.number l.number
