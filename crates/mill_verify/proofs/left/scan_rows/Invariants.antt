use Rattle.mill_dexel.specs.Stocks.{shown_by}
use Rattle.mill_verify.specs.inner.Firsts.{AreRowsLeft}
use Rattle.mill_verify.proofs.left.scan_rows.Given as goal

abbrev pub invariant-loop-index : goal.invariant-loop-index
invariant-loop-index l = AreRowsLeft l.job.fields l.part (shown_by l.rows) l.start l.index l.most
