use Rattle.mill_dexel.specs.Stocks.{shown_by}
use Rattle.mill_verify.proofs.Remaining.{IsRowLeftTo}
use Rattle.mill_verify.proofs.left.row_left.Given as goal

abbrev pub invariant-loop-index : goal.invariant-loop-index
invariant-loop-index l = IsRowLeftTo l.job.fields l.part (shown_by l.rows) l.number l.index l.most
