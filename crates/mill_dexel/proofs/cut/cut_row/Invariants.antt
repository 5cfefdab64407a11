use Rattle.mill_dexel.proofs.CutRows.{IsCutBefore}
use Rattle.mill_dexel.proofs.cut.cut_row.Given as goal

abbrev pub invariant-loop-column : goal.invariant-loop-column
invariant-loop-column l = IsCutBefore l.job.fields l.number l.sample l.column l.fn.tops l.tops
