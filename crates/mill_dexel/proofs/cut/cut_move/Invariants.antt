use Rattle.mill_dexel.proofs.CutRows.{IsCutByFirst}
use Rattle.mill_dexel.proofs.cut.cut_move.Given as goal

abbrev pub invariant-loop-k : goal.invariant-loop-k
invariant-loop-k l = IsCutByFirst l.job.fields l.number l.step l.d l.k l.fn.tops l.tops
