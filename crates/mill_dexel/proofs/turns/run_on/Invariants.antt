use Rattle.mill_dexel.proofs.RunLaws.{IsRunTo, IsLastCut}
use Rattle.mill_dexel.proofs.turns.run_on.Given as goal

abbrev pub invariant-loop-t : goal.invariant-loop-t
invariant-loop-t l = IsRunTo l.job.fields l.moves l.fn.row l.row l.t × IsLastCut l.job.fields l.row l.last
