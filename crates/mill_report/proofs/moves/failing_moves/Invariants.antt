use Rattle.mill_report.proofs.Found.{AreFoundTo}
use Rattle.mill_report.proofs.moves.failing_moves.Given as goal

abbrev pub invariant-loop-number : goal.invariant-loop-number
invariant-loop-number l = AreFoundTo l.job.fields l.part l.moves l.number l.found.items
