use Rattle.mill_report.proofs.Passing.{ArePassedTo}
use Rattle.mill_report.proofs.pass.rows_through.Given as goal

abbrev pub invariant-loop-number : goal.invariant-loop-number
invariant-loop-number l = ArePassedTo l.job.fields l.bands.moves l.number l.rows.items l.stops
