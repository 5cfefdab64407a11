use Rattle.mill_verify.specs.inner.Listed.{AreFilesPassedTo}
use Rattle.mill_verify.proofs.list.rows_after_files.Given as goal

abbrev pub invariant-loop-number : goal.invariant-loop-number
invariant-loop-number g l = AreFilesPassedTo l.job.fields l.part l.files l.number l.start
