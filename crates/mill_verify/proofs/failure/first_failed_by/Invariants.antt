use Rattle.mill_verify.specs.inner.Failures.{NoneFailedBy}
use Rattle.mill_verify.proofs.failure.first_failed_by.Given as goal

abbrev pub invariant-loop-number : goal.invariant-loop-number
invariant-loop-number l = NoneFailedBy l.test l.turn l.pieces l.number
