use Rattle.mill_push.proofs.Cutting.{AreKnownUpTo}
use Rattle.mill_push.proofs.known.Known.first_after.Given as goal

abbrev pub invariant-loop : goal.invariant-loop
invariant-loop l = AreKnownUpTo l.self.runs.items l.first l.after
