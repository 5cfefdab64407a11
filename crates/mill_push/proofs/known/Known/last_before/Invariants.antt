use Rattle.mill_push.proofs.Cutting.{AreKnownBackTo}
use Rattle.mill_push.proofs.known.Known.last_before.Given as goal

abbrev pub invariant-loop : goal.invariant-loop
invariant-loop l = AreKnownBackTo l.self.runs.items l.last l.before
