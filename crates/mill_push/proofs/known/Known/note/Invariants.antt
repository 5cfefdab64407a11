use Rattle.std.specs.Prelude.{◌≡◌}
use Rattle.mill_push.proofs.known.Known.note.Given as goal

abbrev pub invariant-loop-part : goal.invariant-loop-part
invariant-loop-part l = l.self.runs ≡ l.fn.self.runs
