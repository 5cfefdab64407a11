use Rattle.std.specs.Prelude.{length}
use Rattle.mill_push.proofs.Collecting.{CollectedSoFar}
use Rattle.mill_push.proofs.stretch.Pusher.stretches.Given as goal

abbrev pub invariant-loop-number : goal.invariant-loop-number
invariant-loop-number g l = CollectedSoFar l.fn.self l.fn.part l.fn.from l.fn.to l.near l.known.runs.items l.fn.steps l.steps

abbrev pub decreases-loop-number : goal.decreases-loop-number
decreases-loop-number g l = length l.near.numbers
