use Rattle.std.proofs.Common.{◌≡◌, drop}
use Rattle.mill_sched.specs.Steps.{state_after}
use Rattle.mill_sched.proofs.state.Core.run.Given as goal

abbrev pub invariant-loop-event : goal.invariant-loop-event
invariant-loop-event l = state_after l.self (drop l.event-index l.events) ≡ state_after l.fn.self l.events
