use Rattle.std.specs.Prelude.{◌+◌, ◌≤◌}
use Rattle.mill_push.specs.inner.Probes.{IsLeft}
use Rattle.mill_push.proofs.stretch.Pusher.near_end.Given as goal

abbrev pub invariant-loop : goal.invariant-loop
invariant-loop g l = record {
  left : IsLeft l.fn.self.cutter l.fn.tri l.fn.self.fiber l.fn.search l.left;
  cost : l.steps ≤ l.fn.steps + l.counter;
}
