use Rattle.std.specs.Prelude.{ℕ, ◌<◌}
use Rattle.mill_verify.specs.Tests.{IsOverFloor}
use Rattle.mill_verify.proofs.floor.floor_end.Given as goal

abbrev pub invariant-loop-number : goal.invariant-loop-number
invariant-loop-number l = (k : ℕ) → k < l.number → IsOverFloor l.job.fields l.moves k
