use Rattle.std.specs.Prelude.{◌-◌, length}
use Rattle.mill_level.specs.inner.Fibers.{EndBefore}
use Rattle.mill_level.proofs.fiber.spot_at.Given as goal

abbrev pub invariant-loop-before : goal.invariant-loop-before
invariant-loop-before l = EndBefore l.runs l.position l.before

abbrev pub decreases-loop-before : goal.decreases-loop-before
decreases-loop-before l = length l.runs - l.before
