use Rattle.std.proofs.Common.{length, ◌-◌, ◌+◌}
use Rattle.mill_ngc.specs.inner.Walks.{HasWalked}
use Rattle.mill_ngc.proofs.walk.places.Given as goal

abbrev pub invariant-loop-walk : goal.invariant-loop-walk
invariant-loop-walk l = HasWalked l.fn.start l.fn.unit l.fn.rules l.text l.from l.line l.walk

abbrev pub decreases-loop-walk : goal.decreases-loop-walk
decreases-loop-walk l = length l.text + 1 - l.from
