use Rattle.std.proofs.Common.{◌-◌}
use Rattle.mill_base.proofs.RootLemmas.{IsRootBetween}
use Rattle.mill_base.proofs.roots.root_from.Given as goal

abbrev pub invariant-loop-low : goal.invariant-loop-low
invariant-loop-low l = IsRootBetween l.fn.n l.low l.high

abbrev pub decreases-loop-low : goal.decreases-loop-low
decreases-loop-low l = l.high - l.low
