use Rattle.std.proofs.Common.{◌-◌, ◌*◌, ◌≤◌, ◌<◌}
use Rattle.mill_sweep.proofs.diagonal.root_between.Given as goal

abbrev pub invariant-loop-low : goal.invariant-loop-low
invariant-loop-low l = (l.low * l.low < l.square) × (l.square ≤ l.high * l.high) × (l.low < l.high) × (l.high ≤ l.over)

abbrev pub decreases-loop-low : goal.decreases-loop-low
decreases-loop-low l = l.high - l.low
