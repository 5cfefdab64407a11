use lib.IntN.{◌-ℤ◌, nat_abs}
use Rattle.mill_drop.proofs.Searching.{IsBetween}
use Rattle.mill_drop.proofs.search.Spindle.least_free.Given as goal

abbrev pub invariant-loop-low : goal.invariant-loop-low
invariant-loop-low l = IsBetween l.fn.self.cutter l.tri l.fn.self.x l.fn.self.y l.fn.low l.fn.top l.low l.high

abbrev pub decreases-loop-low : goal.decreases-loop-low
decreases-loop-low l = nat_abs (l.high -ℤ l.low)
