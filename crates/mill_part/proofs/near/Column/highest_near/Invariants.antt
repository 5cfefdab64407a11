use lib.IntN.{nat_abs, ◌-ℤ◌}
use Rattle.mill_part.proofs.CoverLemmas.{IsHalved}
use Rattle.mill_part.proofs.near.Column.highest_near.Given as goal

abbrev pub invariant-loop-low : goal.invariant-loop-low
invariant-loop-low l = IsHalved l.tri l.self.band l.self.x l.self.y l.covered l.low l.high

abbrev pub decreases-loop-low : goal.decreases-loop-low
decreases-loop-low l = nat_abs (l.high -ℤ l.low)
