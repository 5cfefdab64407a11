use Rattle.std.specs.Prelude.{nat_abs, pos}
use lib.IntN.{◌+ℤ◌, ◌-ℤ◌}
use Rattle.mill_push.proofs.Searching.{WindowSoFar}
use Rattle.mill_push.proofs.stretch.Pusher.stretch.Given as goal

abbrev pub invariant-loop-low : goal.invariant-loop-low
invariant-loop-low g l = WindowSoFar l.fn.self.cutter l.fn.tri l.fn.self.fiber l.fn.from l.fn.to l.low l.high l.fn.steps l.steps

abbrev pub decreases-loop-low : goal.decreases-loop-low
decreases-loop-low g l = nat_abs ((l.high +ℤ pos 1) -ℤ l.low)
