use Rattle.std.specs.Prelude.{length}
use Rattle.mill_drop.proofs.Dropping.{RaisesSoFar, no_tri}
use Rattle.mill_drop.proofs.near.raised_near.Given as goal

abbrev pub invariant-loop-number : goal.invariant-loop-number
invariant-loop-number l = RaisesSoFar l.fn.spindle.cutter l.tris no_tri l.fn.area l.fn.spindle.x l.fn.spindle.y l.fn.from l.near l.height

abbrev pub decreases-loop-number : goal.decreases-loop-number
decreases-loop-number l = length l.near.numbers
