use Rattle.std.specs.Prelude.{length}
use Rattle.mill_part.proofs.NearScan.{NoneSoFar, no_tri}
use Rattle.mill_part.proofs.sorted_part.has_near_point_over.Given as goal

abbrev pub invariant-loop-number : goal.invariant-loop-number
invariant-loop-number l = NoneSoFar l.tris no_tri l.column.band l.column.x l.column.y l.near l.height

abbrev pub decreases-loop-number : goal.decreases-loop-number
decreases-loop-number l = length l.near.numbers
