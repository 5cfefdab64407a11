use Rattle.std.specs.Prelude.{length}
use Rattle.mill_base.specs.Numbers.{Within}
use Rattle.mill_base.specs.declared.limits.TheConstants.{MAX_COORDINATE}
use Rattle.mill_part.proofs.NearScan.{CoversSoFar, no_tri}
use Rattle.mill_part.proofs.sorted_part.SortedPart.covered_height_near.Given as goal

abbrev pub invariant-loop-number : goal.invariant-loop-number
invariant-loop-number l = CoversSoFar l.tris no_tri l.fn.floor l.fn.band l.fn.x l.fn.y l.near l.height × Within MAX_COORDINATE l.height

abbrev pub decreases-loop-number : goal.decreases-loop-number
decreases-loop-number l = length l.near.numbers
