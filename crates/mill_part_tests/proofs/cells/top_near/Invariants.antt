use Rattle.std.specs.Prelude.{length}
use Rattle.mill_part_tests.proofs.NearTops.{IsTopNear}
use Rattle.mill_part_tests.proofs.cells.top_near.Given as goal

abbrev pub invariant-loop-number : goal.invariant-loop-number
invariant-loop-number l = IsTopNear l.cells l.fn.area l.near l.top

abbrev pub decreases-loop-number : goal.decreases-loop-number
decreases-loop-number l = length l.near.numbers
