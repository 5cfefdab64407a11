use Rattle.std.specs.Prelude.{take}
use Rattle.mill_cells.specs.Sorted.{AreUnder}
use Rattle.mill_cells.proofs.lids.lid.Given as goal

abbrev pub invariant-loop-number : goal.invariant-loop-number
invariant-loop-number l = AreUnder l.tops l.lid (take l.number-index l.numbers)
