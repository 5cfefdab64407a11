use Rattle.mill_cells.specs.inner.Placing.{IsCounting, IsPlacing}
use Rattle.mill_cells.proofs.grid.sorted.Given as goal

abbrev pub invariant-loop-number : goal.invariant-loop-number
invariant-loop-number l = IsCounting l.frame l.boxes.items l.starts.items l.number 0

abbrev pub invariant-loop-number-2 : goal.invariant-loop-number-2
invariant-loop-number-2 l = IsPlacing l.frame l.boxes.items l.starts.items l.entries.items l.number 0
