use Rattle.mill_cells.proofs.Summing.{IsSummed}
use Rattle.mill_cells.proofs.placing.sum_up.Given as goal

abbrev pub invariant-loop-cell : goal.invariant-loop-cell
invariant-loop-cell l = IsSummed l.fn.starts l.starts l.cell l.sum
