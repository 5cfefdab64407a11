use Rattle.std.proofs.Common.{◌+◌, refl, arith}
use Rattle.mill_cells.proofs.Counting.{sum_small}
use Rattle.mill_cells.proofs.Summing.{sum_starts, sum_goes_on}
use Rattle.mill_cells.proofs.placing.sum_up.Goals as goal

pub overflow_add-sum : goal.overflow_add-sum
overflow_add-sum c =
    let small = sum_small c.args.starts.now c.loop-cell.cell (omega arith) c.requires.small in
    omega (arith, c.loop-cell.invariant.total, c.loop-cell.invariant.rest c.loop-cell.cell (omega arith), c.requires.small (c.loop-cell.cell + 1) (omega arith))

pub loop-cell-init : goal.loop-cell-init
loop-cell-init c = sum_starts c.args.starts.now

pub loop-cell-preserved : goal.loop-cell-preserved
loop-cell-preserved c = sum_goes_on c.args.starts.now c.loop-cell.starts c.loop-cell.cell c.loop-cell.sum _ (omega arith) refl c.loop-cell.invariant
