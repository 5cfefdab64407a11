use Rattle.std.specs.Prelude.{◌+◌, ◌*◌}
use Rattle.mill_cells.specs.inner.Placing.{IsCounting}
use Rattle.mill_cells.proofs.placing.count_box.Given as goal

abbrev pub invariant-loop-row : goal.invariant-loop-row
invariant-loop-row l = IsCounting l.frame l.boxes l.starts l.number (l.row * l.frame.columns)

abbrev pub invariant-loop-column : goal.invariant-loop-column
invariant-loop-column l = IsCounting l.frame l.boxes l.starts l.number (l.start + l.column)
