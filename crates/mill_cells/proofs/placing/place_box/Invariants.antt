use Rattle.std.specs.Prelude.{◌+◌, ◌*◌}
use Rattle.mill_cells.specs.inner.Placing.{IsPlacing}
use Rattle.mill_cells.proofs.placing.place_box.Given as goal

abbrev pub invariant-loop-row : goal.invariant-loop-row
invariant-loop-row l = IsPlacing l.frame l.boxes l.starts l.entries l.number (l.row * l.frame.columns)

abbrev pub invariant-loop-column : goal.invariant-loop-column
invariant-loop-column l = IsPlacing l.frame l.boxes l.starts l.entries l.number (l.start + l.column)
