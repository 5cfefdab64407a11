use Rattle.std.specs.Prelude.{◌≡◌, length}
use Rattle.mill_cells.specs.inner.Placing.{AreLids}
use Rattle.mill_cells.proofs.lids.lids.Given as goal

abbrev pub invariant-loop-cell : goal.invariant-loop-cell
invariant-loop-cell l = record { long : length l.lids.items ≡ l.cell; each : AreLids l.starts l.entries l.tops l.lids.items }
