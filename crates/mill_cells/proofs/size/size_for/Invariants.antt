use Rattle.std.specs.Prelude.{ℕ, ◌<◌, ◌^◌}
use Rattle.mill_cells.specs.Sizes.{IsSmallGrid}
use Rattle.mill_cells.proofs.size.size_for.Given as goal

abbrev pub invariant-loop-doublings : goal.invariant-loop-doublings
invariant-loop-doublings l = (k : ℕ) → k < l.doublings → ¬ IsSmallGrid l.tris (2 ^ k)
