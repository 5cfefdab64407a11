use Rattle.std.specs.Prelude.{◌-◌}
use Rattle.mill_cells.proofs.WalkLemmas.{IsAhead}
use Rattle.mill_cells.proofs.walk.Walk.next.Given as goal

abbrev pub invariant-loop-number : goal.invariant-loop-number
invariant-loop-number l = IsAhead l.fn.self l.self

abbrev pub decreases-loop-number : goal.decreases-loop-number
decreases-loop-number l = l.self.cells - l.self.entered
