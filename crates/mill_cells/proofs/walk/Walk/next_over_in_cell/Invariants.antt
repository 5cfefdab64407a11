use Rattle.std.specs.Prelude.{◌-◌}
use Rattle.mill_cells.proofs.OverLemmas.{IsOverIn}
use Rattle.mill_cells.proofs.walk.Walk.next_over_in_cell.Given as goal

abbrev pub invariant-loop-self : goal.invariant-loop-self
invariant-loop-self l = IsOverIn l.fn.height l.fn.self l.self

abbrev pub decreases-loop-self : goal.decreases-loop-self
decreases-loop-self l = l.self.end - l.self.place
