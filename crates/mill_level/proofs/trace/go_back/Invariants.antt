use Rattle.std.proofs.Common.{◌≡◌, Bool, get_or, not}
use Rattle.std.specs.Prelude.{count_by}
use Rattle.mill_level.specs.declared.edge.Edge.{Edge}
use Rattle.mill_level.specs.inner.Maps.{grid_of}
use Rattle.mill_level.specs.inner.Ways.{IsTrack, GoesBack}
use Rattle.mill_level.proofs.trace.go_back.Given as goal

abbrev pub invariant-loop-before : goal.invariant-loop-before
invariant-loop-before l = record {
  track : IsTrack l.map l.fn.passed.items l.passed.items (GoesBack (grid_of l.map)) l.edges.items l.edge;
  starts : (d : Edge) → get_or l.edges.items 0 d ≡ l.start;
}

-- each step marks one that had no mark
abbrev pub decreases-loop-before : goal.decreases-loop-before
decreases-loop-before l = count_by (λ (b : Bool). not b) l.passed.items
