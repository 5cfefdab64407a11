use Rattle.std.proofs.Common.{Bool, not}
use Rattle.std.specs.Prelude.{count_by}
use Rattle.mill_level.specs.inner.Ways.{GrewAlike, MayGoOn}
use Rattle.mill_level.proofs.trace.go_on.Given as goal

abbrev pub invariant-loop-after : goal.invariant-loop-after
invariant-loop-after l = record {
  way : MayGoOn l.map l.passed.items l.edge l.edges.items;
  grew : GrewAlike l.map l.fn.passed.items l.passed.items l.fn.edges.items l.edges.items;
}

-- each step marks one that had no mark
abbrev pub decreases-loop-after : goal.decreases-loop-after
decreases-loop-after l = count_by (λ (b : Bool). not b) l.passed.items
