use Rattle.std.specs.Prelude.{ℤ, ◌+◌}
use Rattle.mill_base.specs.Numbers.{Within}
use Rattle.mill_base.specs.declared.limits.TheConstants.{MAX_COORDINATE}
use Rattle.mill_push.specs.inner.Unions.{AreSpans}
use Rattle.mill_push.proofs.Joining.{GrownSoFar}
use Rattle.mill_push.proofs.union.union.Given as goal

abbrev pub invariant-loop-stretch : goal.invariant-loop-stretch
invariant-loop-stretch l = ((from to : ℤ) → AreSpans from to l.fn.stretches → GrownSoFar l.fn.stretches from to (l.stretch-index + 1) l.runs.items l.run)
    × Within MAX_COORDINATE l.run.last
