use Rattle.std.proofs.Common.{ℕ, ◌<◌}
use Rattle.mill_dexel.specs.Rows.{PassesAt}
use Rattle.mill_dexel.specs.inner.Passing.{trying}
use Rattle.mill_dexel.proofs.row.Row.first_tried.Given as goal

abbrev pub invariant-loop-column : goal.invariant-loop-column
invariant-loop-column l = (k : ℕ) → k < l.column → PassesAt l.job.fields (trying l.fn.solid l.kind l.step) l.self k
