use Rattle.std.proofs.Common.{ℕ, ◌<◌, ◌≤◌}
use Rattle.std.specs.Prelude.{◌≤ℤ◌}
use Rattle.mill_dexel.specs.Rows.{top_at}
use Rattle.mill_dexel.specs.Tops.{tested_height}
use Rattle.mill_dexel.proofs.row.Row.first_over.Given as goal

abbrev pub invariant-loop-column : goal.invariant-loop-column
invariant-loop-column l = (k : ℕ) → l.reach.first ≤ k → k < l.column → tested_height l.job.fields l.kind (top_at l.self.tops k) ≤ℤ l.low
