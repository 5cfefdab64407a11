use Rattle.std.proofs.Common.{◌≡◌, drop, is_some}
use Rattle.toml.specs.View.{items_view}
use Rattle.mill_job.specs.Fixtures.{rows}
use Rattle.mill_job.proofs.keep_out.are_rows.Given as goal

-- whether the values from here on are arrays of whole numbers decides whether all are
abbrev pub invariant-loop-value : goal.invariant-loop-value
invariant-loop-value l = is_some (rows (items_view (drop l.value-index l.values))) ≡ is_some (rows (items_view l.values))
