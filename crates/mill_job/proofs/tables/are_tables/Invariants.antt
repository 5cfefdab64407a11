use Rattle.std.proofs.Common.{◌≡◌, drop, is_some}
use Rattle.toml.specs.View.{items_view}
use Rattle.mill_job.specs.Lists.{tables}
use Rattle.mill_job.proofs.tables.are_tables.Given as goal

-- whether the values from here on are tables decides whether all are
abbrev pub invariant-loop-value : goal.invariant-loop-value
invariant-loop-value l = is_some (tables (items_view (drop l.value-index l.values))) ≡ is_some (tables (items_view l.values))
