use Rattle.std.proofs.Common.{◌≡◌, drop, is_some}
use Rattle.toml.specs.View.{items_view}
use Rattle.mill_job.specs.Tables.{integers}
use Rattle.mill_job.proofs.arrays.are_integers.Given as goal

-- whether the values from here on are whole numbers decides whether all are
abbrev pub invariant-loop-value : goal.invariant-loop-value
invariant-loop-value l = is_some (integers (items_view (drop l.value-index l.values))) ≡ is_some (integers (items_view l.values))
