use Rattle.std.proofs.Common.{◌≡◌, drop, length}
use Rattle.toml.specs.View.{items_view}
use Rattle.mill_job.specs.Tables.{integers}
use Rattle.mill_job.proofs.Falling.{IsRead}
use Rattle.mill_job.proofs.arrays.falling.Given as goal

-- the values up to here are the levels, and the last of them bounds the next
abbrev pub invariant-loop-value : goal.invariant-loop-value
invariant-loop-value l =
    (length l.levels ≡ l.value-index) × IsRead l.unit (integers (items_view l.values)) (integers (items_view (drop l.value-index l.values))) l.levels l.bound
