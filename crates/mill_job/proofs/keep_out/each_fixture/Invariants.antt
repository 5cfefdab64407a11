use Rattle.std.proofs.Common.{◌≡◌, drop, length}
use Rattle.std.specs.Prelude.{All}
use Rattle.toml.specs.View.{items_view}
use Rattle.mill_job.specs.Fixtures.{IsFixture, rows}
use Rattle.mill_job.proofs.Boxes.{IsRead}
use Rattle.mill_job.proofs.keep_out.each_fixture.Given as goal

-- the values up to here are read, and each of the fixtures stands as it must
abbrev pub invariant-loop-value : goal.invariant-loop-value
invariant-loop-value l =
    (length l.fixtures ≡ l.value-index) × (IsRead l.unit (rows (items_view l.values)) (rows (items_view (drop l.value-index l.values))) l.fixtures × All (IsFixture l.unit) l.fixtures)
