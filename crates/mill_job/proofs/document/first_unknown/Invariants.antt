use Rattle.std.proofs.Common.{◌≡◌}
use Rattle.toml.specs.View.{table_view}
use Rattle.mill_job.specs.Keys.{unknown_but}
use Rattle.mill_job.proofs.UnknownKeys.{first_but}
use Rattle.mill_job.proofs.document.first_unknown.Given as goal

-- the first unknown key of those left is that of the table
abbrev pub invariant-loop-name : goal.invariant-loop-name
invariant-loop-name l = first_but l.keys l.name-iterator ≡ unknown_but l.keys (table_view l.table)
