use Rattle.mill_job.specs.Columns.{home}
use Rattle.mill_verify_tests.proofs.Programs.{LeadTo}
use Rattle.mill_verify_tests.proofs.samples.program.Given as goal

abbrev pub invariant-loop-each : goal.invariant-loop-each
invariant-loop-each l = LeadTo (home l.job.fields) l.at l.moves.items
