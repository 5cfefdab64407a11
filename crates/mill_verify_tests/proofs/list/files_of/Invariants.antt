use Rattle.std.specs.Prelude.{All}
use Rattle.mill_verify.specs.Files.{IsFileOf}
use Rattle.mill_verify_tests.proofs.list.files_of.Given as goal

abbrev pub invariant-loop-each : goal.invariant-loop-each
invariant-loop-each l = All (IsFileOf l.job.fields) l.files.items
