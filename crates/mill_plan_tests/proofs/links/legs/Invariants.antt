use Rattle.std.specs.Prelude.{All}
use Rattle.mill_base.specs.Ranges.{IsInRange}
use Rattle.mill_dexel.specs.Rows.{IsRowOf}
use Rattle.mill_plan_tests.proofs.links.legs.Given as goal

abbrev pub invariant-loop-word : goal.invariant-loop-word
invariant-loop-word l = All (IsRowOf l.job.fields) l.rows × IsInRange l.at
