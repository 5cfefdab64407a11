use Rattle.std.proofs.Common.{◌-◌, length}
use Rattle.std.specs.Prelude.{All}
use Rattle.std.specs.List.{AllZip}
use Rattle.mill_dexel.specs.Rows.{IsRowOf}
use Rattle.mill_dexel.specs.Turns.{IsTurnedUpTo}
use Rattle.mill_dexel.proofs.rows.run_all.Given as goal

abbrev pub invariant-loop-first : goal.invariant-loop-first
invariant-loop-first l = AllZip (IsTurnedUpTo l.job.fields l.moves l.first) l.fn.rows l.rows × All (IsRowOf l.job.fields) l.rows

abbrev pub decreases-loop-first : goal.decreases-loop-first
decreases-loop-first l = length l.moves - l.first
