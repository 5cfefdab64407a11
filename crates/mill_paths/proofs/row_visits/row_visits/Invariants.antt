use Rattle.std.proofs.Common.{◌-◌}
use Rattle.mill_paths.specs.inner.Rows.{AreFirstVisits}
use Rattle.mill_paths.proofs.row_visits.row_visits.Given as goal

abbrev pub invariant-loop-first : goal.invariant-loop-first
invariant-loop-first g l = AreFirstVisits l.job.fields l.part l.tol l.first l.list.visits.items

abbrev pub decreases-loop-first : goal.decreases-loop-first
decreases-loop-first g l = l.rows - l.first
