use Rattle.std.proofs.Common.{take}
use Rattle.mill_paths.specs.inner.Rows.{AreAdded}
use Rattle.mill_paths.proofs.row_visits.add_path.Given as goal

abbrev pub invariant-loop-point : goal.invariant-loop-point
invariant-loop-point l = AreAdded l.job.fields l.initial.before (take l.point-index l.points) l.fn.list.visits.items l.before l.list.visits.items
