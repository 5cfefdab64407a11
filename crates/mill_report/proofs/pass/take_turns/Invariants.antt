use Rattle.std.proofs.Common.{◌-◌}
use Rattle.mill_report.proofs.Passing.{IsPassing}
use Rattle.mill_report.proofs.pass.take_turns.Given as goal

abbrev pub invariant-loop-next : goal.invariant-loop-next
invariant-loop-next l = IsPassing l.job.fields l.bands.moves l.number l.next l.row l.stops

abbrev pub decreases-loop-next : goal.decreases-loop-next
decreases-loop-next l = l.bands.count - l.next
