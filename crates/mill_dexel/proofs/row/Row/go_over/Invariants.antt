use Rattle.std.proofs.Common.{◌-◌, ◌≤◌, ◌≡◌}
use Rattle.mill_dexel.proofs.RunLaws.{IsRunTo}
use Rattle.mill_dexel.proofs.row.Row.go_over.Given as goal

abbrev pub invariant-loop-next : goal.invariant-loop-next
invariant-loop-next l = IsRunTo l.job.fields l.bands.moves l.fn.self l.self l.next × (l.self.done ≡ l.next) × (l.next ≤ l.bands.count)

abbrev pub decreases-loop-next : goal.decreases-loop-next
decreases-loop-next l = l.bands.count - l.next
