use Rattle.std.proofs.Common.{◌≡◌, ◌≤◌, ◌-◌, ◌++◌}
use Rattle.std.specs.Prelude.{replicate}
use Rattle.mill_block.specs.MachineLines.{still_at}
use Rattle.mill_block.proofs.machine_line.add_still.Given as goal

abbrev pub invariant-loop-left : goal.invariant-loop-left
invariant-loop-left l = record {
  few : l.left ≤ l.count;
  are : l.out.items ≡ l.initial.out.items ++ replicate (l.count - l.left) (still_at l.fn.at);
}

abbrev pub decreases-loop-left : goal.decreases-loop-left
decreases-loop-left l = l.left
