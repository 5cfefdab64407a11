use Rattle.std.specs.Prelude.{None}
use Rattle.mill_gouge.proofs.Looking.{IsLooking}
use Rattle.mill_gouge.proofs.clear.passes_each.Given as goal

abbrev pub invariant-loop-tri : goal.invariant-loop-tri
invariant-loop-tri l = IsLooking l.sweep.cutter l.sweep.move l.part l.tri-iterator None
