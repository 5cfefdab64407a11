use Rattle.mill_gouge.proofs.Looking.{IsLooking}
use Rattle.mill_gouge.proofs.gouge.first_of.Given as goal

abbrev pub invariant-loop-tri : goal.invariant-loop-tri
invariant-loop-tri l = IsLooking l.sweep.cutter l.sweep.move l.part l.tri-iterator l.first
