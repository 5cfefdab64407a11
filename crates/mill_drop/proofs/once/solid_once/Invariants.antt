use Rattle.mill_drop.specs.inner.Spindles.{IsTipHeight}
use Rattle.mill_drop.proofs.Scanning.{DropsBefore}
use Rattle.mill_drop.proofs.once.solid_once.Given as goal

abbrev pub invariant-loop-tri : goal.invariant-loop-tri
invariant-loop-tri l = DropsBefore l.fn.solid.cutter l.tri-items l.fn.x l.fn.y l.start l.tri-index l.tip × IsTipHeight l.tip
