use Rattle.mill_part.proofs.TopLemmas.{TopBefore}
use Rattle.mill_part.proofs.part.greatest_height.Given as goal

abbrev pub invariant-loop-tri : goal.invariant-loop-tri
invariant-loop-tri l = TopBefore l.tris l.tri-index l.top
