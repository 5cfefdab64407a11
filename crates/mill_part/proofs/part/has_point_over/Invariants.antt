use Rattle.mill_part.proofs.CoverLemmas.{NoneBefore}
use Rattle.mill_part.proofs.part.has_point_over.Given as goal

abbrev pub invariant-loop-tri : goal.invariant-loop-tri
invariant-loop-tri l = NoneBefore l.tris l.column.band l.column.x l.column.y l.height l.tri-index
