use Rattle.mill_base.specs.Numbers.{Within}
use Rattle.mill_base.specs.declared.limits.TheConstants.{MAX_COORDINATE}
use Rattle.mill_part.proofs.CoverLemmas.{CoversBefore}
use Rattle.mill_part.proofs.part.Part.covered_height.Given as goal

abbrev pub invariant-loop-tri : goal.invariant-loop-tri
invariant-loop-tri l = CoversBefore l.tri-items l.fn.floor l.fn.band l.fn.x l.fn.y l.tri-index l.height × Within MAX_COORDINATE l.height
