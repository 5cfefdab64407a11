use Rattle.mill_shape.proofs.Over.{holds_over}
use Rattle.mill_shape.proofs.laws.holds_over.Goals as goal

pub returns : goal.returns
returns c = holds_over
