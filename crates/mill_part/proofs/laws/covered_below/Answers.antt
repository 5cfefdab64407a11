use Rattle.mill_part.proofs.Below.{covered_below}
use Rattle.mill_part.proofs.laws.covered_below.Goals as goal

pub returns : goal.returns
returns c = covered_below
