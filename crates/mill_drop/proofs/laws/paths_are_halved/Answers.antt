use Rattle.mill_drop.proofs.Halving.{halved}
use Rattle.mill_drop.proofs.laws.paths_are_halved.Goals as goal

pub returns : goal.returns
returns c = halved
