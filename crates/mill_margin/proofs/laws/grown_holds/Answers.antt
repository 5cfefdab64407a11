use Rattle.mill_margin.proofs.Growing.{grown_holds}
use Rattle.mill_margin.proofs.laws.grown_holds.Goals as goal

pub returns : goal.returns
returns c = grown_holds
