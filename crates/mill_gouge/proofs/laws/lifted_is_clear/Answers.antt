use Rattle.mill_gouge.proofs.Clearing.{lifted_is_clear}
use Rattle.mill_gouge.proofs.laws.lifted_is_clear.Goals as goal

pub returns : goal.returns
returns c = lifted_is_clear
