use Rattle.mill_paths.proofs.Lengths.{plan_is_longer}
use Rattle.mill_paths.proofs.plan_laws.plan_is_longer.Goals as goal

pub returns : goal.returns
returns c = plan_is_longer
