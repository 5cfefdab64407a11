use Rattle.mill_paths.proofs.Uniqueness.{one_plan}
use Rattle.mill_paths.proofs.plan_laws.one_plan.Goals as goal

pub returns : goal.returns
returns c = one_plan
