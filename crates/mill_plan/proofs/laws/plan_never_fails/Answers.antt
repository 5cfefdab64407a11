use Rattle.mill_plan.proofs.Never.{never_fails}
use Rattle.mill_plan.proofs.laws.plan_never_fails.Goals as goal

pub returns : goal.returns
returns c = never_fails c.visits_are_free.ensures.rough c.visits_are_free.ensures.level c.visits_are_free.ensures.finish c.round_is_safe.ensures
