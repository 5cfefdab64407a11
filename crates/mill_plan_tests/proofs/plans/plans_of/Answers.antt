use Rattle.std.proofs.Common.{rules, w32}
use Rattle.std.proofs.lemmas.Int.{to_z-of_z}
use Rattle.mill_plan_tests.proofs.plans.plans_of.Goals as goal

pub plans-requires-clause-under : goal.plans-requires-clause-under
plans-requires-clause-under g c κs within = rw (to_z-of_z w32 c.in_ok-job.job.fields.top (search rules)) at c.in_ok-part.ensures
