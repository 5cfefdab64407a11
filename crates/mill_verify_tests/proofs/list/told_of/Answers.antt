use Rattle.std.proofs.Common.{rules, w32}
use Rattle.std.proofs.lemmas.Int.{to_z-of_z}
use Rattle.mill_verify_tests.proofs.list.told_of.Goals as goal

pub verify_list-requires-clause-under : goal.verify_list-requires-clause-under
verify_list-requires-clause-under g c = rw (to_z-of_z w32 c.in_ok-job.job.fields.top (search rules)) at c.in_ok-part.ensures
