use Rattle.std.proofs.Common.{◌+◌, ◌*◌}
use Rattle.mill_dexel.proofs.rows.+fn-spread-join_mut+arg2+fn-spread-join_mut+arg3+spread.Given as goal

abbrev pub decreases-spread : goal.decreases-spread
decreases-spread g l = 2 * l.workers

abbrev pub decreases-join_mut+arg2 : goal.decreases-join_mut+arg2
decreases-join_mut+arg2 g l = 2 * l.left_workers + 1

abbrev pub decreases-join_mut+arg3 : goal.decreases-join_mut+arg3
decreases-join_mut+arg3 g l = 2 * l.right_workers + 1
