use Rattle.std.proofs.Common.{◌+◌, ◌*◌}
use Rattle.mill_verify.proofs.left.+fn-rows_left-join+arg2+fn-rows_left-join+arg3+rows_left.Given as goal

abbrev pub decreases-rows_left : goal.decreases-rows_left
decreases-rows_left g l = 2 * l.workers

abbrev pub decreases-join+arg2 : goal.decreases-join+arg2
decreases-join+arg2 g l = 2 * l.left_workers + 1

abbrev pub decreases-join+arg3 : goal.decreases-join+arg3
decreases-join+arg3 g l = 2 * l.right_workers + 1
