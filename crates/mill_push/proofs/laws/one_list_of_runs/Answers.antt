use Rattle.mill_push.specs.Fibers.{IsBlocked}
use Rattle.mill_push.proofs.OneList
use Rattle.mill_push.proofs.laws.one_list_of_runs.Goals as goal

pub returns : goal.returns
returns c tool part fiber from to runs others h g = OneList.one_list (IsBlocked tool part fiber) to from runs others h g
