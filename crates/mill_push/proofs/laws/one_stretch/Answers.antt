use Rattle.mill_push.proofs.Means.{touched_between}
use Rattle.mill_push.proofs.laws.one_stretch.Goals as goal

pub returns : goal.returns
returns c = touched_between
