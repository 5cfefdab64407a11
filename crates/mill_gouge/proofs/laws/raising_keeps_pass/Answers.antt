use Rattle.mill_gouge.proofs.Leasts.{raising_keeps_pass}
use Rattle.mill_gouge.proofs.laws.raising_keeps_pass.Goals as goal

pub returns : goal.returns
returns c = raising_keeps_pass
