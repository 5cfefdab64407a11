use Rattle.mill_arc.proofs.Heights.{last_height_is_end}
use Rattle.mill_arc.proofs.laws.last_height_is_end.Goals as goal

pub returns : goal.returns
returns c = last_height_is_end
