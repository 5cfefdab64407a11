use Rattle.mill_arc.proofs.Helixes.{helix_is_near}
use Rattle.mill_arc.proofs.laws.helix_is_near.Goals as goal

pub returns : goal.returns
returns c = helix_is_near
