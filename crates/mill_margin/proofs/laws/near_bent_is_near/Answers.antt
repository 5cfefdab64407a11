use Rattle.mill_margin.proofs.Nearby.{near_bent_is_near}
use Rattle.mill_margin.proofs.laws.near_bent_is_near.Goals as goal

pub returns : goal.returns
returns c = near_bent_is_near
