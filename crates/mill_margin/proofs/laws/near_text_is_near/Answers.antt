use Rattle.mill_margin.proofs.Nearby.{near_text_is_near}
use Rattle.mill_margin.proofs.laws.near_text_is_near.Goals as goal

pub returns : goal.returns
returns c = near_text_is_near
