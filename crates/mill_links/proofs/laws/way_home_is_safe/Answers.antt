use Rattle.mill_links.proofs.Going.{way_home_is_safe}
use Rattle.mill_links.proofs.laws.way_home_is_safe.Goals as goal

pub returns : goal.returns
returns c = way_home_is_safe
