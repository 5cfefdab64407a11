use Rattle.mill_links.proofs.Going.{tour_is_safe}
use Rattle.mill_links.proofs.laws.tour_is_safe.Goals as goal

pub returns : goal.returns
returns c = tour_is_safe
