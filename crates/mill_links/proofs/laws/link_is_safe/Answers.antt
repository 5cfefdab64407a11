use Rattle.mill_links.proofs.Going.{link_is_safe}
use Rattle.mill_links.proofs.laws.link_is_safe.Goals as goal

pub returns : goal.returns
returns c = link_is_safe
