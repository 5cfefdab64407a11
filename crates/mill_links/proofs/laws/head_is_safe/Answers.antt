use Rattle.mill_links.proofs.Going.{head_is_safe}
use Rattle.mill_links.proofs.laws.head_is_safe.Goals as goal

pub returns : goal.returns
returns c = head_is_safe
