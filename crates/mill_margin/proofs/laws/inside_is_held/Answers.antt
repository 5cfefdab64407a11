use Rattle.mill_margin.proofs.Nesting.{inside_is_held}
use Rattle.mill_margin.proofs.laws.inside_is_held.Goals as goal

pub returns : goal.returns
returns c = inside_is_held
