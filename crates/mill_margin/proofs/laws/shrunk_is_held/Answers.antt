use Rattle.mill_margin.proofs.Nesting.{shrunk_is_held}
use Rattle.mill_margin.proofs.laws.shrunk_is_held.Goals as goal

pub returns : goal.returns
returns c = shrunk_is_held
