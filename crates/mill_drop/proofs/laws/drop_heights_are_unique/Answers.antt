use Rattle.mill_drop.proofs.Uniqueness.{one_map}
use Rattle.mill_drop.proofs.laws.drop_heights_are_unique.Goals as goal

pub returns : goal.returns
returns c = one_map
