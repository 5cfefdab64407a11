-- By the lemma.
use Rattle.mill_level.proofs.Apart.{joins_are_apart}
use Rattle.mill_level.proofs.OneWaterline.{one_waterline}
use Rattle.mill_level.proofs.laws.one_waterline.Goals as goal

pub returns : goal.returns
returns c = one_waterline joins_are_apart
