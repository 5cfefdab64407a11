use Rattle.mill_verify.proofs.Between.{between_is_safe}
use Rattle.mill_verify.proofs.laws.between_is_safe.Goals as goal

pub returns : goal.returns
returns c = between_is_safe
