use Rattle.mill_verify.proofs.Coming.{start_is_safe}
use Rattle.mill_verify.proofs.laws.start_is_safe.Goals as goal

pub returns : goal.returns
returns c = start_is_safe
