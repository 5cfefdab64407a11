use Rattle.mill_verify.proofs.Plain.{plain_is_plain}
use Rattle.mill_verify.proofs.laws.plain_is_plain.Goals as goal

pub returns : goal.returns
returns c = plain_is_plain
