use Rattle.mill_verify.proofs.UniqueFiles.{alone_is_verdict}
use Rattle.mill_verify.proofs.laws.alone_is_verdict.Goals as goal

pub returns : goal.returns
returns c = alone_is_verdict
