use Rattle.mill_verify.proofs.UniqueFiles.{one_list_verdict}
use Rattle.mill_verify.proofs.laws.one_list_verdict.Goals as goal

pub returns : goal.returns
returns c = one_list_verdict
