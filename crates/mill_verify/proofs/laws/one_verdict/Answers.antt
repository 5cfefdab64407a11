use Rattle.mill_dexel.specs.Tops.{uncut}
use Rattle.mill_verify.proofs.Unique.{one_verdict}
use Rattle.mill_verify.proofs.laws.one_verdict.Goals as goal

pub returns : goal.returns
returns c = λ job part. one_verdict job part (uncut job)
