use Rattle.mill_answer.proofs.OneJudgments.{one_judgment_of}
use Rattle.mill_answer.proofs.laws.one_judgment.Goals as goal

pub returns : goal.returns
returns c = one_judgment_of c.one_verdict.ensures
