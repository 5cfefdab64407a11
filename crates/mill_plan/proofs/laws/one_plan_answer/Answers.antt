use Rattle.mill_plan.proofs.Answering.{one_plan_answer}
use Rattle.mill_plan.proofs.laws.one_plan_answer.Goals as goal

pub returns : goal.returns
returns c = one_plan_answer c.one_plan.ensures c.one_verdict.ensures
