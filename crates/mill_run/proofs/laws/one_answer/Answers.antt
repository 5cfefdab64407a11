use Rattle.mill_run.proofs.OneAnswers.{one_answer_of}
use Rattle.mill_run.proofs.laws.one_answer.Goals as goal

pub returns : goal.returns
returns c = one_answer_of c.one_judgment.ensures c.one_list_verdict.ensures c.one_plan_answer.ensures c.one_waterline.ensures
