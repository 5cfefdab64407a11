use Rattle.std.proofs.lemmas.Result.{IfOk-weaker}
use Rattle.mill_command.proofs.set.with_job.Goals as goal

pub returns : goal.returns
returns c = IfOk-weaker c.with_arg-2.result _ _ (λ r h. h _ _ (c.in_ok-command.ensures _ _ c.command.ensures c.workers.ensures.0) c.place.ensures.rule.0) c.with_arg-2.ensures
