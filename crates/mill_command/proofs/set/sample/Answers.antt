use Rattle.std.proofs.lemmas.Result.{IfOk-weaker}
use Rattle.mill_command.proofs.set.sample.Goals as goal

pub returns : goal.returns
returns c = IfOk-weaker c.with_arg-2.result _ _ (λ r h. h _ _ (c.in_ok-command.ensures _ _ c.command-command.ensures c.workers.ensures.0) c.size.ensures.0) c.with_arg-2.ensures
