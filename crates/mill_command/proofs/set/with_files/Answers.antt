use Rattle.std.proofs.lemmas.Result.{IfOk-weaker}
use Rattle.mill_command.proofs.set.with_files.Goals as goal

pub returns : goal.returns
returns c = IfOk-weaker c.with_arg.result _ _ (λ r h. h _ _ c.in_ok-command.ensures c.place.ensures.rule.0) c.with_arg.ensures
