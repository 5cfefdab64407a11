use Rattle.std.proofs.lemmas.Result.{IfOk-weaker}
use Rattle.mill_command.proofs.set.with_programs.Goals as goal

pub returns : goal.returns
returns c = IfOk-weaker c.with_command.result _ _ (λ r h a is. h _ _ (c.in_ok-program.ensures _ is) c.in_ok-plan.ensures) c.with_command.ensures
