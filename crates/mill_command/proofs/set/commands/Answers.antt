use Rattle.std.proofs.lemmas.Result.{IfOk-weaker}
use Rattle.mill_command.proofs.set.commands.Goals as goal

pub returns : goal.returns
returns c = IfOk-weaker c.with_others.result _ _
    (λ r h. h _ (c.in_ok-program-3.ensures _ (c.in_ok-program-2.ensures _ c.in_ok-program.ensures))) c.with_others.ensures
