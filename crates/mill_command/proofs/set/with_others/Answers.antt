use Rattle.std.proofs.lemmas.Result.{IfOk-weaker}
use Rattle.mill_command.proofs.set.with_others.Goals as goal

pub returns : goal.returns
returns c = IfOk-weaker c.with_command-2.result _ _
    (λ r h a is. h _ _ (c.in_ok-program.ensures _ _ is c.in_ok-stock.ensures) c.in_ok-sample.ensures) c.with_command-2.ensures
