use Rattle.std.proofs.lemmas.Result.{IfOk-weaker}
use Rattle.mill_command.proofs.set.with_verdicts.Goals as goal

pub returns : goal.returns
returns c = IfOk-weaker c.with_command-2.result _ _
    (λ r h a is. h _ _ (c.in_ok-program.ensures _ _ is c.in_ok-verify.ensures) c.in_ok-rest.ensures) c.with_command-2.ensures
