use Rattle.std.proofs.lemmas.Result.{IfOk-weaker}
use Rattle.mill_report_run.proofs.words.with_setup.Goals as goal

pub returns : goal.returns
returns c = IfOk-weaker c.with_arg-2.result _ _
    (λ r h. h _ _ (c.in_ok-command.ensures _ _ c.in_ok-with_workers.ensures c.place.ensures.rule.0) c.place-2.ensures.rule.0) c.with_arg-2.ensures
