use Rattle.std.proofs.Common.{sym, subst}
use Rattle.mill_verify.specs.declared.verdict.Reason.{Reason}
use Rattle.mill_report.specs.inner.Steps.{FailsMove, FailsPart}
use Rattle.mill_report.specs.inner.Stops.{IsTold}
use Rattle.mill_report.proofs.Steps.{part_fails, stopped}
use Rattle.mill_report.proofs.step.finding_of.Goals as goal

pub returns-in-Some : goal.returns-in-Some
returns-in-Some c = λ stock told.
    subst (λ (r : Reason). FailsPart c.args.job.now.fields c.args.part.now c.args.step.now c.args.number r) (sym c.clash_reason.ensures)
    (part_fails c.failing_is_blocked.ensures c.args.job.now.fields c.args.step.now c.args.job.now.is_job c.requires.step_ok c.args.part.now c.args.number c.in-Some.clash c.in-Some.ensures)
    stock (c.is_over_floor.ensures.yes c.if-not-is_over_floor.false)

pub returns : goal.returns
returns c = λ stock told.
    subst (λ (r : Reason). FailsMove c.args.job.now.fields c.args.part.now stock c.args.step.now c.args.number r) (sym c.stock_reason.ensures)
    (stopped c.failing_is_blocked.ensures c.args.job.now.fields c.args.step.now c.args.job.now.is_job c.requires.step_ok c.args.part.now stock c.args.number
    (c.is_over_floor.ensures.yes c.if-not-is_over_floor.false) c.in_default.ensures c.in_ok-stop.stop (subst (IsTold c.args.job.now.fields stock c.args.step.now) c.in_ok-stop.was told))
