use Rattle.std.proofs.Common.{subst, arith}
use Rattle.std.proofs.lemmas.List.{take_all}
use Rattle.std.specs.List.{AllZip}
use Rattle.std.specs.Prelude.{List}
use Rattle.mill_report_run.proofs.LiftLemmas.{zip_more}
use Rattle.mill_report_run.specs.Reports.{IsLift}
use Rattle.mill_verify.specs.declared.verdict.Reason.{Reason}
use Rattle.mill_report_run.proofs.lifts.lifts_of.Goals as goal

pub loop-index-preserved : goal.loop-index-preserved
loop-index-preserved c =
    zip_more (IsLift c.args.job.now.fields c.args.part.now c.args.moves.now) c.args.found.now c.loop-index.lifts.items c.push.new.self.items c.loop-index.index _ c.lift_of-lift.result c.loop-index-test.true c.loop-index.invariant
    c.lift_of-lift.ensures c.in_ok-push.ensures.items

pub returns : goal.returns
returns c =
    subst (λ (found : List Reason). AllZip (IsLift c.args.job.now.fields c.args.part.now c.args.moves.now) found c.loop-index.lifts.items) (take_all c.loop-index.index c.args.found.now (omega arith)) c.loop-index.invariant
