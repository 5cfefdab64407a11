use Rattle.std.proofs.Common.{List, subst}
use Rattle.mill_base.specs.declared.points.Tri.{Tri}
use Rattle.mill_plan.specs.Plans.{IsPlanFault}
use Rattle.mill_run.proofs.Samples.{fault_tries}
use Rattle.mill_run.proofs.sample.tell_sample.Goals as goal

pub returns : goal.returns
returns g c =
    let setup = c.args.setup in
    fault_tries c.args.size _ _ _ setup.job.fields setup.part c.in-Err.fault c.requires.setup_ok
    (subst (λ (part : List Tri). IsPlanFault setup.job.fields part c.in-Err.fault) c.in-Ok.ensures c.in-Err.ensures.fault) c.tell_plan_fault.ensures
