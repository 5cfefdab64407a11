use Rattle.std.proofs.Common.{List, refl, subst}
use Rattle.mill_answer.specs.Calls.{Call, call_of}
use Rattle.mill_base.specs.declared.points.Tri.{Tri}
use Rattle.mill_plan.specs.Plans.{IsPlanFault}
use Rattle.mill_run.proofs.Planning.{fault_shows}
use Rattle.mill_run.proofs.plan.tell_plan.Goals as goal

pub returns-clause-shown : goal.returns-clause-shown
returns-clause-shown g c =
    let setup = c.args.setup in
    let call : Call = call_of c.tell_plan_fault.result (g.S.Shelf.shows c.args.shelf.now) (g.S.Shelf.shows c.args.shelf.now) (g.O.Sink.shows c.args.out.now) (g.O.Sink.shows c.tell_plan_fault.new.out) in
    fault_shows setup c.args.name.now call c.in-Err.fault (subst (λ (part : List Tri). IsPlanFault setup.job.fields part c.in-Err.fault) c.in-Ok.ensures c.in-Err.ensures.fault) refl c.tell_plan_fault.ensures
