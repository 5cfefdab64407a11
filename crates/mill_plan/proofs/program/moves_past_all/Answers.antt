use Rattle.std.proofs.Common.{◌≡◌, ◌∙◌}
use Rattle.mill_obstacles.specs.Faces.{obstacles_of}
use Rattle.mill_plan.proofs.Past.{fault_is, low_is, part_alone, plan_is, safe_is}
use Rattle.mill_plan.proofs.program.moves_past_all.Goals as goal

pub planned_moves-requires-clause-under : goal.planned_moves-requires-clause-under
planned_moves-requires-clause-under g c =
    let job = c.args.job.now.fields in
    let alone : c.args.part.now ≡ obstacles_of job c.args.part.now = part_alone job c.args.part.now c.fixtures.result.now c.is_empty.result c.fixtures.ensures.list c.is_empty.ensures c.if-is_empty.true in
    low_is job c.args.part.now c.args.part.now alone c.args.job.now.is_job c.requires.under

pub returns-then-is_empty-clause-plan : goal.returns-then-is_empty-clause-plan
returns-then-is_empty-clause-plan g c =
    let job = c.args.job.now.fields in
    let alone : c.args.part.now ≡ obstacles_of job c.args.part.now = part_alone job c.args.part.now c.fixtures.result.now c.is_empty.result c.fixtures.ensures.list c.is_empty.ensures c.if-is_empty.true in
    plan_is job c.args.part.now c.args.part.now alone c.planned_moves.result c.planned_moves.ensures.plan

pub returns-then-is_empty-clause-safe : goal.returns-then-is_empty-clause-safe
returns-then-is_empty-clause-safe g c =
    let job = c.args.job.now.fields in
    let alone : c.args.part.now ≡ obstacles_of job c.args.part.now = part_alone job c.args.part.now c.fixtures.result.now c.is_empty.result c.fixtures.ensures.list c.is_empty.ensures c.if-is_empty.true in
    safe_is job c.args.part.now c.args.part.now alone c.planned_moves.result c.planned_moves.ensures.safe

pub returns-then-is_empty-clause-fault : goal.returns-then-is_empty-clause-fault
returns-then-is_empty-clause-fault g c =
    let job = c.args.job.now.fields in
    let alone : c.args.part.now ≡ obstacles_of job c.args.part.now = part_alone job c.args.part.now c.fixtures.result.now c.is_empty.result c.fixtures.ensures.list c.is_empty.ensures c.if-is_empty.true in
    fault_is job c.args.part.now c.args.part.now alone c.planned_moves.result c.planned_moves.ensures.fault

pub planned_moves-requires-2-clause-under : goal.planned_moves-requires-2-clause-under
planned_moves-requires-2-clause-under g c =
    low_is c.args.job.now.fields c.args.part.now _ (c.in_ok-all-2.ensures ∙ rw c.part.ensures at c.in_ok-all.ensures) c.args.job.now.is_job c.requires.under

pub returns-clause-plan : goal.returns-clause-plan
returns-clause-plan g c =
    plan_is c.args.job.now.fields c.args.part.now _ (c.in_ok-all-2.ensures ∙ rw c.part.ensures at c.in_ok-all.ensures) c.planned_moves-2.result c.planned_moves-2.ensures.plan

pub returns-clause-safe : goal.returns-clause-safe
returns-clause-safe g c =
    safe_is c.args.job.now.fields c.args.part.now _ (c.in_ok-all-2.ensures ∙ rw c.part.ensures at c.in_ok-all.ensures) c.planned_moves-2.result c.planned_moves-2.ensures.safe

pub returns-clause-fault : goal.returns-clause-fault
returns-clause-fault g c =
    fault_is c.args.job.now.fields c.args.part.now _ (c.in_ok-all-2.ensures ∙ rw c.part.ensures at c.in_ok-all.ensures) c.planned_moves-2.result c.planned_moves-2.ensures.fault
