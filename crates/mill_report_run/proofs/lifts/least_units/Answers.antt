use Rattle.std.proofs.Common.{◌*◌, ◌≤◌, arith}
use Rattle.std.proofs.lemmas.Int.{ints}
use Rattle.mill_base.specs.declared.limits.TheConstants.{MAX_COORDINATE}
use Rattle.mill_report_run.proofs.LiftLemmas.{lift_small}
use Rattle.mill_report_run.proofs.lifts.least_units.Goals as goal

pub overflow_cast-result : goal.overflow_cast-result
overflow_cast-result c =
    let small : c.least_lift.result ≤ 2 * MAX_COORDINATE =
    lift_small c.over_part_passes.ensures c.passes_from_lift.ensures c.args.tool.now c.args.part.now c.args.step.now c.least_lift.result c.requires.step_ok c.requires.room_ok c.least_lift.ensures in
    omega arith

pub returns : goal.returns
returns c =
    let small : c.least_lift.result ≤ 2 * MAX_COORDINATE =
    lift_small c.over_part_passes.ensures c.passes_from_lift.ensures c.args.tool.now c.args.part.now c.args.step.now c.least_lift.result c.requires.step_ok c.requires.room_ok c.least_lift.ensures in
    (c.least_lift.result, omega (arith, ints), c.least_lift.ensures)
