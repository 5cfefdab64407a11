use Rattle.std.proofs.Common.{rules, w32}
use Rattle.std.proofs.lemmas.Int.{to_z-of_z}
use Rattle.std.proofs.lemmas.Result.{IfOk-weaker}
use Rattle.mill_push.specs.Touches.{lifted}
use Rattle.mill_push.proofs.BothSolids.{stretches_lifted, stretches_over, touches_none}
use Rattle.mill_push.proofs.Stored.{stored}
use Rattle.mill_push.proofs.solids.solid_stretches.Goals as goal

pub returns-then-is_over_all-clause-stretches : goal.returns-then-is_over_all-clause-stretches
returns-then-is_over_all-clause-stretches g c =
    let solid = c.args.solid in
    let fiber = lifted solid c.args.fiber in
    let z = to_z-of_z w32 c.lift-fiber.result.z (search rules) in
    let under = rw (z, c.lift-fiber.ensures.value, c.part.ensures) at c.is_over_all.ensures.yes c.if-is_over_all.true in
    let ok = rw c.cutter-cutter.ensures.value at c.cutter-cutter.ensures.in_range in
    rw c.new.ensures.items (stretches_lifted solid c.args.part.now c.args.fiber c.args.from c.args.to _ (stretches_over solid.cutter c.args.part.now fiber c.args.from c.args.to ok under))

pub returns-then-is_over_all-clause-cost : goal.returns-then-is_over_all-clause-cost
returns-then-is_over_all-clause-cost g c = touches_none c.args.solid.cutter c.args.part.now (lifted c.args.solid c.args.fiber) c.args.from c.args.to c.args.steps.now

pub returns-clause-stretches : goal.returns-clause-stretches
returns-clause-stretches g c =
    let from = stored c.args.from c.requires.from_ok in
    let to = stored c.args.to c.requires.to_ok in
    let own = rw (from, to, c.cutter-cutter.ensures.value, c.lift-fiber.ensures.value) at c.stretches.ensures.stretches in
    IfOk-weaker c.stretches.result _ _ (λ runs. stretches_lifted c.args.solid c.args.part.now c.args.fiber c.args.from c.args.to runs.items) own

pub returns-clause-cost : goal.returns-clause-cost
returns-clause-cost g c =
    let from = stored c.args.from c.requires.from_ok in
    let to = stored c.args.to c.requires.to_ok in
    rw (from, to, c.cutter-cutter.ensures.value, c.lift-fiber.ensures.value) at c.stretches.ensures.cost
