use Rattle.std.proofs.Common.{◌≡◌, ◌∙◌, ℕ, rules, sym, subst, true≢false}
use Rattle.std.specs.Prelude.{pos}
use mir.Syntax.{w32}
use mir.Val.{of_z, to_z}
use Rattle.mill_base.specs.declared.tool.Tool.{Tool}
use Rattle.mill_gouge.specs.Lifts.{HasRoom, IsLeastLift}
use Rattle.mill_report_run.proofs.lifts.move_lift.Goals as goal

pub least_units-requires-clause-room_ok : goal.least_units-requires-clause-room_ok
least_units-requires-clause-room_ok c = rw c.part.ensures at (c.has_room.ensures.0 c.if-not-has_room.false)

pub returns-then-not-has_room : goal.returns-then-not-has_room
returns-then-not-has_room c = λ room.
    let same = subst (λ (tool : Tool). HasRoom tool c.args.part.now c.args.step.now) (sym c.part_tool-tool.ensures) room in
    true≢false (sym (c.has_room.ensures.1 (rw c.part.ensures same)) ∙ c.if-not-has_room.true)

pub returns : goal.returns
returns c =
    let units = to_z w32 (of_z w32 c.least_units.result) in
    let least : (n : ℕ) × (units ≡ pos n) × IsLeastLift c.part_tool-tool.result c.args.part.now c.args.step.now n = search rules in
    subst (λ (tool : Tool). HasRoom tool c.args.part.now c.args.step.now × ((n : ℕ) × (units ≡ pos n) × IsLeastLift tool c.args.part.now c.args.step.now n)) c.part_tool-tool.ensures
    (rw c.part.ensures at (c.has_room.ensures.0 c.if-not-has_room.false), least)
