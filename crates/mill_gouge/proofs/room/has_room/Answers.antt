use Rattle.std.proofs.Common.{◌∙◌, rules, w32}
use Rattle.std.proofs.lemmas.Int.{to_z-of_z}
use Rattle.mill_gouge.specs.Lifts.{ceiling_of}
use Rattle.mill_gouge.proofs.Rooms.{room_told}
use Rattle.mill_gouge.proofs.room.has_room.Goals as goal

pub returns-in-Some : goal.returns-in-Some
returns-in-Some c =
    room_told c.args.part.now c.in-Some.top (ceiling_of c.args.tool.now c.args.step.now) _ _ (to_z-of_z w32 c.in-Some.top (search rules)) (to_z-of_z w32 c.ceiling.result (search rules) ∙ c.ceiling.ensures)
    c.in-Some.ensures.greatest
