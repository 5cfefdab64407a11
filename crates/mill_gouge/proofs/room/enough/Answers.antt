use Rattle.std.proofs.Common.{◌∙◌, rules, w32}
use Rattle.std.proofs.lemmas.Int.{to_z-of_z}
use Rattle.mill_gouge.specs.Lifts.{lowest_tip_of}
use Rattle.mill_gouge.proofs.Rooms.{climbs_over, climbs_within}
use Rattle.mill_gouge.proofs.room.enough.Goals as goal

pub returns-in-Some-clause-over : goal.returns-in-Some-clause-over
returns-in-Some-clause-over c =
    climbs_over c.args.part.now c.in-Some.top (lowest_tip_of c.args.tool.now c.args.step.now) _ _ c.climb.result (to_z-of_z w32 c.in-Some.top (search rules)) (to_z-of_z w32 c.lowest_tip.result (search rules) ∙ c.lowest_tip.ensures)
    c.in-Some.ensures.greatest c.climb.ensures.reaches

pub returns-in-Some-clause-bound : goal.returns-in-Some-clause-bound
returns-in-Some-clause-bound c =
    climbs_within c.args.tool.now c.args.part.now c.args.step.now c.in-Some.top _ _ c.climb.result (to_z-of_z w32 c.in-Some.top (search rules)) (to_z-of_z w32 c.lowest_tip.result (search rules) ∙ c.lowest_tip.ensures)
    c.in-Some.ensures.greatest c.requires.move_ok c.requires.room_ok c.climb.ensures.least
