use Rattle.mill_dexel.proofs.RunLaws.{left_cuts}
use Rattle.mill_dexel.proofs.row.Row.turn_on.Goals as goal

pub turn_after-requires-clause-last : goal.turn_after-requires-clause-last
turn_after-requires-clause-last c =
    left_cuts c.args.job.now.fields c.args.moves.now c.args.self.now c.args.t c.end_before.result c.requires.there c.requires.left c.end_before.ensures.first c.end_before.ensures.later
