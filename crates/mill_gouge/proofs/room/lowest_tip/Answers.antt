use Rattle.mill_gouge.proofs.Rooms.{tip_stored}
use Rattle.mill_gouge.proofs.room.lowest_tip.Goals as goal

pub returns : goal.returns
returns c = tip_stored c.args.step.now c.low_end.result c.lowest.result _ c.low_end.ensures c.lowest.ensures.value c.requires c.lowest.ensures.least c.lowest.ensures.most
