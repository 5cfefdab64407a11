use Rattle.mill_gouge.proofs.Rooms.{ceiling_stored}
use Rattle.mill_gouge.proofs.room.ceiling.Goals as goal

pub returns : goal.returns
returns c = ceiling_stored c.rise.result c.lowest.result _ _ c.rise.ensures.value c.lowest.ensures.value c.rise.ensures.least c.rise.ensures.most c.lowest.ensures.least c.lowest.ensures.most
