use Rattle.mill_gouge.proofs.Rooms.{hundredths_have_room}
use Rattle.mill_gouge.proofs.laws.hundredths_have_room.Goals as goal

pub returns : goal.returns
returns c = hundredths_have_room
