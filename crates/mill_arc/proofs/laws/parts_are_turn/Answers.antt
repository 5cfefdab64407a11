use Rattle.mill_arc.proofs.Evenness.{parts_are_turn}
use Rattle.mill_arc.proofs.laws.parts_are_turn.Goals as goal

pub returns : goal.returns
returns c = parts_are_turn
