use Rattle.mill_arc.proofs.Turning.{chords_are_turn}
use Rattle.mill_arc.proofs.laws.chords_are_turn.Goals as goal

pub returns : goal.returns
returns c = chords_are_turn
