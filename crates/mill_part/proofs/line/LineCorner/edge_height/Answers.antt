use Rattle.mill_part.proofs.EdgeLemmas.{turned_greatest}
use Rattle.mill_part.proofs.line.LineCorner.edge_height.Goals as goal

pub returns-then-self-other : goal.returns-then-self-other
returns-then-self-other c = turned_greatest c.args.self c.args.other c.rising_height.result c.rising_height.ensures
