use Rattle.mill_cells.proofs.WalkLemmas.{cell_is}
use Rattle.mill_cells.proofs.walk.Walk.next_cell.Goals as goal

pub returns-clause-bound : goal.returns-clause-bound
returns-clause-bound c = (cell_is c.args.self.now c.requires.walk c.requires.more).1
