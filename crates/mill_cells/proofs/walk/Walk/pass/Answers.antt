use Rattle.std.proofs.Common.{◌+◌, arith}
use Rattle.mill_cells.proofs.WalkLemmas.{walk_block, cell_is, next_along, next_above, moved_walks}
use Rattle.mill_cells.proofs.walk.Walk.pass.Goals as goal

pub overflow_add-self-then-self : goal.overflow_add-self-then-self
overflow_add-self-then-self c = omega (arith, (cell_is c.args.self.now c.requires.walk c.requires.more).0, (walk_block c.args.self.now c.requires.walk).low)

pub returns-then-self-clause-walk : goal.returns-then-self-clause-walk
returns-then-self-clause-walk c =
    let w = c.args.self.now in
    let h = c.requires.walk in
    moved_walks w w.block.first_column (w.next_row + 1) h c.requires.more (next_above w.block w.entered w.next_column w.next_row (walk_block w h) h.next_column h.next_row c.if-self.true)

pub returns-else-self-clause-walk : goal.returns-else-self-clause-walk
returns-else-self-clause-walk c =
    let w = c.args.self.now in
    let h = c.requires.walk in
    moved_walks w (w.next_column + 1) w.next_row h c.requires.more (next_along w.block w.entered w.next_column w.next_row (walk_block w h) h.next_column h.next_row c.if-self.false)
