use Rattle.std.proofs.Common.{ap, ◌∙◌, arith, rules}
use mir.Syntax.{w32}
use Rattle.mill_base.proofs.Machine.{stored}
use Rattle.std.proofs.lemmas.List.{get_or_read}
use Rattle.mill_cells.proofs.WalkLemmas.{cell_is, enter_walks, enter_rest}
use Rattle.mill_cells.specs.Walks.{rest_of}
use Rattle.mill_cells.proofs.Borders.{border_stored}
use Rattle.mill_cells.proofs.FrameLemmas.{column_room, row_room}
use Rattle.mill_cells.proofs.walk.Walk.enter.Goals as goal

pub border-self-requires-clause-room : goal.border-self-requires-clause-room
border-self-requires-clause-room c = column_room c.args.self.now.grid.now.frame _ c.requires.walk.grid.frame (cell_is c.args.self.now c.requires.walk c.requires.more).2

pub border-self-requires-2-clause-room : goal.border-self-requires-2-clause-room
border-self-requires-2-clause-room c = row_room c.args.self.now.grid.now.frame _ c.requires.walk.grid.frame (cell_is c.args.self.now c.requires.walk c.requires.more).3

pub pass-requires-clause-walk : goal.pass-requires-clause-walk
pass-requires-clause-walk c =
    let w = c.args.self.now in
    let cell = c.next_cell-cell.result in
    let within = c.next_cell-cell.ensures.bound in
    let x = border_stored c.border-self.result w.grid.now.frame.bounds.x0 _ _ _ (search rules) c.requires.walk.grid.frame.bounds.x0_ok c.border-self.ensures in
    let y = border_stored c.border-self-2.result w.grid.now.frame.bounds.y0 _ _ _ (search rules) c.requires.walk.grid.frame.bounds.y0_ok c.border-self-2.ensures in
    enter_walks w cell c.index.result.now c.index-2.result.now (stored w32 c.border-self.result) (stored w32 c.border-self-2.result) c.requires.walk c.requires.more c.next_cell-cell.ensures.value within x y
    (get_or_read w.grid.now.starts.items _ _ (omega (arith, within, c.requires.walk.grid.long)) c.index.ensures 0)
    (get_or_read w.grid.now.starts.items _ _ (omega (arith, within, c.requires.walk.grid.long)) c.index-2.ensures 0)

pub returns-clause-rest : goal.returns-clause-rest
returns-clause-rest c =
    let w = c.args.self.now in
    let cell = c.next_cell-cell.result in
    let within = c.next_cell-cell.ensures.bound in
    ap rest_of c.pass.ensures.moved
    ∙ enter_rest w cell c.index.result.now c.index-2.result.now (stored w32 c.border-self.result) (stored w32 c.border-self-2.result) c.pass.new.self.next_column c.pass.new.self.next_row c.requires.walk c.requires.more c.requires.done c.next_cell-cell.ensures.value within
    (get_or_read w.grid.now.starts.items _ _ (omega (arith, within, c.requires.walk.grid.long)) c.index.ensures 0)
    (get_or_read w.grid.now.starts.items _ _ (omega (arith, within, c.requires.walk.grid.long)) c.index-2.ensures 0)
