use Rattle.std.proofs.Common.{◌≡◌, sym, ◌∙◌, arith}
use Rattle.mill_cells.proofs.WalkLemmas.{all_given}
use Rattle.mill_cells.proofs.walk.Walk.next.Goals as goal

pub returns-then-self-clause-first : goal.returns-then-self-clause-first
returns-then-self-clause-first c =
    let w = c.next_in_cell.new.self in
    let none = c.in_default.ensures.first in
    let last : w.entered ≡ w.cells = omega arith in
    let e = all_given w none.1 last in
    (sym (none.0 ∙ c.loop-number.invariant.rest) ∙ e, e)
