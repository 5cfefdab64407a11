use Rattle.std.proofs.Common.{◌≤ℤ◌, ℤ, pos, sym, subst, arith, rules, w32, to_z, of_z}
use Rattle.std.proofs.lemmas.Int.{to_z-of_z}
use Rattle.std.proofs.lemmas.List.{get_or_read}
use Rattle.mill_cells.specs.inner.Passed.{ArePassed}
use Rattle.mill_cells.specs.Walks.{rest_of}
use Rattle.mill_cells.specs.declared.walk.Walk.{Walk}
use Rattle.mill_cells.proofs.OverLemmas.{skip_passes, at_most}
use Rattle.mill_cells.proofs.PassedLemmas.{none_passed}
use Rattle.mill_cells.proofs.walk.Walk.enter_over.Goals as goal

pub returns-then-index-height-clause-rest : goal.returns-then-index-height-clause-rest
returns-then-index-height-clause-rest c =
    let w = c.args.self.now in
    let h = c.requires.walk in
    let lid = c.index.result.now in
    let e = get_or_read w.grid.now.lids.items c.next_cell.result lid (omega (arith, c.next_cell.ensures.bound, h.grid.lids_long)) c.index.ensures (pos 0) in
    let low = rw (to_z-of_z w32 c.args.height c.ranges.height, to_z-of_z w32 lid (search rules)) at (at_most (to_z w32 (of_z w32 lid)) (to_z w32 (of_z w32 c.args.height)) c.if-index-height.true) in
    subst (λ (v : Walk). ArePassed w.grid.now.tops.items c.args.height (rest_of w) (rest_of v)) (sym c.pass.ensures.moved)
    (skip_passes w c.args.height c.next_cell.result c.pass.new.self.next_column c.pass.new.self.next_row h c.requires.more c.requires.done c.next_cell.ensures.value c.next_cell.ensures.bound (subst (λ (z : ℤ). z ≤ℤ c.args.height) e low))

pub returns-else-index-height-clause-rest : goal.returns-else-index-height-clause-rest
returns-else-index-height-clause-rest c = none_passed c.args.self.now.grid.now.tops.items c.args.height (rest_of c.args.self.now) (rest_of c.enter.new.self) (sym c.enter.ensures.rest)
