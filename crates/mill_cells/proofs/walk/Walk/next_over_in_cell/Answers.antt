use Rattle.std.proofs.Common.{◌≡◌, ℕ, sym, subst, ◌∙◌, arith, w32, to_z, of_z}
use Rattle.std.proofs.lemmas.Int.{to_z-of_z}
use Rattle.std.proofs.lemmas.List.{get_or_read}
use lib.IntN.{ℤ}
use Rattle.mill_cells.specs.Boxes.{box_at}
use Rattle.mill_cells.specs.Frames.{block_of}
use Rattle.mill_cells.specs.inner.Passed.{ArePassed, IsNext}
use Rattle.mill_cells.specs.Walks.{begins_at, is_first_cell, rest_of}
use Rattle.mill_cells.proofs.OverLemmas.{over_in_starts, over_found, over_left}
use Rattle.mill_cells.proofs.WalkLemmas.{stepped, step_walks, first_tells}
use Rattle.mill_cells.proofs.walk.Walk.next_over_in_cell.Goals as goal

pub loop-self-init : goal.loop-self-init
loop-self-init c = over_in_starts _ c.args.self.now c.requires

pub gives_over-requires-clause-first : goal.gives_over-requires-clause-first
gives_over-requires-clause-first c =
    let w = c.loop-self.self in
    let h = c.loop-self.invariant in
    let e = get_or_read w.grid.now.entries.items w.place c.index-number.result.now (omega (arith, c.loop-self-test.true, h.walk.room)) c.index-number.ensures 0 in
    let b = w.grid.now.boxes.items in
    subst (λ (i : ℕ). begins_at w.west w.south (box_at b i) ≡ is_first_cell (block_of w.grid.now.frame w.area) (block_of w.grid.now.frame (box_at b i)) w.column w.row) (sym e) (first_tells w h.walk c.loop-self-test.true)

pub returns-then-gives_over-clause-walk : goal.returns-then-gives_over-clause-walk
returns-then-gives_over-clause-walk c = step_walks c.loop-self.self c.loop-self-test.true c.loop-self.invariant.walk

pub returns-then-gives_over-clause-over : goal.returns-then-gives_over-clause-over
returns-then-gives_over-clause-over c =
    let w = c.loop-self.self in
    let h = c.loop-self.invariant in
    let old = c.args.self.now in
    let e = get_or_read w.grid.now.entries.items w.place c.index-number.result.now (omega (arith, c.loop-self-test.true, h.walk.room)) c.index-number.ensures 0 in
    subst (λ (z : ℤ). IsNext old.grid.now.tops.items z (rest_of old) c.index-number.result.now (rest_of (stepped w))) (to_z-of_z w32 c.args.height c.ranges.height)
    (over_found old w (to_z w32 (of_z w32 c.args.height)) c.index-number.result.now h c.loop-self-test.true e (sym c.gives_over.ensures ∙ c.if-gives_over.true))

pub loop-self-preserved : goal.loop-self-preserved
loop-self-preserved c =
    let w = c.loop-self.self in
    let h = c.loop-self.invariant in
    let e = get_or_read w.grid.now.entries.items w.place c.index-number.result.now (omega (arith, c.loop-self-test.true, h.walk.room)) c.index-number.ensures 0 in
    over_left c.args.self.now w (to_z w32 (of_z w32 c.args.height)) c.index-number.result.now h c.loop-self-test.true e (sym c.gives_over.ensures ∙ c.if-gives_over.false)

pub returns-clause-over : goal.returns-clause-over
returns-clause-over c =
    let h = c.loop-self.invariant in
    let old = c.args.self.now in (
      subst (λ (z : ℤ). ArePassed old.grid.now.tops.items z (rest_of old) (rest_of c.loop-self.self)) (to_z-of_z w32 c.args.height c.ranges.height) h.passed,
      omega (arith, h.walk.order, c.loop-self-test.false),
    )
