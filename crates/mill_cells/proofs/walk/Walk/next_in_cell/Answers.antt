use Rattle.std.proofs.Common.{◌≡◌, ◌∷◌, ℕ, true, false, sym, subst, ap, ◌∙◌, arith}
use Rattle.std.proofs.lemmas.List.{get_or_read}
use Rattle.mill_cells.specs.Boxes.{box_at}
use Rattle.mill_cells.specs.Walks.{begins_at, is_first_cell, shows, rest_of}
use Rattle.mill_cells.specs.Frames.{block_of}
use Rattle.mill_cells.proofs.WalkLemmas.{stepped, step_walks, first_tells, gives_yes, gives_no}
use Rattle.mill_cells.proofs.walk.Walk.next_in_cell.Goals as goal

pub loop-self-preserved : goal.loop-self-preserved
loop-self-preserved c =
    let w = c.loop-self.self in
    let h = c.loop-self.invariant in
    let e = get_or_read w.grid.now.entries.items w.place c.index-number.result.now (omega (arith, c.loop-self-test.true, h.walk.room)) c.index-number.ensures 0 in
    let no = subst (λ (i : ℕ). shows w.grid.now.frame w.area w.column w.row (box_at w.grid.now.boxes.items i) ≡ false) e (sym c.gives.ensures ∙ c.if-gives.false) in
    record {
      walk = step_walks w c.loop-self-test.true h.walk;
      rest = gives_no w h.walk c.loop-self-test.true no ∙ h.rest;
      entered = h.entered;
      cells = h.cells;
    }

pub returns-then-gives-clause-first : goal.returns-then-gives-clause-first
returns-then-gives-clause-first c =
    let w = c.loop-self.self in
    let h = c.loop-self.invariant in
    let e = get_or_read w.grid.now.entries.items w.place c.index-number.result.now (omega (arith, c.loop-self-test.true, h.walk.room)) c.index-number.ensures 0 in
    let shown = subst (λ (i : ℕ). shows w.grid.now.frame w.area w.column w.row (box_at w.grid.now.boxes.items i) ≡ true) e (sym c.gives.ensures ∙ c.if-gives.true) in
    sym h.rest ∙ (gives_yes w h.walk c.loop-self-test.true shown ∙ ap (λ (i : ℕ). i ∷ rest_of (stepped w)) (sym e))

pub gives-requires-clause-first : goal.gives-requires-clause-first
gives-requires-clause-first c =
    let w = c.loop-self.self in
    let h = c.loop-self.invariant in
    let e = get_or_read w.grid.now.entries.items w.place c.index-number.result.now (omega (arith, c.loop-self-test.true, h.walk.room)) c.index-number.ensures 0 in
    let b = w.grid.now.boxes.items in
    subst (λ (i : ℕ). begins_at w.west w.south (box_at b i) ≡ is_first_cell (block_of w.grid.now.frame w.area) (block_of w.grid.now.frame (box_at b i)) w.column w.row) (sym e) (first_tells w h.walk c.loop-self-test.true)

pub returns-then-gives-clause-walk : goal.returns-then-gives-clause-walk
returns-then-gives-clause-walk c = step_walks c.loop-self.self c.loop-self-test.true c.loop-self.invariant.walk
