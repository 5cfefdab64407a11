use Rattle.std.proofs.Common.{ℤ, [], subst, w32, to_z, of_z}
use Rattle.std.proofs.lemmas.Int.{to_z-of_z}
use Rattle.mill_cells.specs.inner.Passed.{ArePassed, IsNext}
use Rattle.mill_cells.specs.Walks.{rest_of}
use Rattle.mill_cells.proofs.OverLemmas.{next_over_found, next_over_none, over_on}
use Rattle.mill_cells.proofs.WalkLemmas.{all_given}
use Rattle.mill_cells.proofs.walk.Walk.next_over.Goals as goal

pub returns-in-Some-clause-over : goal.returns-in-Some-clause-over
returns-in-Some-clause-over c =
    let old = c.args.self.now in
    subst (λ (z : ℤ). IsNext old.grid.now.tops.items z (rest_of old) c.in-Some.number (rest_of c.next_over_in_cell.new.self)) (to_z-of_z w32 c.args.height c.ranges.height)
    (next_over_found old c.loop-number.self c.next_over_in_cell.new.self (to_z w32 (of_z w32 c.args.height)) c.in-Some.number c.loop-number.invariant c.in-Some.ensures.over)

pub returns-then-self-clause-over : goal.returns-then-self-clause-over
returns-then-self-clause-over c =
    let old = c.args.self.now in
    let w = c.next_over_in_cell.new.self in
    let none = c.in_default.ensures.over in
    let e = all_given w none.1 c.if-self.true in (
      subst (λ (z : ℤ). ArePassed old.grid.now.tops.items z (rest_of old) []) (to_z-of_z w32 c.args.height c.ranges.height)
          (next_over_none old c.loop-number.self w (to_z w32 (of_z w32 c.args.height)) c.loop-number.invariant none.0 e),
      e,
    )

pub loop-number-preserved : goal.loop-number-preserved
loop-number-preserved c =
    over_on c.args.self.now c.loop-number.self c.next_over_in_cell.new.self c.enter_over.new.self (to_z w32 (of_z w32 c.args.height)) c.loop-number.invariant c.in_default.ensures.over.0 c.in_default.ensures.tops
    c.enter_over.ensures.rest c.enter_over.ensures.tops c.enter_over.ensures.walk
