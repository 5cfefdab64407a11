use Rattle.std.proofs.Common.{◌+◌, ◌≤ℤ◌, ℤ, sym, subst, get_or, take, take_all, rules, w32, to_z}
use Rattle.std.proofs.lemmas.Int.{to_z-of_z}
use Rattle.mill_cells.specs.Sorted.{top_at, AreUnder}
use Rattle.mill_cells.proofs.LidLemmas.{under_more}
use Rattle.mill_cells.proofs.lids.lid.Goals as goal

pub loop-number-preserved : goal.loop-number-preserved
loop-number-preserved c =
    let new = to_z-of_z w32 c.max-lid.result (search rules) in
    let top = top_at c.args.tops.now (get_or c.args.numbers.now c.loop-number.number-index 0) in
    let it : top ≤ℤ c.max-lid.result = rw (to_z-of_z w32 top (search rules)) at c.max-lid.ensures.other_bound in
    subst (λ (z : ℤ). AreUnder c.args.tops.now z (take (c.loop-number.number-index + 1) c.args.numbers.now)) (sym new)
    (under_more c.args.tops.now c.args.numbers.now c.loop-number.number-index 0 (to_z w32 c.loop-number.lid-bits) c.max-lid.result c.loop-number-test.true c.max-lid.ensures.self_bound it c.loop-number.invariant)

pub returns : goal.returns
returns c = subst (AreUnder c.args.tops.now (to_z w32 c.loop-number.lid-bits)) (take_all c.loop-number.number-index c.args.numbers.now c.loop-number-test.false) c.loop-number.invariant
