use Rattle.std.proofs.Common.{sym, ◌∙◌, rules, w32}
use Rattle.std.proofs.lemmas.Int.{to_z-of_z}
use Rattle.mill_part_tests.proofs.NearTops.{top_starts, top_on, top_last, comes_within, top_comes}
use Rattle.mill_part_tests.proofs.cells.top_near.Goals as goal

pub loop-number-init : goal.loop-number-init
loop-number-init c = top_starts _ _ _ _ c.near_rising-near.ensures.tops c.near_rising-near.ensures.each

pub bounds-tris-number : goal.bounds-tris-number
bounds-tris-number c = comes_within _ _ _ _ _ _ _ c.requires c.in-Some.ensures c.loop-number.invariant

pub loop-number-preserved : goal.loop-number-preserved
loop-number-preserved c =
    let cells = c.args.cells.now in
    let tris = c.args.tris.now in
    let inside = comes_within tris cells c.args.area c.loop-number.near c.next_over.new.self c.in-Some.number _ c.requires c.in-Some.ensures c.loop-number.invariant in
    top_on cells c.args.area c.loop-number.near c.next_over.new.self c.in-Some.number _ _ c.in-Some.ensures
    (to_z-of_z w32 c.tri_top-top.result (search rules) ∙ (c.tri_top-top.ensures ∙ sym (top_comes tris cells c.in-Some.number _ c.requires inside))) c.loop-number.invariant

pub returns : goal.returns
returns c = top_last c.args.cells.now c.args.area c.loop-number.near c.next_over.new.self _ c.in_default.ensures c.loop-number.invariant
