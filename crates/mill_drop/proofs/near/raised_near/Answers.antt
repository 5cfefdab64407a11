use Rattle.std.proofs.Common.{FitsSigned, rules, to_z}
use Rattle.std.proofs.lemmas.List.Elements.{Contains-get_or}
use mir.Syntax.{w32}
use Rattle.std.proofs.lemmas.Int.{to_z-of_z}
use Rattle.mill_drop.proofs.Dropping.{no_tri, raise_starts, next_within, raise_goes_on, raise_ends}
use Rattle.mill_drop.proofs.Stored.{tip_stored}
use Rattle.mill_drop.proofs.near.raised_near.Goals as goal

pub loop-number-init : goal.loop-number-init
loop-number-init c =
    let from = tip_stored c.args.from c.requires.from_ok in
    rw (from, c.tris-tris.ensures.list, c.part.ensures) (raise_starts c.args.spindle.cutter c.args.part.now no_tri c.args.area c.args.spindle.x c.args.spindle.y c.args.from c.cells.result.now c.near_rising-near.result
    c.requires.from_ok c.cells.ensures c.near_rising-near.ensures.tops c.near_rising-near.ensures.each)

pub loop-number-smaller : goal.loop-number-smaller
loop-number-smaller c = c.in-Some.ensures.shorter

pub bounds-tris-number : goal.bounds-tris-number
bounds-tris-number c = next_within c.args.spindle.cutter c.tris-tris.result.now no_tri _ _ _ _ c.loop-number.near c.next_over.new.self c.in-Some.number _ _ c.in-Some.ensures c.loop-number.invariant

pub raised-height-requires-clause-tri_ok : goal.raised-height-requires-clause-tri_ok
raised-height-requires-clause-tri_ok c =
    let inside = next_within c.args.spindle.cutter c.tris-tris.result.now no_tri _ _ _ _ c.loop-number.near c.next_over.new.self c.in-Some.number _ _ c.in-Some.ensures c.loop-number.invariant in
    c.tris-tris.ensures.in_range _ (rw (← c.tris-tris.ensures.list) (Contains-get_or _ _ _ inside))

pub loop-number-preserved : goal.loop-number-preserved
loop-number-preserved c =
    let fits : FitsSigned w32 c.raised-height.result = search rules in
    let stored = to_z-of_z w32 c.raised-height.result fits in
    rw stored (raise_goes_on c.args.spindle.cutter c.tris-tris.result.now no_tri c.args.area c.args.spindle.x c.args.spindle.y _ c.loop-number.near c.next_over.new.self c.in-Some.number (to_z w32 c.loop-number.height-bits) c.raised-height.result
    c.requires.spindle_ok.cutter_ok c.in-Some.ensures c.loop-number.invariant c.raised-height.ensures.kept c.raised-height.ensures.bound c.raised-height.ensures.free c.raised-height.ensures.least)

pub returns-clause-raised : goal.returns-clause-raised
returns-clause-raised c =
    let from = tip_stored c.args.from c.requires.from_ok in
    let before = rw (from, c.tris-tris.ensures.list, c.part.ensures) at c.loop-number.invariant in
    before.raised

pub returns-clause-free : goal.returns-clause-free
returns-clause-free c =
    let before = rw (c.tris-tris.ensures.list, c.part.ensures) at c.loop-number.invariant in
    raise_ends c.args.spindle.cutter c.args.part.now no_tri c.args.area c.args.spindle.x c.args.spindle.y _ c.loop-number.near c.next_over.new.self _ c.requires.spindle_ok.cutter_ok c.in_default.ensures before
