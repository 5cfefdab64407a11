use Rattle.std.proofs.lemmas.List.Elements.{Contains-get_or}
use Rattle.mill_push.proofs.Collecting.{collect_starts, next_within, goes_on_without, goes_on_with, collect_ends, collect_cost, no_cost}
use Rattle.mill_push.proofs.Cutting.{span_in_range, spans_in_range}
use Rattle.mill_push.proofs.Growing.{grown_by_one}
use Rattle.mill_push.proofs.Pushing.{height_stored}
use Rattle.mill_push.proofs.Stored.{stored}
use Rattle.mill_push.proofs.stretch.Pusher.stretches.Goals as goal

pub returns-in_err-known-clause-cost : goal.returns-in_err-known-clause-cost
returns-in_err-known-clause-cost g c = no_cost c.args.self c.args.part.now c.args.from c.args.to c.args.steps.now

pub loop-number-init : goal.loop-number-init
loop-number-init g c =
    let from = stored c.args.from c.requires.from_ok in
    let to = stored c.args.to c.requires.to_ok in
    let strip = rw (from, to) at c.strip.ensures in
    let each = rw strip at c.near_rising-near.ensures.each in
    rw (from, to, c.in_ok-known.ensures) (collect_starts c.args.self c.args.part.now c.args.from c.args.to c.cells.result.now c.near_rising-near.result c.args.steps.now c.cells.ensures c.near_rising-near.ensures.tops each c.near_rising-near.ensures.once)

pub bounds-tris-number : goal.bounds-tris-number
bounds-tris-number g c =
    let from = stored c.args.from c.requires.from_ok in
    let to = stored c.args.to c.requires.to_ok in
    let i = rw (from, to) at c.loop-number.invariant in
    rw (c.tris-tris.ensures.list, c.part.ensures) (next_within c.args.self c.args.part.now c.args.from c.args.to c.in-Some.ensures i)

pub new_stretch-requires-clause-tri_ok : goal.new_stretch-requires-clause-tri_ok
new_stretch-requires-clause-tri_ok g c =
    let from = stored c.args.from c.requires.from_ok in
    let to = stored c.args.to c.requires.to_ok in
    let i = rw (from, to) at c.loop-number.invariant in
    let inside = next_within c.args.self c.args.part.now c.args.from c.args.to c.in-Some.ensures i in
    c.tris-tris.ensures.in_range _ (rw (c.tris-tris.ensures.list, c.part.ensures) (Contains-get_or c.args.part.now c.in-Some.number _ inside))

pub new_stretch-requires-clause-known : goal.new_stretch-requires-clause-known
new_stretch-requires-clause-known g c =
    let from = stored c.args.from c.requires.from_ok in
    let to = stored c.args.to c.requires.to_ok in
    let i = rw (from, to) at c.loop-number.invariant in
    rw (from, to) i.spans

pub loop-number-preserved-in_default-new_stretch : goal.loop-number-preserved-in_default-new_stretch
loop-number-preserved-in_default-new_stretch g c =
    let from = stored c.args.from c.requires.from_ok in
    let to = stored c.args.to c.requires.to_ok in
    let i = rw (from, to) at c.loop-number.invariant in
    let comes = rw (height_stored c.args.self.fiber c.requires.self_ok.fiber_ok) at c.in-Some.ensures in
    let known = rw (from, to, c.tris-tris.ensures.list, c.part.ensures) at c.in_default-new_stretch.ensures.stretch in
    let cost = rw (from, to) at c.in_default-new_stretch.ensures.cost in
    rw (from, to) (goes_on_without c.args.self c.args.part.now c.args.from c.args.to c.requires.self_ok comes i known cost)

pub add-requires-clause-runs_ok : goal.add-requires-clause-runs_ok
add-requires-clause-runs_ok g c =
    let from = stored c.args.from c.requires.from_ok in
    let to = stored c.args.to c.requires.to_ok in
    let i = rw (from, to) at c.loop-number.invariant in
    spans_in_range c.args.from c.args.to c.loop-number.known.runs.items c.requires.from_ok c.requires.to_ok i.spans

pub add-requires-clause-stretch_ok : goal.add-requires-clause-stretch_ok
add-requires-clause-stretch_ok g c =
    let from = stored c.args.from c.requires.from_ok in
    let to = stored c.args.to c.requires.to_ok in
    let stretch = rw (from, to) at c.in-Some-new_stretch.ensures.stretch in
    span_in_range c.args.from c.args.to _ c.requires.from_ok c.requires.to_ok stretch.span

pub loop-number-preserved : goal.loop-number-preserved
loop-number-preserved g c =
    let from = stored c.args.from c.requires.from_ok in
    let to = stored c.args.to c.requires.to_ok in
    let i = rw (from, to) at c.loop-number.invariant in
    let comes = rw (height_stored c.args.self.fiber c.requires.self_ok.fiber_ok) at c.in-Some.ensures in
    let stretch = rw (from, to, c.tris-tris.ensures.list, c.part.ensures) at c.in-Some-new_stretch.ensures.stretch in
    let cost = rw (from, to) at c.in-Some-new_stretch.ensures.cost in
    rw (from, to) (goes_on_with c.args.self c.args.part.now c.args.from c.args.to c.requires.self_ok comes i stretch c.in_ok-add.ensures cost)

pub returns-in_err-add-clause-cost : goal.returns-in_err-add-clause-cost
returns-in_err-add-clause-cost g c =
    let from = stored c.args.from c.requires.from_ok in
    let to = stored c.args.to c.requires.to_ok in
    let i = rw (from, to) at c.loop-number.invariant in
    let comes = rw (height_stored c.args.self.fiber c.requires.self_ok.fiber_ok) at c.in-Some.ensures in
    let stretch = rw (from, to, c.tris-tris.ensures.list, c.part.ensures) at c.in-Some-new_stretch.ensures.stretch in
    let cost = rw (from, to) at c.in-Some-new_stretch.ensures.cost in
    collect_cost c.args.self c.args.part.now c.args.from c.args.to (goes_on_with c.args.self c.args.part.now c.args.from c.args.to c.requires.self_ok comes i stretch (grown_by_one c.loop-number.known.runs.items _) cost)

pub returns-clause-stretches : goal.returns-clause-stretches
returns-clause-stretches g c =
    let from = stored c.args.from c.requires.from_ok in
    let to = stored c.args.to c.requires.to_ok in
    let i = rw (from, to) at c.loop-number.invariant in
    let none = rw (height_stored c.args.self.fiber c.requires.self_ok.fiber_ok) at c.in_default.ensures in
    collect_ends c.args.self c.args.part.now c.args.from c.args.to c.requires.self_ok c.requires.reach_ok none i

pub returns-clause-cost : goal.returns-clause-cost
returns-clause-cost g c =
    let from = stored c.args.from c.requires.from_ok in
    let to = stored c.args.to c.requires.to_ok in
    let i = rw (from, to) at c.loop-number.invariant in
    collect_cost c.args.self c.args.part.now c.args.from c.args.to i
