use Rattle.std.specs.Prelude.{None, ◌<◌, List, length}
use Rattle.std.proofs.Common.{◌∙◌, refl, inl, inr, subst, sym, w32, to_z, of_z}
use Rattle.std.proofs.lemmas.Int.{to_z-of_z}
use Rattle.mill_base.specs.declared.points.Tri.{Tri}
use Rattle.mill_sweep.specs.Passing.{Passes}
use Rattle.mill_gouge.proofs.ReadLemmas.{at_tri}
use Rattle.mill_gouge.proofs.Looking.{look_starts, reach_each, next_within, tri_in_range, look_goes_on, look_ends}
use Rattle.mill_gouge.proofs.clear.passes_each.Goals as goal

pub loop-tri-init : goal.loop-tri-init
loop-tri-init c =
    look_starts c.args.sweep.now.cutter c.args.sweep.now.move c.args.part.now c.cells.result.now c.into_iter-tri-iterator.result c.args.area c.args.low c.requires (rw c.part.ensures at c.tris-tris.ensures.in_range) c.cells.ensures
    (reach_each c.cells.result.now c.near_over-tri-items.result c.into_iter-tri-iterator.result c.args.area (to_z w32 (of_z w32 c.args.low)) c.args.low
    c.into_iter-tri-iterator.ensures.into_iter_gives (to_z-of_z w32 c.args.low c.ranges.low) c.near_over-tri-items.ensures.each)

pub bounds-tris-tri : goal.bounds-tris-tri
bounds-tris-tri c =
    let list = c.tris-tris.ensures.list ∙ c.part.ensures in
    subst (λ (l : List Tri). c.in-Some.tri < length l) (sym list)
    (next_within c.args.sweep.now.cutter c.args.sweep.now.move c.args.part.now c.loop-tri.tri-iterator c.next.new.self c.in-Some.tri _ c.in-Some.ensures.steps c.loop-tri.invariant)

pub passes-requires : goal.passes-requires
passes-requires c =
    let list = c.tris-tris.ensures.list ∙ c.part.ensures in
    let inside = subst (λ (l : List Tri). c.in-Some.tri < length l) (sym list)
    (next_within c.args.sweep.now.cutter c.args.sweep.now.move c.args.part.now c.loop-tri.tri-iterator c.next.new.self c.in-Some.tri _ c.in-Some.ensures.steps c.loop-tri.invariant) in
    tri_in_range c.tris-tris.result.now c.args.part.now c.in-Some.tri _ list inside (rw c.part.ensures at c.tris-tris.ensures.in_range)

pub returns-then-not-passes : goal.returns-then-not-passes
returns-then-not-passes c =
    let list = c.tris-tris.ensures.list ∙ c.part.ensures in
    let cutter = c.args.sweep.now.cutter in
    let m = c.args.sweep.now.move in
    let part = c.args.part.now in
    let within = next_within cutter m part c.loop-tri.tri-iterator c.next.new.self c.in-Some.tri _ c.in-Some.ensures.steps c.loop-tri.invariant in
    let inside = subst (λ (l : List Tri). c.in-Some.tri < length l) (sym list) within in
    let fails = at_tri (λ t. ¬ Passes cutter m t) c.tris-tris.result.now part c.in-Some.tri _ list inside
    (c.passes.ensures.no c.if-not-passes.true) in
    (λ h. absurd (cc), λ all. absurd (fails (all c.in-Some.tri within)))

pub loop-tri-preserved : goal.loop-tri-preserved
loop-tri-preserved c =
    let list = c.tris-tris.ensures.list ∙ c.part.ensures in
    let cutter = c.args.sweep.now.cutter in
    let m = c.args.sweep.now.move in
    let part = c.args.part.now in
    let inside = subst (λ (l : List Tri). c.in-Some.tri < length l) (sym list)
    (next_within cutter m part c.loop-tri.tri-iterator c.next.new.self c.in-Some.tri _ c.in-Some.ensures.steps c.loop-tri.invariant) in
    look_goes_on cutter m part c.loop-tri.tri-iterator c.next.new.self c.in-Some.tri None None c.in-Some.ensures.steps c.loop-tri.invariant
    (inl (
      refl,
      inr (at_tri (λ t. Passes cutter m t) c.tris-tris.result.now part c.in-Some.tri _ list inside
          (c.passes.ensures.yes c.if-not-passes.false)),
    ))

pub returns : goal.returns
returns c =
    let clear = look_ends c.args.sweep.now.cutter c.args.sweep.now.move c.args.part.now c.loop-tri.tri-iterator None c.in-None.ensures.steps.0 c.loop-tri.invariant in
    (λ _. clear, λ _. refl)
