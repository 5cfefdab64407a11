use Rattle.std.proofs.Common.{ap, sym, ◌∙◌, take}
use Rattle.std.specs.Prelude.{fold}
use Rattle.std.proofs.lemmas.List.{take_all}
use Rattle.std.proofs.lemmas.List.Sums.{fold_more}
use Rattle.mill_base.specs.declared.points.Box2.{Box2}
use Rattle.mill_base.specs.declared.points.Tri.{Tri}
use Rattle.mill_cells.specs.Boxes.{box_of, widened}
use Rattle.mill_cells.proofs.BoxLemmas.{no_tri, folded}
use Rattle.mill_cells.proofs.boxes.bounds.Goals as goal

pub loop-tri-preserved : goal.loop-tri-preserved
loop-tri-preserved c =
    let f = λ (b : Box2) (u : Tri). widened b (box_of u) in
    let more = fold_more f c.tri_box-bounds.result c.in-Some.others.now c.loop-tri.tri-index no_tri c.loop-tri-test.true in
    c.hull-bounds.ensures ∙ (ap (λ (b : Box2). widened b c.tri_box.result) c.loop-tri.invariant ∙ (ap (λ (b : Box2). widened (fold f c.tri_box-bounds.result (take c.loop-tri.tri-index c.in-Some.others.now)) b) c.tri_box.ensures ∙ sym more))

pub returns : goal.returns
returns c =
    let e = take_all c.loop-tri.tri-index c.in-Some.others.now c.loop-tri-test.false in
    folded c.args.tris.now c.in-Some.first.now c.in-Some.others.now c.in-Some.ensures.cases.0 c.tri_box-bounds.result c.loop-tri.bounds c.tri_box-bounds.ensures
    (rw e at c.loop-tri.invariant)
