use Rattle.std.proofs.Common.{ℕ, ◌<◌, subst, sym, ap, ◌∙◌}
use Rattle.mill_base.specs.declared.points.Box2.{Box2}
use Rattle.mill_cells.specs.Boxes.{bounds_of, IsBounds, IsInside}
use Rattle.mill_cells.specs.Frames.{IsBlock}
use Rattle.mill_cells.specs.declared.frame.Frame.{Frame}
use Rattle.mill_cells.proofs.BoxLemmas.{bounds_ok}
use Rattle.mill_cells.proofs.FrameLemmas.{block_is}
use Rattle.mill_cells.proofs.SizeLemmas.{tri_inside}
use Rattle.mill_cells.proofs.size.fits.Goals as goal

pub over-frame-requires-clause-bounds : goal.over-frame-requires-clause-bounds
over-frame-requires-clause-bounds c = subst IsBounds (sym c.requires.bounds) (bounds_ok c.args.tris.now c.requires.in_range)

pub block-requires-clause-bounds : goal.block-requires-clause-bounds
block-requires-clause-bounds c =
    let e = ap (λ (f : Frame). f.bounds) c.over-frame.ensures ∙ c.requires.bounds in
    subst IsBounds (sym e) (bounds_ok c.args.tris.now c.requires.in_range)

pub block-requires-clause-area : goal.block-requires-clause-area
block-requires-clause-area c =
    let e = ap (λ (f : Frame). f.bounds) c.over-frame.ensures ∙ c.requires.bounds in
    subst (λ (b : Box2). IsInside b c.tri_box.result) (sym e)
    (subst (IsInside (bounds_of c.args.tris.now)) (sym c.tri_box.ensures) (tri_inside c.args.tris.now c.loop-tri.tri-index _ c.requires.in_range c.loop-tri-test.true))

pub cells-numbers-requires : goal.cells-numbers-requires
cells-numbers-requires c =
    let e = ap (λ (f : Frame). f.bounds) c.over-frame.ensures ∙ c.requires.bounds in
    let some = subst (λ (n : ℕ). 0 < n) (sym (ap (λ (f : Frame). f.size) c.over-frame.ensures)) c.requires.size in
    subst IsBlock (sym c.block.ensures)
    (block_is c.over-frame.result c.tri_box.result (subst IsBounds (sym e) (bounds_ok c.args.tris.now c.requires.in_range)) some
    (subst (λ (b : Box2). IsInside b c.tri_box.result) (sym e)
    (subst (IsInside (bounds_of c.args.tris.now)) (sym c.tri_box.ensures) (tri_inside c.args.tris.now c.loop-tri.tri-index _ c.requires.in_range c.loop-tri-test.true))))
