use Rattle.std.proofs.Common.{subst, sym, ap, arith}
use Rattle.std.specs.Prelude.{nat_abs}
use Rattle.std.proofs.lemmas.Int.{to_z-of_z}
use mir.Syntax.{w32}
use Rattle.mill_cells.specs.Boxes.{IsBounds}
use Rattle.mill_cells.proofs.BoxLemmas.{bounds_ok}
use Rattle.mill_cells.proofs.SizeLemmas.{frame_is, boxes_inside}
use Rattle.std.proofs.lemmas.Grind.{common_steps}
use Rattle.mill_cells.proofs.cells.Cells.new.Goals as goal

pub over-frame-requires-clause-bounds : goal.over-frame-requires-clause-bounds
over-frame-requires-clause-bounds c = subst IsBounds (sym c.bounds.ensures) (bounds_ok c.args.tris.now c.requires.in_range)

pub sorted-requires-clause-frame : goal.sorted-requires-clause-frame
sorted-requires-clause-frame c =
    frame_is c.args.tris.now c.over-frame.result c.bounds.result _ c.args.size c.requires.in_range c.bounds.ensures c.over-frame.ensures (ap nat_abs (to_z-of_z w32 c.args.size c.ranges.size)) c.requires.size

pub sorted-requires-clause-inside : goal.sorted-requires-clause-inside
sorted-requires-clause-inside c =
    boxes_inside c.args.tris.now c.over-frame.result c.bounds.result _ c.loop-tri.boxes.items c.loop-tri.tri-index c.requires.in_range c.bounds.ensures c.over-frame.ensures c.loop-tri-test.false c.loop-tri.invariant.boxes

pub loop-tri-preserved : goal.loop-tri-preserved
loop-tri-preserved c = record { boxes = grind (arith, common_steps); tops = grind (arith, common_steps) }
