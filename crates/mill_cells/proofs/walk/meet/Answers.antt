use Rattle.std.proofs.Common.{rules, sym, ap, ◌∙◌, ◌&&◌}
use Rattle.mill_cells.specs.Walks.{do_overlap}
use Rattle.mill_cells.proofs.BoxLemmas.{overlap_stored}
use Rattle.mill_cells.proofs.walk.meet.Goals as goal

pub returns-then-overlap : goal.returns-then-overlap
returns-then-overlap c =
    let a = c.args.a in
    let b = c.args.b in
    let first = overlap_stored c.overlap.result a.x0 a.x1 b.x0 b.x1 (search rules) (search rules) (search rules) (search rules) c.overlap.ensures in
    let second = overlap_stored c.overlap-then-overlap.result a.y0 a.y1 b.y0 b.y1 (search rules) (search rules) (search rules) (search rules) c.overlap-then-overlap.ensures in
    second ∙ ap (λ t. t && do_overlap a.y0 a.y1 b.y0 b.y1) (sym c.if-overlap.true ∙ first)
