use Rattle.std.proofs.Common.{rules}
use Rattle.mill_cells.proofs.BoxLemmas.{least, most, same_box}
use Rattle.mill_cells.proofs.boxes.hull.Goals as goal

pub returns : goal.returns
returns c =
    let a = c.args.a in
    let b = c.args.b in
    same_box _ _ _ _ _ _ _ _
    (least c.min.result a.x0 b.x0 (search rules) (search rules) (search rules) c.min.ensures.value)
    (least c.min-2.result a.y0 b.y0 (search rules) (search rules) (search rules) c.min-2.ensures.value)
    (most c.max.result a.x1 b.x1 (search rules) (search rules) (search rules) c.max.ensures.value)
    (most c.max-2.result a.y1 b.y1 (search rules) (search rules) (search rules) c.max-2.ensures.value)
