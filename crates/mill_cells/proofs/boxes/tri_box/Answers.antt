use Rattle.std.proofs.Common.{rules}
use Rattle.mill_cells.proofs.BoxLemmas.{least3, most3, same_box}
use Rattle.mill_cells.proofs.boxes.tri_box.Goals as goal

pub returns : goal.returns
returns c =
    let t = c.args.tri.now in
    same_box _ _ _ _ _ _ _ _
    (least3 c.min-2.result c.min.result t.a.x t.b.x t.c.x (search rules) (search rules) (search rules) (search rules) (search rules) c.min-2.ensures.value c.min.ensures.value)
    (least3 c.min-4.result c.min-3.result t.a.y t.b.y t.c.y (search rules) (search rules) (search rules) (search rules) (search rules) c.min-4.ensures.value c.min-3.ensures.value)
    (most3 c.max-2.result c.max.result t.a.x t.b.x t.c.x (search rules) (search rules) (search rules) (search rules) (search rules) c.max-2.ensures.value c.max.ensures.value)
    (most3 c.max-4.result c.max-3.result t.a.y t.b.y t.c.y (search rules) (search rules) (search rules) (search rules) (search rules) c.max-4.ensures.value c.max-3.ensures.value)
