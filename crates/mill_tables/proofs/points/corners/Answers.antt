use Rattle.std.proofs.Common.{codes, refl}
use Rattle.mill_tables.proofs.Cuts.{cut_of}
use Rattle.mill_tables.proofs.points.corners.Goals as goal

pub returns : goal.returns
returns c =
    let first = cut_of (codes ", ") c.args.text.now c.split_once.result c.args.text c.args.text
    c.unwrap_or.result c.split_once.ensures.cases c.unwrap_or.ensures refl in
    let others = c.unwrap_or.result.1 in
    let second = cut_of (codes ", ") others.now c.split_once-2.result others others
    c.unwrap_or-2.result c.split_once-2.ensures.cases c.unwrap_or-2.ensures refl in
    (others.now, first, second)
