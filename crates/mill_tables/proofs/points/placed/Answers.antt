use Rattle.std.proofs.Common.{codes, refl}
use Rattle.mill_tables.proofs.Cuts.{cut_of}
use Rattle.mill_tables.proofs.points.placed.Goals as goal

pub returns : goal.returns
returns c =
    let cut = cut_of (codes "at ") c.args.text.now c.split_once.result c.args.text _
    c.unwrap_or.result c.split_once.ensures.cases c.unwrap_or.ensures refl in
    (c.unwrap_or.result.0.now, cut, c.trim_end.ensures.trim)
