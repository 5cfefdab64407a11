use Rattle.std.proofs.Common.{rules, w32}
use Rattle.std.proofs.lemmas.Int.{to_z-of_z}
use Rattle.mill_tables.proofs.Tops.{under_top}
use Rattle.mill_tables.proofs.parts.is_under.Goals as goal

pub returns : goal.returns
returns c =
    let most = to_z-of_z w32 c.args.most c.ranges.most in
    let top = to_z-of_z w32 c.unwrap_or.result (search rules) in
    let value = rw most at c.unwrap_or.ensures in
    rw (most, top) (under_top _ c.top.result _ c.unwrap_or.result c.top.ensures.none.0
    c.top.ensures.greatest value)
